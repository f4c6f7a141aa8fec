use Rattle.std.proofs.Common.{codes, sym, subst}
use Rattle.clap.specs.Words.{found_of}
use Rattle.nd_addr.specs.Spelling.{SpellsMac}
use Rattle.ndpctl_args.proofs.Values.{if_none, none_given, other_given, is_given}
use Rattle.ndpctl_args.proofs.options.given_mac.Goals as goal

pub returns-in_err-word-clause-none : goal.returns-in_err-word-clause-none
returns-in_err-word-clause-none c = if_none c.from_residual.result (λ bytes. none_given (found_of c.args.given.now) (codes "mac") (λ text. SpellsMac text bytes) c.in_err-word.ensures)

pub returns-in-Ok-clause-found : goal.returns-in-Ok-clause-found
returns-in-Ok-clause-found c = is_given (found_of c.args.given.now) (codes "mac") c.in_ok-word.word.now (λ text. SpellsMac text c.in-Ok.mac.0) c.in_ok-word.ensures
    (subst (λ text. SpellsMac text c.in-Ok.mac.0) c.as_bytes.ensures.value c.in-Ok.ensures.found)

pub returns-in-Err-clause-none : goal.returns-in-Err-clause-none
returns-in-Err-clause-none c = λ bytes. other_given (found_of c.args.given.now) (codes "mac") c.in_ok-word.word.now (λ text. SpellsMac text bytes) c.in_ok-word.ensures
    (λ spelled. c.in-Err.ensures.only bytes (subst (λ text. SpellsMac text bytes) (sym c.as_bytes.ensures.value) spelled))
