use Rattle.std.proofs.Common.{◌∙◌, ap, Some}
use Rattle.clap.specs.Words.{found_of}
use Rattle.ndpctl_run.specs.Number.{IsCountWord}
use Rattle.ndpctl_args.proofs.Values.{if_none, none_given, none_read, read_given}
use Rattle.ndpctl_args.proofs.options.given_count.Goals as goal

pub returns-in_err-word-clause-none : goal.returns-in_err-word-clause-none
returns-in_err-word-clause-none c = if_none c.from_residual.result (λ x. none_given (found_of c.args.given.now) c.args.name.now (λ text. (IsCountWord c.args.most) text x) c.in_err-word.ensures)

pub returns-clause-found : goal.returns-clause-found
returns-clause-found c =
    read_given (found_of c.args.given.now) c.args.name.now c.as_bytes.result.now (IsCountWord c.args.most) (ap Some c.as_bytes.ensures.value ∙ c.in_ok-word.ensures) c.read_count.result c.read_count.ensures.found

pub returns-clause-none : goal.returns-clause-none
returns-clause-none c =
    none_read (found_of c.args.given.now) c.args.name.now c.as_bytes.result.now (IsCountWord c.args.most) (ap Some c.as_bytes.ensures.value ∙ c.in_ok-word.ensures) c.read_count.result c.read_count.ensures.only
