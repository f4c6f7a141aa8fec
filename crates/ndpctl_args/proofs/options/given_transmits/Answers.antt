use Rattle.std.proofs.Common.{◌∙◌, ap, codes, Some}
use Rattle.clap.specs.Words.{found_of}
use Rattle.ndpctl_run.specs.Transmits.{IsTransmitsWord}
use Rattle.ndpctl_args.proofs.Values.{if_none, none_given, none_read, read_given}
use Rattle.ndpctl_args.proofs.options.given_transmits.Goals as goal

pub returns-in_err-word-clause-none : goal.returns-in_err-word-clause-none
returns-in_err-word-clause-none c = if_none c.from_residual.result (λ x. none_given (found_of c.args.given.now) (codes "transmits") (λ text. IsTransmitsWord text x) c.in_err-word.ensures)

pub returns-clause-found : goal.returns-clause-found
returns-clause-found c =
    read_given (found_of c.args.given.now) (codes "transmits") c.as_bytes.result.now IsTransmitsWord (ap Some c.as_bytes.ensures.value ∙ c.in_ok-word.ensures) c.read_transmits.result c.read_transmits.ensures.found

pub returns-clause-none : goal.returns-clause-none
returns-clause-none c =
    none_read (found_of c.args.given.now) (codes "transmits") c.as_bytes.result.now IsTransmitsWord (ap Some c.as_bytes.ensures.value ∙ c.in_ok-word.ensures) c.read_transmits.result c.read_transmits.ensures.only
