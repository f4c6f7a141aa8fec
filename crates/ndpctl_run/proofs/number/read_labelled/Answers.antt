use Rattle.std.proofs.Common.{Some, None}
use Rattle.std.proofs.lemmas.Bool.Decides.{Decides-eqb}
use Rattle.std.proofs.lemmas.Slice.Eq.{strip_prefix_is}
use Rattle.ndpctl_run.proofs.Labels.{labelled}
use Rattle.ndpctl_run.proofs.number.read_labelled.Goals as goal

pub returns-in_err-strip_prefix-clause-only : goal.returns-in_err-strip_prefix-clause-only
returns-in_err-strip_prefix-clause-only c = λ n small e.
    absurd (strip_prefix_is Decides-eqb c.args.text.now c.args.label.now None c.in_err-strip_prefix.ensures.cases _ e)

pub returns-clause-found : goal.returns-clause-found
returns-clause-found c =
    labelled c.read_number.result _ _ _ (strip_prefix_is Decides-eqb c.args.text.now c.args.label.now (Some c.in_ok-strip_prefix.field-0) c.in_ok-strip_prefix.ensures.cases) c.read_number.ensures.found
