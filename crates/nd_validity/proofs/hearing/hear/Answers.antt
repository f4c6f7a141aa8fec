use Rattle.std.proofs.Common.{subst, sym, ◌∙◌, ap}
use Rattle.nd_validity.specs.Hearing.{Outcome, Hears, taken_by, hearing_of}
use Rattle.nd_validity.proofs.Deciding.{hears, hears_one}
use Rattle.nd_validity.proofs.hearing.hear.Goals as goal

pub returns-clause-heard : goal.returns-clause-heard
returns-clause-heard c =
    let e = c.taken_by.ensures ∙ ap (taken_by c.args.role) c.hear_exactly.ensures in
    subst (λ (o : Outcome). Hears c.args.frame.now c.args.role o) (sym e) (hears c.args.frame.now c.args.role)

pub returns-clause-only : goal.returns-clause-only
returns-clause-only c =
    let e = c.taken_by.ensures ∙ ap (taken_by c.args.role) c.hear_exactly.ensures in
    λ o h. e ∙ hears_one c.args.frame.now c.args.role (hearing_of c.args.frame.now c.args.role) o (hears c.args.frame.now c.args.role) h
