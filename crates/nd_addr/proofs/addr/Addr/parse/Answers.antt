use Rattle.std.proofs.Common.{◌≡◌, ℕ, List, Some, None, sym, subst, ◌∙◌}
use Rattle.nd_text.specs.Spelling.{SpellsAddress}
use Rattle.nd_addr.proofs.addr.Addr.parse.Goals as goal

pub returns-in-Some-clause-found : goal.returns-in-Some-clause-found
returns-in-Some-clause-found c =
    subst (λ (groups : List ℕ). SpellsAddress c.args.text.now groups) (sym c.address_of.ensures) c.in-Some.ensures.found

pub returns-in-Some-clause-only : goal.returns-in-Some-clause-only
returns-in-Some-clause-only c = λ groups s.
    let some : Some c.in-Some.groups ≡ Some groups = c.in-Some.ensures.only groups s in
    let same : c.in-Some.groups ≡ groups = cc in
    c.address_of.ensures ∙ same

pub returns-in-None-clause-only : goal.returns-in-None-clause-only
returns-in-None-clause-only c = λ groups s. let none : None ≡ Some groups = c.in-None.ensures.only groups s in cc
