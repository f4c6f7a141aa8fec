use Rattle.std.proofs.Common.{◌≡◌, ◌-◌, ◌↔◌, ℕ, IsTrue, List, length, take, drop, refl, subst, arith}
use Rattle.std.proofs.lemmas.List.{length-drop, take_all}
use Rattle.std.specs.List.{AllPass}
use Rattle.nd_c_types.specs.Options.{is_zero}
use Rattle.nd_c_types.proofs.options.is_known.Goals as goal

pub returns-then-options-le-SIZE : goal.returns-then-options-le-SIZE
returns-then-options-le-SIZE c =
    (λ _ k d lt. let never : ⊥ = omega (arith, lt, length-drop 72 c.args.options.now, c.if-options-le-SIZE.true) in absurd never, λ _. refl)

pub returns : goal.returns
returns c =
    let all = c.args.options.now in
    let whole : take (length all - 72) (drop 72 all) ≡ drop 72 all = take_all (length all - 72) (drop 72 all) (omega (arith, length-drop 72 all)) in
    subst (λ (l : List ℕ). IsTrue c.are_zeros.result ↔ AllPass is_zero l) whole c.are_zeros.ensures
