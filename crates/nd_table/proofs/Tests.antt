-- What is said by the side that a test takes.
use Rattle.std.proofs.Common.{◌≡◌, Bool, true, false, sym, subst}
use Rattle.std.specs.Prelude.{MatchBool}

pub by_true : (b : Bool) (P Q : Type 0) → b ≡ true → P → MatchBool b P Q
by_true b P Q is p = subst (λ (x : Bool). MatchBool x P Q) (sym is) p

pub by_false : (b : Bool) (P Q : Type 0) → b ≡ false → Q → MatchBool b P Q
by_false b P Q is q = subst (λ (x : Bool). MatchBool x P Q) (sym is) q

-- what follows from either side
pub by_either : (b : Bool) {P Q X : Type 0} → (P → X) → (Q → X) → MatchBool b P Q → X
by_either true f g h = f h
by_either false f g h = g h
