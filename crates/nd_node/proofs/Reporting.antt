-- What two facts of a call's success give together.
use Rattle.std.proofs.Common.{◌≡◌, Ok, Err, sym, subst}
use Rattle.std.specs.Prelude.{Result, OnOk, IfOk}

-- that the clock was advanced, and that the list has one more row
pub on_ok_both : {T E P Q S : Type 0} (r : Result T E) → OnOk r P → OnOk r Q → (P → Q → S) → OnOk r S
on_ok_both (Ok v) p q f = f p q
on_ok_both (Err e) p q f = tt

-- what happened, and how the event is answered
pub answered : {T E P : Type 0} (r : Result T E) (answer : T) (S : T → Type 0) → (P → S answer) → OnOk r P → IfOk r (λ a. a ≡ answer) → IfOk r S
answered (Ok a) answer S f p is = subst S (sym is) (f p)
answered (Err e) answer S f p is = tt
