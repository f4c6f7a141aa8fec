-- What holds of a result where it is Ok.
use Rattle.std.proofs.Common.{Ok, Err, Result}
use Rattle.std.specs.Prelude.{IfOk}

module _ {X E : Type 0} where
  pub if_ok_three : (r : Result X E) (P Q S R : X → Type 0) → ((x : X) → P x → Q x → S x → R x) → IfOk r P → IfOk r Q → IfOk r S → IfOk r R
  if_ok_three (Ok x) P Q S R f h k l = f x h k l
  if_ok_three (Err e) P Q S R f h k l = tt
