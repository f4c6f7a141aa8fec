-- A session that is known to be there.
use mathlib.Core.Path.{◌≡◌, refl, subst}
use Rattle.std.specs.Prelude.{Bool, true, false, Option, Some, None, IsSome}

abbrev IsFalsum : Bool → Type 0
IsFalsum true = ⊥
IsFalsum false = Unit {0}

pub the_session : {X : Type 0} (o : Option X) → IsSome o → (x : X) × (o ≡ Some x)
the_session (Some x) there = (x, refl)
the_session None there = absurd (subst IsFalsum there tt)
