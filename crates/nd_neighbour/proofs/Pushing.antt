-- Who is evicted, if anyone is.
use Rattle.std.proofs.Common.{◌≡◌, ℕ, Bool, true, false, List, Option, Some, None}
use Rattle.std.specs.Prelude.{◌&&◌, not, MatchBool}
use Rattle.nd_neighbour.specs.History.{Row, story}
use Rattle.nd_neighbour.specs.Story.{is_present}
use Rattle.nd_neighbour.specs.Place.{MakesPlace, HadPlace, Pushed, Prepares, pushing}

pushed_by : (limit now : ℕ) (enters : Bool) (history made : List Row) → MatchBool enters (MakesPlace limit now history made) (made ≡ history) → (pushed : Option ℕ) × (made ≡ pushing now pushed history)
pushed_by limit now true history made (HadPlace entries those few is) = (None, is)
pushed_by limit now true history made (Pushed entries key those many longest is) = (Some key, is)
pushed_by limit now false history made is = (None, is)

pub pushed_out : (limit now key : ℕ) (enters : Bool) (history made : List Row) → Prepares limit now enters key history made → (pushed : Option ℕ) × (made ≡ pushing now pushed history)
pushed_out limit now key enters history made = pushed_by limit now (enters && not (is_present (story key history))) history made
