-- The dates of entries, kept in their order next to them.
use Rattle.std.specs.Prelude.{◌≡◌, ℕ, ◌+◌, ◌*◌, ◌^◌, ◌<◌, Bool, ◌&&◌, ◌==◌, if◌then◌else◌, List, [], ◌∷◌, Option, Some, None, option_and_then}
use Rattle.std.specs.List.{list_any, insert}
use Rattle.nd_table.specs.Date.{Date}
use Rattle.nd_table.specs.Keyed.{at_key}
use Rattle.nd_table.specs.KeyedKept.{place_of}
use Rattle.nd_table.specs.DueKept.{is_at}

-- a date as a number: the earlier moment comes first, and at one moment the lower address
abbrev pub rank : Date → ℕ
rank d = d.moment * 2 ^ 128 + d.number

-- each is of the number of an address
abbrev pub AllAddresses : List Date → Type 0
AllAddresses [] = Unit {0}
AllAddresses (d ∷ ds) = (d.number < 2 ^ 128) × AllAddresses ds

-- it is the date of this moment and number
abbrev pub is_date : ℕ → ℕ → Date → Bool
is_date moment number d = (d.moment == moment) && (d.number == number)

-- it is among the dates
abbrev pub has : ℕ → ℕ → List Date → Bool
has moment number ds = list_any (is_date moment number) ds

-- the dates without it
abbrev pub without : ℕ → ℕ → List Date → List Date
without moment number [] = []
without moment number (d ∷ ds) = if is_date moment number d then ds else d ∷ without moment number ds

-- the dates with one more in its place
abbrev pub put_date : Date → List Date → List Date
put_date d ds = insert ds (place_of rank (rank d) ds) d

-- the date of one number is this one now, if there is one, and all others are as they were
pub record Redated (number : ℕ) (date : Option ℕ) (old new : List Date) : Type 0 where
  pub own : (moment : ℕ) → has moment number new ≡ is_at moment date
  pub others : (moment k : ℕ) → (number ≡ k → ⊥) → has moment k new ≡ has moment k old

-- the moment of the first
abbrev pub first_moment : List Date → Option ℕ
first_moment [] = None
first_moment (d ∷ ds) = Some d.moment

-- dates, and for how many there is room
pub record Planned : Type 0 where
  pub dates : List Date
  pub room : ℕ

module _ {N : Type 0} (key : N → ℕ) (date : N → Option ℕ) where
  -- the date of the entry of this number, if it is there and has one
  abbrev pub date_at : ℕ → List N → Option ℕ
  date_at k ns = option_and_then date (at_key key k ns)

  -- the dates are those of the entries
  pub record AreDates (ds : List Date) (ns : List N) : Type 0 where
    pub each : (moment k : ℕ) → has moment k ds ≡ is_at moment (date_at k ns)
