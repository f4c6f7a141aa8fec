-- What a turn does to the list.
use Rattle.std.proofs.Common.{◌≡◌, ℕ, ◌<◌, true, List, length, get_or, set, Option, Some, None, sym, ◌∙◌, ap, refl}
use Rattle.std.specs.Prelude.{slice_get}
use Rattle.std.specs.List.{remove}
use Rattle.std.proofs.lemmas.Option.{slice_get-get_or}
use Rattle.nd_slaac.specs.declared.stage.Stage.{Stage}
use Rattle.nd_slaac.specs.declared.stage.Stage.TheVariants.{Detecting, Failed, Passed}
use Rattle.nd_slaac.specs.AddressKept.{Address}
use Rattle.nd_slaac.specs.Due.{Falls, Ends}
use Rattle.nd_slaac.specs.Dates.{end_date, next_step, stage_date, first_at, falls_by, stepped, Turns, Goes, Steps}
use Rattle.nd_slaac.specs.Calls.{is_detecting}
use Rattle.nd_table.proofs.Due.{due_now}

first_is : (date : Address → Option ℕ) (now : ℕ) (xs : List Address) (i : ℕ) (a : Address) → i < length xs → first_at date now xs ≡ slice_get xs i → a ≡ get_or xs i a → first_at date now xs ≡ Some a
first_is date now xs i a lt first is = first ∙ (slice_get-get_or xs i a lt ∙ ap Some (sym is))

-- the address that was found goes
pub went : (transmits now : ℕ) (xs new : List Address) (i : ℕ) (a : Address) (what : Falls) → i < length xs → first_at end_date now xs ≡ slice_get xs i → a ≡ get_or xs i a → what ≡ Ends a.key → new ≡ remove xs i → Turns transmits now xs new what
went transmits now xs new i a what lt first is what_is gone = Goes i a lt is (first_is end_date now xs i a lt first is) what_is gone

detects : (st : Stage) (now : ℕ) → stage_date st ≡ Some now → is_detecting st ≡ true
detects (Detecting sent retrans due) now h = refl
detects Failed now h = absurd (cc)
detects Passed now h = absurd (cc)

-- its detection goes on
pub goes_on : (now : ℕ) (xs : List Address) (i : ℕ) (a : Address) → i < length xs → first_at next_step now xs ≡ slice_get xs i → a ≡ get_or xs i a → is_detecting a.stage ≡ true
goes_on now xs i a lt first is = detects a.stage now (due_now next_step now xs a (first_is next_step now xs i a lt first is))

-- and it takes a step
pub stepped_on : (transmits now : ℕ) (xs new : List Address) (i : ℕ) (a m : Address) (what : Falls) → i < length xs → first_at end_date now xs ≡ None → first_at next_step now xs ≡ slice_get xs i → a ≡ get_or xs i a → m ≡ stepped transmits now a → what ≡ falls_by transmits a.key a.stage → new ≡ set xs i m → Turns transmits now xs new what
stepped_on transmits now xs new i a m what lt none first is m_is what_is new_is =
    Steps i a lt is none (first_is next_step now xs i a lt first is) what_is (new_is ∙ ap (set xs i) m_is)
