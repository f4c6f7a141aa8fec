-- Only what is kept, in the code's terms: the routers, and what they are to the history that they stand for.
use Rattle.std.specs.Prelude.{◌≡◌, ℕ, if◌then◌else◌, IsTrue, List, [], ◌∷◌, Option, Some, None, map}
use Rattle.nd_table.specs.HistoryKept as growing
use Rattle.nd_table.specs.DueKept.{is_at, least_date, NotBefore}
use Rattle.nd_table.specs.declared.lasting.Lasting.{Lasting}
use Rattle.nd_table.specs.Ends.{is_before}
use Rattle.nd_table.specs.ListingKept.{StandsUntilTold}
use Rattle.nd_routers.specs.declared.preferred.Preferred.{Preferred}
use Rattle.nd_routers.specs.History.{RouterRow, LeftList, announcements}
use Rattle.nd_routers.specs.Preferences.{preferences_of}
use Rattle.nd_routers.specs.RouterFailures.{Failures}
use Rattle.nd_routers.specs.Routers.{same}

-- How many routers the table has room for; the routers with their ends, in the order in which they came, and with their preferences, in the
-- same order; and those of them that failed, in the order of their last failures.
pub record Table : Type 0 where
  pub limit : ℕ
  pub entries : List (Lasting ℕ)
  pub preferences : List Preferred
  pub failed : List ℕ

-- the table is that of the history
pub record Stands (table : Table) (history : List RouterRow) : Type 0 where
  pub routers : StandsUntilTold same table.entries (announcements history)
  pub preferred : table.preferences ≡ preferences_of history table.entries
  pub failures : Failures history table.failed

-- the table gains a row
abbrev pub GainsRow : Table → Table → RouterRow → Type 0
GainsRow = growing.GainsRow Stands

-- the earliest end
abbrev pub next_end : List (Lasting ℕ) → Option ℕ
next_end es = least_date (λ e. e.end) es

-- the key, if it ends at this moment
abbrev pub key_at : ℕ → Lasting ℕ → Option ℕ
key_at now e = if is_at now e.end then Some e.key else None

-- the least key that ends at this moment
abbrev pub first_due : ℕ → List (Lasting ℕ) → Option ℕ
first_due now es = least_date (key_at now) es

-- no end has come by the moment
abbrev pub IsSettled : List (Lasting ℕ) → ℕ → Type 0
IsSettled es now = IsTrue (is_before now (next_end es))

-- no end came before the moment
abbrev pub NoneBefore : List (Lasting ℕ) → ℕ → Type 0
NoneBefore es now = NotBefore now (next_end es)

-- the routers leave in this order
abbrev pub then_left : ℕ → List ℕ → List RouterRow → List RouterRow
then_left at [] history = history
then_left at (key ∷ keys) history = then_left at keys (LeftList at key ∷ history)

-- the keys of the entries
abbrev pub keys : List (Lasting ℕ) → List ℕ
keys es = map (λ e. e.key) es
