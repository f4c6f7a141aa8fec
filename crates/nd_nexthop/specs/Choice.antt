-- What a choice of next hops is to the history that it stands for.
use Rattle.std.specs.Prelude.{◌≡◌, ℕ, Bool, true, ◌==◌, if◌then◌else◌, List, [], ◌∷◌, ◌++◌, Option, Some, None}
use Rattle.nd_table.specs.HistoryKept as growing
use Rattle.nd_nexthop.specs.DefaultRouter.{DefaultRouter}
use Rattle.nd_nexthop.specs.History.{RedirectRow, remembered}
use Rattle.nd_nexthop.specs.Memo.{Memory, AreHops, is_asked}

-- how many destinations may have their redirects kept, how many may have their next hops remembered, and the destinations that were redirected last, each
-- with what is left of its redirect
pub record Redirects : Type 0 where
  pub limit : ℕ
  pub destinations : ℕ
  pub entries : List (ℕ × Option ℕ)

-- the redirects, and the next hops that are remembered
pub record Table : Type 0 where
  pub redirects : Redirects
  pub memory : Memory

-- The redirects are the destinations that were redirected last, the newest first, each with what is left of its redirect.
pub record Stands (choice : Table) (history : List RedirectRow) : Type 0 where
  pub entries_are : choice.redirects.entries ≡ remembered choice.redirects.limit history

-- the choice gains a row
abbrev pub GainsRow : Table → Table → RedirectRow → Type 0
GainsRow = growing.GainsRow Stands

-- what is left of the destination's redirect
abbrev pub target_in : ℕ → List (ℕ × Option ℕ) → Option ℕ
target_in key [] = None
target_in key (e ∷ es) = if key == e.0 then e.1 else target_in key es

-- what is left of a redirect to the target where this one is gone, or where all are cleared
abbrev pub left_of : Option ℕ → Option ℕ → Option ℕ
left_of lost None = None
left_of None (Some target) = None
left_of (Some lost) (Some target) = if lost == target then None else Some target

-- the same of an entry
abbrev pub ended : Option ℕ → ℕ × Option ℕ → ℕ × Option ℕ
ended lost e = (e.0, left_of lost e.1)

-- the same of the entry of a destination alone
abbrev pub ended_at : Option ℕ → ℕ → List (ℕ × Option ℕ) → List (ℕ × Option ℕ)
ended_at lost key [] = []
ended_at lost key (e ∷ es) = if key == e.0 then ended lost e ∷ es else e ∷ ended_at lost key es

-- the first entry goes behind the others, and ends where it has to
abbrev pub turned : Option ℕ → List (ℕ × Option ℕ) → List (ℕ × Option ℕ)
turned lost [] = []
turned lost (e ∷ es) = es ++ ended lost e ∷ []

-- Where the next hops that are remembered are asked for at the moment, each is the one that its destination has at a node that has these
-- own addresses, these addresses on its link and these default routers.
abbrev pub Agrees : ℕ → (List ℕ → Bool) → (List ℕ → Bool) → List DefaultRouter → Table → Type 0
Agrees now own on_link routers choice =
    is_asked now choice.memory.until ≡ true → AreHops own on_link routers (λ key. target_in key choice.redirects.entries) choice.memory.hops
