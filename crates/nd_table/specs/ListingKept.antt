-- Only what is kept, in the code's terms: what a list of keys with their ends is to their announcements, and what a message makes of it.
use Rattle.std.specs.Prelude.{◌+◌, ◌-◌, ◌≡◌, ℕ, ◌≤◌, Bool, not, ◌&&◌, ◌==◌, if◌then◌else◌, List, [], ◌∷◌, None, is_some}
use Rattle.nd_table.specs.declared.lasting.Lasting.{Lasting}
use Rattle.nd_table.specs.Announcements.{Row, last_moment, end_of, place}
use Rattle.nd_table.specs.Listing.{open_at, end_in, Rises, Lists, announced}

-- how many keys stand where one of them stood before or not, and stands then or not
abbrev pub count_after : ℕ → Bool → Bool → ℕ
count_after n before after = if before then (if after then n else n - 1) else (if after then n + 1 else n)

module _ {K : Type 0} (same : K → K → Bool) where
  -- no key comes twice
  abbrev pub Distinct : List (Lasting K) → Type 0
  Distinct [] = Unit {0}
  Distinct (e ∷ es) = (end_in same e.key es ≡ None) × Distinct es

  -- A list whose keys are ended by rows of their own: the entries are the keys with their ends, in the order of their places, whether
  -- the end has come or not.
  pub record StandsUntilTold (entries : List (Lasting K)) (history : List (Row K)) : Type 0 where
    pub ends : (key : K) → end_in same key entries ≡ end_of same key history
    pub order : Rises same (λ key. place same key history) entries

  -- A list whose keys end silently: from the last row on the entries that haven't ended are those that stand.
  pub record Stands (entries : List (Lasting K)) (history : List (Row K)) : Type 0 where
    pub lists : (moment : ℕ) → last_moment history ≤ moment → Lists same history moment (open_at moment entries)

  -- what a message makes of them, whose announcements are taken in order
  abbrev pub announced_all : ℕ → List (K × ℕ) → List (Lasting K) → List (Lasting K)
  announced_all now [] es = es
  announced_all now ((key, lifetime) ∷ more) es = announced_all now more (announced same now key lifetime es)

  -- an announcement enters its key, which doesn't stand
  abbrev pub enters : ℕ → K → ℕ → List (Lasting K) → Bool
  enters now key lifetime es = not (lifetime == 0) && not (is_some (end_in same key (open_at now es)))

  -- the keys that a message's announcements enter, each as often as it enters
  abbrev pub entered : ℕ → List (K × ℕ) → List (Lasting K) → List K
  entered now [] es = []
  entered now ((key, lifetime) ∷ more) es =
      if enters now key lifetime es then key ∷ entered now more (announced same now key lifetime es) else entered now more (announced same now key lifetime es)
