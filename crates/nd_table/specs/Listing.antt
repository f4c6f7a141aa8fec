-- What a list of keys with their ends is to the announcements that it stands for.
use Rattle.std.specs.Prelude.{◌≡◌, length, ℕ, ◌<◌, Bool, true, not, ◌&&◌, nat_le, ◌==◌, if◌then◌else◌, List, [], ◌∷◌, ◌++◌, Option, Some, None, filter, map, is_some}
use Rattle.nd_table.specs.declared.lasting.Lasting.{Lasting}
use Rattle.nd_table.specs.Ends.{end_time, is_before}
use Rattle.nd_table.specs.Announcements.{Row, Announced, end_of, place, stands}

-- the keys that haven't ended by the moment
abbrev pub open_at : {K : Type 0} → ℕ → List (Lasting K) → List (Lasting K)
open_at now es = filter (λ e. is_before now e.end) es

-- the history of a message's announcements, in order
abbrev pub then_announced : {K : Type 0} → ℕ → List (K × ℕ) → List (Row K) → List (Row K)
then_announced now [] history = history
then_announced now ((key, lifetime) ∷ more) history = then_announced now more (Announced now key lifetime ∷ history)

module _ {K : Type 0} (same : K → K → Bool) where
  -- the end of the key's entry
  abbrev pub end_in : K → List (Lasting K) → Option (Option ℕ)
  end_in key [] = None
  end_in key (e ∷ es) = if same e.key key then Some e.end else end_in key es

  -- each entry has a greater number than this
  abbrev pub AllAfter : (K → ℕ) → ℕ → List (Lasting K) → Type 0
  AllAfter number n [] = Unit {0}
  AllAfter number n (e ∷ es) = (n < number e.key) × AllAfter number n es

  -- the numbers of the entries rise
  abbrev pub Rises : (K → ℕ) → List (Lasting K) → Type 0
  Rises number [] = Unit {0}
  Rises number (e ∷ es) = AllAfter number (number e.key) es × Rises number es

  -- The entries are the keys that stand at the moment, with their ends, in the order of their places.
  pub record Lists (history : List (Row K)) (moment : ℕ) (entries : List (Lasting K)) : Type 0 where
    pub ends : (key : K) → end_in key entries ≡ (if stands same key history moment then end_of same key history else None)
    pub order : Rises (λ key. place same key history) entries

  -- the entry with this end, where it is the key's
  abbrev pub renewed : K → Option ℕ → Lasting K → Lasting K
  renewed key end e = record { key = e.key; end = if same e.key key then end else e.end }

  -- the entries without the key's
  abbrev pub without : K → List (Lasting K) → List (Lasting K)
  without key es = filter (λ e. not (same e.key key)) es

  -- what an announcement makes of entries none of which has ended: a lifetime of 0 takes the key away, another one gives it its
  -- end where it is, or puts it last
  abbrev pub told : ℕ → K → ℕ → List (Lasting K) → List (Lasting K)
  told now key lifetime es =
      if lifetime == 0 then without key es else
      if is_some (end_in key es) then map (renewed key (end_time now lifetime)) es else
      es ++ record { key = key; end = end_time now lifetime } ∷ []

  -- the same where some may have ended, which leave first
  abbrev pub announced : ℕ → K → ℕ → List (Lasting K) → List (Lasting K)
  announced now key lifetime es = told now key lifetime (open_at now es)

  -- none of these steps leads to more entries than this
  abbrev pub fits : ℕ → ℕ → List (K × ℕ) → List (Lasting K) → Bool
  fits limit now [] es = true
  fits limit now ((key, lifetime) ∷ more) es =
      nat_le (length (announced now key lifetime es)) limit && fits limit now more (announced now key lifetime es)

  -- those of them for which there is room: one that would lead to more entries than this is passed over (RFC 8106, section 5.3.1, lets a host ignore it)
  abbrev pub with_room : ℕ → ℕ → List (K × ℕ) → List (Lasting K) → List (K × ℕ)
  with_room limit now [] es = []
  with_room limit now ((key, lifetime) ∷ more) es =
      if nat_le (length (announced now key lifetime es)) limit then (key, lifetime) ∷ with_room limit now more (announced now key lifetime es) else
      with_room limit now more es
