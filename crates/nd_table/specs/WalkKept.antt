-- Only what is kept, in the code's terms: how far a walk over the announcements of a message has come.
use Rattle.std.specs.Prelude.{◌≡◌, ℕ, ◌≤◌, ◌<◌, ◌*◌, ◌^◌, Bool, if◌then◌else◌, List, Option, Some, None, length, take, is_some, sum_by}
use Rattle.nd_table.specs.declared.lasting.Lasting.{Lasting}
use Rattle.nd_table.specs.declared.walk.Walk.{Walk}
use Rattle.nd_table.specs.Listing.{open_at, end_in}
use Rattle.nd_table.specs.ListingKept.{Distinct}

-- 1 where it is so
abbrev pub count_if : Bool → ℕ
count_if b = if b then 1 else 0

-- 1 where one of the two is so, and not the other
abbrev pub count_either : Bool → Bool → ℕ
count_either a b = if a then (if b then 0 else 1) else (if b then 1 else 0)

-- 1 for a place without a name
abbrev pub count_empty : {Q : Type 0} → Option Q → ℕ
count_empty None = 1
count_empty (Some q) = 0

module _ {K Q : Type 0} (same : K → K → Bool) (named : Q → K) where
  -- 1 for a name of the key
  abbrev pub count_name : K → Option Q → ℕ
  count_name key None = 0
  count_name key (Some q) = count_if (same (named q) key)

  -- how many of these names are the key's
  abbrev pub times : K → List (Option Q) → ℕ
  times key names = sum_by (count_name key) names

  -- The announcements so far lead from the keys of the table that stand to these entries. The names kept are those of the keys that are
  -- among the ones and not among the others, each once.
  pub record LeadsTo (w : Walk K) (kept : List (Option Q)) (entries : List (Lasting K)) : Type 0 where
    pub limited : w.limit < 2 ^ 32
    pub room : 2 * w.limit ≤ length kept
    pub few : length (open_at w.now w.entries.now) ≤ w.limit
    pub once : Distinct same (open_at w.now w.entries.now)
    pub unended : open_at w.now entries ≡ entries
    pub distinct : Distinct same entries
    pub standing : w.standing ≡ length entries
    pub within : w.standing ≤ w.limit
    pub kept_within : w.changed ≤ length kept
    pub named_each : sum_by count_empty (take w.changed kept) ≡ 0
    pub changed : (key : K) → times key (take w.changed kept) ≡ count_either (is_some (end_in same key (open_at w.now w.entries.now))) (is_some (end_in same key entries))
