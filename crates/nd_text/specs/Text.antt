-- The text of an address by its groups (RFC 5952).
use Rattle.std.specs.Prelude.{◌≡◌, ℕ, ◌+◌, ◌<◌, ◌≤◌, List, [], ◌∷◌, ◌++◌, length, take, drop, slice_index, nat_lt, nat_le, ◌==◌, suc, codes, if◌then◌else◌, false}
use Rattle.std.specs.Fmt.{digits}

-- so many groups from this one on are zero
pub record IsRun (groups : List ℕ) (start len : ℕ) : Type 0 where
  pub within : start + len ≤ length groups
  pub zero : (k : ℕ) → start ≤ k → k < start + len → slice_index groups k ≡ 0

-- no run is longer, and none as long begins earlier (RFC 5952, section 4.2.3)
pub record IsLongest (groups : List ℕ) (start len : ℕ) : Type 0 where
  pub run : IsRun groups start len
  pub longest : (s l : ℕ) → IsRun groups s l → l ≤ len
  pub first : (s l : ℕ) → IsRun groups s l → 0 < l → l ≡ len → start ≤ s

-- groups in lower case and with no leading zeros, parted by colons (RFC 5952, sections 4.1 and 4.3)
abbrev pub joined : List ℕ → List ℕ
joined [] = []
joined (g ∷ []) = digits 16 false g
joined (g ∷ h ∷ groups) = digits 16 false g ++ (58 ∷ joined (h ∷ groups))

-- a run of at least two is shown by two colons (RFC 5952, sections 4.2.1 and 4.2.2)
abbrev pub shown : List ℕ → ℕ → ℕ → List ℕ
shown groups start len =
    if nat_lt len 2 then joined groups else joined (take start groups) ++ codes "::" ++ joined (drop (start + len) groups)

-- the text of RFC 5952: the first of the longest runs of zeros is shortened
pub record IsText (groups text : List ℕ) : Type 0 where
  pub start : ℕ
  pub len : ℕ
  pub longest : IsLongest groups start len
  pub text_is : text ≡ shown groups start len

-- ---- the same as a function of the groups

-- a place and a length
pub record Run : Type 0 where
  pub start : ℕ
  pub len : ℕ

-- how many groups are zero in front
abbrev pub zeros_in_front : List ℕ → ℕ
zeros_in_front [] = 0
zeros_in_front (g ∷ groups) = if g == 0 then suc (zeros_in_front groups) else 0

-- the one in front, unless a later one is longer
abbrev pub longer : ℕ → Run → Run
longer front later = if nat_le later.len front then record { start = 0; len = front } else record { start = suc later.start; len = later.len }

-- the first of the longest runs of zeros
abbrev pub longest_run : List ℕ → Run
longest_run [] = record { start = 0; len = 0 }
longest_run (g ∷ groups) = longer (zeros_in_front (g ∷ groups)) (longest_run groups)

-- the text of eight groups
unfoldable pub groups_text : List ℕ → List ℕ
groups_text groups = shown groups (longest_run groups).start (longest_run groups).len
