-- The bytes that were read ahead.
use Rattle.std.specs.Prelude.{◌≡◌, ◌<◌, ◌≤◌, ℕ, ◌-◌, ◌+◌, ◌*◌, List, [], ◌∷◌, ◌++◌, take, drop, length}
use Rattle.nd_lines.specs.declared.ahead.FirstLine.{FirstLine}
use Rattle.nd_lines.specs.declared.ahead.FirstLine.TheVariants.{Whole, TooLong, Unfinished}
use Rattle.nd_lines.specs.Lines.{lines_of, HasLongLine, longest_line}

-- how many bytes of the input are buffered at most (our choice)
abbrev pub buffer_room : ℕ
buffer_room = 65536

-- the bytes that were read and not taken
abbrev pub in_hand : List ℕ → ℕ → ℕ → List ℕ
in_hand buffer start end = take (end - start) (drop start buffer)

-- an upper bound on the bytes and the reads that may still come
abbrev pub left : ℕ → ℕ → ℕ → ℕ
left reads start end = reads * 65537 + (end - start)

-- a line feed follows the first n bytes, and they are one line
pub record IsWholeLine (bytes : List ℕ) (n : ℕ) : Type 0 where
  pub cut : bytes ≡ take n bytes ++ (10 ∷ drop (n + 1) bytes)
  pub one : (rest : List ℕ) → lines_of (take n bytes ++ (10 ∷ rest)) ≡ take n bytes ∷ lines_of rest

-- what stands first among the bytes, with anything after them
abbrev pub Finds : List ℕ → FirstLine → Type 0
Finds bytes (Whole n) = (n < length bytes) × (n ≤ longest_line) × IsWholeLine bytes n
Finds bytes TooLong = (rest : List ℕ) → HasLongLine (bytes ++ rest)
Finds bytes Unfinished = (length bytes ≤ longest_line) × (0 < length bytes → lines_of bytes ≡ bytes ∷ [])
