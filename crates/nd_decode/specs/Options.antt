-- Which bytes spell which options, one behind the other (RFC 4861, section 4.6).
use Rattle.std.specs.Prelude.{◌≡◌, ℕ, ◌*◌, ◌<◌, ◌≤◌, ◌⊎◌, List, [], ◌∷◌, ◌++◌, length, slice_index}
use Rattle.nd_decode.specs.Option.{Said, IsPiece, Says}

-- the bytes are pieces, one for each option, which says it
abbrev pub SpellsOptions : List ℕ → List Said → Type 0
SpellsOptions bytes [] = bytes ≡ []
SpellsOptions bytes (option ∷ options) = (piece : List ℕ) × (rest : List ℕ)
    × (bytes ≡ piece ++ rest) × IsPiece piece × Says piece option × SpellsOptions rest options

-- behind some whole pieces stand bytes of which this holds
abbrev pub BehindPieces : List ℕ → (List ℕ → Type 0) → Type 0
BehindPieces bytes P = (options : List Said) × (front : List ℕ) × (tail : List ℕ)
    × (bytes ≡ front ++ tail) × SpellsOptions front options × P tail

-- an option of length 0
abbrev pub IsZeroOption : List ℕ → Type 0
IsZeroOption tail = (2 ≤ length tail) × (slice_index tail 1 ≡ 0)

-- an option that is not all there
abbrev pub IsOverOption : List ℕ → Type 0
IsOverOption tail = (1 ≤ length tail) × ((length tail < 2) ⊎ ((1 ≤ slice_index tail 1) × (length tail < 8 * slice_index tail 1)))
