-- The words that stand for numbers (the texts are this project's own).
use Rattle.std.specs.Prelude.{◌≡◌, ◌⊎◌, ℕ, ◌<◌, ◌≤◌, List, codes}
use Rattle.std.specs.Fmt.{decimal}

-- the word is a number below a limit in decimal digits, with no leading zero
abbrev pub IsNumberWord : ℕ → List ℕ → ℕ → Type 0
IsNumberWord limit word number = (number < limit) × (word ≡ decimal number)

-- the word is a number from 1 to `most` in decimal digits, with no leading zero
abbrev pub IsCountWord : ℕ → List ℕ → ℕ → Type 0
IsCountWord most word number = (1 ≤ number) × (number ≤ most) × (word ≡ decimal number)

-- the word is a number below the limit in the same way, or `-`, which stands for the default
abbrev pub IsNumberOr : ℕ → ℕ → List ℕ → ℕ → Type 0
IsNumberOr default limit word number = ((word ≡ codes "-") × (number ≡ default)) ⊎ IsNumberWord limit word number
