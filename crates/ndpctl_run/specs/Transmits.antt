-- The word that says how many solicitations a duplicate address detection sends (the texts are this project's own).
use Rattle.std.specs.Prelude.{◌≡◌, ℕ, List}
use Rattle.std.specs.Fmt.{decimal}
use Rattle.nd_slaac.specs.Transmits.{IsTransmits}

-- the word is such a number, in decimal digits with no leading zero
abbrev pub IsTransmitsWord : List ℕ → ℕ → Type 0
IsTransmitsWord word number = IsTransmits number × (word ≡ decimal number)
