-- The sources of random words that a command line names.
use Rattle.std.specs.Prelude.{◌≡◌, ℕ, ◌<◌, ◌^◌, List, ◌++◌, codes}
use Rattle.std.specs.Fmt.{decimal}
use Rattle.nd_random.specs.Source.{seeded}
use Rattle.nd_random.specs.declared.source.Source.{Source}
use Rattle.nd_random.specs.declared.source.Source.TheVariants.{Seeded, Constant}

-- the text names the source: `seed:` and a number below 2^64, or `word:` and the word, a number below 2^32, in decimal digits with no
-- leading zero
abbrev pub IsSource : List ℕ → Source → Type 0
IsSource text (Seeded generator) = (number : ℕ) × (number < 2 ^ 64) × (text ≡ codes "seed:" ++ decimal number) × (generator ≡ seeded number)
IsSource text (Constant word) = (word < 2 ^ 32) × (text ≡ codes "word:" ++ decimal word)
