-- The sources of random words.
use Rattle.std.specs.Prelude.{ℕ}
use Rattle.rand_core.specs.Pcg32Seed.{pcg32_seed}
use Rattle.rand_core.specs.Steps.{stream_of, steps_u32}
use Rattle.rand_core.specs.Stream.{Stream}
use Rattle.rand_pcg.specs.Lcg.{Lcg}
use Rattle.rand_pcg.specs.Pcg.{pcg32, pcg32_of_seed}
use Rattle.nd_random.specs.declared.source.Source.{Source}
use Rattle.nd_random.specs.declared.source.Source.TheVariants.{Seeded, Constant}

-- the generator that a number seeds
abbrev pub seeded : ℕ → Lcg
seeded number = pcg32_of_seed (pcg32_seed 16 number)

-- the next word of a source, and the source behind it
abbrev pub next_word : Source → ℕ × Source
next_word (Seeded generator) = ((pcg32 generator).0, Seeded (pcg32 generator).1)
next_word (Constant word) = (word, Constant word)

-- all that a source will answer
abbrev pub stream_of_source : Source → Stream
stream_of_source source = stream_of (steps_u32 next_word) source
