use Rattle.std.proofs.Common.{refl, sym}
use Rattle.rand_core.proofs.StepsLemmas.{meets_next_u32}
use Rattle.rand_core.specs.Steps.{steps_u32}
use Rattle.nd_random.specs.Source.{next_word}
use Rattle.nd_random.specs.declared.source.Source.TheVariants.{Seeded, Constant}
use Rattle.nd_random.proofs.laws.next_words.Goals as goal

pub returns-clause-seeded : goal.returns-clause-seeded
returns-clause-seeded c = λ generator. sym (meets_next_u32 (steps_u32 next_word) (Seeded generator) _ _ refl)

pub returns-clause-constant : goal.returns-clause-constant
returns-clause-constant c = λ word. sym (meets_next_u32 (steps_u32 next_word) (Constant word) _ _ refl)
