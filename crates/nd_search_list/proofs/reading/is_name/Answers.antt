use Rattle.std.proofs.Common.{◌∙◌, sym}
use Rattle.std.proofs.lemmas.Bool.{and_from, both_ways}
use Rattle.nd_search_list.proofs.Lowering.{name_says, tests_of_name}
use Rattle.nd_search_list.proofs.reading.is_name.Goals as goal

pub returns-then-is_spelled : goal.returns-then-is_spelled
returns-then-is_spelled c = (
  λ t. name_says c.args.bytes.now (and_from _ _ (sym c.is_spelled.ensures ∙ c.if-is_spelled.true) (sym c.are_small.ensures ∙ t)),
  λ h. c.are_small.ensures ∙ (tests_of_name c.args.bytes.now h).1,
)

pub returns-else-is_spelled : goal.returns-else-is_spelled
returns-else-is_spelled c = (
  λ t. absurd (both_ways c.is_spelled.result c.if-is_spelled.false t),
  λ h. c.is_spelled.ensures ∙ (tests_of_name c.args.bytes.now h).0,
)
