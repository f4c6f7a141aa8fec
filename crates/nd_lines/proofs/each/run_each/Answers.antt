use Rattle.std.proofs.lemmas.Result.{on_err_weaker}
use Rattle.nd_lines.specs.ToldLaws.{in_part_wholly, tells_front_by, tells_to_memory}
use Rattle.nd_lines.proofs.EachLemmas.{WroteFront-each}
use Rattle.nd_lines.proofs.each.run_each.Goals as goal

pub returns-clause-front : goal.returns-clause-front
returns-clause-front g c =
    on_err_weaker c.run_lines.result (λ front. WroteFront-each g.T.AnsweringEach.answer_to _ _ _ (tells_front_by _ _ (in_part_wholly _ _ (λ end n lines told found given. given)) _ _ _ front)) c.run_lines.ensures.front

pub returns-clause-memory : goal.returns-clause-memory
returns-clause-memory g c = λ is. tells_to_memory _ _ _ _ _ _ _ (in_part_wholly _ _ (λ end n lines told found given. given)) _ _ _ _ (c.run_lines.ensures.memory is)
