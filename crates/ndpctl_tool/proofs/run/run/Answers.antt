use Rattle.std.proofs.lemmas.Result.{on_err_weaker}
use Rattle.nd_lines.proofs.EachLemmas.{TellsFront-each}
use Rattle.nd_lines.specs.Each.{text_of_each, malformed_of_each}
use Rattle.nd_lines.specs.ToldLaws.{wrote_beginning}
use Rattle.ndpctl_check.specs.Check.{answer_to}
use Rattle.ndpctl_tool.proofs.run.run.Goals as goal

pub returns-in-Check-clause-front : goal.returns-in-Check-clause-front
returns-in-Check-clause-front g c = rw c.in-Check.is (λ claimed. on_err_weaker c.run_check.result (TellsFront-each answer_to _ _ _) c.run_check.ensures.front)

pub returns-in-Check-clause-beginning : goal.returns-in-Check-clause-beginning
returns-in-Check-clause-beginning g c = rw c.in-Check.is (λ claimed. on_err_weaker c.run_check.result (wrote_beginning (text_of_each answer_to) (malformed_of_each answer_to) _ _ _) c.run_check.ensures.front)
