use Rattle.nd_chronicle.proofs.Answering.{none_refused, refusal_added}
use Rattle.nd_chronicle.proofs.laws.answers_say_what_was_added.Goals as goal

pub returns-clause-refused : goal.returns-clause-refused
returns-clause-refused c = λ start now event c' d refusal adds is. refusal_added start now event c' d adds refusal is

pub returns-clause-taken : goal.returns-clause-taken
returns-clause-taken c = λ start now event c' d adds is. none_refused start now event c' d adds is
