-- The answer to an event, in the words of a chronicle.
use Rattle.nd_out.specs.Out.{refusal_of}
use Rattle.nd_chronicle.specs.Answer as answers
use Rattle.nd_node.specs.declared.answer.Answer.{Answer}
use Rattle.nd_node.specs.declared.answer.Answer.TheVariants.{Done, NoRoute, Refused, Past}

abbrev pub answer_of : Answer → answers.Answer
answer_of Done = answers.Done
answer_of NoRoute = answers.NoRoute
answer_of (Refused refusal) = answers.Refused (refusal_of refusal)
answer_of (Past last) = answers.Past last
