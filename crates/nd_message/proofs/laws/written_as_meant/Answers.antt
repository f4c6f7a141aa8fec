use Rattle.nd_message.proofs.Written.{message_good, message_spelled, message_short, message_length}
use Rattle.nd_message.proofs.laws.written_as_meant.Goals as goal

pub returns-clause-good : goal.returns-clause-good
returns-clause-good c = message_good

pub returns-clause-spelled : goal.returns-clause-spelled
returns-clause-spelled c = message_spelled

pub returns-clause-short : goal.returns-clause-short
returns-clause-short c = message_short

pub returns-clause-len : goal.returns-clause-len
returns-clause-len c = message_length
