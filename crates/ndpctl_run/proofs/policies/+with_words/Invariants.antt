use Rattle.std.proofs.Common.{length}
use Rattle.ndpctl_run.proofs.policies.+with_words.Given as goal

abbrev pub decreases-with_words : goal.decreases-with_words
decreases-with_words l = length l.text.now
