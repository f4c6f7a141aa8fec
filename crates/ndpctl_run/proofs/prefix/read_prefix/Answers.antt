use Rattle.ndpctl_run.proofs.Readings.{ok_found, ok_only}
use Rattle.ndpctl_run.proofs.prefix.read_prefix.Goals as goal

pub returns-clause-found : goal.returns-clause-found
returns-clause-found c = ok_found c.parse.result c.ok.result _ c.ok.ensures.value c.parse.ensures.found

pub returns-clause-only : goal.returns-clause-only
returns-clause-only c = λ prefix spelled. ok_only c.parse.result c.ok.result prefix c.ok.ensures.value (c.parse.ensures.only prefix spelled)
