use Rattle.std.proofs.Common.{◌≡◌}
use Rattle.nd_node.specs.Event.{request_of}
use Rattle.ndpctl_run.specs.Line.{IsLine}
use Rattle.ndpctl_run.proofs.Readings.{none_read}
use Rattle.ndpctl_run.proofs.script.Script.read.Goals as goal

pub returns-clause-malformed : goal.returns-clause-malformed
returns-clause-malformed g c =
    none_read c.read_line.result (IsLine c.args.line.now) (λ at event read. (read.at ≡ at) × (request_of read.event ≡ event)) c.read_line.ensures.only
