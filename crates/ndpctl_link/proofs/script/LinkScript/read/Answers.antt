use Rattle.std.proofs.Common.{◌≡◌}
use Rattle.nd_random.specs.Source.{stream_of_source}
use Rattle.ndpctl_run.proofs.Readings.{none_read}
use Rattle.nd_link.specs.Event.{link_event}
use Rattle.ndpctl_link.specs.Line.{IsLinkLine}
use Rattle.ndpctl_link.proofs.script.LinkScript.read.Goals as goal

pub returns-clause-malformed : goal.returns-clause-malformed
returns-clause-malformed g c =
    none_read c.read_line.result (IsLinkLine c.args.line.now) (λ at event read. (read.at ≡ at) × (link_event stream_of_source read.event ≡ event)) c.read_line.ensures.only
