-- That a session can do the next thing that is due without memory, once its caller has taken all reports.
use Rattle.std.specs.Prelude.{◌⊎◌}
use Rattle.nd_chronicle.specs.Happening.{Chronicle}
use Rattle.nd_chronicle.specs.Start.{Start}
use Rattle.nd_steps.specs.Outputs.{HasFrame, happenings}
use Rattle.nd_node.specs.NodeKept.{Stands}
use Rattle.nd_node.specs.Time.{IsInHand}
use Rattle.nd_random.specs.Source.{stream_of_source}
use Rattle.nd_session.specs.declared.session.Session.{Session}

-- room for the longest frame is in reserve, or in the block of a frame that the caller has still to take
abbrev pub IsReady : Session → Type 0
IsReady s = IsInHand s.node s.room ⊎ HasFrame (happenings s.reports.items)

-- a session that was ready is ready still
abbrev pub KeepsReady : Session → Session → Type 0
KeepsReady old new = (start : Start) (c : Chronicle) → Stands stream_of_source start old.node c → IsReady old → IsReady new
