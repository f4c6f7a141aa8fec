use Rattle.std.proofs.Common.{◌≡◌, ◌∙◌}
use Rattle.nd_message.specs.Spelling.{spelling}
use Rattle.nd_compose.specs.Frames.{solicitation}
use Rattle.nd_compose.proofs.ShortFrames.{solicitation_spelled, summed_is}
use Rattle.nd_compose.proofs.frame_room.FrameRoom.solicit.Goals as goal

pub returns : goal.returns
returns g c =
    let message = solicitation c.args.mac c.args.target in
    let spelled : c.short_message-message.result ≡ spelling 0 message = c.short_message-message.ensures ∙ solicitation_spelled c.args.mac c.args.target in
    c.put.ensures ∙ c.short_frame.ensures
    ∙ summed_is c.args.to c.args.mac c.args.source c.args.destination message c.short_message-message.result spelled
