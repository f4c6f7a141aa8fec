use Rattle.std.proofs.Common.{◌≡◌, ℕ, [], ◌∷◌, ◌++◌, ap, ◌∙◌}
use Rattle.nd_message.specs.Spelling.{spelling}
use Rattle.nd_compose.specs.Frames.{advertisement}
use Rattle.nd_compose.proofs.ShortFrames.{advertisement_spelled, summed_is}
use Rattle.nd_compose.proofs.frame_room.FrameRoom.advertise.Goals as goal

pub returns : goal.returns
returns g c =
    let message = advertisement c.args.router c.args.solicited c.args.mac c.args.target in
    let rest = λ (flags : ℕ). (136 ∷ 0 ∷ 0 ∷ 0 ∷ flags ∷ 0 ∷ 0 ∷ 0 ∷ []) ++ c.args.target.0 ++ (2 ∷ 1 ∷ c.args.mac.0) in
    let spelled : c.short_message-message.result ≡ spelling 0 message =
    c.short_message-message.ensures ∙ ap rest c.flags-flags.ensures ∙ advertisement_spelled c.args.router c.args.solicited c.args.mac c.args.target in
    c.put.ensures ∙ c.short_frame.ensures
    ∙ summed_is c.args.to c.args.mac c.args.target c.args.destination message c.short_message-message.result spelled
