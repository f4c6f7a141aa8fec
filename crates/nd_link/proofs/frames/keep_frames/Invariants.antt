use Rattle.std.proofs.Common.{◌≡◌, ◌++◌, drop}
use Rattle.nd_steps.specs.Outputs.{frames_in, happenings}
use Rattle.nd_link.specs.Frames.{kept_frames, of_sender}
use Rattle.nd_link.proofs.frames.keep_frames.Given as goal

-- those that are kept, and those that are left
abbrev pub invariant-loop-out : goal.invariant-loop-out
invariant-loop-out g l =
    kept_frames l.frames.items ++ of_sender l.sender (frames_in (happenings (drop l.out-index l.outs))) ≡ kept_frames l.fn.frames.items ++ of_sender l.sender (frames_in (happenings l.outs))
