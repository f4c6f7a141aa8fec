use Rattle.std.proofs.Common.{◌-◌, ◌≡◌, length}
use Rattle.nd_text.specs.HexDigits.{SpellsFirst}
use Rattle.nd_text.proofs.hex_steps.decode_quickly.Given as goal

abbrev pub invariant-loop-at : goal.invariant-loop-at
invariant-loop-at l = (length l.bytes ≡ length l.fn.bytes) × SpellsFirst l.at l.digits l.bytes

abbrev pub decreases-loop-at : goal.decreases-loop-at
decreases-loop-at l = l.last - l.at
