use Rattle.std.proofs.Common.{◌≤◌, ◌-◌, length, take}
use Rattle.std.specs.Io.KnownBytes.{Appends}
use Rattle.nd_lines.proofs.output.write_whole.Given as goal

abbrev pub invariant-loop-at : goal.invariant-loop-at
invariant-loop-at g l =
    record {
      within : l.at ≤ length l.bytes;
      written : Appends (g.W.Output.contents l.fn.writer) (g.W.Output.contents l.writer) (take l.at l.bytes);
      never_falls : g.W.Output.failed l.fn.writer ≤ g.W.Output.failed l.writer;
    }

abbrev pub decreases-loop-at : goal.decreases-loop-at
decreases-loop-at g l = length l.bytes - l.at
