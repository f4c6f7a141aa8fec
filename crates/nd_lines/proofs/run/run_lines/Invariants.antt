use Rattle.std.proofs.Common.{◌≡◌, ◌≤◌, ◌+◌, ◌-◌, ◌*◌, ◌^◌, string_bytes}
use Rattle.nd_lines.specs.Ahead.{in_hand, left}
use Rattle.nd_lines.specs.Counts.{HasGrownBy}
use Rattle.nd_lines.proofs.RunLemmas.{Along}
use Rattle.nd_lines.proofs.run.run_lines.Given as goal

abbrev pub invariant-loop-count : goal.invariant-loop-count
invariant-loop-count g l =
    record {
      along : Along (g.L.Answering.texts l.fn.answering) (g.L.Answering.texts l.answering) (g.R.Input.remaining l.fn.reader) (in_hand l.ahead.buffer.items l.ahead.start l.ahead.end) (g.R.Input.remaining l.reader) (g.W.Output.contents l.fn.writer) (g.W.Output.contents l.writer) (string_bytes l.unwritten.text) l.number;
      few : l.number + left l.ahead.reads l.ahead.start l.ahead.end ≤ 2 ^ 40 * 65537 + 1;
      given : HasGrownBy (2 ^ 40 - l.ahead.reads) (g.R.Input.given l.fn.reader) (g.R.Input.given l.reader);
      reads_failed : g.R.Input.failed l.fn.reader ≤ g.R.Input.failed l.reader;
      wire : g.L.Answering.failed l.answering ≡ g.L.Answering.failed l.fn.answering;
      writes_failed : g.W.Output.failed l.fn.writer ≤ g.W.Output.failed l.writer;
    }

abbrev pub decreases-loop-count : goal.decreases-loop-count
decreases-loop-count g l = left l.ahead.reads l.ahead.start l.ahead.end
