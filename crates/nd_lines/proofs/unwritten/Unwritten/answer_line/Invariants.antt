use Rattle.std.proofs.Common.{◌≡◌, ◌≤◌, string_bytes}
use Rattle.nd_lines.proofs.RunLemmas.{SoFar}
use Rattle.nd_lines.proofs.unwritten.Unwritten.answer_line.Given as goal

abbrev pub invariant-loop-self : goal.invariant-loop-self
invariant-loop-self g l =
    record {
      so_far : SoFar g.L.Answering.texts g.L.Answering.begins g.L.Answering.fails l.fn.answering l.answering l.line (g.W.Output.contents l.fn.writer) (g.W.Output.contents l.writer) (string_bytes l.fn.self.text) (string_bytes l.self.text);
      first : g.L.Answering.is_malformed l.line → (l.answering ≡ l.fn.answering) × (g.W.Output.contents l.writer ≡ g.W.Output.contents l.fn.writer) × (string_bytes l.self.text ≡ string_bytes l.fn.self.text);
      wire : g.L.Answering.failed l.answering ≡ g.L.Answering.failed l.fn.answering;
      writes_failed : g.W.Output.failed l.fn.writer ≤ g.W.Output.failed l.writer;
    }

abbrev pub decreases-loop-self : goal.decreases-loop-self
decreases-loop-self g l = g.L.Answering.left l.answering
