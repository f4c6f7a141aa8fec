use Rattle.std.proofs.Common.{rules, arith, ◌∙◌, inr}
use Rattle.nd_lines.proofs.RunLemmas.{SoFar-part, SoFar-comes, SoFar-whole, SoFar-front, SoFar-waiting, SoFar-out, TellsFirst-part, TellsFirst-told}
use Rattle.nd_lines.proofs.WrittenLemmas.{AppendsFront-whole}
use Rattle.nd_lines.proofs.unwritten.Unwritten.answer_line.Goals as goal

pub returns-in_err-keep_answer-in-Ok-Whole-clause-front : goal.returns-in_err-keep_answer-in-Ok-Whole-clause-front
returns-in_err-keep_answer-in-Ok-Whole-clause-front g c =
    let s = c.loop-self.invariant.so_far in
    let rest = rw c.clear.ensures.bytes at (c.answer.ensures.answered (search rules)) in
    let comes = SoFar-comes _ _ _ _ _ _ _ _ (g.W.Output.contents c.keep_answer.new.writer) _ _ s c.answer.new.self _ rest in
    let written = SoFar-front _ _ _ _ _ _ _ _ (g.W.Output.contents c.keep_answer.new.writer) _ _ s _ c.in_err-keep_answer-in-Ok-Whole.ensures.front in
    let front = TellsFirst-told (g.L.Answering.texts c.args.answering.now) (g.L.Answering.texts c.answer.new.self) g.L.Answering.begins c.answer.new.self c.args.number c.args.line.now _ _ _ _ (g.met.L.Answering.no_lines c.answer.new.self) comes written in
    search rules

pub returns-in-Ok-Whole-clause-told : goal.returns-in-Ok-Whole-clause-told
returns-in-Ok-Whole-clause-told g c =
    let s = c.loop-self.invariant.so_far in
    let rest = rw c.clear.ensures.bytes at (c.answer.ensures.answered (search rules)) in
    SoFar-whole _ _ _ _ _ _ _ _ (g.W.Output.contents c.keep_answer.new.writer) _ _ s c.answer.new.self _ _ rest c.in_ok-keep_answer-in-Ok-Whole.ensures.ok

pub loop-self-preserved : goal.loop-self-preserved
loop-self-preserved g c =
    let s = c.loop-self.invariant.so_far in
    let part = rw c.clear.ensures.bytes at (c.answer.ensures.in_part (search rules)) in
    record {
      so_far = SoFar-part _ _ _ _ _ _ _ _ (g.W.Output.contents c.keep_answer-in-Ok-InPart.new.writer) _ _ s c.answer.new.self _ _ part c.in_ok-keep_answer-in-Ok-InPart.ensures.ok;
      first = λ bad. let wrong = c.answer.ensures.none bad in search rules;
      wire = c.answer.ensures.wire_carried (λ e. let no : ⊥ = cc in no) ∙ c.loop-self.invariant.wire;
      writes_failed = omega (arith, c.loop-self.invariant.writes_failed, c.keep_answer-in-Ok-InPart.ensures.never_falls);
    }

pub returns-in_err-keep_answer-in-Ok-InPart-clause-front : goal.returns-in_err-keep_answer-in-Ok-InPart-clause-front
returns-in_err-keep_answer-in-Ok-InPart-clause-front g c =
    let s = c.loop-self.invariant.so_far in
    let part = rw c.clear.ensures.bytes at (c.answer.ensures.in_part (search rules)) in
    let written = SoFar-front _ _ _ _ _ _ _ _ (g.W.Output.contents c.keep_answer-in-Ok-InPart.new.writer) _ _ s _ c.in_err-keep_answer-in-Ok-InPart.ensures.front in
    let begun = s.further part.told part.begun in
    let front = TellsFirst-part (g.L.Answering.texts c.args.answering.now) g.L.Answering.begins c.args.answering.now c.args.number c.args.line.now _ _ _ _ (g.met.L.Answering.no_lines c.args.answering.now) (inr begun) (rw part.written at written) in
    search rules

pub returns-in_err-write_out-in-Err-clause-front : goal.returns-in_err-write_out-in-Err-clause-front
returns-in_err-write_out-in-Err-clause-front g c =
    let s = c.loop-self.invariant.so_far in
    let written = SoFar-waiting _ _ _ _ _ _ _ _ (g.W.Output.contents c.write_out.new.writer) _ _ s c.in_err-write_out-in-Err.ensures.front in
    let front = TellsFirst-part (g.L.Answering.texts c.args.answering.now) g.L.Answering.begins c.args.answering.now c.args.number c.args.line.now _ _ _ _ (g.met.L.Answering.no_lines c.args.answering.now) s.begun written in
    search rules

pub returns-in-Err-clause-front : goal.returns-in-Err-clause-front
returns-in-Err-clause-front g c =
    let s = c.loop-self.invariant.so_far in
    let written = SoFar-out _ _ _ _ _ _ _ _ (g.W.Output.contents c.write_out.new.writer) _ _ s c.in_ok-write_out-in-Err.ensures.ok in
    TellsFirst-part (g.L.Answering.texts c.args.answering.now) g.L.Answering.begins c.args.answering.now c.args.number c.args.line.now _ _ _ _ (g.met.L.Answering.no_lines c.args.answering.now) s.begun (AppendsFront-whole _ _ _ written)
