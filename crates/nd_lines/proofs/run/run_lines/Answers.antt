use Rattle.std.proofs.Common.{rules, arith, ap, inr, Ok, Some, ◌≡◌, ◌∙◌, ℕ}
use Rattle.std.specs.Prelude.{string_bytes, IsErrOf}
use Rattle.std.proofs.lemmas.Result.{on_err_weaker}
use Rattle.nd_lines.specs.Stop.{StopsAt}
use Rattle.nd_lines.specs.Told.{TellsAll, TellsUntilIn}
use Rattle.nd_lines.specs.declared.answering.Unanswered.TheVariants as unanswered
use Rattle.nd_lines.specs.declared.tool_fault.ToolFault.TheVariants.{Line, Memory, Wire}
use Rattle.nd_lines.specs.Ahead.{in_hand}
use Rattle.nd_lines.proofs.AheadLemmas.{none_in_hand}
use Rattle.nd_lines.proofs.RunLemmas.{Along-start, Along-written, Along-kept, Along-answered, Along-waiting_front, Along-line_front, Along-end_front, Along-end, Along-long, Along-malformed, Along-answered_as_read, Along-stopped, Along-end_stopped, TellsFront-nothing}
use Rattle.nd_lines.proofs.WrittenLemmas.{AppendsFront-whole}
use Rattle.nd_lines.proofs.run.run_lines.Goals as goal

pub returns-in_err-clone-clause-front : goal.returns-in_err-clone-clause-front
returns-in_err-clone-clause-front g c =
    let front = TellsFront-nothing (g.L.Answering.texts c.args.answering.now) g.L.Answering.begins c.args.answering.now (g.R.Input.remaining c.args.reader.now) (g.W.Output.contents c.args.writer.now) (g.met.L.Answering.no_lines c.args.answering.now) in
    search rules

pub returns-in_err-clone-2-clause-front : goal.returns-in_err-clone-2-clause-front
returns-in_err-clone-2-clause-front g c =
    let front = TellsFront-nothing (g.L.Answering.texts c.args.answering.now) g.L.Answering.begins c.args.answering.now (g.R.Input.remaining c.args.reader.now) (g.W.Output.contents c.args.writer.now) (g.met.L.Answering.no_lines c.args.answering.now) in
    search rules

pub returns-in_err-ahead-clause-front : goal.returns-in_err-ahead-clause-front
returns-in_err-ahead-clause-front g c =
    let front = TellsFront-nothing (g.L.Answering.texts c.args.answering.now) g.L.Answering.begins c.args.answering.now (g.R.Input.remaining c.args.reader.now) (g.W.Output.contents c.args.writer.now) (g.met.L.Answering.no_lines c.args.answering.now) in
    search rules

pub loop-count-preserved-in-Whole : goal.loop-count-preserved-in-Whole
loop-count-preserved-in-Whole g c =
    let told = rw c.in_hand.ensures.bytes at c.in_ok-answer_line-in-Whole.ensures.told in
    record {
      along = Along-answered _ _ _ _ _ _ _ _ _ _ _ _ _ _ c.loop-count.invariant.along c.in-Whole.ensures.2 told c.take.ensures.rest;
      few = omega (arith, c.loop-count.invariant.few, c.take.ensures.spent);
      given = rw c.take.ensures.reads c.loop-count.invariant.given;
      reads_failed = c.loop-count.invariant.reads_failed;
      wire = c.in_ok-answer_line-in-Whole.ensures.wire_carried (λ e. let no : ⊥ = cc in no) (λ e. let no : ⊥ = cc in no) ∙ c.loop-count.invariant.wire;
      writes_failed = omega (arith, c.loop-count.invariant.writes_failed, c.answer_line.ensures.never_falls);
    }

pub returns-in_err-answer_line-in-Whole-clause-front : goal.returns-in_err-answer_line-in-Whole-clause-front
returns-in_err-answer_line-in-Whole-clause-front g c =
    let left = rw c.in_hand.ensures.bytes at c.in_err-answer_line-in-Whole.ensures.front in
    let front = Along-line_front _ _ _ _ _ _ _ _ (g.W.Output.contents c.answer_line.new.writer) _ _ _ c.loop-count.invariant.along c.in-Whole.ensures.2 left in
    search rules

pub returns-in_err-write_out-in-TooLong-clause-front : goal.returns-in_err-write_out-in-TooLong-clause-front
returns-in_err-write_out-in-TooLong-clause-front g c =
    let front = Along-waiting_front _ _ g.L.Answering.begins _ _ _ _ _ (g.W.Output.contents c.write_out.new.writer) _ _ c.loop-count.invariant.along c.loop-count.answering (g.met.L.Answering.no_lines c.loop-count.answering) c.in_err-write_out-in-TooLong.ensures.front in
    search rules

pub returns-in-TooLong-clause-front : goal.returns-in-TooLong-clause-front
returns-in-TooLong-clause-front g c = Along-waiting_front _ _ g.L.Answering.begins _ _ _ _ _ _ _ _ c.loop-count.invariant.along c.loop-count.answering (g.met.L.Answering.no_lines c.loop-count.answering) (AppendsFront-whole _ _ _ c.in_ok-write_out-in-TooLong.ensures.ok)

pub returns-in-TooLong-clause-line : goal.returns-in-TooLong-clause-line
returns-in-TooLong-clause-line g c =
    let wrote = Along-long _ _ _ _ _ _ _ (g.W.Output.contents c.write_out.new.writer) _ _ c.loop-count.invariant.along c.in-TooLong.ensures c.loop-count.answering (g.met.L.Answering.too_long c.loop-count.answering) c.in_ok-write_out-in-TooLong.ensures.ok in
    λ n is. let same : n ≡ c.loop-count.number = cc in rw same wrote

pub returns-in_err-write_out-in-Unfinished-clause-front : goal.returns-in_err-write_out-in-Unfinished-clause-front
returns-in_err-write_out-in-Unfinished-clause-front g c =
    let front = Along-waiting_front _ _ g.L.Answering.begins _ _ _ _ _ (g.W.Output.contents c.write_out-in-Unfinished.new.writer) _ _ c.loop-count.invariant.along c.loop-count.answering (g.met.L.Answering.no_lines c.loop-count.answering) c.in_err-write_out-in-Unfinished.ensures.front in
    search rules

pub returns-in_err-fill-in-Unfinished-clause-front : goal.returns-in_err-fill-in-Unfinished-clause-front
returns-in_err-fill-in-Unfinished-clause-front g c =
    let front = Along-waiting_front _ _ g.L.Answering.begins _ _ _ _ _ (g.W.Output.contents c.write_out-in-Unfinished.new.writer) _ _ c.loop-count.invariant.along c.loop-count.answering (g.met.L.Answering.no_lines c.loop-count.answering) (AppendsFront-whole _ _ _ c.in_ok-write_out-in-Unfinished.ensures.ok) in
    search rules

pub loop-count-preserved : goal.loop-count-preserved
loop-count-preserved g c =
    let written = Along-written _ _ _ _ _ _ _ (g.W.Output.contents c.write_out-in-Unfinished.new.writer) _ _ _ c.loop-count.invariant.along c.in_ok-write_out-in-Unfinished.ensures.ok c.in_ok-write_out-in-Unfinished.ensures.emptied in
    let filled = c.in_ok-fill-in-Unfinished.ensures in
    let given = filled.given (ap Ok c.if-not-branch.false) in
    record {
      along = Along-kept _ _ _ _ _ _ _ _ _ _ _ written filled.bytes;
      few = omega (arith, c.loop-count.invariant.few, filled.spent);
      given = omega (arith, c.loop-count.invariant.given, given, filled.reads);
      reads_failed = omega (arith, c.loop-count.invariant.reads_failed, filled.failed_never_falls);
      wire = c.loop-count.invariant.wire;
      writes_failed = omega (arith, c.loop-count.invariant.writes_failed, c.write_out-in-Unfinished.ensures.never_falls);
    }

pub returns-then-not-branch-clause-front : goal.returns-then-not-branch-clause-front
returns-then-not-branch-clause-front g c =
    let written = Along-written _ _ _ _ _ _ _ (g.W.Output.contents c.write_out-in-Unfinished.new.writer) _ _ _ c.loop-count.invariant.along c.in_ok-write_out-in-Unfinished.ensures.ok c.in_ok-write_out-in-Unfinished.ensures.emptied in
    let filled = c.in_ok-fill-in-Unfinished.ensures in
    let along = Along-kept _ _ _ _ _ _ _ _ _ _ _ written filled.bytes in
    let ended = filled.end (ap Ok c.if-not-branch.true) in
    let front = rw c.in_hand-then-not-branch.ensures.bytes at c.answer_last.ensures.front in
    on_err_weaker c.answer_last.result (Along-end_front _ _ _ _ _ _ _ _ _ _ _ along c.in_ok-write_out-in-Unfinished.ensures.emptied ended) front

pub loop-count-init : goal.loop-count-init
loop-count-init g c =
    let along = Along-start (g.L.Answering.texts c.args.answering.now) (g.R.Input.remaining c.args.reader.now) (g.W.Output.contents c.args.writer.now) (in_hand c.in_ok-ahead.ahead.buffer.items c.in_ok-ahead.ahead.start c.in_ok-ahead.ahead.end) (string_bytes c.new-unwritten.result.text) (rw c.in_ok-ahead.ensures.empty (none_in_hand c.in_ok-ahead.ahead.buffer.items c.in_ok-ahead.ahead.end)) c.new-unwritten.ensures in
    search rules

pub returns-in_err-answer_line-in-Whole-clause-line : goal.returns-in_err-answer_line-in-Whole-clause-line
returns-in_err-answer_line-in-Whole-clause-line g c =
    let wrote : (n : ℕ) → IsErrOf c.answer_line.result (Line n) → TellsAll (g.L.Answering.texts c.args.answering.now c.answer_line.new.answering) (g.R.Input.remaining c.args.reader.now) (g.W.Output.contents c.args.writer.now) (g.W.Output.contents c.answer_line.new.writer) (Some n) =
    λ n is.
    let same : n ≡ c.loop-count.number = c.answer_line.ensures.numbered n is in
    let bad = rw c.in_hand.ensures.bytes at (c.answer_line.ensures.malformed n is) in
    rw same (Along-malformed _ _ _ _ _ _ _ (g.W.Output.contents c.answer_line.new.writer) _ _ _ c.loop-count.invariant.along c.in-Whole.ensures.2 c.answer_line.new.answering bad (c.answer_line.ensures.written n is)) in
    search rules

pub returns-in_err-fill-in-Unfinished-clause-answered : goal.returns-in_err-fill-in-Unfinished-clause-answered
returns-in_err-fill-in-Unfinished-clause-answered g c = λ is.
    let written = Along-written _ _ _ _ _ _ _ (g.W.Output.contents c.write_out-in-Unfinished.new.writer) _ _ _ c.loop-count.invariant.along c.in_ok-write_out-in-Unfinished.ensures.ok c.in_ok-write_out-in-Unfinished.ensures.emptied in
    Along-answered_as_read _ _ _ _ _ _ _ _ _ _ written c.in_ok-write_out-in-Unfinished.ensures.emptied c.in-Unfinished.ensures.1 c.in_err-fill-in-Unfinished.ensures.kept c.loop-count.answering (g.met.L.Answering.no_lines c.loop-count.answering)

pub returns-then-not-branch-clause-line : goal.returns-then-not-branch-clause-line
returns-then-not-branch-clause-line g c = λ n is.
    let written = Along-written _ _ _ _ _ _ _ (g.W.Output.contents c.write_out-in-Unfinished.new.writer) _ _ _ c.loop-count.invariant.along c.in_ok-write_out-in-Unfinished.ensures.ok c.in_ok-write_out-in-Unfinished.ensures.emptied in
    let filled = c.in_ok-fill-in-Unfinished.ensures in
    let along = Along-kept _ _ _ _ _ _ _ _ _ _ _ written filled.bytes in
    let told = rw c.in_hand-then-not-branch.ensures.bytes at (c.answer_last.ensures.line n is) in
    Along-end _ _ _ _ _ _ _ _ _ _ _ along c.in_ok-write_out-in-Unfinished.ensures.emptied (filled.end (ap Ok c.if-not-branch.true)) c.answer_last.new.answering told

pub returns-in_err-answer_line-in-Whole-clause-memory : goal.returns-in_err-answer_line-in-Whole-clause-memory
returns-in_err-answer_line-in-Whole-clause-memory g c =
    let until : IsErrOf c.answer_line.result Memory → TellsUntilIn (g.L.Answering.texts c.args.answering.now) g.L.Answering.begins (StopsAt g.L.Answering.fails g.L.Answering.is_malformed c.answer_line.new.answering unanswered.Memory) (g.R.Input.remaining c.args.reader.now) (g.W.Output.contents c.args.writer.now) (g.W.Output.contents c.answer_line.new.writer) =
    λ is.
    let stopped = rw c.in_hand.ensures.bytes at (c.answer_line.ensures.memory is) in
    Along-stopped _ _ _ _ _ _ _ _ _ _ _ _ _ c.loop-count.invariant.along c.in-Whole.ensures.2 c.loop-count.answering (g.met.L.Answering.no_lines c.loop-count.answering) stopped.0 stopped.1 stopped.2 stopped.3 in
    λ is. inr (until (search rules))

pub returns-in_err-answer_line-in-Whole-clause-wire : goal.returns-in_err-answer_line-in-Whole-clause-wire
returns-in_err-answer_line-in-Whole-clause-wire g c =
    let until : IsErrOf c.answer_line.result Wire → TellsUntilIn (g.L.Answering.texts c.args.answering.now) g.L.Answering.begins (StopsAt g.L.Answering.fails g.L.Answering.is_malformed c.answer_line.new.answering unanswered.Wire) (g.R.Input.remaining c.args.reader.now) (g.W.Output.contents c.args.writer.now) (g.W.Output.contents c.answer_line.new.writer) =
    λ is.
    let stopped = rw c.in_hand.ensures.bytes at (c.answer_line.ensures.wire is) in
    Along-stopped _ _ _ _ _ _ _ _ _ _ _ _ _ c.loop-count.invariant.along c.in-Whole.ensures.2 c.loop-count.answering (g.met.L.Answering.no_lines c.loop-count.answering) stopped.0 stopped.1 stopped.2 stopped.3 in
    λ is. until (search rules)

pub returns-then-not-branch-clause-memory : goal.returns-then-not-branch-clause-memory
returns-then-not-branch-clause-memory g c = λ is.
    let written = Along-written _ _ _ _ _ _ _ (g.W.Output.contents c.write_out-in-Unfinished.new.writer) _ _ _ c.loop-count.invariant.along c.in_ok-write_out-in-Unfinished.ensures.ok c.in_ok-write_out-in-Unfinished.ensures.emptied in
    let filled = c.in_ok-fill-in-Unfinished.ensures in
    let along = Along-kept _ _ _ _ _ _ _ _ _ _ _ written filled.bytes in
    let told = rw c.in_hand-then-not-branch.ensures.bytes at (c.answer_last.ensures.memory is) in
    inr (Along-end_stopped _ _ _ _ _ _ _ _ _ _ _ _ along c.in_ok-write_out-in-Unfinished.ensures.emptied (filled.end (ap Ok c.if-not-branch.true)) told)

pub returns-then-not-branch-clause-wire : goal.returns-then-not-branch-clause-wire
returns-then-not-branch-clause-wire g c = λ is.
    let written = Along-written _ _ _ _ _ _ _ (g.W.Output.contents c.write_out-in-Unfinished.new.writer) _ _ _ c.loop-count.invariant.along c.in_ok-write_out-in-Unfinished.ensures.ok c.in_ok-write_out-in-Unfinished.ensures.emptied in
    let filled = c.in_ok-fill-in-Unfinished.ensures in
    let along = Along-kept _ _ _ _ _ _ _ _ _ _ _ written filled.bytes in
    let told = rw c.in_hand-then-not-branch.ensures.bytes at (c.answer_last.ensures.wire is) in
    Along-end_stopped _ _ _ _ _ _ _ _ _ _ _ _ along c.in_ok-write_out-in-Unfinished.ensures.emptied (filled.end (ap Ok c.if-not-branch.true)) told
