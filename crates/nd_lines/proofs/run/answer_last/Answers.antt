use Rattle.std.proofs.Common.{rules, arith, ◌≡◌, [], ◌<◌, length, ℕ, Some}
use Rattle.std.specs.Prelude.{IsErrOf}
use Rattle.std.proofs.lemmas.Bool.Decides.{nat_tests}
use Rattle.nd_lines.specs.Answers.{UpInto}
use Rattle.nd_lines.specs.Lines.{lines_of}
use Rattle.nd_lines.specs.Stop.{StopsAt}
use Rattle.nd_lines.specs.Told.{TellsFirst, TellsLines, TellsBefore}
use Rattle.nd_lines.specs.declared.answering.Unanswered.TheVariants as unanswered
use Rattle.nd_lines.specs.declared.tool_fault.ToolFault.TheVariants as faults
use Rattle.nd_lines.proofs.RunLemmas.{TellsBefore-first, TellsFirst-last, TellsLines-last, TellsLines-malformed}
use Rattle.nd_lines.proofs.run.answer_last.Goals as goal

pub returns-in_err-answer_line-clause-front : goal.returns-in_err-answer_line-clause-front
returns-in_err-answer_line-clause-front g c =
    let some : 0 < length c.args.line.now = grind (arith, nat_tests, c.is_empty.ensures, c.if-is_empty.false) in
    let written = rw c.requires.empty at c.in_err-answer_line.ensures.front in
    let front : TellsFirst (UpInto (g.L.Answering.texts c.args.answering.now) g.L.Answering.begins) c.args.number (lines_of c.args.line.now) [] (g.W.Output.contents c.args.writer.now) (g.W.Output.contents c.answer_line.new.writer) =
    let one = c.requires.last some in rw one written in
    search rules

pub returns-in_err-answer_line-clause-line : goal.returns-in_err-answer_line-clause-line
returns-in_err-answer_line-clause-line g c =
    let some : 0 < length c.args.line.now = grind (arith, nat_tests, c.is_empty.ensures, c.if-is_empty.false) in
    let told : (n : ℕ) → IsErrOf c.answer_line.result (faults.Line n) → TellsLines (g.L.Answering.texts c.args.answering.now c.answer_line.new.answering) c.args.number (lines_of c.args.line.now) (g.W.Output.contents c.args.writer.now) (g.W.Output.contents c.answer_line.new.writer) (Some n) =
    λ n is.
    let same : n ≡ c.args.number = c.answer_line.ensures.numbered n is in
    let one = c.requires.last some in
    rw (same, one) (TellsLines-malformed _ c.args.number c.args.line.now _ _ (c.answer_line.ensures.malformed n is) (rw c.requires.empty at (c.answer_line.ensures.written n is))) in
    search rules

pub returns-in_err-answer_line-clause-memory : goal.returns-in_err-answer_line-clause-memory
returns-in_err-answer_line-clause-memory g c =
    let some : 0 < length c.args.line.now = grind (arith, nat_tests, c.is_empty.ensures, c.if-is_empty.false) in
    let told : IsErrOf c.answer_line.result faults.Memory → TellsBefore (g.L.Answering.texts c.args.answering.now) g.L.Answering.begins (StopsAt g.L.Answering.fails g.L.Answering.is_malformed c.answer_line.new.answering unanswered.Memory) c.args.number (lines_of c.args.line.now) (g.W.Output.contents c.args.writer.now) (g.W.Output.contents c.answer_line.new.writer) =
    λ is.
    let stopped = c.answer_line.ensures.memory is in
    TellsBefore-first _ _ _ c.args.answering.now c.args.number c.args.line.now [] _ _ _ stopped.0 (c.requires.last some) (g.met.L.Answering.no_lines c.args.answering.now) stopped.1 (rw c.requires.empty at stopped.2) stopped.3 in
    search rules

pub returns-in_err-answer_line-clause-wire : goal.returns-in_err-answer_line-clause-wire
returns-in_err-answer_line-clause-wire g c =
    let some : 0 < length c.args.line.now = grind (arith, nat_tests, c.is_empty.ensures, c.if-is_empty.false) in
    let told : IsErrOf c.answer_line.result faults.Wire → TellsBefore (g.L.Answering.texts c.args.answering.now) g.L.Answering.begins (StopsAt g.L.Answering.fails g.L.Answering.is_malformed c.answer_line.new.answering unanswered.Wire) c.args.number (lines_of c.args.line.now) (g.W.Output.contents c.args.writer.now) (g.W.Output.contents c.answer_line.new.writer) =
    λ is.
    let stopped = c.answer_line.ensures.wire is in
    TellsBefore-first _ _ _ c.args.answering.now c.args.number c.args.line.now [] _ _ _ stopped.0 (c.requires.last some) (g.met.L.Answering.no_lines c.args.answering.now) stopped.1 (rw c.requires.empty at stopped.2) stopped.3 in
    search rules

pub returns-in_err-write_out-clause-front : goal.returns-in_err-write_out-clause-front
returns-in_err-write_out-clause-front g c =
    let some : 0 < length c.args.line.now = grind (arith, nat_tests, c.is_empty.ensures, c.if-is_empty.false) in
    let front : TellsFirst (UpInto (g.L.Answering.texts c.args.answering.now) g.L.Answering.begins) c.args.number (lines_of c.args.line.now) [] (g.W.Output.contents c.args.writer.now) (g.W.Output.contents c.write_out.new.writer) =
    let one = c.requires.last some in rw one (TellsFirst-last (g.L.Answering.texts c.args.answering.now) (g.L.Answering.texts c.answer_line.new.answering) g.L.Answering.begins c.answer_line.new.answering c.args.number c.args.line.now _ _ _ _ _ (g.met.L.Answering.no_lines c.answer_line.new.answering) c.requires.empty c.in_ok-answer_line.ensures.told c.in_err-write_out.ensures.front) in
    search rules

pub returns-clause-ok : goal.returns-clause-ok
returns-clause-ok g c =
    let some : 0 < length c.args.line.now = grind (arith, nat_tests, c.is_empty.ensures, c.if-is_empty.false) in
    let one = c.requires.last some in
    rw one (TellsLines-last (g.L.Answering.texts c.args.answering.now) (g.L.Answering.texts c.answer_line.new.answering) c.answer_line.new.answering c.args.number c.args.line.now _ _ _ _ _ (g.met.L.Answering.no_lines c.answer_line.new.answering) c.requires.empty c.in_ok-answer_line.ensures.told c.in_ok-write_out.ensures.ok)
