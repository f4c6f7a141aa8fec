use Rattle.std.proofs.Common.{arith, rules, take, drop, sym}
use Rattle.std.proofs.lemmas.List.{take-append-drop}
use Rattle.nd_lines.specs.Written.{AppendsFront}
use Rattle.nd_lines.proofs.WrittenLemmas.{Appends-both, Appends-kept, take_on}
use Rattle.nd_lines.proofs.output.write_whole.Goals as goal

pub loop-at-preserved : goal.loop-at-preserved
loop-at-preserved g c = record {
  within = omega (arith, c.in_ok-at.ensures.bound);
  written = Appends-both _ _ _ _ _ _ c.loop-at.invariant.written c.in_ok-at.ensures.bytes (take_on c.args.bytes.now c.loop-at.at c.in_ok-at.field-0);
  never_falls = omega (arith, c.write.ensures.never_falls);
}

pub returns-in_err-at-clause-front : goal.returns-in_err-at-clause-front
returns-in_err-at-clause-front g c =
    let front : AppendsFront (g.W.Output.contents c.args.writer.now) (g.W.Output.contents c.write.new.self) c.args.bytes.now =
    (drop c.loop-at.at c.args.bytes.now, (take c.loop-at.at c.args.bytes.now, sym (take-append-drop c.loop-at.at c.args.bytes.now), Appends-kept _ _ _ _ c.loop-at.invariant.written c.in_err-at.ensures.bytes)) in
    search rules
