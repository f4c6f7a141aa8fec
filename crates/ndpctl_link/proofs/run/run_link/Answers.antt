use Rattle.std.proofs.Common.{None, Some}
use Rattle.std.proofs.lemmas.Result.{on_ok_weaker, on_err_weaker}
use Rattle.nd_lines.specs.Answers.{Wholly}
use Rattle.nd_lines.specs.ToldLaws.{in_part_wholly, tells_all_by, tells_front_by, tells_as_read_by, tells_beginning, tells_to_memory}
use Rattle.nd_random.specs.Source.{stream_of_source}
use Rattle.ndpctl_link.specs.Script.{RunsOn}
use Rattle.ndpctl_link.proofs.LinkRuns.{from_log, keeps_one, log_goes_on, to_link, until_wire}
use Rattle.ndpctl_link.proofs.run.run_link.Goals as goal

pub returns-clause-ok : goal.returns-clause-ok
returns-clause-ok g c = λ faithful log s.
    on_ok_weaker c.run_lines.result (tells_all_by _ _ (from_log g.W.Wire.arrives stream_of_source c.args.script.now.link log faithful c.run_lines.new.answering.link s) _ _ _ None) c.run_lines.ensures.ok

pub returns-clause-stands : goal.returns-clause-stands
returns-clause-stands g c = λ faithful log s.
    on_ok_weaker c.run_lines.result (tells_all_by _ _ (to_link g.W.Wire.arrives stream_of_source c.args.script.now.link log faithful c.run_lines.new.answering.link s) _ _ _ None) c.run_lines.ensures.ok

pub returns-clause-one_holder : goal.returns-clause-one_holder
returns-clause-one_holder g c = λ faithful before log s.
    on_ok_weaker c.run_lines.result (tells_all_by _ _ (keeps_one g.W.Wire.arrives stream_of_source c.args.script.now.link log faithful c.run_lines.new.answering.link before s) _ _ _ None) c.run_lines.ensures.ok

pub returns-clause-stands_at_line : goal.returns-clause-stands_at_line
returns-clause-stands_at_line g c = λ n is faithful log s.
    tells_all_by _ _ (to_link g.W.Wire.arrives stream_of_source c.args.script.now.link log faithful c.run_lines.new.answering.link s) _ _ _ (Some n) (c.run_lines.ensures.line n is)

pub returns-clause-one_holder_at_line : goal.returns-clause-one_holder_at_line
returns-clause-one_holder_at_line g c = λ n is faithful before log s.
    tells_all_by _ _ (keeps_one g.W.Wire.arrives stream_of_source c.args.script.now.link log faithful c.run_lines.new.answering.link before s) _ _ _ (Some n) (c.run_lines.ensures.line n is)

pub returns-clause-front : goal.returns-clause-front
returns-clause-front g c = λ faithful log s.
    on_err_weaker c.run_lines.result (tells_front_by _ _ (in_part_wholly _ _ (λ end. from_log g.W.Wire.arrives stream_of_source c.args.script.now.link log faithful end.link s)) _ _ _) c.run_lines.ensures.front

pub returns-clause-beginning : goal.returns-clause-beginning
returns-clause-beginning g c = λ faithful log s.
    on_err_weaker c.run_lines.result
    (λ front. tells_beginning (RunsOn log) (Wholly (RunsOn log)) (log_goes_on log) _ _ _ (tells_front_by _ _ (in_part_wholly _ _ (λ end. from_log g.W.Wire.arrives stream_of_source c.args.script.now.link log faithful end.link s)) _ _ _ front)) c.run_lines.ensures.front

pub returns-clause-line : goal.returns-clause-line
returns-clause-line g c = λ n is faithful log s.
    tells_all_by _ _ (from_log g.W.Wire.arrives stream_of_source c.args.script.now.link log faithful c.run_lines.new.answering.link s) _ _ _ (Some n) (c.run_lines.ensures.line n is)

pub returns-clause-answered : goal.returns-clause-answered
returns-clause-answered g c = λ is faithful log s.
    tells_as_read_by _ _ (from_log g.W.Wire.arrives stream_of_source c.args.script.now.link log faithful c.run_lines.new.answering.link s) _ _ _ _ (c.run_lines.ensures.answered is)

pub returns-clause-memory : goal.returns-clause-memory
returns-clause-memory g c = λ is faithful log s.
    tells_to_memory _ _ _ _ _ _ _ (in_part_wholly _ _ (λ end. from_log g.W.Wire.arrives stream_of_source c.args.script.now.link log faithful end.link s)) _ _ _ _ (c.run_lines.ensures.memory is)

pub returns-clause-wire : goal.returns-clause-wire
returns-clause-wire g c = λ is faithful log s.
    until_wire g.W.Wire.arrives stream_of_source c.args.script.now.link log faithful (λ script. script.link) c.run_lines.new.answering s _ _ _ (c.run_lines.ensures.wire is)
