use Rattle.std.proofs.Common.{None, Some}
use Rattle.std.proofs.lemmas.Result.{on_ok_weaker, on_err_weaker}
use Rattle.nd_lines.specs.ToldLaws.{tells_all_by, tells_front_by, tells_as_read_by, tells_beginning, tells_to_memory}
use Rattle.ndpctl_run.specs.Script.{IsFront, IsText}
use Rattle.ndpctl_run.specs.Start.{start_of}
use Rattle.ndpctl_run.proofs.InPart.{front_from_start}
use Rattle.ndpctl_run.proofs.Runs.{from_start, nothing_told, start_goes_on}
use Rattle.ndpctl_run.proofs.run.run_script.Goals as goal

pub returns-in-Ok-clause-ok : goal.returns-in-Ok-clause-ok
returns-in-Ok-clause-ok g c =
    let first = start_of c.args.options (g.R.Rng.stream c.args.options.generator) in
    on_ok_weaker c.run_lines.result (tells_all_by _ _ (from_start g.R.Rng.stream first c.in-Ok.script.node c.run_lines.new.answering.node c.in-Ok.ensures) _ _ _ None) c.run_lines.ensures.ok

pub returns-in-Ok-clause-line : goal.returns-in-Ok-clause-line
returns-in-Ok-clause-line g c = λ n is.
    let first = start_of c.args.options (g.R.Rng.stream c.args.options.generator) in
    tells_all_by _ _ (from_start g.R.Rng.stream first c.in-Ok.script.node c.run_lines.new.answering.node c.in-Ok.ensures) _ _ _ (Some n) (c.run_lines.ensures.line n is)

pub returns-in-Ok-clause-front : goal.returns-in-Ok-clause-front
returns-in-Ok-clause-front g c =
    let first = start_of c.args.options (g.R.Rng.stream c.args.options.generator) in
    on_err_weaker c.run_lines.result (tells_front_by _ _ (front_from_start g.R.Rng.stream _ (λ script. script.node) first c.in-Ok.script c.in-Ok.ensures) _ _ _) c.run_lines.ensures.front

pub returns-in-Ok-clause-beginning : goal.returns-in-Ok-clause-beginning
returns-in-Ok-clause-beginning g c =
    let first = start_of c.args.options (g.R.Rng.stream c.args.options.generator) in
    let goes_on = start_goes_on (record { one_reading = c.one_reading.ensures; one_chronicle = c.one_chronicle.ensures; rows = c.only_grows.ensures.rows; told = c.only_grows.ensures.told }) first in
    on_err_weaker c.run_lines.result (λ front. tells_beginning (IsText first) (IsFront first) goes_on _ _ _ (tells_front_by _ _ (front_from_start g.R.Rng.stream _ (λ script. script.node) first c.in-Ok.script c.in-Ok.ensures) _ _ _ front)) c.run_lines.ensures.front

pub returns-in-Ok-clause-answered : goal.returns-in-Ok-clause-answered
returns-in-Ok-clause-answered g c = λ is.
    let first = start_of c.args.options (g.R.Rng.stream c.args.options.generator) in
    tells_as_read_by _ _ (from_start g.R.Rng.stream first c.in-Ok.script.node c.run_lines.new.answering.node c.in-Ok.ensures) _ _ _ _ (c.run_lines.ensures.answered is)

pub returns-in-Err-clause-front : goal.returns-in-Err-clause-front
returns-in-Err-clause-front g c =
    let first = start_of c.args.options (g.R.Rng.stream c.args.options.generator) in
    nothing_told first _ _

pub returns-in-Err-clause-beginning : goal.returns-in-Err-clause-beginning
returns-in-Err-clause-beginning g c =
    let first = start_of c.args.options (g.R.Rng.stream c.args.options.generator) in
    let goes_on = start_goes_on (record { one_reading = c.one_reading.ensures; one_chronicle = c.one_chronicle.ensures; rows = c.only_grows.ensures.rows; told = c.only_grows.ensures.told }) first in
    tells_beginning (IsText first) (IsFront first) goes_on _ _ _ (nothing_told first _ _)

pub returns-in-Ok-clause-memory : goal.returns-in-Ok-clause-memory
returns-in-Ok-clause-memory g c = λ is.
    let first = start_of c.args.options (g.R.Rng.stream c.args.options.generator) in
    tells_to_memory _ _ _ _ _ _ _ (front_from_start g.R.Rng.stream _ (λ script. script.node) first c.in-Ok.script c.in-Ok.ensures) _ _ _ _ (c.run_lines.ensures.memory is)
