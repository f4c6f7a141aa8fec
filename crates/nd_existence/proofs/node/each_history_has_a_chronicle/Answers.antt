use Rattle.std.proofs.Common.{subst}
use Rattle.std.proofs.lemmas.List.Elements.{recursion_from_All}
use Rattle.nd_chronicle.specs.History.{beginning}
use Rattle.nd_chronicle.proofs.Events.{one_run}
use Rattle.nd_existence.specs.Intervals.{AreTimed}
use Rattle.nd_existence.proofs.Running.{run}
use Rattle.nd_existence.proofs.node.each_history_has_a_chronicle.Goals as goal

pub returns-clause-beginning : goal.returns-clause-beginning
returns-clause-beginning c = λ start events fits. let r = run start events (beginning start) (recursion_from_All _ events fits) tt in (r.0, r.1)

pub returns-clause-onward : goal.returns-clause-onward
returns-clause-onward c = λ start d events timed fits. run start events d (recursion_from_All _ events fits) timed

pub returns-clause-timed : goal.returns-clause-timed
returns-clause-timed c = λ start events d fits runs.
    let r = run start events (beginning start) (recursion_from_All _ events fits) tt in
    subst AreTimed (one_run start events (beginning start) r.0 d r.1 runs) r.2
