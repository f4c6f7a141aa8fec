use Rattle.std.proofs.Common.{sym, ◌∙◌, ap}
use Rattle.clap.specs.Words.{found_of}
use Rattle.ndpctl_args.proofs.Values.{carrier_by, memory_unnamed, named_carrier}
use Rattle.ndpctl_args.proofs.options.read_wire.Goals as goal

pub returns-in_default : goal.returns-in_default
returns-in_default c = memory_unnamed (found_of c.args.given.now) c.in_default.ensures

pub returns-then-eq : goal.returns-then-eq
returns-then-eq c = sym (ap carrier_by c.if-eq.true) ∙ named_carrier (found_of c.args.given.now) c.in-Some.name.now c.eq.result c.in-Some.ensures c.eq.ensures

pub returns : goal.returns
returns c = sym (ap carrier_by c.if-eq.false) ∙ named_carrier (found_of c.args.given.now) c.in-Some.name.now c.eq.result c.in-Some.ensures c.eq.ensures
