use Rattle.std.proofs.Common.{refl}
use Rattle.nd_out.specs.Out.{loss_of}
use Rattle.nd_node.proofs.Reporting.{on_ok_both}
use Rattle.nd_node.proofs.OutgoingPackets.{loses}
use Rattle.nd_node.proofs.node.Node.lose.Goals as goal

pub returns-clause-adds : goal.returns-clause-adds
returns-clause-adds g c =
    on_ok_both c.report.result c.report.ensures.clock c.report.ensures.items
    (λ clock items. loses g.R.Rng.stream c.args.self.now c.report.new.self c.args.outs.now.items c.report.new.outs.items c.args.now _ c.requires.settled clock items (loss_of c.args.why) c.args.packet refl)
