use Rattle.std.proofs.Common.{refl, map, string_bytes}
use Rattle.std.proofs.lemmas.Result.{IfOk-weaker}
use Rattle.nd_node.specs.Event.{table_of}
use Rattle.nd_node.proofs.Steps.{not_past, showing}
use Rattle.nd_chronicle.specs.Event as events
use Rattle.nd_node.proofs.node.Node.add_shown.Goals as goal

pub returns-then-is_past-clause-adds : goal.returns-then-is_past-clause-adds
returns-then-is_past-clause-adds g c =
    IfOk-weaker c.refuse_past.result _ _ (λ a past. not_past g.R.Rng.stream c.args.self.now c.refuse_past.new.self c.args.outs.now.items c.refuse_past.new.outs.items c.args.now (events.Shows (table_of c.args.table)) c.if-is_past.ensures)
    c.refuse_past.ensures.past

pub returns-clause-adds : goal.returns-clause-adds
returns-clause-adds g c =
    showing g.R.Rng.stream c.args.self.now c.report.new.self c.args.outs.now.items c.report.new.outs.items c.args.now (table_of c.args.table) (map string_bytes c.in_ok-rows.rows.items) _ refl
    c.in_ok-rows.ensures c.requires.settled c.in_ok-report.ensures.clock c.in_ok-report.ensures.items
