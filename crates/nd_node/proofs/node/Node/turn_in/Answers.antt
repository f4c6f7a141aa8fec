use Rattle.std.proofs.Common.{◌∙◌, ap, refl, sym}
use Rattle.nd_addr.specs.declared.mac.Mac.{Mac}
use Rattle.nd_addr.specs.Number.{addr_at}
use Rattle.nd_slaac.specs.PrefixOption.{link_local_of}
use Rattle.nd_steps.specs.Turned.{what_of}
use Rattle.nd_node.proofs.Walks.{turn_leads}
use Rattle.nd_node.proofs.node.Node.turn_in.Goals as goal

pub returns-clause-leads : goal.returns-clause-leads
returns-clause-leads g c =
    turn_leads g.R.Rng.stream c.args.self.now c.take_turn-turned.new.self c.args.outs.now.items c.tell-left.new.outs.items c.args.now (what_of c.take_turn-turned.result) c.link_local-own.result c.take_turn-turned.ensures.due c.take_turn-turned.ensures.stands
    (λ start m. c.link_local-own.ensures ∙ ap (λ (mac : Mac). addr_at (link_local_of mac)) m)
    c.tell-left.ensures.told

pub returns-clause-longest : goal.returns-clause-longest
returns-clause-longest g c = rw (c.take_turn-turned.ensures.role, c.take_turn-turned.ensures.limit) refl

pub returns-clause-leaves : goal.returns-clause-leaves
returns-clause-leaves g c = λ leaves. c.take_turn-turned.ensures.leaves (sym c.leaves_paths-leaves_paths.ensures ∙ leaves)
