use Rattle.std.proofs.Common.{refl, ap, subst}
use Rattle.nd_slaac.specs.TableKept.{Table}
use Rattle.nd_chronicle.specs.Happening.{Addresses, Full, Refused as HappeningRefused}
use Rattle.nd_out.specs.declared.out.Limit.TheVariants as limits
use Rattle.nd_out.specs.declared.out.Refusal.TheVariants as refusals
use Rattle.nd_out.specs.Out.{refusal_of}
use Rattle.nd_node.specs.declared.answer.Answer.TheVariants.{Refused}
use Rattle.nd_node.specs.Frame.{AddsAlone}
use Rattle.nd_node.proofs.ByHand.{fills_addresses, refuses_address, sets}
use Rattle.nd_node.proofs.Reporting.{answered}
use Rattle.nd_node.proofs.node.Node.set_address.Goals as goal

pub returns-in-Ok-clause-adds : goal.returns-in-Ok-clause-adds
returns-in-Ok-clause-adds g c =
    rw c.advance_to.ensures (sets g.R.Rng.stream c.args.self.now _ c.args.outs.now.items c.args.outs.now.items c.args.now c.args.own.now c.requires.settled c.none_overdue.ensures.still c.none_overdue.ensures.table
    (record { role = refl; mac = refl; chosen = refl; policies = refl; generator = refl; last = refl; params = refl; routers = refl; prefixes = refl; dns = refl; redirects = ap (λ t. t.redirects) c.changed.ensures; solicitations = refl; router = refl; address_mac = c.set_by_hand.ensures.mac; address_transmits = c.set_by_hand.ensures.transmits; address_limit = c.set_by_hand.ensures.limit; neighbour_limit = refl; waiting = refl })
    refl c.changed.ensures c.set_by_hand.result _ c.in-Ok.is c.in_default.ensures c.set_by_hand.ensures.story c.retrans_timer-retrans.result c.retrans_timer-retrans.ensures.value c.set_by_hand.ensures.gains refl)

pub returns-in-Some-clause-adds : goal.returns-in-Some-clause-adds
returns-in-Some-clause-adds g c =
    answered c.refuse.result (Refused c.in-Some.refusal) _
    (λ adds. refuses_address g.R.Rng.stream c.args.self.now c.refuse.new.self c.args.outs.now.items c.refuse.new.outs.items c.args.now c.args.own.now (refusal_of c.in-Some.refusal) c.in-Some.ensures adds)
    c.refuse.ensures.adds c.refuse.ensures.answer

pub returns-in-Err-clause-adds : goal.returns-in-Err-clause-adds
returns-in-Err-clause-adds g c =
    answered c.refuse-in-Err.result (Refused (refusals.Full limits.Addresses)) _
    (λ adds. fills_addresses g.R.Rng.stream c.args.self.now c.refuse-in-Err.new.self c.args.outs.now.items c.refuse-in-Err.new.outs.items c.args.now c.args.own.now c.set_by_hand.result _ c.in-Err.is c.in_default.ensures c.set_by_hand.ensures.story
    (subst (λ (t : Table). AddsAlone g.R.Rng.stream (record c.args.self.now { addresses = t }) c.refuse-in-Err.new.self c.args.outs.now.items c.refuse-in-Err.new.outs.items c.args.now (HappeningRefused (Full Addresses))) c.in-Err.ensures.same adds))
    c.refuse-in-Err.ensures.adds c.refuse-in-Err.ensures.answer
