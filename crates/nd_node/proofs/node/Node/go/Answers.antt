use Rattle.std.proofs.Common.{◌≡◌, true, refl, subst}
use Rattle.nd_addr.specs.Number.{number_of}
use Rattle.nd_neighbour.specs.View.{sending_of}
use Rattle.nd_neighbour.specs.Sending.{Sending}
use Rattle.nd_neighbour.specs.TableKept.{entry_in}
use Rattle.nd_steps.specs.DestinationCache.{MayRemember, begins}
use Rattle.nd_steps.proofs.Resolved.{begins_absent, packet_may_remember}
use Rattle.nd_node.proofs.Packets.{packet_leads}
use Rattle.nd_node.proofs.Recalling.{may_redirects}
use Rattle.nd_node.proofs.node.Node.go.Goals as goal

may : (g : _) (c : goal.After-tell_use g) → MayRemember c.args.self.now.choice c.note_use.new.choice c.args.self.now.neighbours.entries c.used.new.self.entries
may g c =
    packet_may_remember c.args.self.now.choice c.note_use.new.choice c.args.self.now.neighbours.limit c.args.now (number_of c.args.to.0) c.times_in_force-times.result.retrans c.args.self.now.neighbours.waiting c.args.packet c.args.self.now.neighbours.entries c.used.new.self.entries
    (sending_of c.in-Ok.used) c.in-Ok.ensures.value c.note_use.ensures c.in-Ok.ensures.stands

pub returns-clause-leads : goal.returns-clause-leads
returns-clause-leads g c =
    packet_leads g.R.Rng.stream c.args.self.now _ c.args.outs.now.items _ c.args.now (number_of c.args.to.0) _ _ c.args.packet c.none_overdue.ensures.still c.none_overdue.ensures.table c.one_is_pushed_out.ensures
    c.requires.last
    (record { role = refl; mac = refl; chosen = refl; policies = refl; generator = refl; last = refl; params = refl; routers = refl; prefixes = refl; dns = refl; redirects = may_redirects c.args.self.now.choice c.note_use.new.choice c.args.self.now.neighbours.entries c.used.new.self.entries (may g c); solicitations = refl; router = refl; address_mac = refl; address_transmits = refl; address_limit = refl; neighbour_limit = c.in-Ok.ensures.limit; waiting = c.in-Ok.ensures.waiting })
    refl (may g c) c.times_in_force-times.ensures.retrans refl c.in-Ok.ensures.stands _ refl _ c.link_local-own.ensures (sending_of c.in-Ok.used) c.in-Ok.ensures.sending c.tell_use.ensures.told

pub tell_use-requires-clause-ready : goal.tell_use-requires-clause-ready
tell_use-requires-clause-ready g c = λ asks. c.requires.solicitation (begins_absent (entry_in (number_of c.args.to.0) c.args.self.now.neighbours.entries) c.args.packet (subst (λ (s : Sending). begins s ≡ true) c.in-Ok.ensures.value asks))
