use Rattle.std.proofs.Common.{◌≡◌, ℕ, Option, true, refl, subst, ap, ◌∙◌}
use Rattle.nd_addr.specs.Number.{number_of}
use Rattle.nd_neighbour.specs.TableKept.{entry_in}
use Rattle.nd_neighbour.specs.View.{wanting_of}
use Rattle.nd_neighbour.specs.Wanting.{Wanting}
use Rattle.nd_steps.specs.DestinationCache.{MayRemember, begins_by}
use Rattle.nd_steps.proofs.Resolved.{begins_by_absent, wish_may_remember}
use Rattle.nd_node.proofs.Recalling.{may_redirects}
use Rattle.nd_chronicle.specs.Happening.{Path, WayTo}
use Rattle.nd_out.specs.declared.out.Out.TheVariants as reports
use Rattle.nd_out.specs.declared.out.Way.TheVariants as ways
use Rattle.nd_node.proofs.Wishes.{answered_behind, wish_leads}
use Rattle.std.proofs.lemmas.Option.{IfSome_then}
use Rattle.nd_node.proofs.Ways.{known_by_wish, ways_left}
use Rattle.nd_node.proofs.node.Node.wish.Goals as goal

may : (g : _) (c : goal.After-known_in g) → MayRemember c.args.self.now.choice c.note_wish.new.choice c.args.self.now.neighbours.entries c.want.new.self.entries
may g c =
    wish_may_remember c.args.self.now.choice c.note_wish.new.choice c.args.self.now.neighbours.limit c.args.now (number_of c.args.to.0) c.times_in_force-times.result.retrans c.args.self.now.neighbours.waiting c.args.self.now.neighbours.entries c.want.new.self.entries
    (wanting_of c.in-Ok.want) c.in-Ok.ensures.value c.note_wish.ensures c.in-Ok.ensures.stands

pub returns-clause-leads : goal.returns-clause-leads
returns-clause-leads g c = λ destination.
    wish_leads g.R.Rng.stream c.args.self.now _ c.args.outs.now.items _ c.args.now destination (number_of c.args.to.0) _ _ c.none_overdue.ensures.still c.none_overdue.ensures.table c.one_is_pushed_out.ensures
    c.requires.last
    (record { role = refl; mac = refl; chosen = refl; policies = refl; generator = refl; last = refl; params = refl; routers = refl; prefixes = refl; dns = refl; redirects = may_redirects c.args.self.now.choice c.note_wish.new.choice c.args.self.now.neighbours.entries c.want.new.self.entries (may g c); solicitations = refl; router = refl; address_mac = refl; address_transmits = refl; address_limit = refl; neighbour_limit = c.in-Ok.ensures.limit; waiting = c.in-Ok.ensures.waiting })
    refl (may g c) c.times_in_force-times.ensures.retrans refl c.in-Ok.ensures.stands _ refl _ c.link_local-own.ensures (wanting_of c.in-Ok.want) c.in-Ok.ensures.history
    (answered_behind c.args.outs.now.items c.tell_wish.new.outs.items c.args.now c.args.self.now.mac c.link_local-own.result destination (number_of c.args.to.0) (wanting_of c.in-Ok.want)
    (reports.Path destination (ways.To c.args.to c.known_in.result)) (ap (λ (m : Option ℕ). Path destination (WayTo (number_of c.args.to.0) m)) c.known_in.ensures) c.tell_wish.ensures.told)

pub tell_wish-requires-clause-ready : goal.tell_wish-requires-clause-ready
tell_wish-requires-clause-ready g c = λ asks. c.requires.solicitation (begins_by_absent (entry_in (number_of c.args.to.0) c.args.self.now.neighbours.entries) (subst (λ (w : Wanting). begins_by w ≡ true) c.in-Ok.ensures.value asks))

pub returns-clause-ways : goal.returns-clause-ways
returns-clause-ways g c =
    let old = c.args.self.now in
    let entry = entry_in (number_of c.args.to.0) old.neighbours.entries in
    IfSome_then c.known_in.result (known_by_wish entry (wanting_of c.in-Ok.want) c.known_in.result c.in-Ok.ensures.value c.known_in.ensures)
    (λ mac known. (
      ways_left old c.want.new.self c.note_wish.new.choice old.last (may_redirects old.choice c.note_wish.new.choice old.neighbours.entries c.want.new.self.entries (may g c)) (c.in-Ok.ensures.macs known.0),
      c.in-Ok.ensures.macs known.0 (number_of c.args.to.0) ∙ known.1,
    ))
