use Rattle.std.proofs.Common.{refl}
use Rattle.nd_node.specs.Hearing.{options_read}
use Rattle.nd_neighbour.specs.declared.news.Times.{Times}
use Rattle.nd_node.proofs.Advertisements.{silent_news, adds_advertisement}
use Rattle.nd_node.proofs.Recalling.{forgot_redirects, may_redirects, room_kept, room_then}
use Rattle.nd_node.proofs.NextHops.{settled_routers}
use Rattle.nd_node.proofs.node.Node.hear_neighbor_advertisement.Goals as goal

pub hear_of_neighbour-ends-requires-clause-place : goal.hear_of_neighbour-ends-requires-clause-place
hear_of_neighbour-ends-requires-clause-place g c =
    let times : Times = record { retrans = 0; reachable = 0 } in
    rw c.report_heard.ensures.clock (silent_news c.args.self.now.neighbours.limit c.args.now c.args.self.now.neighbours.entries c.news_of-news.result times _ _ _ _ (rw (c.own_mac.ensures, c.requires.body) at (c.news_of-news.ensures times)))

pub returns-clause-adds : goal.returns-clause-adds
returns-clause-adds g c =
    let times : Times = c.times_in_force-times.result in
    let e = c.report_heard.ensures.clock in
    let holder = rw e at c.hear_holder.ensures in
    let heard = rw e at c.hear_of_neighbour-ends.ensures in
    let leaves = rw e at c.ends_router-leaves.ensures in
    let router = rw e at c.end_router.ensures in
    rw e (adds_advertisement g.R.Rng.stream c.args.self.now _ c.args.outs.now.items c.reserve.new.self.items c.report_heard.new.outs.items c.hear_holder.new.outs.items c.hear_of_neighbour-ends.new.outs.items c.end_router.new.outs.items
    c.args.now c.args.heard.now.source c.args.heard.now.destination c.args.na.now (options_read c.args.self.now c.args.heard.now.message.options) c.requires.settled times c.news_of-news.result c.hear_of_neighbour-ends.result c.ends_router-leaves.result c.hear_holder.result _
    c.none_overdue.ensures.still c.none_overdue.ensures.table c.one_is_pushed_out.ensures c.none_overdue-2.ensures.still c.none_overdue-2.ensures.table
    (record {
      role = refl;
      mac = refl;
      chosen = refl;
      policies = refl;
      generator = refl;
      params = refl;
      prefixes = refl;
      dns = refl;
      solicitations = refl;
      router = refl;
      address_mac = holder.mac;
      address_transmits = holder.transmits;
      address_limit = holder.limit;
      neighbour_limit = heard.limit;
      waiting = heard.waiting;
      router_limit = router.limit;
      room = room_then c.args.self.now.choice c.hear_holder.new.choice c.end_router.new.choice (room_kept c.args.self.now.choice c.hear_holder.new.choice (forgot_redirects _ _ _ holder.remembers))
          (room_then c.hear_holder.new.choice c.hear_of_neighbour-ends.new.choice c.end_router.new.choice (room_kept c.hear_holder.new.choice c.hear_of_neighbour-ends.new.choice (may_redirects c.hear_holder.new.choice c.hear_of_neighbour-ends.new.choice c.args.self.now.neighbours.entries c.hear_of_neighbour-ends.new.neighbours.entries heard.remembers)) router.limits);
      last = refl;
    })
    (rw (c.own_mac.ensures, c.requires.body) at (c.news_of-news.ensures times)) (rw e at c.times_in_force-times.ensures.reachable) c.reserve.ensures.items (rw c.requires.body at c.report_heard.ensures.items) refl holder.conflicts heard.hears
    c.hear_holder.new.choice c.hear_of_neighbour-ends.new.choice holder.remembers heard.remembers leaves router.leaves
    (router.settled c.args.now (settled_routers c.args.self.now c.args.now c.requires.settled)))
