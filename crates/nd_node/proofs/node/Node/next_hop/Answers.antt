use Rattle.std.proofs.Common.{◌≡◌, ◌≤◌, ℕ, subst, arith}
use Rattle.nd_addr.specs.Number.{number_of}
use Rattle.nd_table.specs.Listing.{open_at}
use Rattle.nd_nexthop.specs.History.{kept}
use Rattle.nd_nexthop.specs.NextHop.{hop}
use Rattle.nd_nexthop.specs.NextHopKept.{hop_of}
use Rattle.nd_chronicle.specs.Histories.{redirect_history}
use Rattle.nd_steps.specs.NextHop.{candidates_in}
use Rattle.nd_steps.specs.DestinationCache.{linked_by, own_in}
use Rattle.nd_steps.proofs.Remembering.{agrees_now, remembers_answer}
use Rattle.nd_node.proofs.NextHops.{next_hop_is, stands_asked}
use Rattle.nd_node.proofs.Recalling.{room_kept}
use Rattle.nd_node.proofs.node.Node.next_hop.Goals as goal

pub returns-clause-next : goal.returns-clause-next
returns-clause-next g c = λ start c' s le.
    let node = c.args.self.now in
    let at = c.max-at.result in
    let is : at ≡ c.args.now = omega (arith, c.max-at.ensures, s.last, le) in
    let later : node.last ≤ at = omega (arith, c.max-at.ensures) in
    let agrees = agrees_now node.last at node.choice node.addresses.addresses node.prefixes.entries node.neighbours.entries node.routers later s.memo in
    next_hop_is g.R.Rng.stream start node c' c.args.now s le c.requires.settled c.args.destination (hop_of c.next_hop.result)
    (subst (λ (t : ℕ). hop_of c.next_hop.result ≡ hop (own_in node.addresses.addresses) (linked_by (open_at t node.prefixes.entries)) (candidates_in node.neighbours.entries node.routers) (kept node.choice.redirects.limit (number_of c.args.destination.0) (redirect_history c')) c.args.destination.0) is
    (c.next_hop.ensures.by_history agrees (redirect_history c') s.redirects))

pub returns-clause-stands : goal.returns-clause-stands
returns-clause-stands g c = λ start c' s.
    let node = c.args.self.now in
    let at = c.max-at.result in
    let later : node.last ≤ at = omega (arith, c.max-at.ensures) in
    let agrees = agrees_now node.last at node.choice node.addresses.addresses node.prefixes.entries node.neighbours.entries node.routers later s.memo in
    stands_asked g.R.Rng.stream start node c' c.next_hop.new.self s (room_kept node.choice c.next_hop.new.self c.next_hop.ensures.redirects) (c.next_hop.ensures.stands (redirect_history c') s.redirects)
    (remembers_answer node.last at node.choice c.next_hop.new.self node.addresses.addresses node.prefixes.entries node.neighbours.entries node.routers c.args.destination c.next_hop.result later s.memo
    c.next_hop.ensures.redirects c.next_hop.ensures.until (c.addresses_are_told_by_numbers.ensures.addr c.args.destination c.as_bytes-bytes.ensures.bytes) (c.next_hop.ensures.value agrees) c.next_hop.ensures.remembers)
