use Rattle.nd_search_list.proofs.Walk.{padded_behind}
use Rattle.nd_search_list.proofs.names.NamesIterator.next.Goals as goal

pub invariant_of-self : goal.invariant_of-self
invariant_of-self c =
    let e = c.in_ok-name.ensures in
    record { padded = padded_behind c.args.self.now.rest.now c.in_ok-name.rest.now e.0 e.2 c.args.self.now.padded }
