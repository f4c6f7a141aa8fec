use Rattle.std.proofs.Common.{◌∙◌, ap}
use Rattle.nd_addr.specs.Number.{number_of}
use Rattle.nd_neighbour.specs.EntryKept.{stale_entry}
use Rattle.nd_neighbour.proofs.Finds.{was_there, not_full, came_in}
use Rattle.nd_neighbour.proofs.link_layer_address.give_or_enter.Goals as goal

pub returns-in-Ok-clause-gives : goal.returns-in-Ok-clause-gives
returns-in-Ok-clause-gives g c =
    was_there c.args.limit c.args.now (number_of c.args.addr.0) _ _ c.in-Ok.i c.deref.ensures.value c.in-Ok.ensures.within c.in-Ok.ensures.found _ _ _ c.give.ensures.alters

pub returns-in-Ok-clause-full : goal.returns-in-Ok-clause-full
returns-in-Ok-clause-full g c =
    not_full c.args.limit c.args.now (number_of c.args.addr.0) _ _ c.in-Ok.i c.deref.ensures.value c.in-Ok.ensures.within c.in-Ok.ensures.found

pub returns-clause-gives : goal.returns-clause-gives
returns-clause-gives g c =
    came_in c.args.limit c.args.now (number_of c.args.addr.0) _ _ c.deref.ensures.value c.in-Err.ensures.absent _ _ _ _ _
    (c.stale-entry.ensures ∙ ap (λ b. stale_entry (number_of c.args.addr.0) b c.args.now (number_of c.args.mac.0)) c.unwrap_or.ensures)
    c.enter.ensures.enters.places c.enter.ensures.enters.new_is
