use Rattle.std.proofs.Common.{◌++◌, ◌∷◌, [], ◌∙◌, List, ap, length, arith}
use Rattle.nd_addr.specs.Number.{number_of}
use Rattle.nd_slaac.specs.AddressKept.{Address}
use Rattle.nd_slaac.specs.TableKept.{key_of}
use Rattle.nd_slaac.specs.Dates.{end_date}
use Rattle.nd_slaac.proofs.Planning.{first_planned}
use Rattle.nd_slaac.proofs.addresses.Addresses.start.Goals as goal

pub invariant_of-result : goal.invariant_of-result
invariant_of-result g c =
    let entry = c.link_local-entry.result in
    let room = c.room.invariant in (
      omega (arith, c.push_reserved.ensures.len, ap length room.2, c.room.inside.entries.ok.0, room.0),
      omega (arith, c.push_reserved.ensures.capacity, room.3),
      first_planned (number_of c.link_local-addr.result.0) c.push_reserved.new.self.items entry c.room.inside.ends c.room.inside.steps c.change.new.self c.date-step.result room.4 room.6
          (ap key_of c.link_local-entry.ensures) (c.push_reserved.ensures.items ∙ ap (λ (l : List Address). l ++ entry ∷ []) room.2) (ap end_date c.link_local-entry.ensures) c.date-step.ensures
          c.change.ensures.dates,
      c.link_local-addr.ensures,
      room.5,
      omega (arith, c.change.ensures.room, room.7),
      room.1,
    )
