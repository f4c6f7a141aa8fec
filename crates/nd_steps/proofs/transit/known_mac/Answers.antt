use Rattle.std.proofs.Common.{Option, Some, sym, ◌∙◌, ap}
use Rattle.std.specs.Option.{option_map}
use Rattle.nd_addr.specs.Number.{mac_at}
use Rattle.nd_neighbour.specs.EntryKept.{NeighbourEntry}
use Rattle.nd_steps.specs.Transit.{mac_in}
use Rattle.nd_steps.proofs.transit.known_mac.Goals as goal

pub returns : goal.returns
returns g c =
    let mac = c.in_ok-mac.mac in
    ap Some (sym (c.addresses_are_told_by_numbers.ensures.mac mac c.as_bytes-bytes.ensures.bytes))
    ∙ (ap (option_map mac_at) c.in_ok-mac.ensures ∙ ap (λ (n : Option NeighbourEntry). mac_in n) c.in_ok-get.ensures)
