use Rattle.std.proofs.Common.{◌≡◌, sym, ◌∙◌, ap}
use Rattle.std.specs.List.{list_any}
use Rattle.nd_slaac.specs.TableKept.{Table}
use Rattle.nd_slaac.specs.Destination.{is_to}
use Rattle.nd_slaac.proofs.Destinations.{is_to_one, one_is_to}
use Rattle.nd_slaac.proofs.addresses.Addresses.is_to.Goals as goal

pub returns : goal.returns
returns g c = λ history s.
    let is : c.any_is_to.result ≡ list_any (is_to c.args.counted c.args.destination) c.args.self.now.addresses =
    c.any_is_to.ensures ∙ ap (λ l. list_any (is_to c.args.counted c.args.destination) l) (c.deref.ensures.value ∙ ap (λ (t : Table). t.addresses) c.self.view_is) in
    let law = c.addresses_are_told_by_numbers.ensures in (
      λ yes'. is_to_one c.args.counted c.args.destination c.args.self.now.addresses history s law.addr law.addr_bytes (sym is ∙ yes'),
      λ to. is ∙ one_is_to c.args.counted c.args.destination c.args.self.now.addresses history s law.addr law.addr_bytes to,
    )
