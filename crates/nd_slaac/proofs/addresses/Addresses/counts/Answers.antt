use Rattle.std.proofs.Common.{◌∙◌, ap}
use Rattle.nd_addr.specs.Number.{number_of}
use Rattle.nd_slaac.specs.TableKept.{Table, address_in}
use Rattle.nd_slaac.specs.Destination.{counted_in}
use Rattle.nd_slaac.proofs.Destinations.{counted_by_history}
use Rattle.nd_slaac.proofs.addresses.Addresses.counts.Goals as goal

pub returns-clause-by_history : goal.returns-clause-by_history
returns-clause-by_history g c = λ history s.
    let key = number_of c.args.addr.0 in
    c.entry_counts.ensures ∙ (ap (λ l. counted_in c.args.counted (address_in key l)) (c.deref.ensures.value ∙ ap (λ (t : Table). t.addresses) c.self.view_is)
    ∙ counted_by_history c.args.counted key c.args.self.now.addresses history s)
