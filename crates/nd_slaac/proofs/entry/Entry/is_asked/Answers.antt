use Rattle.std.proofs.Common.{sym, ◌∙◌, ap}
use Rattle.nd_slaac.specs.AddressKept.{Address}
use Rattle.nd_slaac.proofs.Destinations.{is_asked_by}
use Rattle.nd_slaac.proofs.entry.Entry.is_asked.Goals as goal

pub returns-then-counts : goal.returns-then-counts
returns-then-counts c =
    is_asked_by c.args.counted c.args.destination c.self.inside.addr c.args.self.now c.end_alike.result (c.addresses_are_told_by_numbers.ensures.addr c.self.inside.addr c.as_bytes-bytes.ensures.bytes)
    (ap (λ (a : Address). a.key) c.self.view_is) (sym c.counts.ensures ∙ c.if-counts.true) c.requires c.end_alike.ensures
