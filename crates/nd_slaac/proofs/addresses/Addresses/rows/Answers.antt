use Rattle.std.proofs.Common.{◌∙◌, ap, map}
use Rattle.nd_slaac.specs.Left.{addresses_left}
use Rattle.nd_slaac.specs.ShownKept.{seen}
use Rattle.nd_slaac.specs.TableKept.{Table}
use Rattle.nd_slaac.proofs.Showing.{lists_all}
use Rattle.nd_slaac.proofs.addresses.Addresses.rows.Goals as goal

pub returns-clause-lists : goal.returns-clause-lists
returns-clause-lists g c = λ history s.
    let now = c.args.now in
    lists_all now c.args.self.now.addresses history (addresses_left c.new.result)
    (c.new.ensures ∙ (ap (map (seen now)) c.deref.ensures.value ∙ ap (λ (t : Table). map (seen now) t.addresses) c.self.view_is)) s
