use Rattle.std.proofs.Common.{Bool, ◌&&◌, not, ◌∙◌, ap}
use Rattle.nd_slaac.specs.PrefixOption.{is_forming, named_by}
use Rattle.nd_slaac.specs.Calls.{keys_in}
use Rattle.nd_slaac.specs.Room.{would_form}
use Rattle.nd_slaac.specs.TableKept.{Table}
use Rattle.nd_slaac.proofs.Keys.{known_by_history}
use Rattle.nd_slaac.proofs.addresses.Addresses.would_form.Goals as goal

pub returns-clause-by_history : goal.returns-clause-by_history
returns-clause-by_history g c history s =
    let info = c.args.info.now in
    let table = c.args.self.now in
    c.would_form.ensures
    ∙ (ap (λ xs. would_form c.self.inside.mac (keys_in xs) info) c.deref.ensures.value
    ∙ (ap (λ (t : Table). would_form t.mac (keys_in t.addresses) info) c.self.view_is
    ∙ ap (λ (b : Bool). is_forming info && not b) (known_by_history (named_by table.mac info) table.addresses history s)))
