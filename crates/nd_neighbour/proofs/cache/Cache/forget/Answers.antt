use Rattle.std.proofs.Common.{◌≡◌, ◌∙◌, subst}
use Rattle.nd_addr.specs.Number.{number_of}
use Rattle.nd_neighbour.specs.History.{Removed}
use Rattle.nd_neighbour.specs.TableKept.{Table, entry_in}
use Rattle.nd_neighbour.specs.Removal.{Removes, waiting_at}
use Rattle.nd_neighbour.proofs.Forgetting.{removed_gains, waits_by_history}
use Rattle.nd_neighbour.proofs.cache.Cache.forget.Goals as goal

pub returns-clause-stands : goal.returns-clause-stands
returns-clause-stands g c = λ at.
    let key = number_of c.args.addr.0 in
    let new = c.remove.new.entries.items in
    removed_gains key at Removed c.args.self.now.entries new (subst (λ (t : Table). Removes key t.entries new) c.self.view_is c.remove.ensures.removes)

pub returns-clause-packets : goal.returns-clause-packets
returns-clause-packets g c = λ history s.
    let key = number_of c.args.addr.0 in
    subst (λ (t : Table). c.remove.result ≡ waiting_at (entry_in key t.entries)) c.self.view_is c.remove.ensures.packets
    ∙ waits_by_history key c.args.self.now.entries history s

pub returns-clause-value : goal.returns-clause-value
returns-clause-value g c =
    subst (λ (t : Table). c.remove.result ≡ waiting_at (entry_in (number_of c.args.addr.0) t.entries)) c.self.view_is c.remove.ensures.packets
