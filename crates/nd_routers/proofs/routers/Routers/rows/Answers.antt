use Rattle.std.proofs.Common.{◌≡◌, ◌∙◌, ℕ, List, ap}
use Rattle.std.proofs.lemmas.Bool.Decides.{eqb_tells}
use Rattle.nd_table.specs.declared.lasting.Lasting.{Lasting}
use Rattle.nd_table.specs.Listing.{open_at}
use Rattle.nd_table.proofs.Steps.{lists_at}
use Rattle.nd_routers.specs.History.{announcements, preference_of}
use Rattle.nd_routers.specs.Left.{routers_left}
use Rattle.nd_routers.specs.Routers.{same}
use Rattle.nd_routers.specs.RoutersKept.{Table}
use Rattle.nd_routers.specs.ShownKept.{seen_beside}
use Rattle.nd_routers.specs.declared.preferred.Preferred.{Preferred}
use Rattle.nd_routers.proofs.Showing.{seen_paired}
use Rattle.nd_routers.proofs.routers.Routers.rows.Goals as goal

pub returns-clause-lists : goal.returns-clause-lists
returns-clause-lists g c = λ history s.
    let now = c.args.now in
    let table = c.args.self.now in
    let value : routers_left c.new.result ≡ seen_beside now table.entries table.preferences =
    c.new.ensures ∙ (ap (λ (es : List (Lasting ℕ)). seen_beside now es c.deref-2.result.now) c.deref.ensures.value
    ∙ (ap (λ (ps : List Preferred). seen_beside now c.self.inside.entries.items ps) c.deref-2.ensures.value ∙ ap (λ (t : Table). seen_beside now t.entries t.preferences) c.self.view_is)) in (
      open_at now table.entries,
      lists_at same eqb_tells table.entries (announcements history) now s.routers,
      value ∙ (ap (λ (ps : List Preferred). seen_beside now table.entries ps) s.preferred ∙ seen_paired now (λ (k : ℕ). preference_of k history) table.entries),
    )
