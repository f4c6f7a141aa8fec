use Rattle.std.proofs.Common.{◌∙◌, sym, ap, ℕ, [], ◌∷◌, length}
use Rattle.std.specs.Prelude.{nat_le}
use Rattle.std.proofs.Math.Bool.{and-true}
use Rattle.std.proofs.lemmas.Bool.Decides.{eqb_tells}
use Rattle.nd_addr.specs.Number.{number_of}
use Rattle.nd_table.specs.Listing.{announced, fits}
use Rattle.nd_table.proofs.Behind.{fits_open}
use Rattle.nd_table.proofs.Steps.{lists_at}
use Rattle.nd_table.proofs.UniqueKeys.{one_listing}
use Rattle.nd_routers.specs.History.{announcements}
use Rattle.nd_routers.specs.Routers.{same}
use Rattle.nd_routers.specs.RoutersKept.{Table}
use Rattle.nd_routers.proofs.routers.Routers.fits.Goals as goal

pub returns-clause-by_history : goal.returns-clause-by_history
returns-clause-by_history g c = λ history es s l.
    let now = c.args.now in
    let told = (number_of c.args.source.0, c.args.lifetime) ∷ [] in
    let limit = c.args.self.now.limit in
    let over = λ (w : ℕ). nat_le (length (announced same now (number_of c.args.source.0) w c.deref.result.now)) c.self.inside.limit in
    c.has_room.ensures
    ∙ (ap over c.from.ensures
    ∙ (sym (and-true (over c.args.lifetime))
    ∙ (ap (λ l. fits same l now told c.deref.result.now) (ap (λ (t : Table). t.limit) c.self.view_is)
    ∙ (ap (λ xs. fits same limit now told xs) (c.deref.ensures.value ∙ ap (λ (t : Table). t.entries) c.self.view_is)
    ∙ (sym (fits_open same eqb_tells limit now told c.args.self.now.entries)
    ∙ ap (λ xs. fits same limit now told xs) (one_listing same eqb_tells (announcements history) now _ _ (lists_at same eqb_tells c.args.self.now.entries (announcements history) now s.routers) l))))))
