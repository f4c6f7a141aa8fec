use Rattle.std.proofs.Common.{◌∙◌, ap}
use Rattle.std.specs.Prelude.{is_some}
use Rattle.nd_addr.specs.Number.{number_of}
use Rattle.nd_table.specs.Listing.{end_in, open_at}
use Rattle.nd_routers.specs.Routers.{same}
use Rattle.nd_routers.proofs.Steps.{holds_at}
use Rattle.nd_routers.proofs.routers.Routers.holds.Goals as goal

pub returns-clause-stands : goal.returns-clause-stands
returns-clause-stands g c = λ history s.
    let key = number_of c.args.source.0 in
    c.stands.ensures
    ∙ (ap (λ es. is_some (end_in same key (open_at c.args.now es))) c.deref.ensures.value
    ∙ (ap (λ t. is_some (end_in same key (open_at c.args.now t.entries))) c.self.view_is
    ∙ holds_at c.args.self.now.entries history c.args.now key s.routers))
