use Rattle.std.proofs.Common.{refl, ◌∙◌, ap, subst}
use Rattle.std.specs.Prelude.{OnOk}
use Rattle.nd_advertiser.specs.History.{Offered}
use Rattle.nd_advertiser.specs.Offers.{answer_to}
use Rattle.nd_advertiser.specs.Calls.{prefixes_in}
use Rattle.nd_advertiser.specs.Table.{Table, GainsRow}
use Rattle.nd_advertiser.proofs.Offering.{prefixes_are, gains}
use Rattle.nd_advertiser.proofs.advertiser.Advertiser.put.Goals as goal

pub returns-clause-by_history : goal.returns-clause-by_history
returns-clause-by_history g c = λ history s.
    c.put.ensures.value
    ∙ (ap (λ (t : Table). answer_to t.limit c.args.offer.prefix (prefixes_in t.offers)) c.self.view_is
    ∙ ap (λ ps. answer_to c.args.self.now.limit c.args.offer.prefix ps) (ap prefixes_in s.offers ∙ prefixes_are history))

pub returns-clause-stands : goal.returns-clause-stands
returns-clause-stands g c =
    let new : Table = record { assigned = c.self.inside.assigned; last = c.self.inside.last; advertising = c.self.inside.advertising; limit = c.put.new.self.limit; offers = c.put.new.self.offers } in
    let old : Table = record { assigned = c.self.inside.assigned; last = c.self.inside.last; advertising = c.self.inside.advertising; limit = c.self.inside.offers.limit; offers = c.self.inside.offers.offers } in
    subst (λ (t : Table). OnOk c.put.result (GainsRow t new (Offered c.args.offer))) c.self.view_is (gains c.put.result old new c.args.offer refl refl refl c.put.ensures.put)
