use Rattle.std.proofs.Common.{◌≡◌, List, Option, None, Some, sym, ◌∙◌, ap, arith}
use Rattle.std.specs.Prelude.{slice_get}
use Rattle.std.specs.Option.{option_map}
use Rattle.nd_decode.specs.declared.prefix_info.PrefixInfo.{PrefixInfo}
use Rattle.nd_c_types.specs.declared.offer.OfferRow.{OfferRow}
use Rattle.nd_c_types.specs.Offer.{offer_row}
use Rattle.nd_c.specs.Rows.{IsRowOf, OfferAt}
use Rattle.nd_c.proofs.Filled.{filled}
use Rattle.nd_c.proofs.all_rows.offers.Goals as goal

-- the row of an offer, if there is one
row_is : (offer : Option PrefixInfo) (row : Option OfferRow) → IsRowOf (λ (info : PrefixInfo). info) offer_row offer row → row ≡ option_map offer_row offer
row_is offer None is = sym (ap (option_map offer_row) is)
row_is offer (Some row) (info, seen, e) = ap Some e ∙ sym (ap (option_map offer_row) seen)

pub returns : goal.returns
returns c =
    let f = c.fill.ensures in
    record {
      early = λ early. absurd (omega (arith, early, c.if-is_past.ensures));
      rows = λ late. filled (λ (info : PrefixInfo). info) (λ (l : List PrefixInfo). l) offer_row (λ index row. OfferAt index c.args.session.now row) c.offers.result f.1 f.2
          (λ index row is. record { each = λ start chronicle stands. row_is _ row is ∙ ap (λ l. option_map offer_row (slice_get l index)) (c.offers.ensures start chronicle stands) }) f.0 _ _ _ _ f.3 f.4 f.5 f.6;
    }
