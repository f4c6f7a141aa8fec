use Rattle.std.proofs.Common.{◌∙◌, Some, None, List, sym, ap}
use Rattle.std.specs.Prelude.{slice_get}
use Rattle.std.specs.Option.{option_map}
use Rattle.nd_decode.specs.declared.prefix_info.PrefixInfo.{PrefixInfo}
use Rattle.nd_c_types.specs.Offer.{offer_row}
use Rattle.nd_c.proofs.Nth.{nth_is}
use Rattle.nd_c.proofs.rows.offer_at.Goals as goal

pub returns-in-Some : goal.returns-in-Some
returns-in-Some c = record {
  each = λ start chronicle stands. ap Some c.of.ensures.value ∙ ap (option_map offer_row) (sym (ap (λ l. slice_get l c.args.index) (sym (c.offers.ensures start chronicle stands)) ∙ nth_is (λ (info : PrefixInfo). info) (λ (l : List PrefixInfo). l) c.args.index c.offers.result c.nth.new.self (Some c.in-Some.offer) c.in-Some.ensures.ran));
}

pub returns-in-None : goal.returns-in-None
returns-in-None c = record {
  each = λ start chronicle stands. ap (option_map offer_row) (sym (ap (λ l. slice_get l c.args.index) (sym (c.offers.ensures start chronicle stands)) ∙ nth_is (λ (info : PrefixInfo). info) (λ (l : List PrefixInfo). l) c.args.index c.offers.result c.nth.new.self None c.in-None.ensures.ran));
}
