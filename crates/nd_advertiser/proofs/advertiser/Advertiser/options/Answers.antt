use Rattle.std.proofs.Common.{◌≡◌, [], ◌++◌, map, length, ◌∙◌, ap, arith}
use Rattle.nd_decode.specs.declared.prefix_info.PrefixInfo.{PrefixInfo}
use Rattle.std.specs.Prelude.{List}
use Rattle.nd_decode.specs.Option.{prefix}
use Rattle.nd_advertiser.specs.Contents.{options_of}
use Rattle.nd_advertiser.proofs.OptionList.{before_offers}
use Rattle.nd_advertiser.proofs.advertiser.Advertiser.options.Goals as goal

pub loop-offer-init : goal.loop-offer-init
loop-offer-init g c =
    let rows : c.into_iter-offer-iterator.result ≡ c.args.self.now.offers = c.into_iter-offer-iterator.ensures.into_iter_gives ∙ c.rows-offer-items.ensures.value in
    let few = c.rows-offer-items.ensures.few in
    let are = ap length c.into_iter-offer-iterator.ensures.into_iter_gives in (
      ap (λ l. l ++ map prefix c.into_iter-offer-iterator.result) c.first_options-options.ensures.value
          ∙ (ap (λ (os : List PrefixInfo). options_of c.args.mac c.args.mtu [] ++ map prefix os) rows ∙ before_offers c.args.mac c.args.mtu c.args.self.now.offers),
      c.first_options-options.ensures.fits,
      omega (arith, c.first_options-options.ensures.short, few, are),
      omega (arith, c.first_options-options.ensures.few, few, are),
    )
