-- The options of an advertisement, one after the other.
use Rattle.std.proofs.Common.{◌≡◌, ℕ, List, [], ◌∷◌, ◌++◌, map, ap, append-nil}
use Rattle.nd_decode.specs.declared.prefix_info.PrefixInfo.{PrefixInfo}
use Rattle.nd_addr.specs.declared.mac.Mac.{Mac}
use Rattle.nd_decode.specs.Option.{slla, prefix}
use Rattle.nd_advertiser.specs.Contents.{options_of, mtu_options}

-- the options before the offers, and the offers
pub before_offers : (mac : Mac) (n : ℕ) (offers : List PrefixInfo) → options_of mac n [] ++ map prefix offers ≡ options_of mac n offers
before_offers mac n offers = ap (λ l. slla mac ∷ (l ++ map prefix offers)) (append-nil (mtu_options n))
