-- The prefix options of a message, by the first of them.
use Rattle.std.proofs.Common.{◌≡◌, List, [], ◌∷◌, Option, Some, None, refl}
use Rattle.nd_decode.specs.declared.prefix_info.PrefixInfo.{PrefixInfo}
use Rattle.nd_decode.specs.Option.{Said, slla, tlla, prefix, redirected, mtu, rdnss, dnssl, other}
use Rattle.nd_decode.specs.OfType.{first_prefix}
use Rattle.nd_slaac.specs.PrefixOption.{prefixes_in}

abbrev pub from_first : Option (PrefixInfo × List Said) → List PrefixInfo
from_first None = []
from_first (Some (info, options)) = info ∷ prefixes_in options

pub prefixes_by_first : (options : List Said) → prefixes_in options ≡ from_first (first_prefix options)
prefixes_by_first [] = refl
prefixes_by_first (prefix _ ∷ options) = refl
prefixes_by_first (slla _ ∷ options) = prefixes_by_first options
prefixes_by_first (tlla _ ∷ options) = prefixes_by_first options
prefixes_by_first (redirected _ ∷ options) = prefixes_by_first options
prefixes_by_first (mtu _ ∷ options) = prefixes_by_first options
prefixes_by_first (rdnss _ _ ∷ options) = prefixes_by_first options
prefixes_by_first (dnssl _ _ ∷ options) = prefixes_by_first options
prefixes_by_first (other _ _ ∷ options) = prefixes_by_first options
