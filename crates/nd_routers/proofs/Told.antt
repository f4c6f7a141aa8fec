-- A message has no more prefixes than its bytes have room for.
use Rattle.std.proofs.Common.{ℕ, ◌+◌, ◌*◌, ◌≤◌, List, [], ◌∷◌, ◌++◌, length, Option, Some, None, arith}
use Rattle.std.specs.Option.{option_to_list}
use Rattle.nd_addr.specs.Prefix.{PrefixValue}
use Rattle.nd_decode.specs.Option.{Said, slla, tlla, prefix, redirected, mtu, rdnss, dnssl, other}
use Rattle.nd_decode.specs.Pieces.{options_left}
use Rattle.nd_decode.specs.declared.options.Options.{Options}
use Rattle.nd_decode.specs.Sizes.{sizes}
use Rattle.nd_decode.proofs.Sizes.{left_within}
use Rattle.nd_routers.specs.OnLinkPrefixes.{on_link_of, prefixes_in}

at_most_one : (o : Option (PrefixValue × ℕ)) (ps : List (PrefixValue × ℕ)) (n : ℕ) → 32 * length ps ≤ n → 32 * length (option_to_list o ++ ps) ≤ 32 + n
at_most_one None ps n h = omega (arith, h)
at_most_one (Some p) ps n h = omega (arith, h)

prefixes_few : (options : List Said) → 32 * length (prefixes_in options) ≤ sizes options
prefixes_few [] = omega arith
prefixes_few (prefix p ∷ options) = at_most_one (on_link_of (prefix p)) (prefixes_in options) (sizes options) (prefixes_few options)
prefixes_few (slla _ ∷ options) = omega (arith, prefixes_few options)
prefixes_few (tlla _ ∷ options) = omega (arith, prefixes_few options)
prefixes_few (redirected _ ∷ options) = omega (arith, prefixes_few options)
prefixes_few (mtu _ ∷ options) = omega (arith, prefixes_few options)
prefixes_few (rdnss _ _ ∷ options) = omega (arith, prefixes_few options)
prefixes_few (dnssl _ _ ∷ options) = omega (arith, prefixes_few options)
prefixes_few (other _ _ ∷ options) = omega (arith, prefixes_few options)

pub told_few : (o : Options) → 32 * length (prefixes_in (options_left o)) ≤ length o.rest.now
told_few o = omega (arith, prefixes_few (options_left o), left_within o)
