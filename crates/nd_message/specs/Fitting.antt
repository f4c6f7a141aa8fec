-- Which messages are well formed, part by part.
use Rattle.std.specs.Prelude.{◌≡◌, ℕ, ◌+◌, ◌%◌, ◌^◌, ◌<◌, ◌≤◌, List, length, None}
use Rattle.std.specs.List.{flat_map, AllByRecursion}
use Rattle.nd_addr.specs.Bytes.{IsBytes, AreBytes}
use Rattle.nd_addr.specs.Prefix.{IsPrefix}
use Rattle.nd_decode.specs.declared.router_advertisement.RouterAdvertisement.{RouterAdvertisement}
use Rattle.nd_decode.specs.declared.body.Body.{Body}
use Rattle.nd_decode.specs.declared.body.Body.TheVariants as bodies
use Rattle.nd_decode.specs.declared.prefix_info.PrefixInfo.{PrefixInfo}
use Rattle.nd_decode.specs.Option.{Said, slla, tlla, prefix, redirected, mtu, rdnss, dnssl, other, known_of}
use Rattle.nd_message.specs.Spelling.{piece_of, other_piece}
use Rattle.nd_message.specs.Rdnss.{FitsRdnss}
use Rattle.nd_message.specs.Dnssl.{FitsDnssl}
use Rattle.nd_message.specs.WellFormed.{IsMediumAtZero}

-- whole units of 8 bytes with the type, the length and six bytes that are reserved, 255 at most
pub record FitsRedirected (packet : List ℕ) : Type 0 where
  pub bytes : IsBytes packet
  pub most : length packet ≤ 2032
  pub eights : length packet % 8 ≡ 0

-- a piece of this type, with these bytes behind its length, is whole and no known option
pub record IsOther (kind : ℕ) (rest : List ℕ) : Type 0 where
  pub least : 6 ≤ length rest
  pub most : length rest ≤ 2038
  pub eights : length rest % 8 ≡ 6
  pub unknown : known_of (other_piece kind rest) ≡ None

-- a prefix, and two numbers of four bytes
pub record FitsPrefix (p : PrefixInfo) : Type 0 where
  pub prefix_is : IsPrefix p.prefix.address.0 p.prefix.length
  pub valid : p.valid_lifetime < 2 ^ 32
  pub preferred : p.preferred_lifetime < 2 ^ 32

-- some piece says the option
abbrev pub FitsOption : Said → Type 0
FitsOption (slla mac) = AreBytes 6 mac.0
FitsOption (tlla mac) = AreBytes 6 mac.0
FitsOption (prefix p) = FitsPrefix p
FitsOption (redirected packet) = FitsRedirected packet
FitsOption (mtu n) = n < 2 ^ 32
FitsOption (rdnss lifetime servers) = FitsRdnss lifetime servers
FitsOption (dnssl lifetime names) = FitsDnssl lifetime names
FitsOption (other kind rest) = (kind < 256) × IsBytes rest × IsOther kind rest

-- numbers of one, two and four bytes, and Medium where the router lifetime is 0
pub record FitsRouterAdvertisement (r : RouterAdvertisement) : Type 0 where
  pub hop_limit : r.hop_limit < 256
  pub lifetime : r.router_lifetime < 2 ^ 16
  pub reachable : r.reachable_time < 2 ^ 32
  pub retrans : r.retrans_timer < 2 ^ 32
  pub medium : IsMediumAtZero r

-- the fields can hold the body, and it may be sent
abbrev pub FitsBody : Body → Type 0
FitsBody bodies.Rs = Unit {0}
FitsBody (bodies.Ra r) = FitsRouterAdvertisement r
FitsBody (bodies.Ns n) = AreBytes 16 n.target.0
FitsBody (bodies.Na n) = AreBytes 16 n.target.0
FitsBody (bodies.Redirect r) = AreBytes 16 r.target.0 × AreBytes 16 r.destination.0

-- the options fit, and so do their pieces behind this many bytes
pub record FitsBehind (len : ℕ) (options : List Said) : Type 0 where
  pub each : AllByRecursion FitsOption options
  pub most : len + length (flat_map piece_of options) ≤ 65535
