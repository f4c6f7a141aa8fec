-- The texts of messages without their options.
use Rattle.std.specs.Prelude.{ℕ, List, ◌++◌, codes}
use Rattle.std.specs.Fmt.{decimal}
use Rattle.nd_addr.specs.Text.{address_text}
use Rattle.nd_addr.specs.declared.addr.Addr.{Addr}
use Rattle.nd_decode.specs.declared.router_advertisement.RouterAdvertisement.{RouterAdvertisement}
use Rattle.nd_decode.specs.declared.neighbor_advertisement.NeighborAdvertisement.{NeighborAdvertisement}
use Rattle.nd_decode.specs.declared.redirect.Redirect.{Redirect}
use Rattle.nd_decode.specs.declared.body.Body.{Body}
use Rattle.nd_decode.specs.declared.body.Body.TheVariants as bodies
use Rattle.nd_decode.specs.RouterFlags.{router_flags_text}
use Rattle.ndpctl_check.specs.Words.{three_flags_text}

-- an address behind a word
unfoldable pub labelled : List ℕ → Addr → List ℕ
labelled word address = word ++ address_text address.0

-- source and destination
abbrev pub way_text : Addr → Addr → List ℕ
way_text source destination = address_text source.0 ++ codes " " ++ address_text destination.0

-- the three times of a Router Advertisement
abbrev pub times_text : RouterAdvertisement → List ℕ
times_text r = codes " lifetime " ++ decimal r.router_lifetime ++ codes " reachable " ++ decimal r.reachable_time ++ codes " retrans " ++ decimal r.retrans_timer

-- the fields of a Router Advertisement
abbrev pub router_advertisement_text : RouterAdvertisement → List ℕ
router_advertisement_text r = codes " hop " ++ decimal r.hop_limit ++ codes " flags " ++ router_flags_text r.managed r.other r.preference ++ times_text r

-- the fields of a Neighbor Advertisement
abbrev pub neighbor_advertisement_text : NeighborAdvertisement → List ℕ
neighbor_advertisement_text n = codes " flags " ++ three_flags_text n.router n.solicited n.override_flag ++ labelled (codes " target ") n.target

-- the fields of a Redirect
abbrev pub redirect_text : Redirect → List ℕ
redirect_text r = labelled (codes " target ") r.target ++ labelled (codes " destination ") r.destination

-- the text of a message without its options
abbrev pub body_text : Addr → Addr → Body → List ℕ
body_text source destination bodies.Rs = codes "rs " ++ way_text source destination
body_text source destination (bodies.Ra r) = codes "ra " ++ way_text source destination ++ router_advertisement_text r
body_text source destination (bodies.Ns n) = codes "ns " ++ way_text source destination ++ labelled (codes " target ") n.target
body_text source destination (bodies.Na n) = codes "na " ++ way_text source destination ++ neighbor_advertisement_text n
body_text source destination (bodies.Redirect r) = codes "redirect " ++ way_text source destination ++ redirect_text r
