-- Next-hop determination of a host (RFC 4861, section 5.2).
use Rattle.std.specs.Prelude.{ℕ, Bool, ◌||◌, ◌==◌, if◌then◌else◌, List, Option, Some, None, bytes_eq}
use Rattle.nd_addr.specs.Kind.{multicast_prefix, unspecified_address, loopback_address}
use Rattle.nd_addr.specs.Number.{number_of, holds}
use Rattle.nd_nexthop.specs.DefaultRouter.{DefaultRouter, chosen_router}

-- a packet goes to its destination itself, or to the node whose address is this number, or nowhere
pub data NextHop : Type 0 where
  direct : NextHop
  via : ℕ → NextHop
  no_route : NextHop

-- "If the Target and Destination Addresses are the same, the host MUST treat the Target as on-link" (section 8.3)
abbrev pub by_redirect : ℕ → ℕ → NextHop
by_redirect target key = if target == key then direct else via target

-- "Otherwise, the sender selects a router from the Default Router List": none where the list is empty
abbrev pub by_router : Option ℕ → NextHop
by_router None = no_route
by_router (Some router) = via router

-- what comes behind the redirect, if there is one
abbrev pub unless_redirected : Option ℕ → ℕ → NextHop → NextHop
unless_redirected None key rest = rest
unless_redirected (Some target) key rest = by_redirect target key

-- an address to which nothing is sent: the unspecified address is never a destination, and what goes to the loopback address or to one
-- of the node's own addresses never leaves the node (RFC 4291, sections 2.5.2 and 2.5.3)
abbrev pub is_own_or_none : (List ℕ → Bool) → List ℕ → Bool
is_own_or_none own address = bytes_eq address unspecified_address || bytes_eq address loopback_address || own address

-- The next hop of a packet to an address, of a node that has these own addresses, these addresses on its link, these default routers,
-- and this kept redirect of the destination.
abbrev pub hop : (List ℕ → Bool) → (List ℕ → Bool) → List DefaultRouter → Option ℕ → List ℕ → NextHop
hop own on_link routers kept address =
    if is_own_or_none own address then no_route
    else (
    -- "For multicast packets, the next-hop is always the (multicast) destination address and is considered to be on-link."
    if holds multicast_prefix address then direct
    -- "When the sending node has a packet to send, it first examines the Destination Cache", which has "updates learned from Redirect
    -- messages".
    else unless_redirected kept (number_of address)
    -- "If the destination is on-link, the next-hop address is the same as the packet's destination address."
    (if on_link address then direct else by_router (chosen_router routers)))
