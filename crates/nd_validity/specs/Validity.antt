-- What makes a message invalid that is well spelled (RFC 4861, sections 6.1, 7.1 and 8.1): one statement for each reason, each a
-- test of the message with its source and its destination. Which role takes a message is asked last, and by itself.
use Rattle.std.specs.Prelude.{Bool, true, false, ◌&&◌, ◌||◌, not, bytes_eq, List, [], ◌∷◌, Option, Some, None, if◌then◌else◌}
use Rattle.std.specs.List.{list_any}
use Rattle.nd_addr.specs.Kind.{multicast_prefix, link_local_prefix, unspecified_address, solicited_node_of}
use Rattle.nd_addr.specs.Number.{holds}
use Rattle.nd_addr.specs.declared.addr.Addr.{Addr}
use Rattle.nd_addr.specs.declared.role.Role.{Role}
use Rattle.nd_addr.specs.declared.role.Role.TheVariants.{Host, Router}
use Rattle.nd_addr.specs.declared.why.Why.{Why}
use Rattle.nd_addr.specs.declared.why.Why.TheVariants.{Source, Target, UnspecifiedSlla, NotSolicitedNode, SolicitedMulticast, RedirectTarget, RedirectDestination}
use Rattle.nd_decode.specs.Option.{Said, slla}
use Rattle.nd_decode.specs.Message.{Parts}
use Rattle.nd_decode.specs.declared.body.Body.{Body}
use Rattle.nd_decode.specs.declared.body.Body.TheVariants as bodies

-- what routers alone send, from their link-local addresses: Router Advertisements and Redirects (RFC 4861, sections 6.1.2
-- and 8.1)
abbrev pub is_of_routers : Body → Bool
is_of_routers (bodies.Ra r) = true
is_of_routers (bodies.Redirect r) = true
is_of_routers _ = false

-- Source: a multicast address, or, of what routers send, one that is not link-local (RFC 4861, sections 6.1.2 and 8.1)
abbrev pub has_bad_source : Addr → Body → Bool
has_bad_source source body = holds multicast_prefix source.0 || (is_of_routers body && not (holds link_local_prefix source.0))

-- Target: a multicast target of a Neighbor Solicitation or Advertisement (RFC 4861, sections 7.1.1 and 7.1.2)
abbrev pub has_bad_target : Body → Bool
has_bad_target (bodies.Ns n) = holds multicast_prefix n.target.0
has_bad_target (bodies.Na n) = holds multicast_prefix n.target.0
has_bad_target _ = false

-- solicitations, of routers and of neighbors
abbrev pub is_solicitation : Body → Bool
is_solicitation bodies.Rs = true
is_solicitation (bodies.Ns n) = true
is_solicitation _ = false

-- a Source Link-Layer Address
abbrev pub is_slla : Said → Bool
is_slla (slla mac) = true
is_slla _ = false

-- UnspecifiedSlla: a solicitation from :: with a Source Link-Layer Address (RFC 4861, sections 6.1.1 and 7.1.1)
abbrev pub has_unspecified_slla : Addr → Parts → Bool
has_unspecified_slla source message =
    bytes_eq source.0 unspecified_address && is_solicitation message.body && list_any is_slla message.options

-- a solicited-node multicast address: that of its own low 24 bits (RFC 4291, section 2.7.1)
abbrev pub is_solicited_node : Addr → Bool
is_solicited_node address = bytes_eq address.0 (solicited_node_of address.0)

-- NotSolicitedNode: a Neighbor Solicitation from :: to another than a solicited-node address (RFC 4861, section 7.1.1)
abbrev pub misses_solicited_node : Addr → Addr → Body → Bool
misses_solicited_node source destination (bodies.Ns n) = bytes_eq source.0 unspecified_address && not (is_solicited_node destination)
misses_solicited_node source destination _ = false

-- SolicitedMulticast: a Neighbor Advertisement that says it answers a solicitation, to a multicast address (RFC 4861, section 7.1.2)
abbrev pub is_solicited_multicast : Addr → Body → Bool
is_solicited_multicast destination (bodies.Na n) = n.solicited && holds multicast_prefix destination.0
is_solicited_multicast destination _ = false

-- RedirectTarget: neither link-local nor the destination that is redirected (RFC 4861, section 8.1)
abbrev pub has_bad_redirect_target : Body → Bool
has_bad_redirect_target (bodies.Redirect r) = not (holds link_local_prefix r.target.0) && not (bytes_eq r.target.0 r.destination.0)
has_bad_redirect_target _ = false

-- RedirectDestination: a multicast address (RFC 4861, section 8.1)
abbrev pub redirects_multicast : Body → Bool
redirects_multicast (bodies.Redirect r) = holds multicast_prefix r.destination.0
redirects_multicast _ = false

-- the message has this fault
abbrev pub has_fault : Addr → Addr → Parts → Why → Bool
has_fault source destination message Source = has_bad_source source message.body
has_fault source destination message Target = has_bad_target message.body
has_fault source destination message UnspecifiedSlla = has_unspecified_slla source message
has_fault source destination message NotSolicitedNode = misses_solicited_node source destination message.body
has_fault source destination message SolicitedMulticast = is_solicited_multicast destination message.body
has_fault source destination message RedirectTarget = has_bad_redirect_target message.body
has_fault source destination message RedirectDestination = redirects_multicast message.body
has_fault source destination message _ = false

-- the order in which they are looked for
abbrev pub faults : List Why
faults = Source ∷ Target ∷ UnspecifiedSlla ∷ NotSolicitedNode ∷ SolicitedMulticast ∷ RedirectTarget ∷ RedirectDestination ∷ []

-- the first of some reasons that passes a test
abbrev pub first_of : (Why → Bool) → List Why → Option Why
first_of test [] = None
first_of test (why ∷ whys) = if test why then Some why else first_of test whys

-- the first fault of a message
abbrev pub fault_of : Addr → Addr → Parts → Option Why
fault_of source destination message = first_of (has_fault source destination message) faults

-- NotForUs: hosts take no Router Solicitation (RFC 4861, section 6.2.6), and routers neither a Router Advertisement, which hosts process
-- (section 6.3.4), nor a Redirect (section 8.2)
abbrev pub is_not_for : Role → Body → Bool
is_not_for Host bodies.Rs = true
is_not_for Router body = is_of_routers body
is_not_for Host _ = false
