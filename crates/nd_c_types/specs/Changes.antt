-- The tables that what happened may have changed, as C sees them: enum nd_change. A table stands for its history, so what adds no row to that leaves it.
use Rattle.std.specs.Prelude.{ℕ, ◌+◌, ◌*◌, Bool, true, false}
use Rattle.nd_decode.specs.declared.body.Body.{Body}
use Rattle.nd_decode.specs.declared.body.Body.TheVariants as bodies
use Rattle.nd_neighbour.specs.History as neighbours
use Rattle.nd_chronicle.specs.Hearing.{is_redirect}
use Rattle.nd_chronicle.specs.Happening.{Happening, ForReachableTime, Drew, Heard, Neighbour, Address, LeftRouter, Unlisted, ClearedPrefixes, ClearedRedirects, ClearedDns}
use Rattle.nd_c_types.specs.Numbers.{flag_number}

abbrev pub is_advertisement : Body → Bool
is_advertisement (bodies.Ra ra) = true
is_advertisement _ = false

-- a neighbour was not resolved or not reached (RFC 4861, sections 6.3.6 and 7.3.3)
abbrev pub is_failure : neighbours.RowKind → Bool
is_failure (neighbours.Forgot neighbours.Failed) = true
is_failure _ = false

-- the default routers (RFC 4861, sections 6.3.4, 6.3.5 and 6.3.6)
abbrev pub changes_routers : Happening → Bool
changes_routers (Heard source destination message) = is_advertisement message.body
changes_routers (Neighbour key kind) = is_failure kind
changes_routers (LeftRouter key) = true
changes_routers (Unlisted key) = true
changes_routers _ = false

-- the prefixes on the link (RFC 4861, section 6.3.4)
abbrev pub changes_prefixes : Happening → Bool
changes_prefixes (Heard source destination message) = is_advertisement message.body
changes_prefixes ClearedPrefixes = true
changes_prefixes _ = false

-- the own addresses: what a Router Advertisement forms, or renews, has rows of its own, which aren't reported (RFC 4862, section 5.5.3)
abbrev pub changes_addresses : Happening → Bool
changes_addresses (Heard source destination message) = is_advertisement message.body
changes_addresses (Address key kind) = true
changes_addresses _ = false

-- the DNS servers, and likewise the search names (RFC 8106, section 6.1)
abbrev pub changes_dns : Happening → Bool
changes_dns (Heard source destination message) = is_advertisement message.body
changes_dns ClearedDns = true
changes_dns _ = false

-- the kept redirects (RFC 4861, sections 6.3.5, 7.3.3 and 8.3)
abbrev pub changes_redirects : Happening → Bool
changes_redirects (Heard source destination message) = is_redirect message.body
changes_redirects (Neighbour key kind) = is_failure kind
changes_redirects (LeftRouter key) = true
changes_redirects ClearedRedirects = true
changes_redirects _ = false

-- the parameters of the link (RFC 4861, section 6.3.4)
abbrev pub changes_parameters : Happening → Bool
changes_parameters (Heard source destination message) = is_advertisement message.body
changes_parameters (Drew ForReachableTime value) = true
changes_parameters _ = false

-- the sum of the numbers of these tables
abbrev pub changes_number : Happening → ℕ
changes_number what =
    flag_number (changes_routers what) + 2 * flag_number (changes_prefixes what) + 4 * flag_number (changes_addresses what) + 24 * flag_number (changes_dns what)
    + 32 * flag_number (changes_redirects what) + 64 * flag_number (changes_parameters what)
