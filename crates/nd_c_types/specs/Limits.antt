-- The limits of a node's tables, as C passes and sees them.
use Rattle.std.specs.Prelude.{ℕ, ◌==◌, ◌&&◌, Bool, IsTrue, if◌then◌else◌, List, [], ◌∷◌, slice_index}
use Rattle.byteorder.specs.Endian.{little_from}
use Rattle.nd_chronicle.specs.Start as start
use Rattle.nd_node.specs.Limits.{AreLimits, usual_limits}
use Rattle.nd_c_types.specs.declared.limits.Limits.{Limits}

-- a number, or the usual one in place of 0
abbrev pub number_or : ℕ → ℕ → ℕ
number_or number usual = if number == 0 then usual else number

-- nothing is in the five reserved fields
abbrev pub is_nothing : List ℕ → Bool
is_nothing reserved =
    (slice_index reserved 0 == 0) && (slice_index reserved 1 == 0) && (slice_index reserved 2 == 0) && (slice_index reserved 3 == 0) && (slice_index reserved 4 == 0)

-- the structure behind the first 32 of these bytes, whose numbers have their lowest byte first, as on every machine that the library is made for
abbrev pub limits_at : List ℕ → Limits
limits_at bytes = record {
  neighbours = little_from 32 2 bytes;
  routers = little_from 34 2 bytes;
  prefixes = little_from 36 2 bytes;
  addresses = little_from 38 2 bytes;
  servers = little_from 40 2 bytes;
  names = little_from 42 2 bytes;
  redirects = little_from 44 2 bytes;
  destinations = little_from 46 2 bytes;
  offers = little_from 48 2 bytes;
  routes = little_from 50 2 bytes;
  waiting = little_from 52 2 bytes;
  reserved = little_from 54 2 bytes ∷ little_from 56 2 bytes ∷ little_from 58 2 bytes ∷ little_from 60 2 bytes ∷ little_from 62 2 bytes ∷ [];
}

-- the limits that are asked for
abbrev pub chosen : Limits → start.Limits
chosen l = record {
  neighbours = number_or l.neighbours usual_limits.neighbours;
  routers = number_or l.routers usual_limits.routers;
  prefixes = number_or l.prefixes usual_limits.prefixes;
  addresses = number_or l.addresses usual_limits.addresses;
  servers = number_or l.servers usual_limits.servers;
  names = number_or l.names usual_limits.names;
  redirects = number_or l.redirects usual_limits.redirects;
  destinations = number_or l.destinations usual_limits.destinations;
  offers = number_or l.offers usual_limits.offers;
  routes = number_or l.routes usual_limits.routes;
  waiting = number_or l.waiting usual_limits.waiting;
}

-- each is in its range, and nothing is in the reserved fields
pub record AreChosen (l : Limits) : Type 0 where
  pub limits : AreLimits (chosen l)
  pub reserved : IsTrue (is_nothing l.reserved)

-- the structure of limits
abbrev pub limits_row : start.Limits → Limits
limits_row limits = record {
  neighbours = limits.neighbours;
  routers = limits.routers;
  prefixes = limits.prefixes;
  addresses = limits.addresses;
  servers = limits.servers;
  names = limits.names;
  redirects = limits.redirects;
  destinations = limits.destinations;
  offers = limits.offers;
  routes = limits.routes;
  waiting = limits.waiting;
  reserved = 0 ∷ 0 ∷ 0 ∷ 0 ∷ 0 ∷ [];
}
