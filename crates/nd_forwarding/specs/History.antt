-- What happened to a router's routes and Redirects, the newest first.
use Rattle.std.specs.Prelude.{ℕ}
use Rattle.nd_addr.specs.Prefix.{PrefixValue}
use Rattle.nd_forwarding.specs.declared.route.Route.{Route}

pub data Row : Type 0 where
  -- a route was put: where packets to the addresses of the prefix go
  RoutePut : (prefix : PrefixValue) (route : Route) → Row
  -- a Redirect was made at the moment, in milliseconds (RFC 4861, section 8.2)
  RedirectMade : (at : ℕ) → Row
