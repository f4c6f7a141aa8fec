use Rattle.std.proofs.Common.{[], ◌∷◌, codes, refl}
use Rattle.clap.specs.Words.{found_of, rows_of}
use Rattle.nd_neighbour.specs.TableKept.{max_neighbours}
use Rattle.nd_routers.specs.Routers.{max_routers}
use Rattle.nd_routers.specs.OnLinkPrefixes.{max_prefixes}
use Rattle.nd_slaac.specs.Room.{max_addresses}
use Rattle.nd_dns.specs.Dns.{max_names, max_servers}
use Rattle.nd_nexthop.specs.History.{max_redirects}
use Rattle.nd_nexthop.specs.Memo.{max_remembered}
use Rattle.nd_advertiser.specs.Offers.{max_offers}
use Rattle.nd_forwarding.specs.Routes.{max_routes}
use Rattle.nd_packet.specs.Waiting.{max_waiting}
use Rattle.ndpctl_args.proofs.Matches.{limit_handed_on}
use Rattle.ndpctl_args.proofs.options.read_limits.Goals as goal

pub returns-in_err-neighbours-clause-wrong : goal.returns-in_err-neighbours-clause-wrong
returns-in_err-neighbours-clause-wrong c =
    limit_handed_on c.from_residual.result 0 (rows_of (found_of c.args.given.now)) c.in_err-neighbours.field-0.0 _ c.from_residual.ensures.1 c.in_err-neighbours.ensures.wrong.0 refl
    (record { numbers = []; good = tt; bad = (codes "neighbours", max_neighbours); next = refl; none = c.in_err-neighbours.ensures.wrong.1 })

pub returns-in_err-routers-clause-wrong : goal.returns-in_err-routers-clause-wrong
returns-in_err-routers-clause-wrong c =
    limit_handed_on c.from_residual-in_err-routers.result 1 (rows_of (found_of c.args.given.now)) c.in_err-routers.field-0.0 _ c.from_residual-in_err-routers.ensures.1 c.in_err-routers.ensures.wrong.0 refl
    (record { numbers = c.in_ok-neighbours.neighbours ∷ []; good = (c.in_ok-neighbours.ensures.found, tt); bad = (codes "routers", max_routers); next = refl; none = c.in_err-routers.ensures.wrong.1 })

pub returns-in_err-prefixes-clause-wrong : goal.returns-in_err-prefixes-clause-wrong
returns-in_err-prefixes-clause-wrong c =
    limit_handed_on c.from_residual-in_err-prefixes.result 2 (rows_of (found_of c.args.given.now)) c.in_err-prefixes.field-0.0 _ c.from_residual-in_err-prefixes.ensures.1 c.in_err-prefixes.ensures.wrong.0 refl
    (record { numbers = c.in_ok-neighbours.neighbours ∷ c.in_ok-routers.routers ∷ []; good = (c.in_ok-neighbours.ensures.found, (c.in_ok-routers.ensures.found, tt)); bad = (codes "prefixes", max_prefixes); next = refl; none = c.in_err-prefixes.ensures.wrong.1 })

pub returns-in_err-addresses-clause-wrong : goal.returns-in_err-addresses-clause-wrong
returns-in_err-addresses-clause-wrong c =
    limit_handed_on c.from_residual-in_err-addresses.result 3 (rows_of (found_of c.args.given.now)) c.in_err-addresses.field-0.0 _ c.from_residual-in_err-addresses.ensures.1 c.in_err-addresses.ensures.wrong.0 refl
    (record { numbers = c.in_ok-neighbours.neighbours ∷ c.in_ok-routers.routers ∷ c.in_ok-prefixes.prefixes ∷ []; good = (c.in_ok-neighbours.ensures.found, (c.in_ok-routers.ensures.found, (c.in_ok-prefixes.ensures.found, tt))); bad = (codes "addresses", max_addresses); next = refl; none = c.in_err-addresses.ensures.wrong.1 })

pub returns-in_err-servers-clause-wrong : goal.returns-in_err-servers-clause-wrong
returns-in_err-servers-clause-wrong c =
    limit_handed_on c.from_residual-in_err-servers.result 4 (rows_of (found_of c.args.given.now)) c.in_err-servers.field-0.0 _ c.from_residual-in_err-servers.ensures.1 c.in_err-servers.ensures.wrong.0 refl
    (record { numbers = c.in_ok-neighbours.neighbours ∷ c.in_ok-routers.routers ∷ c.in_ok-prefixes.prefixes ∷ c.in_ok-addresses.addresses ∷ []; good = (c.in_ok-neighbours.ensures.found, (c.in_ok-routers.ensures.found, (c.in_ok-prefixes.ensures.found, (c.in_ok-addresses.ensures.found, tt)))); bad = (codes "servers", max_servers); next = refl; none = c.in_err-servers.ensures.wrong.1 })

pub returns-in_err-names-clause-wrong : goal.returns-in_err-names-clause-wrong
returns-in_err-names-clause-wrong c =
    limit_handed_on c.from_residual-in_err-names.result 5 (rows_of (found_of c.args.given.now)) c.in_err-names.field-0.0 _ c.from_residual-in_err-names.ensures.1 c.in_err-names.ensures.wrong.0 refl
    (record { numbers = c.in_ok-neighbours.neighbours ∷ c.in_ok-routers.routers ∷ c.in_ok-prefixes.prefixes ∷ c.in_ok-addresses.addresses ∷ c.in_ok-servers.servers ∷ []; good = (c.in_ok-neighbours.ensures.found, (c.in_ok-routers.ensures.found, (c.in_ok-prefixes.ensures.found, (c.in_ok-addresses.ensures.found, (c.in_ok-servers.ensures.found, tt))))); bad = (codes "names", max_names); next = refl; none = c.in_err-names.ensures.wrong.1 })

pub returns-in_err-redirects-clause-wrong : goal.returns-in_err-redirects-clause-wrong
returns-in_err-redirects-clause-wrong c =
    limit_handed_on c.from_residual-in_err-redirects.result 6 (rows_of (found_of c.args.given.now)) c.in_err-redirects.field-0.0 _ c.from_residual-in_err-redirects.ensures.1 c.in_err-redirects.ensures.wrong.0 refl
    (record { numbers = c.in_ok-neighbours.neighbours ∷ c.in_ok-routers.routers ∷ c.in_ok-prefixes.prefixes ∷ c.in_ok-addresses.addresses ∷ c.in_ok-servers.servers ∷ c.in_ok-names.names ∷ []; good = (c.in_ok-neighbours.ensures.found, (c.in_ok-routers.ensures.found, (c.in_ok-prefixes.ensures.found, (c.in_ok-addresses.ensures.found, (c.in_ok-servers.ensures.found, (c.in_ok-names.ensures.found, tt)))))); bad = (codes "redirects", max_redirects); next = refl; none = c.in_err-redirects.ensures.wrong.1 })

pub returns-in_err-destinations-clause-wrong : goal.returns-in_err-destinations-clause-wrong
returns-in_err-destinations-clause-wrong c =
    limit_handed_on c.from_residual-in_err-destinations.result 7 (rows_of (found_of c.args.given.now)) c.in_err-destinations.field-0.0 _ c.from_residual-in_err-destinations.ensures.1 c.in_err-destinations.ensures.wrong.0 refl
    (record { numbers = c.in_ok-neighbours.neighbours ∷ c.in_ok-routers.routers ∷ c.in_ok-prefixes.prefixes ∷ c.in_ok-addresses.addresses ∷ c.in_ok-servers.servers ∷ c.in_ok-names.names ∷ c.in_ok-redirects.redirects ∷ []; good = (c.in_ok-neighbours.ensures.found, (c.in_ok-routers.ensures.found, (c.in_ok-prefixes.ensures.found, (c.in_ok-addresses.ensures.found, (c.in_ok-servers.ensures.found, (c.in_ok-names.ensures.found, (c.in_ok-redirects.ensures.found, tt))))))); bad = (codes "destinations", max_remembered); next = refl; none = c.in_err-destinations.ensures.wrong.1 })

pub returns-in_err-offers-clause-wrong : goal.returns-in_err-offers-clause-wrong
returns-in_err-offers-clause-wrong c =
    limit_handed_on c.from_residual-in_err-offers.result 8 (rows_of (found_of c.args.given.now)) c.in_err-offers.field-0.0 _ c.from_residual-in_err-offers.ensures.1 c.in_err-offers.ensures.wrong.0 refl
    (record { numbers = c.in_ok-neighbours.neighbours ∷ c.in_ok-routers.routers ∷ c.in_ok-prefixes.prefixes ∷ c.in_ok-addresses.addresses ∷ c.in_ok-servers.servers ∷ c.in_ok-names.names ∷ c.in_ok-redirects.redirects ∷ c.in_ok-destinations.destinations ∷ []; good = (c.in_ok-neighbours.ensures.found, (c.in_ok-routers.ensures.found, (c.in_ok-prefixes.ensures.found, (c.in_ok-addresses.ensures.found, (c.in_ok-servers.ensures.found, (c.in_ok-names.ensures.found, (c.in_ok-redirects.ensures.found, (c.in_ok-destinations.ensures.found, tt)))))))); bad = (codes "offers", max_offers); next = refl; none = c.in_err-offers.ensures.wrong.1 })

pub returns-in_err-routes-clause-wrong : goal.returns-in_err-routes-clause-wrong
returns-in_err-routes-clause-wrong c =
    limit_handed_on c.from_residual-in_err-routes.result 9 (rows_of (found_of c.args.given.now)) c.in_err-routes.field-0.0 _ c.from_residual-in_err-routes.ensures.1 c.in_err-routes.ensures.wrong.0 refl
    (record { numbers = c.in_ok-neighbours.neighbours ∷ c.in_ok-routers.routers ∷ c.in_ok-prefixes.prefixes ∷ c.in_ok-addresses.addresses ∷ c.in_ok-servers.servers ∷ c.in_ok-names.names ∷ c.in_ok-redirects.redirects ∷ c.in_ok-destinations.destinations ∷ c.in_ok-offers.offers ∷ []; good = (c.in_ok-neighbours.ensures.found, (c.in_ok-routers.ensures.found, (c.in_ok-prefixes.ensures.found, (c.in_ok-addresses.ensures.found, (c.in_ok-servers.ensures.found, (c.in_ok-names.ensures.found, (c.in_ok-redirects.ensures.found, (c.in_ok-destinations.ensures.found, (c.in_ok-offers.ensures.found, tt))))))))); bad = (codes "routes", max_routes); next = refl; none = c.in_err-routes.ensures.wrong.1 })

pub returns-in_err-waiting-clause-wrong : goal.returns-in_err-waiting-clause-wrong
returns-in_err-waiting-clause-wrong c =
    limit_handed_on c.from_residual-in_err-waiting.result 10 (rows_of (found_of c.args.given.now)) c.in_err-waiting.field-0.0 _ c.from_residual-in_err-waiting.ensures.1 c.in_err-waiting.ensures.wrong.0 refl
    (record { numbers = c.in_ok-neighbours.neighbours ∷ c.in_ok-routers.routers ∷ c.in_ok-prefixes.prefixes ∷ c.in_ok-addresses.addresses ∷ c.in_ok-servers.servers ∷ c.in_ok-names.names ∷ c.in_ok-redirects.redirects ∷ c.in_ok-destinations.destinations ∷ c.in_ok-offers.offers ∷ c.in_ok-routes.routes ∷ []; good = (c.in_ok-neighbours.ensures.found, (c.in_ok-routers.ensures.found, (c.in_ok-prefixes.ensures.found, (c.in_ok-addresses.ensures.found, (c.in_ok-servers.ensures.found, (c.in_ok-names.ensures.found, (c.in_ok-redirects.ensures.found, (c.in_ok-destinations.ensures.found, (c.in_ok-offers.ensures.found, (c.in_ok-routes.ensures.found, tt)))))))))); bad = (codes "waiting", max_waiting); next = refl; none = c.in_err-waiting.ensures.wrong.1 })
