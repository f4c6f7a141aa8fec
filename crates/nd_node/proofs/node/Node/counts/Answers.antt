use Rattle.std.proofs.Common.{ℕ, ◌≤◌, subst}
use Rattle.nd_node.proofs.node.Node.counts.Goals as goal

pub returns-clause-value : goal.returns-clause-value
returns-clause-value g c = record {
  neighbours = c.len-neighbours.ensures.value;
  routers = c.len-routers.ensures.value;
  prefixes = c.len-prefixes.ensures.value;
  addresses = c.len-addresses.ensures.value;
  servers = c.servers_len-servers.ensures.value;
  search_names = c.search_names_len-search_names.ensures.value;
  redirects = c.redirects_len-redirects.ensures.value;
  offers = c.offers_len-offers.ensures.value;
  routes = c.len-routes.ensures.value;
}

pub returns-clause-within : goal.returns-clause-within
returns-clause-within g c start d s = record {
  neighbours = subst (λ (limit : ℕ). c.len-neighbours.result ≤ limit) s.limits.neighbours c.len-neighbours.ensures.few;
  routers = subst (λ (limit : ℕ). c.len-routers.result ≤ limit) s.limits.routers c.len-routers.ensures.few;
  prefixes = subst (λ (limit : ℕ). c.len-prefixes.result ≤ limit) s.limits.prefixes c.len-prefixes.ensures.few;
  addresses = subst (λ (limit : ℕ). c.len-addresses.result ≤ limit) s.limits.addresses c.len-addresses.ensures.few;
  servers = subst (λ (limit : ℕ). c.servers_len-servers.result ≤ limit) s.limits.servers c.servers_len-servers.ensures.few;
  search_names = subst (λ (limit : ℕ). c.search_names_len-search_names.result ≤ limit) s.limits.names c.search_names_len-search_names.ensures.few;
  redirects = subst (λ (limit : ℕ). c.redirects_len-redirects.result ≤ limit) s.limits.redirects c.redirects_len-redirects.ensures.few;
  offers = subst (λ (limit : ℕ). c.offers_len-offers.result ≤ limit) s.router.offer_limit c.offers_len-offers.ensures.few;
  routes = subst (λ (limit : ℕ). c.len-routes.result ≤ limit) s.router.route_limit c.len-routes.ensures.few;
}
