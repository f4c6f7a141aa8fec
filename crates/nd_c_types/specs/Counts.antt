-- The numbers of entries of the tables, as C sees them.
use Rattle.std.specs.Prelude.{ℕ, ◌-◌, ◌^◌, min}
use Rattle.nd_chronicle.specs.Start.{Limits}
use Rattle.nd_node.specs.declared.counts.Counts.{Counts}
use Rattle.nd_c_types.specs.Limits.{limits_row}
use Rattle.nd_c_types.specs.declared.counts.CountsRow.{CountsRow}

-- a number of 32 bits: no table has so many entries that it matters
abbrev pub shown : ℕ → ℕ
shown count = min count (2 ^ 32 - 1)

-- the numbers, with the limits of the node
abbrev pub counts_row : Counts → Limits → CountsRow
counts_row counts limits = record {
  neighbours = shown counts.neighbours;
  routers = shown counts.routers;
  prefixes = shown counts.prefixes;
  addresses = shown counts.addresses;
  servers = shown counts.servers;
  names = shown counts.search_names;
  redirects = shown counts.redirects;
  offers = shown counts.offers;
  routes = shown counts.routes;
  reserved = 0;
  limits = limits_row limits;
}
