-- A route that is replaced where it stands.
use Rattle.std.proofs.Common.{◌≡◌, ℕ, List, position, Some, sym}
use Rattle.std.specs.Map.{keys_of}
use Rattle.indexmap.specs.IndexMap.{insert_entry}
use Rattle.indexmap.specs.Layout.{set_value_at}
use Rattle.indexmap.proofs.MapLemmas.{Found-position, insert_entry-first}
use Rattle.nd_addr.specs.Prefix.{PrefixValue}
use Rattle.nd_addr.specs.Same.{same_prefix}
use Rattle.nd_forwarding.specs.declared.route.Route.{Route}

pub set_there : (p : PrefixValue) (r : Route) (es : List (PrefixValue × Route)) (i : ℕ) → Some i ≡ position (same_prefix p) (keys_of es) → set_value_at es i r ≡ insert_entry same_prefix es p r
set_there p r es i h = sym (insert_entry-first same_prefix p r es i (Found-position (same_prefix p) es i (sym h)).first)
