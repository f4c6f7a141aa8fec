-- The words that name tables (the texts are this project's own).
use Rattle.std.specs.Prelude.{ℕ, List, codes}
use Rattle.nd_chronicle.specs.Event.{Clearable, ClearNeighbours, ClearRouters, ClearPrefixes, ClearRedirects, ClearDns}
use Rattle.nd_chronicle.specs.Shown.{Table, NeighbourTable, RouterTable, PrefixTable, AddressTable, DnsTable, RedirectTable, ParameterTable, AdvertiseTable, RouteTable}

-- the word of a table that is shown
abbrev pub table_word : Table → List ℕ
table_word NeighbourTable = codes "neighbours"
table_word RouterTable = codes "routers"
table_word PrefixTable = codes "prefixes"
table_word AddressTable = codes "addresses"
table_word DnsTable = codes "dns"
table_word RedirectTable = codes "redirects"
table_word ParameterTable = codes "params"
table_word AdvertiseTable = codes "advertise"
table_word RouteTable = codes "routes"

-- the word of a table that is cleared
abbrev pub clearable_word : Clearable → List ℕ
clearable_word ClearNeighbours = codes "neighbours"
clearable_word ClearRouters = codes "routers"
clearable_word ClearPrefixes = codes "prefixes"
clearable_word ClearRedirects = codes "redirects"
clearable_word ClearDns = codes "dns"
