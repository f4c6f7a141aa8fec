-- A table is determined by its word.
use Rattle.std.proofs.Common.{◌≡◌, ◌∙◌, ℕ, ◌<◌, List, [], ◌∷◌, Some, get_or, length, eqb, if◌then◌else◌, ap, sym, refl, arith}
use Rattle.std.specs.Prelude.{slice_get}
use Rattle.ndpctl_run.specs.Table.{clearable_word, table_word}
use Rattle.nd_chronicle.specs.Event.{Clearable, ClearNeighbours, ClearRouters, ClearPrefixes, ClearRedirects, ClearDns}
use Rattle.nd_chronicle.specs.Shown.{Table, NeighbourTable, RouterTable, PrefixTable, AddressTable, DnsTable, RedirectTable, ParameterTable, AdvertiseTable, RouteTable}
use Rattle.nd_node.specs.Event.{clearable_of, table_of}
use Rattle.nd_node.specs.declared.clearing.Clearable as rust_clearable
use Rattle.nd_node.specs.declared.clearing.Clearable.TheVariants as clearables
use Rattle.nd_node.specs.declared.shown.Table as rust
use Rattle.nd_node.specs.declared.shown.Table.TheVariants.{Neighbours, Routers, Prefixes, Addresses, Dns, Redirects, Params, Advertise, Routes}

-- the table of a word, by some of its bytes and its length
abbrev pub told : List ℕ → Table
told word =
    if eqb (length word) 10 then NeighbourTable else
    if eqb (length word) 7 then RouterTable else
    if eqb (length word) 8 then PrefixTable else
    if eqb (length word) 3 then DnsTable else
    if eqb (get_or word 2 0) 100 then (if eqb (get_or word 0 0) 97 then AddressTable else RedirectTable) else
    if eqb (length word) 9 then AdvertiseTable else
    if eqb (get_or word 0 0) 112 then ParameterTable else RouteTable

told_back : (table : Table) → told (table_word table) ≡ table
told_back NeighbourTable = refl
told_back RouterTable = refl
told_back PrefixTable = refl
told_back AddressTable = refl
told_back DnsTable = refl
told_back RedirectTable = refl
told_back ParameterTable = refl
told_back AdvertiseTable = refl
told_back RouteTable = refl

pub one_table : (s t : Table) → table_word s ≡ table_word t → s ≡ t
one_table s t e = sym (told_back s) ∙ ap told e ∙ told_back t

abbrev tables : List rust.Table
tables = Neighbours ∷ Routers ∷ Prefixes ∷ Addresses ∷ Dns ∷ Redirects ∷ Params ∷ Advertise ∷ Routes ∷ []

-- where a table stands among the nine
pub record Place (table : Table) : Type 0 where
  pub at : ℕ
  pub within : at < 9
  pub found : rust.Table
  pub there : slice_get tables at ≡ Some found
  pub is_it : table_of found ≡ table

pub place : (table : Table) → Place table
place NeighbourTable = record { at = 0; within = omega arith; found = Neighbours; there = refl; is_it = refl }
place RouterTable = record { at = 1; within = omega arith; found = Routers; there = refl; is_it = refl }
place PrefixTable = record { at = 2; within = omega arith; found = Prefixes; there = refl; is_it = refl }
place AddressTable = record { at = 3; within = omega arith; found = Addresses; there = refl; is_it = refl }
place DnsTable = record { at = 4; within = omega arith; found = Dns; there = refl; is_it = refl }
place RedirectTable = record { at = 5; within = omega arith; found = Redirects; there = refl; is_it = refl }
place ParameterTable = record { at = 6; within = omega arith; found = Params; there = refl; is_it = refl }
place AdvertiseTable = record { at = 7; within = omega arith; found = Advertise; there = refl; is_it = refl }
place RouteTable = record { at = 8; within = omega arith; found = Routes; there = refl; is_it = refl }

-- ---- a table that is cleared

-- by its length
abbrev told_clearable : List ℕ → Clearable
told_clearable word =
    if eqb (length word) 10 then ClearNeighbours else
    if eqb (length word) 7 then ClearRouters else
    if eqb (length word) 8 then ClearPrefixes else
    if eqb (length word) 9 then ClearRedirects else ClearDns

clearable_back : (table : Clearable) → told_clearable (clearable_word table) ≡ table
clearable_back ClearNeighbours = refl
clearable_back ClearRouters = refl
clearable_back ClearPrefixes = refl
clearable_back ClearRedirects = refl
clearable_back ClearDns = refl

pub one_clearable : (s t : Clearable) → clearable_word s ≡ clearable_word t → s ≡ t
one_clearable s t e = sym (clearable_back s) ∙ ap told_clearable e ∙ clearable_back t

abbrev clearable_tables : List rust_clearable.Clearable
clearable_tables = clearables.Neighbours ∷ clearables.Routers ∷ clearables.Prefixes ∷ clearables.Redirects ∷ clearables.Dns ∷ []

-- where one stands among the five
pub record PlaceToClear (table : Clearable) : Type 0 where
  pub at : ℕ
  pub within : at < 5
  pub found : rust_clearable.Clearable
  pub there : slice_get clearable_tables at ≡ Some found
  pub is_it : clearable_of found ≡ table

pub place_to_clear : (table : Clearable) → PlaceToClear table
place_to_clear ClearNeighbours = record { at = 0; within = omega arith; found = clearables.Neighbours; there = refl; is_it = refl }
place_to_clear ClearRouters = record { at = 1; within = omega arith; found = clearables.Routers; there = refl; is_it = refl }
place_to_clear ClearPrefixes = record { at = 2; within = omega arith; found = clearables.Prefixes; there = refl; is_it = refl }
place_to_clear ClearRedirects = record { at = 3; within = omega arith; found = clearables.Redirects; there = refl; is_it = refl }
place_to_clear ClearDns = record { at = 4; within = omega arith; found = clearables.Dns; there = refl; is_it = refl }
