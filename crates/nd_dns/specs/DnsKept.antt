-- Only what is kept, in the code's terms: the lists of servers and of names, and what they are to the announcements.
use Rattle.std.specs.Prelude.{ℕ, List}
use Rattle.nd_addr.specs.declared.addr.Addr.{Addr}
use Rattle.nd_addr.specs.Same.{same_addr}
use Rattle.nd_decode.specs.Option.{Said}
use Rattle.nd_table.specs.declared.lasting.Lasting.{Lasting}
use Rattle.nd_table.specs.Announcements.{Row}
use Rattle.nd_table.specs.Listing.{with_room}
use Rattle.nd_table.specs.ListingKept as lifetimes
use Rattle.nd_table.specs.ListingKept.{announced_all, entered}
use Rattle.nd_dns.specs.AnnouncedServers.{servers_told}
use Rattle.nd_dns.specs.AnnouncedNames.{same_name, names_told}

-- how many servers and how many search names there is room for, and these with their ends, each list in the order in which they came
pub record Table : Type 0 where
  pub server_limit : ℕ
  pub name_limit : ℕ
  pub servers : List (Lasting Addr)
  pub names : List (Lasting (List ℕ))

-- the lists are those of these announcements
pub record Stands (table : Table) (servers : List (Row Addr)) (names : List (Row (List ℕ))) : Type 0 where
  pub servers_stand : lifetimes.Stands same_addr table.servers servers
  pub names_stand : lifetimes.Stands same_name table.names names

-- the servers and the names of a message for which there is room, where the others are passed over
abbrev pub servers_taken : ℕ → List Said → Table → List (Addr × ℕ)
servers_taken now options table = with_room same_addr table.server_limit now (servers_told options) table.servers

abbrev pub names_taken : ℕ → List Said → Table → List (List ℕ × ℕ)
names_taken now options table = with_room same_name table.name_limit now (names_told options) table.names

-- what these make of the lists
abbrev pub after : ℕ → List Said → Table → Table
after now options table = record {
  server_limit = table.server_limit;
  name_limit = table.name_limit;
  servers = announced_all same_addr now (servers_taken now options table) table.servers;
  names = announced_all same_name now (names_taken now options table) table.names;
}

-- the names that announcements add, each as often as it enters, where those without room are passed over
abbrev pub names_added : ℕ → List (List ℕ × ℕ) → Table → List (List ℕ)
names_added now announced table = entered same_name now (with_room same_name table.name_limit now announced table.names) table.names

-- the names that the options of a message add
abbrev pub new_names : ℕ → List Said → Table → List (List ℕ)
new_names now options table = names_added now (names_told options) table
