-- Where packets to a destination go at a moment, and until when they may be sent there without a question (RFC 4861, sections 5.2 and 7.3.3; the lease is
-- this project's own).
use Rattle.std.specs.Prelude.{◌≡◌, ℕ, ◌+◌, Bool, ◌&&◌, if◌then◌else◌, List, Option, Some, None}
use Rattle.std.specs.Option.{option_map}
use Rattle.nd_addr.specs.declared.addr.Addr.{Addr}
use Rattle.nd_addr.specs.declared.role.Role.{Role}
use Rattle.nd_addr.specs.declared.role.Role.TheVariants.{Host, Router}
use Rattle.nd_addr.specs.Kind.{multicast_prefix}
use Rattle.nd_addr.specs.Number.{holds, number_of}
use Rattle.nd_addr.specs.Prefix.{PrefixValue}
use Rattle.nd_addr.specs.Same.{same_prefix}
use Rattle.nd_compose.specs.Frames.{multicast_mac}
use Rattle.nd_table.specs.declared.lasting.Lasting.{Lasting}
use Rattle.nd_table.specs.Listing.{Lists}
use Rattle.nd_neighbour.specs.declared.shown.Reachability.{Reachability}
use Rattle.nd_neighbour.specs.declared.shown.Reachability.TheVariants.{Stale}
use Rattle.nd_neighbour.specs.History.{story}
use Rattle.nd_neighbour.specs.Shown.{Seen, is_leased, seen_of}
use Rattle.nd_nexthop.specs.NextHop.{NextHop, direct, via, no_route}
use Rattle.nd_nexthop.specs.NextHopKept.{hop_of}
use Rattle.nd_routers.specs.OnLinkKept.{least_end}
use Rattle.nd_chronicle.specs.Happening.{Chronicle}
use Rattle.nd_chronicle.specs.Histories.{neighbour_history, prefix_history}
use Rattle.nd_chronicle.specs.NextHop.{IsHopOf}
use Rattle.nd_chronicle.specs.OwnAddress.{is_up}
use Rattle.nd_chronicle.specs.Start.{Start}
use Rattle.nd_node.specs.declared.path.Path.{Path}
use Rattle.nd_node.specs.Moments.{earlier}
use Rattle.nd_node.specs.Node.{NextDue}

-- the next hop, the link-layer address and the state of the neighbour that packets go to, where they are known, and the end of the lease
pub record PathSeen : Type 0 where
  pub next : NextHop
  pub mac : Option ℕ
  pub state : Option Reachability
  pub until : ℕ

-- the lease of a path ends at once, or where something is due, and before that where a further moment comes
abbrev pub lease : Bool → ℕ → ℕ → Option ℕ → ℕ
lease leased now due end = if leased then earlier end due else now

-- of a neighbour: where it is no longer REACHABLE, and where an on-link prefix ends (at a host)
abbrev pub path_by : Bool → ℕ → ℕ → Option ℕ → NextHop → Option Seen → PathSeen
path_by up now due prefix_end next None = record { next = next; mac = None; state = None; until = now }
path_by up now due prefix_end next (Some seen) = record {
  next = next;
  mac = seen.mac;
  state = Some seen.state;
  until = lease (up && is_leased seen.state) now (earlier (option_map (λ left. now + left) seen.left) due) prefix_end;
}

-- of a multicast destination: where something is due (RFC 2464, section 7)
abbrev pub path_to_all : Bool → ℕ → ℕ → Addr → PathSeen
path_to_all up now due destination = record { next = direct; mac = Some (number_of (multicast_mac destination).0); state = None; until = lease up now due None }

-- the neighbour of the address, by the chronicle
abbrev pub neighbour_at : Chronicle → ℕ → ℕ → Option Seen
neighbour_at c now key = seen_of key (story key (neighbour_history c)) now

-- by the next hop
abbrev pub path_of : Bool → Chronicle → ℕ → ℕ → Option ℕ → NextHop → Addr → PathSeen
path_of up c now due prefix_end no_route destination = record { next = no_route; mac = None; state = None; until = now }
path_of up c now due prefix_end direct destination =
    if holds multicast_prefix destination.0 then path_to_all up now due destination
    else path_by up now due prefix_end direct (neighbour_at c now (number_of destination.0))
path_of up c now due prefix_end (via key) destination = path_by up now due prefix_end (via key) (neighbour_at c now key)

-- on-link prefixes decide at a host alone
abbrev pub first_end : Role → List (Lasting PrefixValue) → Option ℕ
first_end Host prefixes = least_end prefixes
first_end Router prefixes = None

-- It is the path of the destination at the moment.
pub record IsPath (start : Start) (c : Chronicle) (now : ℕ) (destination : Addr) (path : PathSeen) : Type 0 where
  pub hop : IsHopOf start start.role c now destination path.next
  pub prefixes : List (Lasting PrefixValue)
  pub standing : Lists same_prefix (prefix_history c) now prefixes
  pub due : ℕ
  pub next_due : NextDue start c due
  pub path_is : path ≡ path_of (is_up start c) c now due (first_end start.role prefixes) path.next destination

-- At a moment of the lease the path is the same but for the state of the neighbour, which isn't STALE.
pub record Lasts (start : Start) (c : Chronicle) (now : ℕ) (destination : Addr) (path : PathSeen) : Type 0 where
  pub later : PathSeen
  pub is_path : IsPath start c now destination later
  pub next : later.next ≡ path.next
  pub mac : later.mac ≡ path.mac
  pub state : later.state ≡ Some Stale → ⊥

-- what a contract sees of a path
abbrev pub path_in : Path → PathSeen
path_in path = record { next = hop_of path.hop; mac = option_map (λ mac. number_of mac.0) path.mac; state = path.state; until = path.until }
