-- Which events are taken whatever memory there is, once all that is due up to them is done: those that report no more than there is room for.
use Rattle.std.specs.Prelude.{◌≡◌, true, is_some, if◌then◌else◌, ℕ, ◌+◌, ◌≤◌, ◌⊎◌, List, [], ◌∷◌, length}
use Rattle.nd_addr.specs.declared.addr.Addr.{Addr}
use Rattle.nd_addr.specs.declared.why.Why.{Why}
use Rattle.nd_addr.specs.Kind.{multicast_prefix}
use Rattle.nd_addr.specs.Number.{holds, number_of}
use Rattle.nd_decode.specs.Option.{Said}
use Rattle.nd_decode.specs.Reading.{options_read}
use Rattle.nd_decode.specs.declared.body.Body.TheVariants as bodies
use Rattle.nd_decode.specs.declared.router_advertisement.RouterAdvertisement.{RouterAdvertisement}
use Rattle.nd_validity.specs.Hearing.{Hears, valid}
use Rattle.nd_dns.specs.DnsKept.{new_names}
use Rattle.nd_neighbour.specs.EntryKept.{NeighbourEntry}
use Rattle.nd_neighbour.specs.NewsKept.{told_at}
use Rattle.nd_neighbour.specs.Removal.{waiting_at}
use Rattle.nd_neighbour.specs.TableKept.{entry_in}
use Rattle.nd_packet.specs.Waiting.{max_waiting}
use Rattle.nd_nexthop.specs.NextHop.{NextHop, direct, no_route, via}
use Rattle.nd_chronicle.specs.Start.{Start}
use Rattle.nd_chronicle.specs.Happening.{Chronicle, Passed, Refusal, Refused}
use Rattle.nd_chronicle.specs.Reading.{reading_of}
use Rattle.nd_chronicle.specs.Hearing.{IsHeard, drops}
use Rattle.nd_chronicle.specs.NextHop.{IsHopOf}
use Rattle.nd_chronicle.specs.Event as events
use Rattle.nd_node.specs.declared.node.Node.{Node}

-- the frame is dropped, and there is a place for its reason
pub record IsDropped (start : Start) (c : Chronicle) (now : ℕ) (frame : List ℕ) (places : ℕ) : Type 0 where
  pub why : Why
  pub heard : IsHeard start ((now, Passed) ∷ c) now frame (drops why)
  pub told : 1 ≤ places

-- an advertisement that adds no search name: there are places for itself, a router that leaves, the packets that wait for its sender, and its address,
-- if a caller waits for that, and with the policy `speakers` for a neighbour that gives way, and what waits for that one, and with `parts` for each limit of
-- which a part is passed over
pub record AddsNoName {R A : Type 0} (node : Node R A) (now : ℕ) (source : Addr) (options : List Said) (places : ℕ) : Type 0 where
  pub names : new_names now options node.dns ≡ []
  pub told : told_at (entry_in (number_of source.0) node.neighbours.entries) + 2 + (if node.policies.speakers then max_waiting + 1 else 0) + (if node.policies.parts then 6 else 0) ≤ places

-- the frame is such an advertisement, as the policies read its options
pub record IsNameless {R A : Type 0} (node : Node R A) (now : ℕ) (frame : List ℕ) (places : ℕ) : Type 0 where
  pub source : Addr
  pub destination : Addr
  pub ra : RouterAdvertisement
  pub options : List Said
  pub hears : Hears frame node.role (valid source destination (record { body = bodies.Ra ra; options = options }))
  pub adds : AddsNoName node now source (options_read (reading_of node.policies) options) places

-- a table that is cleared without a word
abbrev pub TellsNothing : events.Clearable → Type 0
TellsNothing events.ClearPrefixes = Unit {0}
TellsNothing events.ClearRedirects = Unit {0}
TellsNothing events.ClearDns = Unit {0}
TellsNothing _ = ⊥

-- packets to the destination go to no neighbour, or to one that has an entry
abbrev pub NeedsNoEntry : NextHop → Addr → List NeighbourEntry → Type 0
NeedsNoEntry no_route destination entries = Unit {0}
NeedsNoEntry direct destination entries = (holds multicast_prefix destination.0 ≡ true) ⊎ (is_some (entry_in (number_of destination.0) entries) ≡ true)
NeedsNoEntry (via key) destination entries = is_some (entry_in key entries) ≡ true

-- they do, and there is a place for the path
pub record IsAnsweredAtOnce {R A : Type 0} (start : Start) (c : Chronicle) (node : Node R A) (now : ℕ) (destination : Addr) (places : ℕ) : Type 0 where
  pub next : NextHop
  pub hop : IsHopOf start start.role ((now, Passed) ∷ c) now destination next
  pub entry : NeedsNoEntry next destination node.neighbours.entries
  pub told : 1 ≤ places

-- the event asks a node that stands for a chronicle for no memory, where there are so many places for what is reported
abbrev pub AsksForNone : {R A : Type 0} → Start → Chronicle → Node R A → ℕ → ℕ → events.Event → Type 0
AsksForNone start c node now places events.Passes = Unit {0}
AsksForNone start c node now places (events.Receives frame) = IsDropped start c now frame places ⊎ IsNameless node now frame places
AsksForNone start c node now places (events.Resolves destination) = IsAnsweredAtOnce start c node now destination places
AsksForNone start c node now places (events.Confirms neighbour) = Unit {0}
AsksForNone start c node now places (events.Forgets neighbour) = length (waiting_at (entry_in (number_of neighbour.0) node.neighbours.entries)) ≤ places
AsksForNone start c node now places (events.Clears table) = TellsNothing table
AsksForNone start c node now places (events.Sets own) = 1 ≤ places
AsksForNone start c node now places (events.Withdraws address) = 1 ≤ places
AsksForNone start c node now places _ = ⊥

-- what adds to a chronicle, once time has passed, adds a refusal alone
abbrev pub AddsRefusal : ℕ → Chronicle → (Chronicle → Chronicle → Type 0) → Type 0
AddsRefusal now c Adds = (why : Refusal) × Adds ((now, Passed) ∷ c) ((now, Refused why) ∷ (now, Passed) ∷ c)
