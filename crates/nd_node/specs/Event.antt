-- What an event is to a node.
use Rattle.std.specs.Prelude.{◌≡◌, ◌<◌, ◌^◌, ℕ, List, ◌∷◌, ◌++◌, map}
use Rattle.std.specs.List.{AllByRecursion}
use Rattle.nd_chronicle.specs.Start.{Start}
use Rattle.nd_chronicle.specs.Happening.{Chronicle}
use Rattle.nd_chronicle.specs.Shown as shown
use Rattle.nd_chronicle.specs.Event as events
use Rattle.nd_chronicle.specs.Answer.{Answer, answer_to}
use Rattle.nd_chronicle.specs.History.{Follows, Runs}
use Rattle.nd_steps.specs.Packets.{whole_parts}
use Rattle.nd_node.specs.declared.clearing.Clearable.{Clearable}
use Rattle.nd_node.specs.declared.clearing.Clearable.TheVariants as clearables
use Rattle.nd_node.specs.declared.shown.Table.{Table}
use Rattle.nd_node.specs.declared.shown.Table.TheVariants.{Neighbours, Routers, Prefixes, Addresses, Dns, Redirects, Params, Advertise, Routes}
use Rattle.nd_node.specs.declared.event.Event.{Event}
use Rattle.nd_node.specs.declared.event.Event.TheVariants.{Passes, Receives, Sends, Carries, Resolves, Confirms, Forgets, Clears, Advertises, Offers, PutsRoute, Stops, Sets, Withdraws}
use Rattle.nd_node.specs.declared.request.Request.{Request}
use Rattle.nd_node.specs.declared.request.Request.TheVariants as requests
use Rattle.nd_node.specs.Time.{Onward}

abbrev pub table_of : Table → shown.Table
table_of Neighbours = shown.NeighbourTable
table_of Routers = shown.RouterTable
table_of Prefixes = shown.PrefixTable
table_of Addresses = shown.AddressTable
table_of Dns = shown.DnsTable
table_of Redirects = shown.RedirectTable
table_of Params = shown.ParameterTable
table_of Advertise = shown.AdvertiseTable
table_of Routes = shown.RouteTable

abbrev pub clearable_of : Clearable → events.Clearable
clearable_of clearables.Neighbours = events.ClearNeighbours
clearable_of clearables.Routers = events.ClearRouters
clearable_of clearables.Prefixes = events.ClearPrefixes
clearable_of clearables.Redirects = events.ClearRedirects
clearable_of clearables.Dns = events.ClearDns

abbrev pub event_of : {A : Type 0} → Event A → events.Event
event_of Passes = events.Passes
event_of (Receives frame) = events.Receives frame.items
event_of (Sends packet) = events.Sends packet.source packet.destination packet.next_header packet.payload.items
event_of (Carries packet) = events.Carries (whole_parts packet)
event_of (Resolves destination) = events.Resolves destination
event_of (Confirms neighbour) = events.Confirms neighbour
event_of (Forgets neighbour) = events.Forgets neighbour
event_of (Clears table) = events.Clears (clearable_of table)
event_of (Advertises config) = events.Advertises config
event_of (Offers offer) = events.Offers offer
event_of (PutsRoute route) = events.Routes route.prefix route.route
event_of Stops = events.Stops
event_of (Sets own) = events.Sets own
event_of (Withdraws addr) = events.Withdraws addr

-- the event that is asked for, or that the rows of a table are shown
abbrev pub request_of : {A : Type 0} → Request A → events.Event
request_of (requests.Event event) = event_of event
request_of (requests.Shows table) = events.Shows (table_of table)

-- the same of events with their moments
abbrev pub events_of : {A : Type 0} → List (ℕ × Event A) → List (ℕ × events.Event)
events_of list = map (λ e. (e.0, event_of e.1)) list

-- their moments are below 2^62
abbrev pub AreEarly : {A : Type 0} → List (ℕ × Event A) → Type 0
AreEarly list = AllByRecursion (λ e. e.0 < 2 ^ 62) list

-- what follows from the event, with its answer
abbrev pub FollowsBy : ℕ → events.Event → Answer → Start → Chronicle → Chronicle → Type 0
FollowsBy now event answer start c d = Follows start c now event d × (answer ≡ answer_to start c now event d)

-- what follows from the events, one after the other
abbrev pub RunsBy : List (ℕ × events.Event) → Start → Chronicle → Chronicle → Type 0
RunsBy list start c d = Runs start c list d

-- what follows where one of them wasn't finished: those before it came, and a part of the time up to its moment has passed
abbrev pub RunsInPart : List (ℕ × events.Event) → Start → Chronicle → Chronicle → Type 0
RunsInPart list start c d =
    (first later : List (ℕ × events.Event)) × (event : ℕ × events.Event) × (e : Chronicle) × (list ≡ first ++ event ∷ later) × Runs start c first e × Onward event.0 start e d
