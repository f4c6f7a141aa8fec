-- What an event is to a link.
use Rattle.std.specs.Prelude.{◌<◌, ◌^◌, ℕ, List, map}
use Rattle.std.specs.List.{AllByRecursion}
use Rattle.rand_core.specs.Stream.{Stream}
use Rattle.nd_node.specs.Event.{request_of}
use Rattle.nd_link_log.specs.Event as links
use Rattle.nd_link.specs.declared.event.LinkEvent.{LinkEvent}
use Rattle.nd_link.specs.declared.event.LinkEvent.TheVariants.{Passes, Starts, Comes, Delivers}

abbrev pub link_event : {R A : Type 0} → (R → Stream) → LinkEvent R A → links.Event
link_event stream Passes = links.Passes
link_event stream (Starts role mac transmits generator) = links.Starts role mac transmits (stream generator)
link_event stream (Comes node event) = links.Comes node (request_of event)
link_event stream (Delivers node frame) = links.Delivers node frame

-- the same of events with their moments
abbrev pub link_events : {R A : Type 0} → (R → Stream) → List (ℕ × LinkEvent R A) → List (ℕ × links.Event)
link_events stream events = map (λ e. (e.0, link_event stream e.1)) events

-- their moments are below 2^62
abbrev pub AreEarly : {R A : Type 0} → List (ℕ × LinkEvent R A) → Type 0
AreEarly events = AllByRecursion (λ e. e.0 < 2 ^ 62) events
