-- A packet goes to a neighbour (RFC 4861, sections 7.2.2 and 7.3.3).
use Rattle.std.specs.Prelude.{◌≡◌, ℕ, Bool, true, false, if◌then◌else◌, MatchBool, List, [], ◌∷◌, Option, Some, None}
use Rattle.std.specs.Option.{option_to_list}
use Rattle.nd_addr.specs.Frame.{addressed}
use Rattle.nd_addr.specs.Number.{addr_at, mac_at}
use Rattle.nd_neighbour.specs.History as neighbours
use Rattle.nd_neighbour.specs.History.{story}
use Rattle.nd_neighbour.specs.Place.{Prepares, WouldBeFull, pushing}
use Rattle.nd_neighbour.specs.Room.{HasRoom}
use Rattle.nd_neighbour.specs.Sending.{Sending, Sends, Queues, sending_of_story}
use Rattle.nd_chronicle.specs.Start.{Start, link_local}
use Rattle.nd_chronicle.specs.Happening.{Chronicle, Neighbour, Sent, Lost, Loss, Replaced, Unreachable, Limit, Neighbours}
use Rattle.nd_chronicle.specs.Histories.{neighbour_history}
use Rattle.nd_chronicle.specs.InForce.{retrans_timer}
use Rattle.nd_chronicle.specs.Refused.{UnlessFull}
use Rattle.nd_compose.specs.Frames.{resolution_frame}

-- packets are lost, in their order
abbrev pub losing : ℕ → Loss → List (List ℕ) → Chronicle → Chronicle
losing at why [] c = c
losing at why (packet ∷ packets) c = losing at why packets ((at, Lost why packet) ∷ c)

-- a neighbour fails, and what waits for it is lost (RFC 4861, sections 7.2.2 and 7.3.3)
abbrev pub failing : ℕ → ℕ → List (List ℕ) → Chronicle → Chronicle
failing at key packets c = losing at Unreachable packets ((at, Neighbour key (neighbours.Forgot neighbours.Failed)) ∷ c)

-- packets are sent to a link-layer address, in their order
abbrev pub sending : ℕ → ℕ → List (List ℕ) → Chronicle → Chronicle
sending at mac [] c = c
sending at mac (packet ∷ packets) c = sending at mac packets ((at, Sent (addressed (mac_at mac) packet)) ∷ c)

-- a neighbour goes, so that there is room for another one
abbrev pub with_pushed : ℕ → Option ℕ → Chronicle → Chronicle
with_pushed at None c = c
with_pushed at (Some key) c = (at, Neighbour key (neighbours.Forgot neighbours.PushedOut)) ∷ c

-- what makes room for a neighbour that may have to enter
pub record MakesPlace (start : Start) (c : Chronicle) (at key : ℕ) (enters : Bool) (d : Chronicle) : Type 0 where
  pub pushed : Option ℕ
  pub place : Prepares start.limits.neighbours at enters key (neighbour_history c) (pushing at pushed (neighbour_history c))
  pub with_it : d ≡ with_pushed at pushed c

-- whether there is room for it: there isn't if it would be full
abbrev pub HasPlace : Start → Chronicle → ℕ → ℕ → Bool → Bool → Type 0
HasPlace start c at key enters place =
    MatchBool place (enters ≡ true → WouldBeFull start.limits.neighbours at key (neighbour_history c) → ⊥)
    ((enters ≡ true) × WouldBeFull start.limits.neighbours at key (neighbour_history c))

-- whether there is room for it, and behind a packet to it for a second one
abbrev pub HavePlace : Start → Chronicle → ℕ → ℕ → ℕ → Bool → Type 0
HavePlace start c at key second place =
    MatchBool place (HasRoom start.limits.neighbours at key (Some second) (neighbour_history c))
    (HasRoom start.limits.neighbours at key (Some second) (neighbour_history c) → ⊥)

-- what becomes of the packet: one for a neighbour whose link-layer address is known is sent, and uses the neighbour; the first one for
-- another neighbour begins its resolution, and each waits, where one for which there is no room takes the place of the oldest
abbrev pub then_packet : Start → ℕ → ℕ → ℕ → List ℕ → Sending → Chronicle → Chronicle
then_packet start at key retrans packet (Sends mac sent) c =
    (at, Neighbour key (neighbours.Used retrans)) ∷ (at, Sent (addressed (mac_at mac) sent)) ∷ c
then_packet start at key retrans packet (Queues true replaced) c =
    (at, Neighbour key (neighbours.Waits packet)) ∷ (at, Sent (resolution_frame start.mac (link_local start) (addr_at key)))
    ∷ (at, Neighbour key (neighbours.Asked retrans start.limits.waiting)) ∷ c
then_packet start at key retrans packet (Queues false replaced) c =
    losing at Replaced (option_to_list replaced) ((at, Neighbour key (neighbours.Waits packet)) ∷ c)

-- What a packet to a neighbour adds, with the RetransTimer in force: there is room for the neighbour, and the packet is sent or waits.
pub record Goes (start : Start) (c : Chronicle) (at key : ℕ) (packet : List ℕ) (d : Chronicle) : Type 0 where
  pub placed : Chronicle
  pub place : MakesPlace start c at key true placed
  pub goes : d ≡ then_packet start at key (retrans_timer c) packet (sending_of_story (story key (neighbour_history c)) packet) placed

-- the table that has no room, if it has none
abbrev pub no_place : Bool → Option Limit
no_place place = if place then None else Some Neighbours

-- it goes to the neighbour, if there is room for that
abbrev pub GoesIfPlaced : Start → ℕ → ℕ → List ℕ → Chronicle → Chronicle → Type 0
GoesIfPlaced start now key packet c d =
    (place : Bool) × HasPlace start c now key true place × UnlessFull now (no_place place) (Goes start c now key packet) c d
