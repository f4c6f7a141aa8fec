-- What every message adds that is heard: place for the neighbour that it makes known, the message itself, which each table takes for its
-- history, the failure of the neighbour that gave way to that one, if one did, and the packets that waited for the link-layer address that it gives, or the
-- caller that did (RFC 4861, sections 6.2.6, 6.3.4, 7.2.3, 7.2.5 and 8.3; RFC 6583, section 7).
use Rattle.std.specs.Prelude.{◌≡◌, ℕ, Bool, true, false, ◌&&◌, if◌then◌else◌, MatchBool, List, ◌∷◌, Option, Some, None}
use Rattle.nd_addr.specs.declared.addr.Addr.{Addr}
use Rattle.nd_decode.specs.Message.{Parts}
use Rattle.nd_neighbour.specs.History as neighbours
use Rattle.nd_neighbour.specs.History.{RowKind, Story, story}
use Rattle.nd_neighbour.specs.GivingWay.{GivesWay, IsFullOfSpeakers}
use Rattle.nd_neighbour.specs.News.{released_by}
use Rattle.nd_neighbour.specs.Story.{is_awaited, mac_of, waits_of}
use Rattle.nd_chronicle.specs.Start.{Start}
use Rattle.nd_chronicle.specs.Happening.{Chronicle, LeftRouter, Resolved}
use Rattle.nd_chronicle.specs.Histories.{neighbour_history, said_of_neighbour}
use Rattle.nd_chronicle.specs.InForce.{reachable_time}
use Rattle.nd_chronicle.specs.Packet.{MakesPlace, failing, sending, with_pushed}

-- what it says of a neighbour at this place
abbrev pub said : Chronicle → Addr → Parts → Option (ℕ × RowKind)
said c source message = said_of_neighbour source message.body message.options (reachable_time c)

-- a link-layer address that is given lets a neighbour enter
abbrev pub lets_enter : RowKind → Bool
lets_enter (neighbours.Given mac mark) = true
lets_enter _ = false

-- place for that neighbour
abbrev pub PlaceFor : Start → Chronicle → ℕ → Option (ℕ × RowKind) → Chronicle → Type 0
PlaceFor start c at None d = d ≡ c
PlaceFor start c at (Some news) d = MakesPlace start c at news.0 (lets_enter news.1) d

-- ---- the policy `speakers`

-- a neighbour that gives its link-layer address speaks: another one may give way to it
abbrev pub makes_way : Start → Option (ℕ × RowKind) → Bool
makes_way start None = false
makes_way start (Some news) = lets_enter news.1 && start.policies.speakers

-- whether there is room for it so
abbrev pub HasWay : Start → Chronicle → ℕ → ℕ → Bool → Bool → Type 0
HasWay start c at key enters place =
    MatchBool place (enters ≡ true → IsFullOfSpeakers start.limits.neighbours at key (neighbour_history c) → ⊥)
    ((enters ≡ true) × IsFullOfSpeakers start.limits.neighbours at key (neighbour_history c))

-- the neighbour that gives way, if one does
abbrev pub WayFor : Start → Chronicle → ℕ → Option (ℕ × RowKind) → Option ℕ → Type 0
WayFor start c at None gone = gone ≡ None
WayFor start c at (Some news) gone =
    MatchBool (makes_way start (Some news)) (GivesWay start.limits.neighbours at news.0 (neighbour_history c) gone) (gone ≡ None)

-- room for that neighbour: if another one gives way, its place is the room, and no third one is evicted; else room is made as ever
abbrev pub RoomBy : Start → Chronicle → ℕ → Option (ℕ × RowKind) → Option ℕ → Chronicle → Type 0
RoomBy start c at news None placed = PlaceFor start c at news placed
RoomBy start c at news (Some gone) placed = placed ≡ with_pushed at (Some gone) c

-- there is room for the neighbour of which the message speaks, for which another one may give way
pub record RoomFor (start : Start) (c : Chronicle) (at : ℕ) (news : Option (ℕ × RowKind)) (gone : Option ℕ) (placed : Chronicle) : Type 0 where
  pub way : WayFor start c at news gone
  pub place : RoomBy start c at news gone placed

-- the one that gave way has failed, with all that a failure brings, by the history before
abbrev pub failing_for : ℕ → Option ℕ → List neighbours.Row → Chronicle → Chronicle
failing_for at None history c = c
failing_for at (Some gone) history c = failing at gone (waits_of (story gone history)) c

-- ---- what is released

-- packets are sent to an address, if one is known
abbrev pub sending_if_known : ℕ → Option ℕ → List (List ℕ) → Chronicle → Chronicle
sending_if_known at None packets c = c
sending_if_known at (Some mac) packets c = sending at mac packets c

-- the address is reported for which a caller waits, if one is known
abbrev pub telling_if_known : ℕ → ℕ → Option ℕ → Bool → Chronicle → Chronicle
telling_if_known at key None awaited c = c
telling_if_known at key (Some mac) awaited c = if awaited then (at, Resolved key mac) ∷ c else c

-- the packets that what is said of a neighbour releases are sent to the address that is known then, and the address is reported behind them, if a caller
-- waits for it
abbrev pub releasing_by : ℕ → ℕ → RowKind → Story → Chronicle → Chronicle
releasing_by at key kind s c =
    telling_if_known at key (mac_of ((at, kind) ∷ s)) (is_awaited s) (sending_if_known at (mac_of ((at, kind) ∷ s)) (released_by at kind s) c)

-- the same of what the message says, by the history before it
abbrev pub releasing : ℕ → Option (ℕ × RowKind) → List neighbours.Row → Chronicle → Chronicle
releasing at None history c = c
releasing at (Some news) history c = releasing_by at news.0 news.1 (story news.0 history) c

-- a router leaves the list, or doesn't
abbrev pub leaving : ℕ → Bool → ℕ → Chronicle → Chronicle
leaving at true key c = (at, LeftRouter key) ∷ c
leaving at false key c = c
