-- What happens to the Neighbor Cache (RFC 4861, section 5.1), and what the node reports of it. A message says something of a neighbour: the
-- cache takes it, and the packets that waited for the link-layer address that it gives are sent (sections 6.2.6, 6.3.4, 7.2.3, 7.2.5 and 8.3).
use Rattle.std.specs.Prelude.{if◌then◌else◌, is_some, ◌≡◌, ◌+◌, ◌≤◌, ◌⊎◌, ℕ, Bool, true, false, List, [], ◌∷◌, ◌++◌, map, Option, Some, None, MatchBool}
use Rattle.std.specs.Option.{option_to_list}
use Rattle.nd_addr.specs.Frame.{addressed}
use Rattle.nd_addr.specs.Number.{mac_at, addr_at}
use Rattle.nd_packet.specs.Waiting.{max_waiting}
use Rattle.nd_neighbour.specs.declared.news.News.{News}
use Rattle.nd_neighbour.specs.declared.news.Times.{Times}
use Rattle.nd_neighbour.specs.EntryKept.{NeighbourEntry}
use Rattle.nd_neighbour.specs.History.{Row, RowKind, story}
use Rattle.nd_neighbour.specs.News.{news_key, news_row, lets_enter, released_by, ends_router}
use Rattle.nd_neighbour.specs.Place.{Prepares, WouldBeFull}
use Rattle.nd_neighbour.specs.PlaceKept.{NoPlace}
use Rattle.nd_neighbour.specs.NewsKept.{told_at}
use Rattle.nd_neighbour.specs.Story.{is_awaited, mac_of}
use Rattle.nd_neighbour.specs.TableKept.{Stands, entry_in}
use Rattle.nd_chronicle.specs.Happening.{Happening, Sent, Lost, Replaced, Resolved}
use Rattle.nd_chronicle.specs.Histories.{then_neighbour}
use Rattle.nd_out.specs.declared.out.Out.{Out}
use Rattle.nd_steps.specs.Outputs.{at_moment, happenings}
use Rattle.nd_addr.specs.declared.addr.Addr.{Addr}
use Rattle.nd_addr.specs.declared.mac.Mac.{Mac}
use Rattle.nd_neighbour.specs.Sending.{Sending, Sends, Queues}
use Rattle.nd_neighbour.specs.Wanting.{Wanting, IsKnown, Awaits}
use Rattle.nd_compose.specs.Frames.{resolution_frame}
use Rattle.nd_chronicle.specs.Message as message

-- what news say, at the times in force
abbrev pub said_by : Times → News → ℕ × RowKind
said_by times news = (news_key news, news_row news times)

-- there is room for the neighbour that enters with them
abbrev pub HasPlace : ℕ → ℕ → Option News → List NeighbourEntry → Type 0
HasPlace limit now None entries = Unit {0}
HasPlace limit now (Some news) entries = lets_enter news ≡ true → NoPlace limit now (news_key news) entries → ⊥

-- how many rows tell that its address is known, where the news give it: its packets that wait, and the caller that does
abbrev pub told_for : Option News → List NeighbourEntry → ℕ
told_for None entries = 0
told_for (Some news) entries = told_at (entry_in (news_key news) entries)

-- the most of them
abbrev pub most_told : ℕ
most_told = max_waiting + 1

-- there is room for these rows, and for so many more: for as many as there are, or for as many as there may be
abbrev pub HasRoomFor : ℕ → ℕ → Option News → List NeighbourEntry → Type 0
HasRoomFor more room news entries = (more + told_for news entries ≤ room) ⊎ (more + most_told ≤ room)

-- ---- by history

-- what makes room for a neighbour of which something is said
abbrev pub PreparesFor : ℕ → ℕ → Option (ℕ × RowKind) → List Row → List Row → Type 0
PreparesFor limit now None history made = made ≡ history
PreparesFor limit now (Some said) history made = Prepares limit now (message.lets_enter said.1) said.0 history made

-- packets that are sent to an address, if one is known
abbrev pub sent_if_known : Option ℕ → List (List ℕ) → List Happening
sent_if_known None packets = []
sent_if_known (Some mac) packets = map (λ packet. Sent (addressed (mac_at mac) packet)) packets

-- the address is reported for which a caller waits, if one is known
abbrev pub told_if_known : ℕ → Option ℕ → Bool → List Happening
told_if_known key None awaited = []
told_if_known key (Some mac) awaited = if awaited then Resolved key mac ∷ [] else []

-- the frames that are sent where something is said of a neighbour, and the address that is reported
abbrev pub released_rows : ℕ → Option (ℕ × RowKind) → List Row → List Happening
released_rows now None history = []
released_rows now (Some said) history =
    sent_if_known (mac_of ((now, said.1) ∷ story said.0 history)) (released_by now said.1 (story said.0 history))
    ++ told_if_known said.0 (mac_of ((now, said.1) ∷ story said.0 history)) (is_awaited (story said.0 history))

-- it takes the mark of a router away
abbrev pub ends_said : ℕ → Option (ℕ × RowKind) → List Row → Bool
ends_said now None history = false
ends_said now (Some said) history = ends_router now said.1 (story said.0 history)

-- For each history that the neighbours stood for, they stand for it with what is said, and with what makes room before; the packets that it
-- releases, and the address for which a caller waited, are reported; it is returned whether it takes the mark of a router away.
pub record HearsOf {A : Type 0} (limit now : ℕ) (said : Option (ℕ × RowKind)) (old new : List NeighbourEntry) (before after : List (ℕ × Out A)) (ends : Bool) : Type 0 where
  pub each : (history : List Row) → Stands old history
      → (made : List Row) × PreparesFor limit now said history made × Stands new (then_neighbour now said made)
      × (happenings after ≡ happenings before ++ at_moment now (released_rows now said history)) × (ends ≡ ends_said now said history)

-- ---- room for a new neighbour (RFC 4861, section 5.3, leaves it open)

-- there is none where the news let it enter and it would be full
abbrev pub PlacedBy : ℕ → ℕ → News → List Row → Bool → Type 0
PlacedBy limit now news history place =
    MatchBool place (lets_enter news ≡ true → WouldBeFull limit now (news_key news) history → ⊥)
    ((lets_enter news ≡ true) × WouldBeFull limit now (news_key news) history)

-- ---- a packet to a neighbour (RFC 4861, sections 7.2.2 and 7.3.3)

-- the packet itself, or the solicitation that its resolution begins with, or the one that it replaces: of a node with a link-layer
-- address and a link-local one
abbrev pub told_of_packet : Mac → Addr → ℕ → Sending → List Happening
told_of_packet mac own key (Sends to packet) = Sent (addressed (mac_at to) packet) ∷ []
told_of_packet mac own key (Queues true replaced) = Sent (resolution_frame mac own (addr_at key)) ∷ []
told_of_packet mac own key (Queues false replaced) = map (λ packet. Lost Replaced packet) (option_to_list replaced)

-- ---- the wish for a neighbour's link-layer address (RFC 4861, sections 7.2.2 and 7.3.3)

-- the solicitation that its resolution begins with: of a node with a link-layer address and a link-local one
abbrev pub told_of_wish : Mac → Addr → ℕ → Wanting → List Happening
told_of_wish mac own key (IsKnown to) = []
told_of_wish mac own key (Awaits true) = Sent (resolution_frame mac own (addr_at key)) ∷ []
told_of_wish mac own key (Awaits false) = []

-- how many rows there is room for: for the answer, and for the solicitation where there is room to make one
abbrev pub rows_of_wish : {X : Type 0} → Option X → ℕ
rows_of_wish solicitation = if is_some solicitation then 2 else 1
