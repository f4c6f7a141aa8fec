-- The text of a chronicle: what is reported of each row, and nothing of what has no text (the texts are this project's own).
-- What is reported of it is a list of items too, off which the text and the frames that were sent can be read.
use Rattle.std.specs.Prelude.{ℕ, List, [], ◌∷◌, ◌++◌, length, map, codes, Some}
use Rattle.std.specs.Fmt.{decimal}
use Rattle.std.specs.List.{flat_map}
use Rattle.nd_addr.specs.declared.addr.Addr.{Addr}
use Rattle.nd_addr.specs.Ip6.{header_of}
use Rattle.nd_addr.specs.Places.{packet_in}
use Rattle.nd_addr.specs.Text.{address_text}
use Rattle.nd_addr.specs.Why as reasons
use Rattle.nd_decode.specs.declared.body.Body.{Body}
use Rattle.nd_decode.specs.declared.body.Body.TheVariants as bodies
use Rattle.nd_text.specs.Digits.{hex_text}
use Rattle.nd_neighbour.specs.History as neighbours
use Rattle.nd_slaac.specs.History as addresses
use Rattle.nd_chronicle.specs.Happening.{Happening, Passed, Drew, Heard, Dropped, Up, Neighbour, Address, LeftRouter, Unlisted, ClearedPrefixes, ClearedRedirects, ClearedDns, SolicitedRouters, Configured, Offered, Ceased, Advertised, Planned, RoutePut, RedirectMade, Sent, Lost, Path, Resolved, Refused, Ignored, Shown, TooLate, Chronicle, Way, NoWay, WayTo, Loss, Unreachable, Replaced, Forgotten, NoRoute, HopLimit, Limit, Neighbours, Routers, Prefixes, Addresses, Servers, Names, Offers, StaticRoutes, Refusal, WrongRole, Disabled, Tentative, NotOurs, TooLong, Full}
use Rattle.nd_chronicle.specs.Shown.{key_text, mac_or_none_text}

abbrev pub kind_text : Body → List ℕ
kind_text bodies.Rs = codes "rs"
kind_text (bodies.Ra ra) = codes "ra"
kind_text (bodies.Ns ns) = codes "ns"
kind_text (bodies.Na na) = codes "na"
kind_text (bodies.Redirect r) = codes "redirect"

abbrev pub loss_text : Loss → List ℕ
loss_text Unreachable = codes "unreachable"
loss_text Replaced = codes "replaced"
loss_text Forgotten = codes "forgotten"
loss_text NoRoute = codes "no-route"
loss_text HopLimit = codes "hop-limit"

abbrev pub limit_text : Limit → List ℕ
limit_text Neighbours = codes "neighbours"
limit_text Routers = codes "routers"
limit_text Prefixes = codes "prefixes"
limit_text Addresses = codes "addresses"
limit_text Servers = codes "servers"
limit_text Names = codes "names"
limit_text Offers = codes "offers"
limit_text StaticRoutes = codes "routes"

abbrev pub refusal_text : Refusal → List ℕ
refusal_text WrongRole = codes "wrong-role"
refusal_text Disabled = codes "disabled"
refusal_text Tentative = codes "tentative"
refusal_text (NotOurs source) = codes "not-ours " ++ address_text source.0
refusal_text TooLong = codes "too-long"
refusal_text (Full limit) = codes "full " ++ limit_text limit

-- the source and the destination of a packet, by its header
abbrev pub way_text : List ℕ → List ℕ
way_text frame =
    address_text (header_of (packet_in frame)).source.0 ++ codes " " ++ address_text (header_of (packet_in frame)).destination.0

-- where packets go: the next hop and its link-layer address
abbrev pub path_text : Way → List ℕ
path_text NoWay = codes "no-route"
path_text (WayTo key mac) = key_text key ++ codes " " ++ mac_or_none_text mac

abbrev pub told_of_neighbour : ℕ → neighbours.RowKind → List (List ℕ)
told_of_neighbour key (neighbours.Forgot neighbours.Failed) = (codes "failed " ++ key_text key) ∷ []
told_of_neighbour key _ = []

abbrev pub told_of_address : ℕ → addresses.RowKind → List (List ℕ)
told_of_address key addresses.Conflict = (codes "duplicate " ++ key_text key) ∷ []
told_of_address key addresses.Assigned = (codes "assigned " ++ key_text key) ∷ []
told_of_address key addresses.Ended = (codes "ended address " ++ key_text key) ∷ []
told_of_address key _ = []

-- what is reported of what happened: texts without their moment
abbrev pub told_of : Happening → List (List ℕ)
told_of Passed = []
told_of (Drew what value) = []
told_of (Heard source destination message) = (codes "heard " ++ kind_text message.body) ∷ []
told_of (Dropped why) = (codes "drop " ++ decimal (reasons.number_of why) ++ codes " " ++ reasons.name_of why) ∷ []
told_of (Up packet) = (codes "up " ++ hex_text packet) ∷ []
told_of (Neighbour key kind) = told_of_neighbour key kind
told_of (Address key kind) = told_of_address key kind
told_of (LeftRouter key) = (codes "ended router " ++ key_text key) ∷ []
told_of (Unlisted key) = []
told_of ClearedPrefixes = []
told_of ClearedRedirects = []
told_of ClearedDns = []
told_of SolicitedRouters = []
told_of (Configured settings) = []
told_of (Offered info) = []
told_of Ceased = []
told_of (Advertised interval) = []
told_of (Planned delay) = []
told_of (RoutePut prefix route) = []
told_of RedirectMade = []
told_of (Sent frame) = (codes "tx " ++ hex_text frame) ∷ []
told_of (Lost why packet) = (codes "lost " ++ loss_text why ++ codes " " ++ way_text packet) ∷ []
told_of (Path destination way) = (codes "path " ++ address_text destination.0 ++ codes " " ++ path_text way) ∷ []
told_of (Resolved key mac) = (codes "resolved " ++ path_text (WayTo key (Some mac))) ∷ []
told_of (Refused refusal) = (codes "refused " ++ refusal_text refusal) ∷ []
told_of (Ignored limit) = (codes "ignored " ++ limit_text limit) ∷ []
told_of (Shown rows) = rows ++ (codes "end " ++ decimal (length rows)) ∷ []
told_of (TooLate last) = (codes "refused past " ++ decimal last) ∷ []

-- a line: the moment, the text, and a line feed
abbrev pub line_at : ℕ → List ℕ → List ℕ
line_at at told = decimal at ++ codes " " ++ told ++ 10 ∷ []

-- the lines of one row
abbrev pub lines_of : ℕ × Happening → List ℕ
lines_of row = flat_map (line_at row.0) (told_of row.1)

-- the text of it all, the oldest row first
abbrev pub text : Chronicle → List ℕ
text [] = []
text (row ∷ c) = text c ++ lines_of row

-- what is reported of a row: a frame that was sent, a message that was heard with its addresses and its fields, a packet that was lost and why; all
-- else by its text
pub data Told : Type 0 where
  Frame : (frame : List ℕ) → Told
  Message : (source destination : Addr) (body : Body) → Told
  LostPacket : (why : Loss) (packet : List ℕ) → Told
  Words : (words : List ℕ) → Told

-- what is reported of what happened
abbrev pub items_of : Happening → List Told
items_of (Sent frame) = Frame frame ∷ []
items_of (Heard source destination message) = Message source destination message.body ∷ []
items_of (Lost why packet) = LostPacket why packet ∷ []
items_of what = map (λ t. Words t) (told_of what)

-- and with the moment
abbrev pub items_at : ℕ × Happening → List (ℕ × Told)
items_at row = map (λ t. (row.0, t)) (items_of row.1)

-- of it all, the oldest row first
abbrev pub items : Chronicle → List (ℕ × Told)
items [] = []
items (row ∷ c) = items c ++ items_at row

-- the text of an item
abbrev pub words_of : Told → List ℕ
words_of (Frame frame) = codes "tx " ++ hex_text frame
words_of (Message source destination body) = codes "heard " ++ kind_text body
words_of (LostPacket why packet) = codes "lost " ++ loss_text why ++ codes " " ++ way_text packet
words_of (Words words) = words

-- and its line
abbrev pub line_of : ℕ × Told → List ℕ
line_of item = line_at item.0 (words_of item.1)

-- ---- of a node of a link

-- a line of it: `n` and its number stand before
abbrev pub node_line : ℕ → ℕ → List ℕ → List ℕ
node_line node at told = codes "n" ++ decimal node ++ codes " " ++ line_at at told

-- the lines of what happened at a moment
abbrev pub node_lines : ℕ → ℕ × Happening → List ℕ
node_lines node row = flat_map (node_line node row.0) (told_of row.1)
