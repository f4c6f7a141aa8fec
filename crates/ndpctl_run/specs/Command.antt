-- The commands of a script: which bytes spell which event (the texts are this project's own).
use Rattle.std.specs.Prelude.{◌≡◌, ◌⊎◌, ℕ, List, codes}
use Rattle.nd_addr.specs.declared.addr.Addr.{Addr}
use Rattle.nd_addr.specs.Ip6.{PacketParts}
use Rattle.nd_addr.specs.Prefix.{PrefixValue}
use Rattle.nd_decode.specs.declared.prefix_info.PrefixInfo.{PrefixInfo}
use Rattle.nd_advertiser.specs.Config.{Settings}
use Rattle.nd_forwarding.specs.declared.route.Route as routes
use Rattle.nd_slaac.specs.ByHand.{AddressByHand}
use Rattle.nd_chronicle.specs.Event.{Clearable, Event, Passes, Receives, Sends, Carries, Confirms, Forgets, Clears, Shows, Advertises, Offers, Routes, Stops, Sets, Withdraws, Resolves}
use Rattle.nd_chronicle.specs.Shown as shown
use Rattle.ndpctl_run.specs.declared.command.Command.{Command}
use Rattle.ndpctl_run.specs.declared.command.Command.TheVariants.{Rx, Send, Confirm, Forget, Clear, Show, Advertise, Prefix, Route, Address, Withdraw, Resolve, Carry}
use Rattle.ndpctl_run.specs.Address.{IsAddressWord}
use Rattle.ndpctl_run.specs.Bytes.{IsBytesWord}
use Rattle.ndpctl_run.specs.Offer.{IsOffer}
use Rattle.ndpctl_run.specs.OwnAddress.{AreOwnAddressWords}
use Rattle.ndpctl_run.specs.Packet.{IsPacket, IsPacketWord}
use Rattle.ndpctl_run.specs.Route.{IsRoute}
use Rattle.ndpctl_run.specs.Settings.{AreSettings}
use Rattle.ndpctl_run.specs.Table.{clearable_word, table_word}
use Rattle.ndpctl_run.specs.Words.{Parts}

-- the word that a command begins with
abbrev pub command_word : Command → List ℕ
command_word Rx = codes "rx"
command_word Send = codes "send"
command_word Confirm = codes "confirm"
command_word Forget = codes "forget"
command_word Clear = codes "clear"
command_word Show = codes "show"
command_word Advertise = codes "advertise"
command_word Prefix = codes "prefix"
command_word Route = codes "route"
command_word Address = codes "address"
command_word Withdraw = codes "withdraw"
command_word Resolve = codes "resolve"
command_word Carry = codes "carry"

-- the words behind it spell the event
abbrev pub AreArguments : Command → List ℕ → Event → Type 0
AreArguments Rx words event = (frame : List ℕ) × (event ≡ Receives frame) × IsBytesWord words frame
AreArguments Send words event =
    (source : Addr) × (destination : Addr) × (next_header : ℕ) × (payload : List ℕ) × (event ≡ Sends source destination next_header payload) × IsPacket words source destination next_header payload
AreArguments Confirm words event = (neighbour : Addr) × (event ≡ Confirms neighbour) × IsAddressWord words neighbour
AreArguments Forget words event = (neighbour : Addr) × (event ≡ Forgets neighbour) × IsAddressWord words neighbour
AreArguments Clear words event = (table : Clearable) × (event ≡ Clears table) × (words ≡ clearable_word table)
AreArguments Show words event = (table : shown.Table) × (event ≡ Shows table) × (words ≡ table_word table)
AreArguments Advertise words event = (settings : Settings) × (event ≡ Advertises settings) × AreSettings words settings
AreArguments Prefix words event = (info : PrefixInfo) × (event ≡ Offers info) × IsOffer words info
AreArguments Route words event = (prefix : PrefixValue) × (route : routes.Route) × (event ≡ Routes prefix route) × IsRoute words prefix route
AreArguments Address words event = (own : AddressByHand) × (event ≡ Sets own) × AreOwnAddressWords words own
AreArguments Withdraw words event = (address : Addr) × (event ≡ Withdraws address) × IsAddressWord words address
AreArguments Resolve words event = (destination : Addr) × (event ≡ Resolves destination) × IsAddressWord words destination
AreArguments Carry words event = (packet : PacketParts) × (event ≡ Carries packet) × IsPacketWord words packet

-- the word is a command that acts on nothing: `at`, by which time passes, or `stop`, by which a router ceases to advertise
abbrev pub IsWholeCommand : List ℕ → Event → Type 0
IsWholeCommand word event = ((word ≡ codes "at") × (event ≡ Passes)) ⊎ ((word ≡ codes "stop") × (event ≡ Stops))

-- the bytes spell the event: they are such a word, or the word of a command and what it acts on
abbrev pub IsCommand : List ℕ → Event → Type 0
IsCommand bytes event =
    IsWholeCommand bytes event ⊎ ((command : Command) × Parts bytes (λ word. word ≡ command_word command) (λ words. AreArguments command words event))
