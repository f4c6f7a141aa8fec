-- What a contract sees of an entry.
use Rattle.std.specs.Option.{option_map}
use Rattle.nd_addr.specs.Number.{number_of}
use Rattle.nd_neighbour.specs.declared.due.Due.{Due}
use Rattle.nd_neighbour.specs.declared.due.Due.TheVariants.{Multicast, Unicast, Failed, Aged}
use Rattle.nd_neighbour.specs.declared.entry.Stage as held
use Rattle.nd_neighbour.specs.declared.entry.Stage.TheVariants as variant
use Rattle.nd_neighbour.specs.declared.sending.Use.{Use}
use Rattle.nd_neighbour.specs.declared.sending.Use.TheVariants.{Send, Queued}
use Rattle.nd_neighbour.specs.declared.shown.Neighbour.{Neighbour}
use Rattle.nd_neighbour.specs.declared.wanting.Want.{Want}
use Rattle.nd_neighbour.specs.declared.wanting.Want.TheVariants as wants
use Rattle.nd_neighbour.specs.EntryKept.{Stage, Resolving, Known}
use Rattle.nd_neighbour.specs.Shown.{Seen}
use Rattle.nd_neighbour.specs.Due.{Falls, Multicasts, Unicasts, Fails, Ages}
use Rattle.nd_neighbour.specs.Sending.{Sending, Sends, Queues}
use Rattle.nd_neighbour.specs.Wanting.{Wanting, IsKnown, Awaits}

abbrev pub stage_of : {A : Type 0} → held.Stage A → Stage
stage_of (variant.Resolving sent wanted retrans waiting) = Resolving retrans sent wanted waiting
stage_of (variant.Known mac confirmed since probing) = Known (number_of mac.0) confirmed since probing

abbrev pub sending_of : {A : Type 0} → Use A → Sending
sending_of (Send mac packet) = Sends (number_of mac.0) packet
sending_of (Queued solicit replaced) = Queues solicit replaced

abbrev pub wanting_of : Want → Wanting
wanting_of (wants.Known mac) = IsKnown (number_of mac.0)
wanting_of (wants.Waits solicit) = Awaits solicit

abbrev pub falls_of : {A : Type 0} → Due A → Falls
falls_of (Multicast addr) = Multicasts (number_of addr.0)
falls_of (Unicast addr mac) = Unicasts (number_of addr.0) (number_of mac.0)
falls_of (Failed addr packets) = Fails (number_of addr.0) packets
falls_of (Aged addr) = Ages (number_of addr.0)

abbrev pub seen_in : Neighbour → Seen
seen_in n = record { key = number_of n.addr.0; mac = option_map (λ mac. number_of mac.0) n.mac; router = n.router; state = n.state; left = n.reachable_left }
