-- The commands of a link: which words spell which event (the texts are this project's own).
use Rattle.std.specs.Prelude.{◌≡◌, ℕ, List, codes}
use Rattle.nd_addr.specs.declared.mac.Mac.{Mac}
use Rattle.nd_addr.specs.declared.role.Role.{Role}
use Rattle.nd_chronicle.specs.Event as nodes
use Rattle.nd_random.specs.declared.source.Source.{Source}
use Rattle.nd_random.specs.Source.{stream_of_source}
use Rattle.ndpctl_run.specs.Words.{Parts}
use Rattle.nd_link_log.specs.Event.{Event, Starts, Comes, Delivers}
use Rattle.ndpctl_link.specs.declared.command.LinkCommand.{LinkCommand}
use Rattle.ndpctl_link.specs.declared.command.LinkCommand.TheVariants.{Node, On, Deliver}
use Rattle.ndpctl_link.specs.Start.{IsStart}
use Rattle.ndpctl_link.specs.NodeCommand.{IsNodeCommand}
use Rattle.ndpctl_link.specs.Delivery.{IsDelivery}

-- the word that a command begins with
abbrev pub link_word : LinkCommand → List ℕ
link_word Node = codes "node"
link_word On = codes "on"
link_word Deliver = codes "deliver"

-- the words behind it spell the event
abbrev pub AreLinkArguments : LinkCommand → List ℕ → Event → Type 0
AreLinkArguments Node words event =
    (role : Role) × (mac : Mac) × (transmits : ℕ) × (source : Source) × (event ≡ Starts role mac transmits (stream_of_source source)) × IsStart words role mac transmits source
AreLinkArguments On words event = (node : ℕ) × (own : nodes.Event) × (event ≡ Comes node own) × IsNodeCommand words node own
AreLinkArguments Deliver words event = (node : ℕ) × (frame : ℕ) × (event ≡ Delivers node frame) × IsDelivery words node frame

-- the bytes spell the event: the word of a command, and what it acts on
abbrev pub IsLinkCommand : List ℕ → Event → Type 0
IsLinkCommand bytes event = (command : LinkCommand) × Parts bytes (λ word. word ≡ link_word command) (λ words. AreLinkArguments command words event)
