-- A command of a link is determined by its words.
use Rattle.std.proofs.Common.{◌≡◌, ◌∙◌, ℕ, List, refl, sym, subst}
use Rattle.nd_link_log.specs.Event.{Event}
use Rattle.ndpctl_run.specs.Words.{HasNoSpace, IsParted}
use Rattle.ndpctl_run.proofs.Partings.{no_parts, parts_at}
use Rattle.ndpctl_link.specs.declared.command.LinkCommand.{LinkCommand}
use Rattle.ndpctl_link.specs.declared.command.LinkCommand.TheVariants.{Node, On, Deliver}
use Rattle.ndpctl_link.specs.Command.{AreLinkArguments, IsLinkCommand, link_word}
use Rattle.ndpctl_link.proofs.StartWords.{one_start}
use Rattle.ndpctl_link.proofs.NodeCommandWords.{one_node_command}
use Rattle.ndpctl_link.proofs.DeliveryWords.{one_delivery}

pub one_link_word : (a b : LinkCommand) → link_word a ≡ link_word b → a ≡ b
one_link_word Node Node e = refl
one_link_word Node On e = cc
one_link_word Node Deliver e = cc
one_link_word On Node e = cc
one_link_word On On e = refl
one_link_word On Deliver e = cc
one_link_word Deliver Node e = cc
one_link_word Deliver On e = cc
one_link_word Deliver Deliver e = refl

-- ---- what it acts on

pub of_link_command : (a b : LinkCommand) (words : List ℕ) (event : Event) → a ≡ b → AreLinkArguments a words event → AreLinkArguments b words event
of_link_command a b words event e are = subst (λ (command : LinkCommand). AreLinkArguments command words event) e are

one_link_event : (command : LinkCommand) (words : List ℕ) (a b : Event) → AreLinkArguments command words a → AreLinkArguments command words b → a ≡ b
one_link_event Node words a b (role, mac, transmits, source, is, start) (role', mac', transmits', source', is', start') =
    let same = one_start words role role' mac mac' transmits transmits' source source' start start' in
    is ∙ rw (same.0, same.1, same.2, same.3) (sym is')
one_link_event On words a b (node, own, is, command) (node', own', is', command') =
    let same = one_node_command words node node' own own' command command' in
    is ∙ rw (same.0, same.1) (sym is')
one_link_event Deliver words a b (node, frame, is, delivery) (node', frame', is', delivery') =
    let same = one_delivery words node node' frame frame' delivery delivery' in
    is ∙ rw (same.0, same.1) (sym is')

-- ---- its bytes

-- they begin with its word, and what it acts on follows
pub link_arguments_of : (bytes word rest : List ℕ) (command : LinkCommand) (event : Event) → IsParted bytes word rest → word ≡ link_word command → IsLinkCommand bytes event → AreLinkArguments command rest event
link_arguments_of bytes word rest command event p is (other, parts) =
    let theirs = parts_at bytes word rest _ _ p parts in
    of_link_command other command rest event (one_link_word other command (sym theirs.0 ∙ is)) theirs.1

-- a word that begins none
pub no_link_command : (bytes word rest : List ℕ) (event : Event) → IsParted bytes word rest → ((command : LinkCommand) → word ≡ link_word command → ⊥) → IsLinkCommand bytes event → ⊥
no_link_command bytes word rest event p none (command, parts) = none command (parts_at bytes word rest _ _ p parts).0

-- and a text without a space is none
pub no_link_words : (bytes : List ℕ) (event : Event) → HasNoSpace bytes → IsLinkCommand bytes event → ⊥
no_link_words bytes event none (command, parts) = no_parts bytes _ _ none parts

pub one_link_command : (bytes : List ℕ) (a b : Event) → IsLinkCommand bytes a → IsLinkCommand bytes b → a ≡ b
one_link_command bytes a b (command, parts) q = one_link_event command parts.rest a b parts.behind (link_arguments_of bytes parts.word parts.rest command b parts.parted parts.first q)

-- what the parts of a command make
pub link_command_of : (bytes word rest : List ℕ) (command : LinkCommand) (event : Event) → IsParted bytes word rest → word ≡ link_word command → AreLinkArguments command rest event → IsLinkCommand bytes event
link_command_of bytes word rest command event p is are = (command, record { word = word; rest = rest; parted = p; first = is; behind = are })
