-- A command that comes to a node is determined by its words.
use Rattle.std.proofs.Common.{◌≡◌, ◌≢◌, ◌↔◌, ◌^◌, ℕ, Bool, true, false, List, refl, ◌∙◌, inl, inr, arith}
use Rattle.std.specs.Prelude.{IsTrue, MatchBool, codes}
use Rattle.nd_chronicle.specs.Event.{Event, Receives}
use Rattle.ndpctl_run.specs.declared.command.Command.{Command}
use Rattle.ndpctl_run.specs.declared.command.Command.TheVariants.{Rx, Send, Confirm, Forget, Clear, Show, Advertise, Prefix, Route, Address, Withdraw, Resolve, Carry}
use Rattle.ndpctl_run.specs.Command.{AreArguments, IsCommand, IsWholeCommand}
use Rattle.ndpctl_run.specs.Words.{HasNoSpace, IsParted}
use Rattle.ndpctl_run.proofs.CommandWords.{arguments_of, one_command}
use Rattle.ndpctl_run.proofs.NumberWords.{one_number}
use Rattle.ndpctl_run.proofs.Partings.{no_parting, one_parting, parts_at}
use Rattle.ndpctl_link.specs.NodeCommand.{IsNodeCommand, IsOwnCommand}

-- ---- which commands hear a frame

-- `rx` does
pub rx_hears : (bytes word rest : List ℕ) → IsParted bytes word rest → word ≡ codes "rx" → (event : Event) → IsOwnCommand bytes event → ⊥
rx_hears bytes word rest p is event own = let heard = arguments_of bytes word rest Rx event p is own.spelled in own.unheard heard.0 heard.1

whole_unheard : (bytes : List ℕ) (event : Event) → IsWholeCommand bytes event → (frame : List ℕ) → event ≢ Receives frame
whole_unheard bytes event (inl (at, passes)) frame e = cc
whole_unheard bytes event (inr (stop, stops)) frame e = cc

arguments_unheard : (command : Command) (words : List ℕ) (event : Event) → AreArguments command words event → command ≢ Rx → (frame : List ℕ) → event ≢ Receives frame
arguments_unheard Rx words event are other frame e = absurd (other refl)
arguments_unheard Send words event (s, t, n, p, is, spelled) other frame e = cc
arguments_unheard Confirm words event (a, is, spelled) other frame e = cc
arguments_unheard Forget words event (a, is, spelled) other frame e = cc
arguments_unheard Clear words event (t, is, spelled) other frame e = cc
arguments_unheard Show words event (t, is, spelled) other frame e = cc
arguments_unheard Advertise words event (s, is, spelled) other frame e = cc
arguments_unheard Prefix words event (i, is, spelled) other frame e = cc
arguments_unheard Route words event (p, r, is, spelled) other frame e = cc
arguments_unheard Address words event (o, is, spelled) other frame e = cc
arguments_unheard Withdraw words event (a, is, spelled) other frame e = cc
arguments_unheard Resolve words event (d, is, spelled) other frame e = cc
arguments_unheard Carry words event (p, is, spelled) other frame e = cc

-- a command whose first word isn't `rx` doesn't
pub others_hear_none : (bytes : List ℕ) → ((word rest : List ℕ) → IsParted bytes word rest → word ≡ codes "rx" → ⊥) → (event : Event) → IsCommand bytes event → (frame : List ℕ) → event ≢ Receives frame
others_hear_none bytes none event (inl whole) = whole_unheard bytes event whole
others_hear_none bytes none event (inr (command, parts)) =
    arguments_unheard command parts.rest event parts.behind (λ rx. none parts.word parts.rest parts.parted (rw rx at parts.first))

pub no_space_hears_none : (bytes : List ℕ) → HasNoSpace bytes → (event : Event) → IsCommand bytes event → (frame : List ℕ) → event ≢ Receives frame
no_space_hears_none bytes none = others_hear_none bytes (λ word rest p is. no_parting bytes word rest none p)

pub other_word_hears_none : (bytes word rest : List ℕ) → IsParted bytes word rest → word ≢ codes "rx" → (event : Event) → IsCommand bytes event → (frame : List ℕ) → event ≢ Receives frame
other_word_hears_none bytes word rest p other = others_hear_none bytes (λ word' rest' q is. other ((one_parting bytes word rest word' rest' p q).0 ∙ is))

pub rx_told : (bytes word rest : List ℕ) (b : Bool) → IsParted bytes word rest → (IsTrue b ↔ (word ≡ codes "rx"))
    → MatchBool b ((event : Event) → IsOwnCommand bytes event → ⊥) ((event : Event) → IsCommand bytes event → (frame : List ℕ) → event ≢ Receives frame)
rx_told bytes word rest true p tells = rx_hears bytes word rest p (tells.0 refl)
rx_told bytes word rest false p tells = other_word_hears_none bytes word rest p (λ is. (let no : false ≡ true = tells.1 is in cc))

-- ---- it is determined by its words

pub one_node_command : (words : List ℕ) (node node' : ℕ) (event event' : Event) → IsNodeCommand words node event → IsNodeCommand words node' event' → (node ≡ node') × (event ≡ event')
one_node_command words node node' event event' p q =
    let theirs = parts_at words p.word p.rest _ _ p.parted q in
    (one_number (2 ^ 64) (omega arith) p.word node node' p.first theirs.0, one_command p.rest event event' p.behind.spelled theirs.1.spelled)
