-- A command is determined by its words.
use Rattle.std.proofs.Common.{◌≡◌, ◌∙◌, ◌<◌, ℕ, zero, suc, List, [], ◌∷◌, Some, get_or, length, eqb, if◌then◌else◌, sym, refl, ap, subst, inl, inr, arith}
use Rattle.std.specs.Prelude.{codes, slice_get}
use Rattle.nd_chronicle.specs.Event.{Event, Receives, Carries, Confirms, Forgets, Clears, Shows, Advertises, Offers, Sets, Withdraws, Resolves}
use Rattle.ndpctl_run.specs.declared.command.Command.{Command}
use Rattle.ndpctl_run.specs.declared.command.Command.TheVariants.{Rx, Send, Confirm, Forget, Clear, Show, Advertise, Prefix, Route, Address, Withdraw, Resolve, Carry}
use Rattle.ndpctl_run.specs.Command.{command_word, AreArguments, IsCommand, IsWholeCommand}
use Rattle.ndpctl_run.specs.Words.{HasNoSpace, IsParted}
use Rattle.ndpctl_run.proofs.AddressWords.{one_address}
use Rattle.ndpctl_run.proofs.BytesWords.{one_bytes}
use Rattle.ndpctl_run.proofs.OfferWords.{one_offer}
use Rattle.ndpctl_run.proofs.OwnAddressWords.{one_own_address}
use Rattle.ndpctl_run.proofs.PacketWords.{one_packet}
use Rattle.ndpctl_run.proofs.Partings.{no_parting, no_parts, parts_at}
use Rattle.ndpctl_run.proofs.RouteWords.{one_route}
use Rattle.ndpctl_run.proofs.SettingsWords.{one_settings}
use Rattle.ndpctl_run.proofs.TableWords.{one_clearable, one_table}
use Rattle.ndpctl_run.proofs.WholeWords.{one_whole}

at_no_space : HasNoSpace (codes "at")
at_no_space zero lt e = omega arith
at_no_space (suc zero) lt e = omega arith
at_no_space (suc (suc k)) lt e = omega arith

stop_no_space : HasNoSpace (codes "stop")
stop_no_space zero lt e = omega arith
stop_no_space (suc zero) lt e = omega arith
stop_no_space (suc (suc zero)) lt e = omega arith
stop_no_space (suc (suc (suc zero))) lt e = omega arith
stop_no_space (suc (suc (suc (suc k)))) lt e = omega arith

whole_no_space : (bytes : List ℕ) (event : Event) → IsWholeCommand bytes event → HasNoSpace bytes
whole_no_space bytes event (inl (at, passes)) = rw at at_no_space
whole_no_space bytes event (inr (stop, of_routers)) = rw stop stop_no_space

-- a word is one of them at most
pub one_whole_command : (word : List ℕ) (c d : Event) → IsWholeCommand word c → IsWholeCommand word d → c ≡ d
one_whole_command word c d (inl (at, passes)) (inl (at', passes')) = passes ∙ sym passes'
one_whole_command word c d (inl (at, passes)) (inr (stop, of_routers)) = let no : codes "at" ≡ codes "stop" = sym at ∙ stop in cc
one_whole_command word c d (inr (stop, of_routers)) (inl (at, passes)) = let no : codes "at" ≡ codes "stop" = sym at ∙ stop in cc
one_whole_command word c d (inr (stop, of_routers)) (inr (stop', of_routers')) = of_routers ∙ sym of_routers'

-- ---- a command is determined by its word

-- by its length, or by its first bytes
abbrev told : List ℕ → Command
told word =
    if eqb (length word) 2 then Rx else
    if eqb (length word) 8 then Withdraw else
    if eqb (length word) 9 then Advertise else
    if eqb (get_or word 0 0) 97 then Address else
    if eqb (get_or word 0 0) 114 then (if eqb (length word) 7 then Resolve else Route) else
    if eqb (length word) 7 then Confirm else
    if eqb (get_or word 0 0) 99 then (if eqb (get_or word 1 0) 97 then Carry else Clear) else
    if eqb (get_or word 0 0) 102 then Forget else
    if eqb (get_or word 0 0) 112 then Prefix else
    if eqb (get_or word 1 0) 101 then Send else Show

told_back : (command : Command) → told (command_word command) ≡ command
told_back Rx = refl
told_back Send = refl
told_back Confirm = refl
told_back Forget = refl
told_back Clear = refl
told_back Show = refl
told_back Advertise = refl
told_back Prefix = refl
told_back Route = refl
told_back Address = refl
told_back Withdraw = refl
told_back Resolve = refl
told_back Carry = refl

pub one_command_word : (c d : Command) → command_word c ≡ command_word d → c ≡ d
one_command_word c d e = sym (told_back c) ∙ ap told e ∙ told_back d

abbrev pub commands : List Command
commands = Rx ∷ Send ∷ Confirm ∷ Forget ∷ Clear ∷ Show ∷ Advertise ∷ Prefix ∷ Route ∷ Address ∷ Withdraw ∷ Resolve ∷ Carry ∷ []

-- where a command stands among them
pub record Place (command : Command) : Type 0 where
  pub at : ℕ
  pub within : at < 13
  pub there : slice_get commands at ≡ Some command

pub place : (command : Command) → Place command
place Rx = record { at = 0; within = omega arith; there = refl }
place Send = record { at = 1; within = omega arith; there = refl }
place Confirm = record { at = 2; within = omega arith; there = refl }
place Forget = record { at = 3; within = omega arith; there = refl }
place Clear = record { at = 4; within = omega arith; there = refl }
place Show = record { at = 5; within = omega arith; there = refl }
place Advertise = record { at = 6; within = omega arith; there = refl }
place Prefix = record { at = 7; within = omega arith; there = refl }
place Route = record { at = 8; within = omega arith; there = refl }
place Address = record { at = 9; within = omega arith; there = refl }
place Withdraw = record { at = 10; within = omega arith; there = refl }
place Resolve = record { at = 11; within = omega arith; there = refl }
place Carry = record { at = 12; within = omega arith; there = refl }

-- ---- what it acts on

same_packet : (words : List ℕ) (c d : Event) → AreArguments Send words c → AreArguments Send words d → c ≡ d
same_packet words c d (s, t, n, p, is, spelled) (s', t', n', p', is', spelled') =
    let same = one_packet words s t n p s' t' n' p' spelled spelled' in
    is ∙ rw (same.source_is, same.destination_is, same.next_header_is, same.payload_is) (sym is')

same_route : (words : List ℕ) (c d : Event) → AreArguments Route words c → AreArguments Route words d → c ≡ d
same_route words c d (prefix, route, is, spelled) (prefix', route', is', spelled') =
    let same = one_route words prefix prefix' route route' spelled spelled' in
    is ∙ rw (same.0, same.1) (sym is')

one_event : (command : Command) (words : List ℕ) (c d : Event) → AreArguments command words c → AreArguments command words d → c ≡ d
one_event Rx words c d p q = p.1 ∙ (ap Receives (one_bytes words p.0 q.0 p.2 q.2) ∙ sym q.1)
one_event Send words c d p q = same_packet words c d p q
one_event Confirm words c d p q = p.1 ∙ (ap Confirms (one_address words p.0 q.0 p.2 q.2) ∙ sym q.1)
one_event Forget words c d p q = p.1 ∙ (ap Forgets (one_address words p.0 q.0 p.2 q.2) ∙ sym q.1)
one_event Clear words c d p q = p.1 ∙ (ap Clears (one_clearable p.0 q.0 (sym p.2 ∙ q.2)) ∙ sym q.1)
one_event Show words c d p q = p.1 ∙ (ap Shows (one_table p.0 q.0 (sym p.2 ∙ q.2)) ∙ sym q.1)
one_event Advertise words c d p q = p.1 ∙ (ap Advertises (one_settings words p.0 q.0 p.2 q.2) ∙ sym q.1)
one_event Prefix words c d p q = p.1 ∙ (ap Offers (one_offer words p.0 q.0 p.2 q.2) ∙ sym q.1)
one_event Route words c d p q = same_route words c d p q
one_event Address words c d p q = p.1 ∙ (ap Sets (one_own_address words p.0 q.0 p.2 q.2) ∙ sym q.1)
one_event Withdraw words c d p q = p.1 ∙ (ap Withdraws (one_address words p.0 q.0 p.2 q.2) ∙ sym q.1)
one_event Resolve words c d p q = p.1 ∙ (ap Resolves (one_address words p.0 q.0 p.2 q.2) ∙ sym q.1)
one_event Carry words c d p q = p.1 ∙ (ap Carries (one_whole words p.0 q.0 p.2 q.2) ∙ sym q.1)

pub of_command : (c d : Command) (words : List ℕ) (event : Event) → c ≡ d → AreArguments c words event → AreArguments d words event
of_command c d words event e are = subst (λ (command : Command). AreArguments command words event) e are

-- ---- the bytes of a command

-- with a space, they begin with its word, and what it acts on follows
pub arguments_of : (bytes word rest : List ℕ) (command : Command) (event : Event) → IsParted bytes word rest → word ≡ command_word command → IsCommand bytes event → AreArguments command rest event
arguments_of bytes word rest command event p is (inl whole) = absurd (no_parting bytes word rest (whole_no_space bytes event whole) p)
arguments_of bytes word rest command event p is (inr (other, parts)) =
    let theirs = parts_at bytes word rest _ _ p parts in
    subst (λ (c : Command). AreArguments c rest event) (one_command_word other command (sym theirs.0 ∙ is)) theirs.1

-- a word that begins none
pub no_command : (bytes word rest : List ℕ) (event : Event) → IsParted bytes word rest → ((command : Command) → word ≡ command_word command → ⊥) → IsCommand bytes event → ⊥
no_command bytes word rest event p none (inl whole) = no_parting bytes word rest (whole_no_space bytes event whole) p
no_command bytes word rest event p none (inr (command, parts)) = none command (parts_at bytes word rest _ _ p parts).0

-- and without a space they act on nothing
pub whole_command : (bytes : List ℕ) (event : Event) → HasNoSpace bytes → IsCommand bytes event → IsWholeCommand bytes event
whole_command bytes event none (inl whole) = whole
whole_command bytes event none (inr (command, parts)) = absurd (no_parts bytes _ _ none parts)

-- bytes spell one command at most
pub one_command : (bytes : List ℕ) (c d : Event) → IsCommand bytes c → IsCommand bytes d → c ≡ d
one_command bytes c d (inl whole) q = one_whole_command bytes c d whole (whole_command bytes d (whole_no_space bytes c whole) q)
one_command bytes c d (inr (command, parts)) q = one_event command parts.rest c d parts.behind (arguments_of bytes parts.word parts.rest command d parts.parted parts.first q)

-- ---- what the parts of a command make

pub command_of : (bytes word rest : List ℕ) (command : Command) (event : Event) → IsParted bytes word rest → word ≡ command_word command → AreArguments command rest event → IsCommand bytes event
command_of bytes word rest command event p is are = inr (command, record { word = word; rest = rest; parted = p; first = is; behind = are })
