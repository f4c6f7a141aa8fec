-- Each line of a link says something or is malformed, and all lines have a text.
use Rattle.std.proofs.Common.{◌≡◌, ℕ, ◌+◌, ◌^◌, List, [], ◌∷◌, length, Option, Some, None, refl, sym, subst, ◌⊎◌, inl, inr}
use Rattle.std.specs.Prelude.{◌≢◌, codes}
use Rattle.std.specs.List.{AllByRecursion}
use Rattle.nd_lines.specs.Lines.{longest_line}
use Rattle.nd_chronicle.specs.Event as nodes
use Rattle.nd_node.specs.Limits.{usual_limits}
use Rattle.nd_existence.proofs.Deciding.{Decided, same_or}
use Rattle.ndpctl_run.specs.Number.{IsNumberWord}
use Rattle.ndpctl_run.specs.Said.{Says, SaysNothing, stops, says, Say}
use Rattle.nd_random.specs.Source.{stream_of_source}
use Rattle.ndpctl_run.proofs.CommandWords.{one_command}
use Rattle.nd_existence.proofs.Words.{parted_or, number_or, most_or}
use Rattle.nd_existence.proofs.Arguments.{parts_or}
use Rattle.nd_existence.proofs.Lines.{command_or, command_leaves}
use Rattle.nd_link_log.specs.Event.{Event, Starts, Comes, Delivers}
use Rattle.nd_link_log.specs.Told.{text}
use Rattle.nd_existence.specs.LinkIntervals.{LeavesTime}
use Rattle.nd_existence.proofs.LinkRunning.{run}
use Rattle.nd_existence.proofs.LinkWalking.{fine_nothing}
use Rattle.ndpctl_link.specs.declared.command.LinkCommand.{LinkCommand}
use Rattle.ndpctl_link.specs.declared.command.LinkCommand.TheVariants.{Node, On, Deliver}
use Rattle.ndpctl_link.specs.Command.{link_word, AreLinkArguments, IsLinkCommand}
use Rattle.ndpctl_link.specs.Line.{IsLinkLine}
use Rattle.ndpctl_link.specs.NodeCommand.{IsOwnCommand}
use Rattle.ndpctl_link.specs.Script.{IsLinkText}
use Rattle.ndpctl_link.proofs.LinkCommandWords.{link_arguments_of, no_link_command, no_link_words, link_command_of}
use Rattle.nd_existence.proofs.LinkStarting.{start_or}

-- ---- commands

hears_or : (event : nodes.Event) → Decided ((frame : List ℕ) → event ≢ nodes.Receives frame)
hears_or (nodes.Receives frame) = inr (λ never. never frame refl)
hears_or nodes.Passes = inl (λ frame e. let no : ⊥ = cc in no)
hears_or (nodes.Sends source destination next_header payload) = inl (λ frame e. let no : ⊥ = cc in no)
hears_or (nodes.Carries packet) = inl (λ frame e. let no : ⊥ = cc in no)
hears_or (nodes.Resolves destination) = inl (λ frame e. let no : ⊥ = cc in no)
hears_or (nodes.Confirms neighbour) = inl (λ frame e. let no : ⊥ = cc in no)
hears_or (nodes.Forgets neighbour) = inl (λ frame e. let no : ⊥ = cc in no)
hears_or (nodes.Clears table) = inl (λ frame e. let no : ⊥ = cc in no)
hears_or (nodes.Shows table) = inl (λ frame e. let no : ⊥ = cc in no)
hears_or (nodes.Advertises settings) = inl (λ frame e. let no : ⊥ = cc in no)
hears_or (nodes.Offers info) = inl (λ frame e. let no : ⊥ = cc in no)
hears_or (nodes.Routes prefix route) = inl (λ frame e. let no : ⊥ = cc in no)
hears_or nodes.Stops = inl (λ frame e. let no : ⊥ = cc in no)
hears_or (nodes.Sets own) = inl (λ frame e. let no : ⊥ = cc in no)
hears_or (nodes.Withdraws address) = inl (λ frame e. let no : ⊥ = cc in no)

own_or : (bytes : List ℕ) → Decided ((event : nodes.Event) × IsOwnCommand bytes event)
own_or bytes = elim (command_or bytes) [
  | inr none ↦ inr (λ p. none (p.0, p.1.spelled))
  | inl c ↦ elim (hears_or c.0) [
    | inl unheard ↦ inl (c.0, record { spelled = c.1; unheard = unheard })
    | inr heard ↦ inr (λ p.
        let same : p.0 ≡ c.0 = one_command bytes p.0 c.0 p.1.spelled c.1 in
        heard (subst (λ (e : nodes.Event). (frame : List ℕ) → e ≢ nodes.Receives frame) same p.1.unheard))
  ]
]

arguments_or : (command : LinkCommand) (words : List ℕ) → Decided ((event : Event) × AreLinkArguments command words event)
arguments_or Node words = elim (start_or words) [
  | inl p ↦ inl (Starts p.0 p.1.0.0 p.1.0.1.0 (stream_of_source p.1.0.1.1), (p.0, p.1.0.0, p.1.0.1.0, p.1.0.1.1, refl, p.1.1))
  | inr none ↦ inr (λ p. none (p.1.0, ((p.1.1, (p.1.2, p.1.3)), p.1.5)))
]
arguments_or On words = elim (parts_or (λ word n. IsNumberWord (2 ^ 64) word n) IsOwnCommand (number_or (2 ^ 64)) own_or words) [
  | inl p ↦ inl (Comes p.0 p.1.0, (p.0, p.1.0, refl, p.1.1))
  | inr none ↦ inr (λ p. none (p.1.0, (p.1.1, p.1.3)))
]
arguments_or Deliver words = elim (parts_or (λ word n. IsNumberWord (2 ^ 64) word n) (λ word n. IsNumberWord (2 ^ 64) word n) (number_or (2 ^ 64)) (number_or (2 ^ 64)) words) [
  | inl p ↦ inl (Delivers p.0 p.1.0, (p.0, p.1.0, refl, p.1.1))
  | inr none ↦ inr (λ p. none (p.1.0, (p.1.1, p.1.3)))
]

word_or : (word : List ℕ) → Decided ((command : LinkCommand) × (word ≡ link_word command))
word_or word = elim (same_or word (codes "node")) [
  | inl e ↦ inl (Node, e)
  | inr a ↦ elim (same_or word (codes "on")) [
    | inl e ↦ inl (On, e)
    | inr b ↦ elim (same_or word (codes "deliver")) [
      | inl e ↦ inl (Deliver, e)
      | inr c ↦ inr (λ p. none p.0 p.1 a b c)
    ]
  ]
]
  where
    none : (command : LinkCommand) → word ≡ link_word command → (word ≡ codes "node" → ⊥) → (word ≡ codes "on" → ⊥) → (word ≡ codes "deliver" → ⊥) → ⊥
    none Node e a b c = a e
    none On e a b c = b e
    none Deliver e a b c = c e

link_command_or : (bytes : List ℕ) → Decided ((event : Event) × IsLinkCommand bytes event)
link_command_or bytes = elim (parted_or bytes) [
  | inr none ↦ inr (λ p. no_link_words bytes p.0 none p.1)
  | inl w ↦ elim (word_or w.0) [
    | inr nothing ↦ inr (λ p. no_link_command bytes w.0 w.1 p.0 w.2 (λ c e. nothing (c, e)) p.1)
    | inl c ↦ elim (arguments_or c.0 w.1) [
      | inl p ↦ inl (p.0, link_command_of bytes w.0 w.1 c.0 p.0 w.2 c.1 p.1)
      | inr nothing ↦ inr (λ p. nothing (p.0, link_arguments_of bytes w.0 w.1 c.0 p.0 w.2 c.1 p.1))
    ]
  ]
]

-- ---- lines

line_or : (line : List ℕ) → ((at : ℕ) × ((event : Event) × Says IsLinkLine line at event)) ⊎ SaysNothing IsLinkLine line
line_or line = elim (most_or (length line) longest_line) [
  | inr long ↦ inr (λ at event s. long s.short)
  | inl short ↦ elim (parts_or (λ word n. IsNumberWord (2 ^ 62) word n) IsLinkCommand (number_or (2 ^ 62)) link_command_or line) [
    | inl p ↦ inl (p.0, (p.1.0, record { short = short; spelled = p.1.1 }))
    | inr none ↦ inr (λ at event s. none (at, (event, s.spelled)))
  ]
]

pub all_read : (lines : List (List ℕ)) (n : ℕ) → (said : List (ℕ × Event)) × (found : Option ℕ) × Say IsLinkLine n lines said found
all_read [] n = ([], None, (refl, refl))
all_read (line ∷ lines) n = elim (line_or line) [
  | inr nothing ↦ ([], Some n, stops nothing)
  | inl p ↦ let later = all_read lines (n + 1) in ((p.0, p.1.0) ∷ later.0, later.1, says p.0 p.1.0 p.1.1 later.2)
]

-- ---- what lines say leaves time between two advertisements

arguments_leave : (command : LinkCommand) (words : List ℕ) (event : Event) → AreLinkArguments command words event → LeavesTime event
arguments_leave Node words event a = subst LeavesTime (sym a.4) tt
arguments_leave On words event a = subst LeavesTime (sym a.2) (command_leaves a.3.rest a.1 a.3.behind.spelled)
arguments_leave Deliver words event a = subst LeavesTime (sym a.2) tt

said_leaves : (lines : List (List ℕ)) (n : ℕ) (said : List (ℕ × Event)) (found : Option ℕ) → Say IsLinkLine n lines said found → AllByRecursion (λ event. LeavesTime event.1) said
said_leaves [] n said found s = subst (AllByRecursion (λ event. LeavesTime event.1)) (sym s.0) tt
said_leaves (line ∷ lines) n said found (stops nothing) = tt
said_leaves (line ∷ lines) n said found (says at event {later = later} {found = found'} s rest) =
    (arguments_leave s.spelled.behind.0 s.spelled.behind.1.rest event s.spelled.behind.1.behind, said_leaves lines (n + 1) later found' rest)

pub text_of : (n : ℕ) (lines : List (List ℕ)) → (told : List ℕ) × (found : Option ℕ) × IsLinkText n lines told found
text_of n lines =
    let read = all_read lines n in
    let r = run usual_limits read.0 [] (said_leaves lines n read.0 read.1 read.2) fine_nothing in
    (text r.0, read.1, record { said = read.0; say = read.2; end = r.0; runs = r.1; text_is = refl })
