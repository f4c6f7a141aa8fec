-- Each line says something or is malformed, and all lines have a text.
use Rattle.std.proofs.Common.{◌≡◌, ℕ, ◌+◌, ◌^◌, false, List, [], ◌∷◌, length, Option, Some, None, refl, sym, ◌∙◌, subst, ◌⊎◌, inl, inr}
use Rattle.std.specs.Prelude.{codes}
use Rattle.std.specs.List.{AllByRecursion}
use Rattle.nd_lines.specs.Lines.{longest_line}
use Rattle.nd_advertiser.specs.Config.{Settings, config_fault}
use Rattle.nd_chronicle.specs.Start.{Start}
use Rattle.nd_chronicle.specs.Event.{Event, Passes, Receives, Sends, Carries, Confirms, Forgets, Clears, Shows, Advertises, Offers, Routes, Stops, Sets, Withdraws, Resolves}
use Rattle.nd_chronicle.specs.History.{beginning}
use Rattle.nd_chronicle.specs.Told.{text}
use Rattle.nd_existence.specs.Intervals.{LeavesTime}
use Rattle.nd_existence.proofs.Deciding.{Decided, same_or}
use Rattle.nd_existence.proofs.Running.{run}
use Rattle.nd_existence.proofs.Timed.{faultless}
use Rattle.ndpctl_run.specs.declared.command.Command.{Command}
use Rattle.ndpctl_run.specs.declared.command.Command.TheVariants.{Rx, Send, Confirm, Forget, Clear, Show, Advertise, Prefix, Route, Address, Withdraw, Resolve, Carry}
use Rattle.ndpctl_run.specs.Command.{command_word, AreArguments, IsWholeCommand, IsCommand}
use Rattle.ndpctl_run.specs.Line.{IsLine}
use Rattle.ndpctl_run.specs.Number.{IsNumberWord}
use Rattle.ndpctl_run.specs.Said.{Says, SaysNothing, stops, says, Say}
use Rattle.ndpctl_run.specs.Script.{IsText}
use Rattle.ndpctl_run.proofs.CommandWords.{arguments_of, no_command, whole_command, command_of}
use Rattle.ndpctl_run.proofs.Lines.{moment_in, is_line}
use Rattle.ndpctl_run.proofs.Partings.{parts_at, no_parts}
use Rattle.nd_existence.proofs.Words.{parted_or, number_or, most_or, bytes_or, address_or}
use Rattle.nd_existence.proofs.Arguments.{clearable_or, table_or, settings_or, offer_or, route_or, own_address_or, packet_or, whole_packet_or}

-- ---- commands

pub some_command : (P : Command → Type 0) → ((c : Command) → Decided (P c)) → Decided ((c : Command) × P c)
some_command P decided = elim (decided Rx) [
  | inl p ↦ inl (Rx, p)
  | inr a ↦ elim (decided Send) [
    | inl p ↦ inl (Send, p)
    | inr b ↦ elim (decided Confirm) [
      | inl p ↦ inl (Confirm, p)
      | inr c ↦ elim (decided Forget) [
        | inl p ↦ inl (Forget, p)
        | inr d ↦ elim (decided Clear) [
          | inl p ↦ inl (Clear, p)
          | inr e ↦ elim (decided Show) [
            | inl p ↦ inl (Show, p)
            | inr f ↦ elim (decided Advertise) [
              | inl p ↦ inl (Advertise, p)
              | inr g ↦ elim (decided Prefix) [
                | inl p ↦ inl (Prefix, p)
                | inr h ↦ elim (decided Route) [
                  | inl p ↦ inl (Route, p)
                  | inr i ↦ elim (decided Address) [
                    | inl p ↦ inl (Address, p)
                    | inr j ↦ elim (decided Withdraw) [
                      | inl p ↦ inl (Withdraw, p)
                      | inr k ↦ elim (decided Resolve) [
                        | inl p ↦ inl (Resolve, p)
                        | inr l ↦ elim (decided Carry) [
                          | inl p ↦ inl (Carry, p)
                          | inr m ↦ inr (λ p. none p.0 a b c d e f g h i j k l m p.1)
                        ]
                      ]
                    ]
                  ]
                ]
              ]
            ]
          ]
        ]
      ]
    ]
  ]
]
  where
    none : (t : Command) → (P Rx → ⊥) → (P Send → ⊥) → (P Confirm → ⊥) → (P Forget → ⊥) → (P Clear → ⊥) → (P Show → ⊥) → (P Advertise → ⊥) → (P Prefix → ⊥) → (P Route → ⊥)
        → (P Address → ⊥) → (P Withdraw → ⊥) → (P Resolve → ⊥) → (P Carry → ⊥) → P t → ⊥
    none Rx a b c d e f g h i j k l m p = a p
    none Send a b c d e f g h i j k l m p = b p
    none Confirm a b c d e f g h i j k l m p = c p
    none Forget a b c d e f g h i j k l m p = d p
    none Clear a b c d e f g h i j k l m p = e p
    none Show a b c d e f g h i j k l m p = f p
    none Advertise a b c d e f g h i j k l m p = g p
    none Prefix a b c d e f g h i j k l m p = h p
    none Route a b c d e f g h i j k l m p = i p
    none Address a b c d e f g h i j k l m p = j p
    none Withdraw a b c d e f g h i j k l m p = k p
    none Resolve a b c d e f g h i j k l m p = l p
    none Carry a b c d e f g h i j k l m p = m p

arguments_or : (command : Command) (words : List ℕ) → Decided ((event : Event) × AreArguments command words event)
arguments_or Rx words = elim (bytes_or words) [ inl p ↦ inl (Receives p.0, (p.0, refl, p.1)) | inr none ↦ inr (λ p. none (p.1.0, p.1.2)) ]
arguments_or Send words = elim (packet_or words) [
  | inl p ↦ inl (Sends p.0 p.1.0.0 p.1.0.1.0 p.1.0.1.1, (p.0, p.1.0.0, p.1.0.1.0, p.1.0.1.1, refl, p.1.1))
  | inr none ↦ inr (λ p. none (p.1.0, ((p.1.1, (p.1.2, p.1.3)), p.1.5)))
]
arguments_or Confirm words = elim (address_or words) [ inl p ↦ inl (Confirms p.0, (p.0, refl, p.1)) | inr none ↦ inr (λ p. none (p.1.0, p.1.2)) ]
arguments_or Forget words = elim (address_or words) [ inl p ↦ inl (Forgets p.0, (p.0, refl, p.1)) | inr none ↦ inr (λ p. none (p.1.0, p.1.2)) ]
arguments_or Clear words = elim (clearable_or words) [ inl p ↦ inl (Clears p.0, (p.0, refl, p.1)) | inr none ↦ inr (λ p. none (p.1.0, p.1.2)) ]
arguments_or Show words = elim (table_or words) [ inl p ↦ inl (Shows p.0, (p.0, refl, p.1)) | inr none ↦ inr (λ p. none (p.1.0, p.1.2)) ]
arguments_or Advertise words = elim (settings_or words) [ inl p ↦ inl (Advertises p.0, (p.0, refl, p.1)) | inr none ↦ inr (λ p. none (p.1.0, p.1.2)) ]
arguments_or Prefix words = elim (offer_or words) [ inl p ↦ inl (Offers p.0, (p.0, refl, p.1)) | inr none ↦ inr (λ p. none (p.1.0, p.1.2)) ]
arguments_or Route words = elim (route_or words) [ inl p ↦ inl (Routes p.0 p.1.0, (p.0, p.1.0, refl, p.1.1)) | inr none ↦ inr (λ p. none (p.1.0, (p.1.1, p.1.3))) ]
arguments_or Address words = elim (own_address_or words) [ inl p ↦ inl (Sets p.0, (p.0, refl, p.1)) | inr none ↦ inr (λ p. none (p.1.0, p.1.2)) ]
arguments_or Withdraw words = elim (address_or words) [ inl p ↦ inl (Withdraws p.0, (p.0, refl, p.1)) | inr none ↦ inr (λ p. none (p.1.0, p.1.2)) ]
arguments_or Resolve words = elim (address_or words) [ inl p ↦ inl (Resolves p.0, (p.0, refl, p.1)) | inr none ↦ inr (λ p. none (p.1.0, p.1.2)) ]
arguments_or Carry words = elim (whole_packet_or words) [ inl p ↦ inl (Carries p.0, (p.0, refl, p.1)) | inr none ↦ inr (λ p. none (p.1.0, p.1.2)) ]

whole_or : (bytes : List ℕ) → Decided ((event : Event) × IsWholeCommand bytes event)
whole_or bytes = elim (same_or bytes (codes "at")) [
  | inl e ↦ inl (Passes, inl (e, refl))
  | inr a ↦ elim (same_or bytes (codes "stop")) [
    | inl e ↦ inl (Stops, inr (e, refl))
    | inr b ↦ inr (λ p. neither p.0 p.1 a b)
  ]
]
  where
    neither : (event : Event) → IsWholeCommand bytes event → (bytes ≡ codes "at" → ⊥) → (bytes ≡ codes "stop" → ⊥) → ⊥
    neither event (inl e) a b = a e.0
    neither event (inr e) a b = b e.0

pub command_or : (bytes : List ℕ) → Decided ((event : Event) × IsCommand bytes event)
command_or bytes = elim (parted_or bytes) [
  | inr none ↦ elim (whole_or bytes) [
    | inl p ↦ inl (p.0, inl p.1)
    | inr nothing ↦ inr (λ p. nothing (p.0, whole_command bytes p.0 none p.1))
  ]
  | inl w ↦ elim (some_command (λ c. w.0 ≡ command_word c) (λ c. same_or w.0 (command_word c))) [
    | inr nothing ↦ inr (λ p. no_command bytes w.0 w.1 p.0 w.2 (λ c e. nothing (c, e)) p.1)
    | inl c ↦ elim (arguments_or c.0 w.1) [
      | inl p ↦ inl (p.0, command_of bytes w.0 w.1 c.0 p.0 w.2 c.1 p.1)
      | inr nothing ↦ inr (λ p. nothing (p.0, arguments_of bytes w.0 w.1 c.0 p.0 w.2 c.1 p.1))
    ]
  ]
]

-- ---- lines

-- a moment and an event
abbrev Reading : List ℕ → Type 0
Reading bytes = (at : ℕ) × ((event : Event) × IsLine bytes at event)

reading_or : (bytes : List ℕ) → Decided (Reading bytes)
reading_or bytes = elim (parted_or bytes) [
  | inr none ↦ inr (λ p. no_parts bytes (λ word. IsNumberWord (2 ^ 62) word p.0) (λ rest. rest ≡ p.1.1.words) none (moment_in bytes p.0 p.1.0 p.1.1))
  | inl w ↦ elim (number_or (2 ^ 62) w.0) [
    | inr none ↦ inr (λ p. none (p.0, (parts_at bytes w.0 w.1 (λ word. IsNumberWord (2 ^ 62) word p.0) (λ rest. rest ≡ p.1.1.words) w.2 (moment_in bytes p.0 p.1.0 p.1.1)).0))
    | inl n ↦ elim (command_or w.1) [
      | inr none ↦ inr (λ p.
          let same = (parts_at bytes w.0 w.1 (λ word. IsNumberWord (2 ^ 62) word p.0) (λ rest. rest ≡ p.1.1.words) w.2 (moment_in bytes p.0 p.1.0 p.1.1)).1 in
          none (p.1.0, subst (λ (r : List ℕ). IsCommand r p.1.0) (sym same) p.1.1.spelled))
      | inl c ↦ inl (n.0, (c.0, is_line bytes w.1 n.0 c.0 (record { word = w.0; rest = w.1; parted = w.2; first = n.1; behind = refl }) c.1))
    ]
  ]
]

-- the line says something, or nothing
line_or : (line : List ℕ) → ((at : ℕ) × ((event : Event) × Says IsLine line at event)) ⊎ SaysNothing IsLine line
line_or line = elim (most_or (length line) longest_line) [
  | inr long ↦ inr (λ at event s. long s.short)
  | inl short ↦ elim (reading_or line) [
    | inl p ↦ inl (p.0, (p.1.0, record { short = short; spelled = p.1.1 }))
    | inr none ↦ inr (λ at event s. none (at, (event, s.spelled)))
  ]
]

pub all_read : (lines : List (List ℕ)) (n : ℕ) → (said : List (ℕ × Event)) × (found : Option ℕ) × Say IsLine n lines said found
all_read [] n = ([], None, (refl, refl))
all_read (line ∷ lines) n = elim (line_or line) [
  | inr nothing ↦ ([], Some n, stops nothing)
  | inl p ↦ let later = all_read lines (n + 1) in ((p.0, p.1.0) ∷ later.0, later.1, says p.0 p.1.0 p.1.1 later.2)
]

-- ---- what lines say leaves time between two advertisements

settings_of : (s t : Settings) → Advertises s ≡ Advertises t → s ≡ t
settings_of s t e = cc

arguments_leave : (command : Command) (words : List ℕ) (event : Event) → AreArguments command words event → LeavesTime event
arguments_leave Advertise words event a = λ t e. faultless t (subst (λ (s : Settings). config_fault s ≡ None) (settings_of a.0 t (sym a.1 ∙ e)) a.2.right)
arguments_leave Rx words event a = λ t e. let f : Receives a.0 ≡ Advertises t = sym a.1 ∙ e in absurd (let no : ⊥ = cc in no)
arguments_leave Send words event a = λ t e. let f : Sends a.0 a.1 a.2 a.3 ≡ Advertises t = sym a.4 ∙ e in absurd (let no : ⊥ = cc in no)
arguments_leave Confirm words event a = λ t e. let f : Confirms a.0 ≡ Advertises t = sym a.1 ∙ e in absurd (let no : ⊥ = cc in no)
arguments_leave Forget words event a = λ t e. let f : Forgets a.0 ≡ Advertises t = sym a.1 ∙ e in absurd (let no : ⊥ = cc in no)
arguments_leave Clear words event a = λ t e. let f : Clears a.0 ≡ Advertises t = sym a.1 ∙ e in absurd (let no : ⊥ = cc in no)
arguments_leave Show words event a = λ t e. let f : Shows a.0 ≡ Advertises t = sym a.1 ∙ e in absurd (let no : ⊥ = cc in no)
arguments_leave Prefix words event a = λ t e. let f : Offers a.0 ≡ Advertises t = sym a.1 ∙ e in absurd (let no : ⊥ = cc in no)
arguments_leave Route words event a = λ t e. let f : Routes a.0 a.1 ≡ Advertises t = sym a.2 ∙ e in absurd (let no : ⊥ = cc in no)
arguments_leave Address words event a = λ t e. let f : Sets a.0 ≡ Advertises t = sym a.1 ∙ e in absurd (let no : ⊥ = cc in no)
arguments_leave Withdraw words event a = λ t e. let f : Withdraws a.0 ≡ Advertises t = sym a.1 ∙ e in absurd (let no : ⊥ = cc in no)
arguments_leave Resolve words event a = λ t e. let f : Resolves a.0 ≡ Advertises t = sym a.1 ∙ e in absurd (let no : ⊥ = cc in no)
arguments_leave Carry words event a = λ t e. let f : Carries a.0 ≡ Advertises t = sym a.1 ∙ e in absurd (let no : ⊥ = cc in no)

pub command_leaves : (bytes : List ℕ) (event : Event) → IsCommand bytes event → LeavesTime event
command_leaves bytes event (inl (inl e)) = λ t f. let g : Passes ≡ Advertises t = sym e.1 ∙ f in absurd (let no : ⊥ = cc in no)
command_leaves bytes event (inl (inr e)) = λ t f. let g : Stops ≡ Advertises t = sym e.1 ∙ f in absurd (let no : ⊥ = cc in no)
command_leaves bytes event (inr c) = arguments_leave c.0 c.1.rest event c.1.behind

said_leaves : (lines : List (List ℕ)) (n : ℕ) (said : List (ℕ × Event)) (found : Option ℕ) → Say IsLine n lines said found → AllByRecursion (λ event. LeavesTime event.1) said
said_leaves [] n said found s = subst (AllByRecursion (λ event. LeavesTime event.1)) (sym s.0) tt
said_leaves (line ∷ lines) n said found (stops nothing) = tt
said_leaves (line ∷ lines) n said found (says at event {later = later} {found = found'} s rest) =
    (command_leaves s.spelled.words event s.spelled.spelled, said_leaves lines (n + 1) later found' rest)

pub text_of : (start : Start) (n : ℕ) (lines : List (List ℕ)) → (told : List ℕ) × (found : Option ℕ) × IsText start n lines told found
text_of start n lines =
    let read = all_read lines n in
    let r = run start read.0 (beginning start) (said_leaves lines n read.0 read.1 read.2) tt in
    (text r.0, read.1, record { said = read.0; say = read.2; chronicle = r.0; is_theirs = r.1; text_is = refl })
