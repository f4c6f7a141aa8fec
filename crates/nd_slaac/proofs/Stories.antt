-- What the story of an address says of it, and what one more row makes of that.
use Rattle.std.proofs.Common.{◌≡◌, ℕ, Bool, true, false, [], ◌∷◌, Option, Some, None, refl, sym, ◌∙◌, ap}
use Rattle.std.specs.Prelude.{is_some}
use Rattle.std.proofs.lemmas.Bool.{true≢false}
use Rattle.nd_slaac.specs.History.{Story, Formed, SetByHand, Announced, Solicited, Conflict, Assigned, Ended}
use Rattle.nd_slaac.specs.Ends.{preferred_end, valid_end}
use Rattle.nd_slaac.specs.State.{Forming, forming_of, is_by_hand, is_known, has_conflict, was_assigned, sent_of, step_at}
use Rattle.nd_slaac.specs.AddressKept.{Address, stage_by, address_by, address_of}
use Rattle.nd_slaac.specs.Calls.{is_by_hand_in}
use Rattle.nd_slaac.specs.Dates.{stage_date, next_step}

-- the address that the story of a forming makes
abbrev pub made : ℕ → Forming → Story → Address
made key f s = record { key = key; preferred_end = preferred_end s; valid_end = valid_end s; stage = stage_by f (has_conflict s) (was_assigned s) (sent_of s); by_hand = is_by_hand s }

by_forming : (key : ℕ) (s : Story) (a : Address) (o : Option Forming) → forming_of s ≡ o → address_by key o (has_conflict s) (was_assigned s) (sent_of s) (preferred_end s) (valid_end s) (is_by_hand s) ≡ Some a → (f : Forming) × (forming_of s ≡ Some f) × (a ≡ made key f s)
by_forming key s a None is h = absurd (cc)
by_forming key s a (Some f) is h = (f, is, let e : made key f s ≡ a = cc in sym e)

-- an address that the story makes was formed
pub was_formed : (key : ℕ) (s : Story) (a : Address) → address_of key s ≡ Some a → (f : Forming) × (forming_of s ≡ Some f) × (a ≡ made key f s)
was_formed key s a h = by_forming key s a (forming_of s) refl h

known_is_by : (key : ℕ) (o : Option Forming) (c w : Bool) (n : ℕ) (p v : Option ℕ) (b : Bool) → is_some (address_by key o c w n p v b) ≡ is_some o
known_is_by key None c w n p v b = refl
known_is_by key (Some f) c w n p v b = refl

-- what the story makes an address of is known
pub known_story : (key : ℕ) (s : Story) → is_some (address_of key s) ≡ is_known s
known_story key s = known_is_by key (forming_of s) (has_conflict s) (was_assigned s) (sent_of s) (preferred_end s) (valid_end s) (is_by_hand s)

hand_is_by : (key : ℕ) (o : Option Forming) (c w : Bool) (n : ℕ) (p v : Option ℕ) (b : Bool) → (o ≡ None → b ≡ false) → is_by_hand_in (address_by key o c w n p v b) ≡ b
hand_is_by key None c w n p v b none = sym (none refl)
hand_is_by key (Some f) c w n p v b none = refl

-- an address that was given by hand was formed
unformed : (s : Story) → forming_of s ≡ None → is_by_hand s ≡ false
unformed [] is = refl
unformed ((at, Formed delay retrans lifetimes) ∷ s) is = refl
unformed ((at, SetByHand lifetimes) ∷ s) is = ap is_some is
unformed ((at, Announced lifetimes) ∷ s) is = unformed s is
unformed ((at, Solicited) ∷ s) is = unformed s is
unformed ((at, Conflict) ∷ s) is = unformed s is
unformed ((at, Assigned) ∷ s) is = unformed s is
unformed ((at, Ended) ∷ s) is = unformed s is

hand_was_formed : (s : Story) (o : Option Forming) → forming_of s ≡ o → is_by_hand s ≡ true → is_some o ≡ true
hand_was_formed s None is hand = absurd (true≢false (sym hand ∙ unformed s is))
hand_was_formed s (Some f) is hand = refl

pub known_by_hand : (s : Story) → is_by_hand s ≡ true → is_known s ≡ true
known_by_hand s hand = hand_was_formed s (forming_of s) refl hand

-- what is kept says whether the story has it given by hand
pub hand_story : (key : ℕ) (s : Story) → is_by_hand_in (address_of key s) ≡ is_by_hand s
hand_story key s = hand_is_by key (forming_of s) (has_conflict s) (was_assigned s) (sent_of s) (preferred_end s) (valid_end s) (is_by_hand s) (unformed s)

pub formed_is : (key : ℕ) (s : Story) (f : Forming) → forming_of s ≡ Some f → address_of key s ≡ Some (made key f s)
formed_is key s f is = rw is refl

known_by : (o : Option Forming) → is_some o ≡ true → (f : Forming) × (o ≡ Some f)
known_by None h = absurd (true≢false (sym h))
known_by (Some f) h = (f, refl)

pub known_forming : (s : Story) → is_known s ≡ true → (f : Forming) × (forming_of s ≡ Some f)
known_forming s h = known_by (forming_of s) h

-- a detection that has a next step goes on
steps_by : (f : Forming) (c w : Bool) (sent now : ℕ) → stage_date (stage_by f c w sent) ≡ Some now → (c ≡ false) × (w ≡ false) × (step_at f sent ≡ now)
steps_by f true w sent now h = absurd (cc)
steps_by f false true sent now h = absurd (cc)
steps_by f false false sent now h = (refl, refl, let e : step_at f sent ≡ now = cc in e)

pub steps : (key : ℕ) (s : Story) (a : Address) (f : Forming) (now : ℕ) → a ≡ made key f s → next_step a ≡ Some now → (has_conflict s ≡ false) × (was_assigned s ≡ false) × (step_at f (sent_of s) ≡ now)
steps key s a f now is h = steps_by f (has_conflict s) (was_assigned s) (sent_of s) now (ap next_step (sym is) ∙ h)
