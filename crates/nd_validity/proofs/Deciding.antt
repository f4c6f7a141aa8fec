-- The function decides what is heard.
use Rattle.std.proofs.Common.{◌≡◌, ◌≢◌, ℕ, ◌%◌, ◌⊎◌, true, false, cond, eqb, ltb, List, [], ◌∷◌, ◌++◌, Option, Some, None, Result, Ok, Err, refl, sym, ap, subst, ◌∙◌, inl, inr}
use Rattle.std.proofs.lemmas.Bool.{cases_Bool, and_parts, and_from, eqb-true, eqb-false, eq-eqb, lt-ltb, ltb-true}
use Rattle.nd_addr.specs.declared.addr.Addr.{Addr}
use Rattle.nd_addr.specs.declared.role.Role.{Role}
use Rattle.nd_addr.specs.declared.role.Role.TheVariants.{Host, Router}
use Rattle.nd_addr.specs.declared.why.Why.{Why}
use Rattle.nd_addr.specs.declared.why.Why.TheVariants.{Code, Length, OptionZero, OptionOver, HopLimit, Sum, Source, Target, UnspecifiedSlla, NotSolicitedNode, SolicitedMulticast, RedirectTarget, RedirectDestination, NotForUs}
use Rattle.nd_addr.specs.Checksum.{total, IsGoodSum}
use Rattle.nd_decode.specs.declared.body.Body.{Body}
use Rattle.nd_decode.specs.declared.body.Body.TheVariants as bodies
use Rattle.nd_decode.specs.Message.{Parts, Spells, IsRefused}
use Rattle.nd_decode.specs.Decoding.{decode_of}
use Rattle.nd_decode.proofs.Deciding.{IsDecided, spells, refuses, decides, decode_spelled, decode_refused}
use Rattle.nd_addr.specs.Places.{header_in, payload_in, parts_in}
use Rattle.nd_validity.specs.Validity.{has_fault, faults, fault_of, is_not_for}
use Rattle.nd_validity.specs.Reasons.{IsMessage, IsMisspelled, IsFaulty, IsNotFor, IsReason, order, IsFirstOf, NoneOf}
use Rattle.nd_validity.specs.Hearing.{Outcome, valid, other, dropped, Hears, is_message, has_good_sum, unless, outcome_of_message, outcome_of_packet, hearing_in_some_role, taken_by, hearing_of, HearsInSomeRole}
use Rattle.nd_validity.proofs.Order.{first_one, first_not_none, first_of_all, first_front, first_back, none_joined, AreTested, first_tested, none_tested}
use Rattle.nd_validity.proofs.Frames.{frame_reasons, IsFramed, no_packet, packet, framed, message_is, is_tested}

-- ---- the reasons of messages, in three parts

abbrev sum_reasons : List Why
sum_reasons = HopLimit ∷ Sum ∷ []

abbrev spelling_reasons : List Why
spelling_reasons = Code ∷ Length ∷ OptionZero ∷ OptionOver ∷ []

-- the sum
good_sum_is : (s d : Addr) (message : List ℕ) → has_good_sum s d message ≡ true → IsGoodSum s.0 d.0 message
good_sum_is s d message e =
    let t = and_parts (ltb 0 (total s.0 d.0 message)) (eqb (total s.0 d.0 message % 65535) 0) e in
    (ltb-true _ _ t.0, eqb-true _ _ t.1)

pub sum_tested : (s d : Addr) (message : List ℕ) → IsGoodSum s.0 d.0 message → has_good_sum s d message ≡ true
sum_tested s d message h = and_from (ltb 0 (total s.0 d.0 message)) (eqb (total s.0 d.0 message % 65535) 0) (lt-ltb _ _ h.0) (eq-eqb _ _ h.1)

-- ---- which reason it is that the bytes spell no message

-- two reasons of which both hold are one
refused_one : (bytes : List ℕ) (a b : Why) → IsRefused bytes a → IsRefused bytes b → a ≡ b
refused_one bytes a b h k = let e : Err a ≡ Err b = sym (decode_refused bytes a h) ∙ decode_refused bytes b k in cc

refused_first : (frame : List ℕ) (role : Role) (why : Why) → IsMessage (header_in frame) (payload_in frame) → IsRefused (payload_in frame) why → IsFirstOf (IsReason frame role) spelling_reasons why
refused_first frame role Code m h = inl (refl, (m, h))
refused_first frame role Length m h =
    inr ((λ k. let e = refused_one (payload_in frame) Code Length k.1 h in cc), inl (refl, (m, h)))
refused_first frame role OptionZero m h =
    inr (
      (λ k. let e = refused_one (payload_in frame) Code OptionZero k.1 h in cc),
      inr ((λ k. let e = refused_one (payload_in frame) Length OptionZero k.1 h in cc), inl (refl, (m, h))),
    )
refused_first frame role OptionOver m h =
    inr (
      (λ k. let e = refused_one (payload_in frame) Code OptionOver k.1 h in cc),
      inr (
        (λ k. let e = refused_one (payload_in frame) Length OptionOver k.1 h in cc),
        inr ((λ k. let e = refused_one (payload_in frame) OptionZero OptionOver k.1 h in cc), inl (refl, (m, h))),
      ),
    )
refused_first frame role _ m h = absurd h

-- what spells a message is refused for no reason
spelled_not_refused : (bytes : List ℕ) (message : Parts) (why : Why) → Spells bytes message → IsRefused bytes why → ⊥
spelled_not_refused bytes message why s h = let e : Ok message ≡ Err why = sym (decode_spelled bytes message s) ∙ decode_refused bytes why h in cc

spelled_none : (frame : List ℕ) (role : Role) (message : Parts) → Spells (payload_in frame) message → NoneOf (IsReason frame role) spelling_reasons
spelled_none frame role message s =
    let no : (why : Why) → IsMisspelled frame why → ⊥ = λ why h. spelled_not_refused (payload_in frame) message why s h.1 in
    (no Code, (no Length, (no OptionZero, (no OptionOver, tt))))

-- there is one message
spelled_one : (bytes : List ℕ) (a b : Parts) → Spells bytes a → Spells bytes b → a ≡ b
spelled_one bytes a b h k = let e : Ok a ≡ Ok b = sym (decode_spelled bytes a h) ∙ decode_spelled bytes b k in cc

-- ---- the faults of a message

fault_tested : (frame : List ℕ) (role : Role) (message : Parts) → IsMessage (header_in frame) (payload_in frame) → Spells (payload_in frame) message
    → AreTested (IsReason frame role) (has_fault (header_in frame).source (header_in frame).destination message) faults
fault_tested frame role message m s =
    let test = has_fault (header_in frame).source (header_in frame).destination message in
    let both : (why : Why) → (test why ≡ true → IsFaulty frame why) × (IsFaulty frame why → test why ≡ true) =
    λ why. ((λ t. (m, message, s, t)), (λ f. subst (λ (x : Parts). has_fault (header_in frame).source (header_in frame).destination x why ≡ true) (spelled_one (payload_in frame) f.1 message f.2 s) f.3)) in
    (both Source, (both Target, (both UnspecifiedSlla, (both NotSolicitedNode, (both SolicitedMulticast, (both RedirectTarget, (both RedirectDestination, tt)))))))

-- ---- what is heard, where nobody asks for the role

abbrev early_reasons : List Why
early_reasons = frame_reasons ++ (sum_reasons ++ (spelling_reasons ++ faults))

-- of the reasons before the last one the first, or what is heard where none of them holds
abbrev HearsFirst : List ℕ → Role → Outcome → Type 0
HearsFirst frame role (dropped why) = IsFirstOf (IsReason frame role) early_reasons why
HearsFirst frame role (other p) = NoneOf (IsReason frame role) early_reasons
    × (IsMessage (header_in frame) (payload_in frame) → ⊥) × (p ≡ parts_in frame)
HearsFirst frame role (valid source destination message) = NoneOf (IsReason frame role) early_reasons × IsMessage (header_in frame) (payload_in frame)
    × (source ≡ (header_in frame).source) × (destination ≡ (header_in frame).destination) × Spells (payload_in frame) message

-- a packet that is no message has none of the reasons of messages
no_message : (frame : List ℕ) (role : Role) → (IsMessage (header_in frame) (payload_in frame) → ⊥) → NoneOf (IsReason frame role) (sum_reasons ++ (spelling_reasons ++ faults))
no_message frame role n = ((λ h. n h.0), ((λ h. n h.0), ((λ h. n h.0), ((λ h. n h.0), ((λ h. n h.0), ((λ h. n h.0), ((λ h. n h.0), ((λ h. n h.0), ((λ h. n h.0), ((λ h. n h.0), ((λ h. n h.0), ((λ h. n h.0), ((λ h. n h.0), tt)))))))))))))

-- of a message that is well spelled, its first fault, or the message
faults_heard : (frame : List ℕ) (role : Role) (message : Parts) → IsMessage (header_in frame) (payload_in frame) → Spells (payload_in frame) message
    → NoneOf (IsReason frame role) frame_reasons → NoneOf (IsReason frame role) sum_reasons
    → (first : Option Why) → fault_of (header_in frame).source (header_in frame).destination message ≡ first
    → HearsFirst frame role (unless first (valid (header_in frame).source (header_in frame).destination message))
faults_heard frame role message m s fs ss (Some why) e =
    let test = has_fault (header_in frame).source (header_in frame).destination message in
    let fault = first_tested (IsReason frame role) test faults (fault_tested frame role message m s) why e in
    first_back (IsReason frame role) frame_reasons (sum_reasons ++ (spelling_reasons ++ faults)) why fs
    (first_back (IsReason frame role) sum_reasons (spelling_reasons ++ faults) why ss
    (first_back (IsReason frame role) spelling_reasons faults why (spelled_none frame role message s) fault))
faults_heard frame role message m s fs ss None e =
    let test = has_fault (header_in frame).source (header_in frame).destination message in
    let none = none_tested (IsReason frame role) test faults (fault_tested frame role message m s) e in
    let all = none_joined (IsReason frame role) frame_reasons (sum_reasons ++ (spelling_reasons ++ faults)) fs
    (none_joined (IsReason frame role) sum_reasons (spelling_reasons ++ faults) ss
    (none_joined (IsReason frame role) spelling_reasons faults (spelled_none frame role message s) none)) in
    (all, m, refl, refl, s)

-- of a message with a good checksum, what its bytes say
message_heard : (frame : List ℕ) (role : Role) → IsMessage (header_in frame) (payload_in frame)
    → NoneOf (IsReason frame role) frame_reasons → NoneOf (IsReason frame role) sum_reasons
    → (r : Result Parts Why) → IsDecided (payload_in frame) r → HearsFirst frame role (outcome_of_message (header_in frame) r)
message_heard frame role m fs ss (Err why) (refuses h) =
    first_back (IsReason frame role) frame_reasons (sum_reasons ++ (spelling_reasons ++ faults)) why fs
    (first_back (IsReason frame role) sum_reasons (spelling_reasons ++ faults) why ss
    (first_front (IsReason frame role) spelling_reasons faults why (refused_first frame role why m h)))
message_heard frame role m fs ss (Ok message) (spells s) =
    faults_heard frame role message m s fs ss (fault_of (header_in frame).source (header_in frame).destination message) refl

-- of a packet
packet_heard : (frame : List ℕ) (role : Role) → NoneOf (IsReason frame role) frame_reasons → HearsFirst frame role (outcome_of_packet (parts_in frame))
packet_heard frame role fs = elim (cases_Bool (is_message (header_in frame) (payload_in frame))) [
  | inr off ↦
      let n : IsMessage (header_in frame) (payload_in frame) → ⊥ = λ m. (let t = is_tested (header_in frame) (payload_in frame) m in cc) in
      rw off (none_joined (IsReason frame role) frame_reasons (sum_reasons ++ (spelling_reasons ++ faults)) fs (no_message frame role n), n, refl)
  | inl on ↦ rw on (sums frame role fs (message_is (header_in frame) (payload_in frame) on))
]
  where
    sums : (f : List ℕ) (r : Role) → NoneOf (IsReason f r) frame_reasons → IsMessage (header_in f) (payload_in f)
        → HearsFirst f r (cond (eqb (header_in f).hop_limit 255) (cond (has_good_sum (header_in f).source (header_in f).destination (payload_in f)) (outcome_of_message (header_in f) (decode_of (payload_in f))) (dropped Sum)) (dropped HopLimit))
    sums f r fs m = elim (cases_Bool (eqb (header_in f).hop_limit 255)) [
      | inr another ↦ rw another (first_back (IsReason f r) frame_reasons (sum_reasons ++ (spelling_reasons ++ faults)) HopLimit fs (inl (refl, (m, eqb-false _ _ another))))
      | inl full ↦
          let no_hop : IsReason f r HopLimit → ⊥ = λ h. h.1 (eqb-true _ _ full) in
          rw full (elim (cases_Bool (has_good_sum (header_in f).source (header_in f).destination (payload_in f))) [
            | inr bad ↦
                let no_sum : IsReason f r Sum = (m, λ g. (let t = sum_tested (header_in f).source (header_in f).destination (payload_in f) g in cc)) in
                rw bad (first_back (IsReason f r) frame_reasons (sum_reasons ++ (spelling_reasons ++ faults)) Sum fs (inr (no_hop, inl (refl, no_sum))))
            | inl good ↦
                let has_sum : IsReason f r Sum → ⊥ = λ h. h.1 (good_sum_is (header_in f).source (header_in f).destination (payload_in f) good) in
                rw good (message_heard f r m fs (no_hop, (has_sum, tt)) (decode_of (payload_in f)) (decides (payload_in f) m.kind))
          ])
    ]

hears_first : (frame : List ℕ) (role : Role) → HearsFirst frame role (hearing_in_some_role frame)
hears_first frame role = by_frame frame role (hearing_in_some_role frame) (framed frame role)
  where
    by_frame : (f : List ℕ) (r : Role) (o : Outcome) → IsFramed f r o → HearsFirst f r o
    by_frame f r o (no_packet {why} h) = first_front (IsReason f r) frame_reasons (sum_reasons ++ (spelling_reasons ++ faults)) why h
    by_frame f r o (packet none) = packet_heard f r none

-- ---- the role, which is asked last

-- a message that is taken is not refused for its role
not_for_tested : (frame : List ℕ) (role : Role) (message : Parts) → Spells (payload_in frame) message → IsNotFor frame role → is_not_for role message.body ≡ true
not_for_tested frame role message s h = subst (λ (x : Parts). is_not_for role x.body ≡ true) (spelled_one (payload_in frame) h.1 message h.2 s) h.3

taken : (frame : List ℕ) (role : Role) (heard : Outcome) → HearsFirst frame role heard → Hears frame role (taken_by role heard)
taken frame role (dropped why) h = first_front (IsReason frame role) early_reasons (NotForUs ∷ []) why h
taken frame role (other p) h =
    (none_joined (IsReason frame role) early_reasons (NotForUs ∷ []) h.0 ((λ n. h.1 n.0), tt), h.1, h.2)
taken frame role (valid s d message) h = elim (cases_Bool (is_not_for role message.body)) [
  | inl on ↦ rw on (first_back (IsReason frame role) early_reasons (NotForUs ∷ []) NotForUs h.0 (inl (refl, (h.1, message, h.4, on))))
  | inr off ↦
      let no : IsNotFor frame role → ⊥ = λ n. (let t = not_for_tested frame role message h.4 n in cc) in
      rw off (none_joined (IsReason frame role) early_reasons (NotForUs ∷ []) h.0 (no, tt), h.1, h.2, h.3, h.4)
]

pub hears : (frame : List ℕ) (role : Role) → Hears frame role (hearing_of frame role)
hears frame role = taken frame role (hearing_in_some_role frame) (hears_first frame role)

-- ---- nothing else is heard

pub hears_one : (frame : List ℕ) (role : Role) (a b : Outcome) → Hears frame role a → Hears frame role b → a ≡ b
hears_one frame role (dropped v) (dropped w) h k = ap dropped (first_one (IsReason frame role) order v w h k)
hears_one frame role (dropped v) (other q) h k = absurd (first_not_none (IsReason frame role) order v h k.0)
hears_one frame role (dropped v) (valid s d m) h k = absurd (first_not_none (IsReason frame role) order v h k.0)
hears_one frame role (other p) (dropped w) h k = absurd (first_not_none (IsReason frame role) order w k h.0)
hears_one frame role (other p) (other q) h k = ap other (h.2 ∙ sym k.2)
hears_one frame role (other p) (valid s d m) h k = absurd (h.1 k.1)
hears_one frame role (valid s d m) (dropped w) h k = absurd (first_not_none (IsReason frame role) order w k h.0)
hears_one frame role (valid s d m) (other q) h k = absurd (k.1 h.1)
hears_one frame role (valid s d m) (valid t e n) h k =
    let source : s ≡ t = h.2 ∙ sym k.2 in
    let destination : d ≡ e = h.3 ∙ sym k.3 in
    let message : m ≡ n = spelled_one (payload_in frame) m n h.4 k.4 in
    rw (source, destination, message) refl

-- ---- what is heard by a role that takes the message

-- no reason before the last one is the last one
not_last : (Holds : Why → Type 0) (why : Why) → IsFirstOf Holds early_reasons why → why ≢ NotForUs
not_last Holds why h = first_of_all Holds (λ (w : Why). w ≢ NotForUs) early_reasons why h
    ((λ e. cc), ((λ e. cc), ((λ e. cc), ((λ e. cc), ((λ e. cc), ((λ e. cc), ((λ e. cc), ((λ e. cc), ((λ e. cc), ((λ e. cc), ((λ e. cc), ((λ e. cc), ((λ e. cc), ((λ e. cc), ((λ e. cc), ((λ e. cc), ((λ e. cc), ((λ e. cc), tt))))))))))))))))))

never_last : (frame : List ℕ) (role : Role) (heard : Outcome) → HearsFirst frame role heard → heard ≢ dropped NotForUs
never_last frame role (dropped why) h = λ e. not_last (IsReason frame role) why h (let f : why ≡ NotForUs = cc in f)
never_last frame role (other p) h = λ e. cc
never_last frame role (valid s d m) h = λ e. cc

-- each body has a role that takes it
takes : (body : Body) → (role : Role) × (is_not_for role body ≡ false)
takes bodies.Rs = (Router, refl)
takes (bodies.Ra r) = (Host, refl)
takes (bodies.Ns n) = (Host, refl)
takes (bodies.Na n) = (Host, refl)
takes (bodies.Redirect r) = (Host, refl)

some_role : (heard : Outcome) → (role : Role) × (taken_by role heard ≡ heard)
some_role (dropped why) = (Host, refl)
some_role (other p) = (Host, refl)
some_role (valid s d m) = let t = takes m.body in (t.0, (let off : is_not_for t.0 m.body ≡ false = t.1 in rw off refl))

pub hears_in_some_role : (frame : List ℕ) → HearsInSomeRole frame (hearing_in_some_role frame)
hears_in_some_role frame =
    let r = some_role (hearing_in_some_role frame) in
    (r.0, subst (λ (o : Outcome). Hears frame r.0 o) r.1 (hears frame r.0), never_last frame r.0 (hearing_in_some_role frame) (hears_first frame r.0))

-- what a role hears is what is heard, or that it is not for it
taken_or_not : (role : Role) (heard : Outcome) → (taken_by role heard ≡ heard) ⊎ (taken_by role heard ≡ dropped NotForUs)
taken_or_not role (dropped why) = inl refl
taken_or_not role (other p) = inl refl
taken_or_not role (valid s d m) = elim (cases_Bool (is_not_for role m.body)) [
  | inl on ↦ inr (rw on refl)
  | inr off ↦ inl (rw off refl)
]

pub hears_one_in_some_role : (frame : List ℕ) (o : Outcome) → HearsInSomeRole frame o → hearing_in_some_role frame ≡ o
hears_one_in_some_role frame o h =
    let e : hearing_of frame h.0 ≡ o = hears_one frame h.0 (hearing_of frame h.0) o (hears frame h.0) h.1 in
    elim (taken_or_not h.0 (hearing_in_some_role frame)) [
      | inl same ↦ sym same ∙ e
      | inr none ↦ absurd (h.2 (sym e ∙ none))
    ]
