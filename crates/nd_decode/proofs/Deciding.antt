-- The function decides the relation.
use Rattle.std.proofs.Common.{◌≡◌, ◌≢◌, ℕ, ◌*◌, ◌<◌, ◌≤◌, ◌⊎◌, true, false, leb, eqb, ◌&&◌, List, [], ◌++◌, length, slice_index, Some, None, Result, Ok, Err, refl, sym, ap, subst, ◌∙◌, arith, inl, inr, ◌-◌, take, drop, Option}
use Rattle.std.specs.Prelude.{IfOk, IfErr}
use Rattle.std.proofs.lemmas.Bool.{cases_Bool, cases_lt, and_parts, and_from, and_left, and_right, leb-true, le-leb, lt-leb, eqb-true, eqb-false, eq-eqb, ne_eqb, lt-ltb, le-ltb, false_from_ne_true}
use Rattle.std.proofs.lemmas.List.{nil_from_length, append-nil, get_or_past, length-drop, take_all}
use Rattle.nd_addr.specs.Given.{Gives}
use Rattle.nd_addr.specs.declared.why.Why.{Why}
use Rattle.nd_addr.specs.declared.why.Why.TheVariants.{Code, Length, OptionZero, OptionOver}
use Rattle.nd_decode.specs.declared.body.Body.{Body}
use Rattle.nd_decode.specs.declared.body.Body.TheVariants as bodies
use Rattle.nd_decode.specs.declared.message_ref.MessageRef.{MessageRef}
use Rattle.nd_decode.specs.Whole.{begins_whole, rest_in}
use Rattle.nd_decode.specs.Pieces.{options_in, fault_of}
use Rattle.nd_decode.specs.Options.{SpellsOptions, BehindPieces, IsZeroOption, IsOverOption}
use Rattle.nd_decode.specs.Message.{Parts, parts, HasKnownKind, least_length, HasBody, HasFields, behind_fields, Spells, IsRefused}
use Rattle.nd_decode.specs.Decoding.{body_of, unless, decode_of}
use Rattle.nd_decode.proofs.Walk.{begins, front_is, rest_in_stops}
use Rattle.nd_decode.proofs.Spelling.{spelled, walked}

abbrev read_of : List ℕ → Parts
read_of bytes = record { body = body_of bytes; options = options_in (behind_fields bytes) }

-- ---- what each test of the function says

decode_code : (bytes : List ℕ) → slice_index bytes 1 ≢ 0 → decode_of bytes ≡ Err Code
unfolding decode_of
decode_code bytes h = rw (ne_eqb _ _ h) refl

decode_short : (bytes : List ℕ) → slice_index bytes 1 ≡ 0 → length bytes < least_length (slice_index bytes 0) → decode_of bytes ≡ Err Length
unfolding decode_of
decode_short bytes h lt = rw (eq-eqb _ _ h, lt-ltb _ _ lt) refl

decode_fields : (bytes : List ℕ) → HasFields bytes → decode_of bytes ≡ unless (fault_of (rest_in (behind_fields bytes))) (read_of bytes)
unfolding decode_of
decode_fields bytes h = rw (eq-eqb _ _ h.code, le-ltb _ _ h.long) refl

-- what the parts of the code say together

pub code_is_zero : (bytes : List ℕ) → length bytes ≤ 1 → slice_index bytes 1 ≡ 0
code_is_zero bytes short = get_or_past bytes 1 0 short

pub behind_is : (bytes : List ℕ) (least : ℕ) → least ≡ least_length (slice_index bytes 0) → take (length bytes - least) (drop least bytes) ≡ behind_fields bytes
behind_is bytes least e = take_all (length bytes - least) (drop least bytes) (omega (arith, length-drop least bytes)) ∙ ap (λ (n : ℕ). drop n bytes) e

pub decode_fault : (bytes rest : List ℕ) (found : Option Why) (why : Why) → HasFields bytes → rest ≡ behind_fields bytes → found ≡ fault_of (rest_in rest) → found ≡ Some why
    → decode_of bytes ≡ Err why
decode_fault bytes rest found why h e f s =
    let fault : fault_of (rest_in (behind_fields bytes)) ≡ Some why = ap (λ (t : List ℕ). fault_of (rest_in t)) (sym e) ∙ sym f ∙ s in
    rw (decode_fields bytes h, fault) refl

pub decode_whole : (bytes rest : List ℕ) (found : Option Why) (message : Parts) → HasFields bytes → rest ≡ behind_fields bytes → found ≡ fault_of (rest_in rest) → found ≡ None
    → message.body ≡ body_of bytes → message.options ≡ options_in rest → decode_of bytes ≡ Ok message
decode_whole bytes rest found message h e f n body options =
    let fault : fault_of (rest_in (behind_fields bytes)) ≡ None = ap (λ (t : List ℕ). fault_of (rest_in t)) (sym e) ∙ sym f ∙ n in
    let read : read_of bytes ≡ message = rw (body, options, e) refl in
    rw (decode_fields bytes h, fault) (ap Ok read)

-- ---- faults

-- what is wrong with a tail
data IsFault : List ℕ → Why → Type 0 where
  is_zero : {tail : List ℕ} → IsZeroOption tail → IsFault tail OptionZero
  is_over : {tail : List ℕ} → IsOverOption tail → IsFault tail OptionOver

fault_is : (rest : List ℕ) → begins_whole rest ≡ false → rest ≢ [] → (why : Why) × (fault_of rest ≡ Some why) × IsFault rest why
fault_is rest over some =
    let not_empty : eqb (length rest) 0 ≡ false = ne_eqb _ _ (λ e. some (nil_from_length rest e)) in
    elim (cases_Bool (leb 2 (length rest) && eqb (slice_index rest 1) 0)) [
      | inl test ↦
          let t = and_parts (leb 2 (length rest)) (eqb (slice_index rest 1) 0) test in
          (OptionZero, rw (not_empty, test) refl, is_zero (leb-true _ _ t.0, eqb-true _ _ t.1))
      | inr test ↦ (OptionOver, rw (not_empty, test) refl, is_over (omega (arith, eqb-false _ _ not_empty), over_by rest over test))
    ]
  where
    over_by : (r : List ℕ) → begins_whole r ≡ false → (leb 2 (length r) && eqb (slice_index r 1) 0) ≡ false → (length r < 2) ⊎ ((1 ≤ slice_index r 1) × (length r < 8 * slice_index r 1))
    over_by r over test = elim (cases_lt (length r) 2) [
      | inl short ↦ inl short
      | inr long ↦ elim (cases_lt 0 (slice_index r 1)) [
        | inr none ↦ absurd (let yes_it : (leb 2 (length r) && eqb (slice_index r 1) 0) ≡ true = and_from (leb 2 (length r)) (eqb (slice_index r 1) 0) (le-leb _ _ long) (eq-eqb _ _ (omega arith)) in cc)
        | inl has ↦ elim (cases_lt (length r) (8 * slice_index r 1)) [
          | inl lt ↦ inr (omega arith, lt)
          | inr le ↦ absurd (let it : begins_whole r ≡ true = begins r (record { two = long; some = omega arith; fits = le }) in cc)
        ]
      ]
    ]

zero_fault : (tail : List ℕ) → IsZeroOption tail → (begins_whole tail ≡ false) × (fault_of tail ≡ Some OptionZero)
zero_fault tail h =
    let test : (leb 2 (length tail) && eqb (slice_index tail 1) 0) ≡ true = and_from (leb 2 (length tail)) (eqb (slice_index tail 1) 0) (le-leb _ _ h.0) (eq-eqb _ _ h.1) in
    let some : eqb (length tail) 0 ≡ false = ne_eqb _ _ (λ e. omega (arith, h.0)) in
    (false_from_ne_true _ (λ e. let f = front_is tail e in omega (arith, f.some, h.1)), rw (some, test) refl)

over_fault : (tail : List ℕ) → IsOverOption tail → (begins_whole tail ≡ false) × (fault_of tail ≡ Some OptionOver)
over_fault tail h =
    let some : eqb (length tail) 0 ≡ false = ne_eqb _ _ (λ e. omega (arith, h.0)) in
    elim h.1 [
      | inl short ↦
          let test : (leb 2 (length tail) && eqb (slice_index tail 1) 0) ≡ false = and_left (leb 2 (length tail)) (eqb (slice_index tail 1) 0) (lt-leb _ _ short) in
          (false_from_ne_true _ (λ e. let f = front_is tail e in omega (arith, f.two, short)), rw (some, test) refl)
      | inr long ↦
          let test : (leb 2 (length tail) && eqb (slice_index tail 1) 0) ≡ false = and_right (leb 2 (length tail)) (eqb (slice_index tail 1) 0) (ne_eqb _ _ (λ e. omega (arith, long.0))) in
          (false_from_ne_true _ (λ e. let f = front_is tail e in omega (arith, f.fits, long.1)), rw (some, test) refl)
    ]

-- ---- bodies

body_has : (bytes : List ℕ) → HasKnownKind bytes → HasBody bytes (body_of bytes)
body_has bytes known =
    elim (cases_Bool (eqb (slice_index bytes 0) 133)) [
      | inl e ↦ rw e (eqb-true _ _ e)
      | inr n1 ↦ rw n1 (elim (cases_Bool (eqb (slice_index bytes 0) 134)) [
        | inl e ↦ rw e (eqb-true _ _ e, refl)
        | inr n2 ↦ rw n2 (elim (cases_Bool (eqb (slice_index bytes 0) 135)) [
          | inl e ↦ rw e (eqb-true _ _ e, refl)
          | inr n3 ↦ rw n3 (elim (cases_Bool (eqb (slice_index bytes 0) 136)) [
            | inl e ↦ rw e (eqb-true _ _ e, refl)
            | inr n4 ↦ rw n4 (last bytes known n1 n2 n3 n4, refl)
          ])
        ])
      ])
    ]
  where
    last : (b : List ℕ) → HasKnownKind b → eqb (slice_index b 0) 133 ≡ false → eqb (slice_index b 0) 134 ≡ false → eqb (slice_index b 0) 135 ≡ false
        → eqb (slice_index b 0) 136 ≡ false → slice_index b 0 ≡ 137
    last b known n1 n2 n3 n4 = omega (arith, known.least, known.most, eqb-false _ _ n1, eqb-false _ _ n2, eqb-false _ _ n3, eqb-false _ _ n4)

has_body : (bytes : List ℕ) (body : Body) → HasBody bytes body → body_of bytes ≡ body
has_body bytes bodies.Rs h = rw h refl
has_body bytes (bodies.Ra r) h = rw (h.0, h.1) refl
has_body bytes (bodies.Ns n) h = rw (h.0, h.1) refl
has_body bytes (bodies.Na n) h = rw (h.0, h.1) refl
has_body bytes (bodies.Redirect r) h = rw (h.0, h.1) refl

-- ---- the three ways

pub data IsDecided (bytes : List ℕ) : Result Parts Why → Type 0 where
  spells : {message : Parts} → Spells bytes message → IsDecided bytes (Ok message)
  refuses : {why : Why} → IsRefused bytes why → IsDecided bytes (Err why)

fault_refused : (bytes : List ℕ) (why : Why) → HasFields bytes → BehindPieces (behind_fields bytes) (λ tail. IsFault tail why) → IsRefused bytes why
fault_refused bytes why f (options, front, tail, e, s, is_zero z) = (f, (options, front, tail, e, s, z))
fault_refused bytes why f (options, front, tail, e, s, is_over o) = (f, (options, front, tail, e, s, o))

decide_fields : (bytes : List ℕ) → HasKnownKind bytes → HasFields bytes → IsDecided bytes (decode_of bytes)
decide_fields bytes known f =
    let s = spelled (length (behind_fields bytes)) (behind_fields bytes) (omega arith) in
    elim (cases_Bool (eqb (length (rest_in (behind_fields bytes))) 0)) [
      | inl done ↦
          let nothing : rest_in (behind_fields bytes) ≡ [] = nil_from_length _ (eqb-true _ _ done) in
          let none : fault_of (rest_in (behind_fields bytes)) ≡ None = ap fault_of nothing in
          let all : s.0 ≡ behind_fields bytes = sym (s.1 ∙ ap (λ (t : List ℕ). s.0 ++ t) nothing ∙ append-nil s.0) in
          rw (decode_fields bytes f, none) (spells (record { fields = f; body = body_has bytes known; options = subst (λ (t : List ℕ). SpellsOptions t (options_in (behind_fields bytes))) all s.2 }))
      | inr left ↦
          let w = fault_is (rest_in (behind_fields bytes)) (rest_in_stops (behind_fields bytes)) (λ e. eqb-false _ _ left (ap length e)) in
          rw (decode_fields bytes f, w.1) (refuses (fault_refused bytes w.0 f (options_in (behind_fields bytes), s.0, rest_in (behind_fields bytes), s.1, s.2, w.2)))
    ]

second_there : (bytes : List ℕ) → slice_index bytes 1 ≢ 0 → 2 ≤ length bytes
second_there bytes h = elim (cases_lt 1 (length bytes)) [
  | inl lt ↦ omega (arith, lt)
  | inr le ↦ absurd (h (get_or_past bytes 1 0 le))
]

pub decides : (bytes : List ℕ) → HasKnownKind bytes → IsDecided bytes (decode_of bytes)
decides bytes known = elim (cases_Bool (eqb (slice_index bytes 1) 0)) [
  | inr bad ↦ rw (decode_code bytes (eqb-false _ _ bad)) (refuses {why = Code} (second_there bytes (eqb-false _ _ bad), eqb-false _ _ bad))
  | inl good ↦ elim (cases_lt (length bytes) (least_length (slice_index bytes 0))) [
    | inl short ↦ rw (decode_short bytes (eqb-true _ _ good) short) (refuses {why = Length} (eqb-true _ _ good, short))
    | inr long ↦ decide_fields bytes known (record { code = eqb-true _ _ good; long = long })
  ]
]

pub decode_spelled : (bytes : List ℕ) (m : Parts) → Spells bytes m → decode_of bytes ≡ Ok m
decode_spelled bytes m s =
    let w = walked m.options (behind_fields bytes) [] refl s.options in
    let none = append-nil (behind_fields bytes) in
    let os : options_in (behind_fields bytes) ≡ m.options = ap options_in (sym none) ∙ w.0 in
    let rest : rest_in (behind_fields bytes) ≡ [] = ap rest_in (sym none) ∙ w.1 in
    let fault : fault_of (rest_in (behind_fields bytes)) ≡ None = ap fault_of rest in
    let body : body_of bytes ≡ m.body = has_body bytes m.body s.body in
    decode_fields bytes s.fields ∙ rw (fault, os, body) refl

behind_fault : (bytes : List ℕ) (why : Why) → HasFields bytes → (b : BehindPieces (behind_fields bytes) (λ tail. (begins_whole tail ≡ false) × (fault_of tail ≡ Some why))) → decode_of bytes ≡ Err why
behind_fault bytes why f b =
    let w = walked b.0 b.1 b.2 b.5.0 b.4 in
    let rest : rest_in (behind_fields bytes) ≡ b.2 = ap rest_in b.3 ∙ w.1 in
    let fault : fault_of (rest_in (behind_fields bytes)) ≡ Some why = ap fault_of rest ∙ b.5.1 in
    decode_fields bytes f ∙ rw fault refl

pub decode_refused : (bytes : List ℕ) (why : Why) → IsRefused bytes why → decode_of bytes ≡ Err why
decode_refused bytes Code h = decode_code bytes h.1
decode_refused bytes Length h = decode_short bytes h.0 h.1
decode_refused bytes OptionZero h = behind_fault bytes OptionZero h.0 (h.1.0, h.1.1, h.1.2, h.1.3, h.1.4, zero_fault h.1.2 h.1.5)
decode_refused bytes OptionOver h = behind_fault bytes OptionOver h.0 (h.1.0, h.1.1, h.1.2, h.1.3, h.1.4, over_fault h.1.2 h.1.5)
decode_refused bytes _ h = absurd h

-- ---- what a call that gives it returns

pub found_of : (bytes : List ℕ) (r : Result MessageRef Why) → Gives parts r (decode_of bytes) → IsDecided bytes (decode_of bytes) → IfOk r (λ m. Spells bytes (parts m))
found_of bytes (Ok m) g d = by_ok (decode_of bytes) d g
  where
    by_ok : (x : Result Parts Why) → IsDecided bytes x → x ≡ Ok (parts m) → Spells bytes (parts m)
    by_ok (Ok y) (spells s) e = subst (λ (z : Parts). Spells bytes z) (let f : y ≡ parts m = cc in f) s
    by_ok (Err w) d e = absurd cc
found_of bytes (Err w) g d = tt

pub refused_of : (bytes : List ℕ) (r : Result MessageRef Why) → Gives parts r (decode_of bytes) → IsDecided bytes (decode_of bytes) → IfErr r (λ why. IsRefused bytes why)
refused_of bytes (Ok m) g d = tt
refused_of bytes (Err w) g d = by_err (decode_of bytes) d g
  where
    by_err : (x : Result Parts Why) → IsDecided bytes x → x ≡ Err w → IsRefused bytes w
    by_err (Ok y) d e = absurd cc
    by_err (Err v) (refuses h) e = subst (λ (z : Why). IsRefused bytes z) (let f : v ≡ w = cc in f) h

pub err_of : (r : Result MessageRef Why) (why : Why) → Gives parts r (Err why) → r ≡ Err why
err_of (Ok m) why g = absurd cc
err_of (Err w) why g = cc
