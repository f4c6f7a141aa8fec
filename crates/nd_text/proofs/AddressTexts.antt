-- Reading an address as a function decides which texts spell which groups.
use Rattle.std.proofs.Common.{◌≡◌, ℕ, zero, suc, ◌+◌, ◌-◌, ◌<◌, ◌≤◌, ◌&&◌, ◌⊎◌, true, false, leb, ltb, eqb, List, [], ◌∷◌, ◌++◌, length, take, drop, get_or, replicate, Option, Some, None, refl, sym, ap, subst, ◌∙◌, arith, inl, inr, append_assoc, append-nil}
use Rattle.std.specs.Prelude.{IfSome}
use Rattle.std.specs.Option.{option_map}
use Rattle.std.specs.Char.{digit_value}
use Rattle.std.specs.Str.Parse.{IsNumeral, AllDigits, digits_value}
use Rattle.std.proofs.lemmas.Bool.{cases_Bool, and_parts, and_from, eqb-true, eq-eqb, ne_eqb, leb-true, le-leb, ltb-true, lt-ltb}
use Rattle.std.proofs.lemmas.List.{length-append, take_at, drop_at, nil_from_length}
use Rattle.nd_text.specs.Spelling.{IsGroupText, SpellsGroups, SpellsSome, SpellsAddress}
use Rattle.nd_text.specs.Parsing.{word_of, behind_of, all_digits, group_of, group_before, groups_within, some_groups, all_eight, around_gap, gap_at, groups_by, address_groups}
use Rattle.nd_text.proofs.Gaps.{gap_here, gap_later}
use Rattle.nd_text.proofs.GroupLists.{within_none, bad_word, last_word, next_word}

-- ---- one group

digits_all : (bytes : List ℕ) → AllDigits 16 bytes → all_digits bytes ≡ true
digits_all [] h = refl
digits_all (b ∷ bytes) h = and_from (ltb (digit_value b) 16) (all_digits bytes) (lt-ltb _ _ h.0) (digits_all bytes h.1)

all_are_digits : (bytes : List ℕ) → all_digits bytes ≡ true → AllDigits 16 bytes
all_are_digits [] e = tt
all_are_digits (b ∷ bytes) e = let p = and_parts (ltb (digit_value b) 16) (all_digits bytes) e in (ltb-true _ _ p.0, all_are_digits bytes p.1)

group_text_of : (word : List ℕ) (group : ℕ) → IsGroupText word group → group_of word ≡ Some group
group_text_of word group h =
    let test : (leb 1 (length word) && leb (length word) 4 && all_digits word) ≡ true =
    and_from (leb 1 (length word) && leb (length word) 4) (all_digits word) (and_from (leb 1 (length word)) (leb (length word) 4) (le-leb _ _ (omega (arith, h.numeral.0))) (le-leb _ _ h.short)) (digits_all word h.numeral.1) in
    rw test (ap (λ (g : ℕ). Some g) h.value)

group_of_text : (word : List ℕ) (group : ℕ) → group_of word ≡ Some group → IsGroupText word group
group_of_text word group e = elim (cases_Bool (leb 1 (length word) && leb (length word) 4 && all_digits word)) [
  | inr bad ↦ absurd (let none : None ≡ Some group = rw bad at e in cc)
  | inl good ↦
      let value : Some (digits_value 16 word) ≡ Some group = rw good at e in
      let p = and_parts (leb 1 (length word) && leb (length word) 4) (all_digits word) good in
      let q = and_parts (leb 1 (length word)) (leb (length word) 4) p.0 in
      record { numeral = (omega (arith, leb-true _ _ q.0), all_are_digits word p.1); short = leb-true _ _ q.1; value = cc }
]

-- a digit is no colon
digit_no_colon : (b : ℕ) → digit_value b < 16 → b ≡ 58 → ⊥
digit_no_colon b lt e = let big : digit_value 58 < 16 = subst (λ (n : ℕ). digit_value n < 16) e lt in omega (arith, big)

-- ---- the first word

word_in_front : (word rest : List ℕ) → AllDigits 16 word → (word_of (word ++ 58 ∷ rest) ≡ word) × (behind_of (word ++ 58 ∷ rest) ≡ Some rest)
word_in_front [] rest h = (refl, refl)
word_in_front (b ∷ word) rest h =
    let other : eqb b 58 ≡ false = ne_eqb b 58 (digit_no_colon b h.0) in
    let later = word_in_front word rest h.1 in
    (rw (other, later.0) refl, rw (other, later.1) refl)

word_alone : (word : List ℕ) → AllDigits 16 word → (word_of word ≡ word) × (behind_of word ≡ None)
word_alone [] h = (refl, refl)
word_alone (b ∷ word) h =
    let other : eqb b 58 ≡ false = ne_eqb b 58 (digit_no_colon b h.0) in
    let later = word_alone word h.1 in
    (rw (other, later.0) refl, rw (other, later.1) refl)

split_back : (text rest : List ℕ) → behind_of text ≡ Some rest → text ≡ word_of text ++ 58 ∷ rest
split_back [] rest e = absurd cc
split_back (b ∷ text) rest e = elim (cases_Bool (eqb b 58)) [
  | inl colon ↦ let same : Some text ≡ Some rest = rw colon at e in let is : text ≡ rest = cc in rw (colon, eqb-true _ _ colon, is) refl
  | inr other ↦ let later : behind_of text ≡ Some rest = rw other at e in rw other (ap (λ (t : List ℕ). b ∷ t) (split_back text rest later))
]

split_none : (text : List ℕ) → behind_of text ≡ None → text ≡ word_of text
split_none [] e = refl
split_none (b ∷ text) e = elim (cases_Bool (eqb b 58)) [
  | inl colon ↦ absurd (let same : Some text ≡ None = rw colon at e in cc)
  | inr other ↦ let later : behind_of text ≡ None = rw other at e in rw other (ap (λ (t : List ℕ). b ∷ t) (split_none text later))
]

-- ---- groups

pub groups_read : (n : ℕ) (text groups : List ℕ) → SpellsGroups text groups → length groups ≤ n → groups_within n text ≡ Some groups
groups_read n text [] h le = absurd h
groups_read zero text (g ∷ gs) h le = absurd (omega arith)
groups_read (suc n) text (g ∷ []) h le =
    let alone = word_alone text h.numeral.1 in
    last_word n text g (ap group_of alone.0 ∙ group_text_of text g h) alone.1
groups_read (suc n) text (g ∷ k ∷ gs) (word, rest, is, first, more) le =
    let front = word_in_front word rest first.numeral.1 in
    let e : group_of (word_of text) ≡ Some g = ap (λ (t : List ℕ). group_of (word_of t)) is ∙ ap group_of front.0 ∙ group_text_of word g first in
    let b : behind_of text ≡ Some rest = ap behind_of is ∙ front.1 in
    next_word n text g rest e b ∙ ap (group_before (Some g)) (groups_read n rest (k ∷ gs) more (omega arith))

pub some_option : {A : Type 0} (o : Option A) → (o ≡ None) ⊎ ((a : A) × (o ≡ Some a))
some_option None = inl refl
some_option (Some a) = inr (a, refl)

spells_more : (text rest : List ℕ) (g : ℕ) (gs : List ℕ) → IsGroupText (word_of text) g → behind_of text ≡ Some rest → SpellsGroups rest gs → SpellsGroups text (g ∷ gs)
spells_more text rest g [] first b more = absurd more
spells_more text rest g (k ∷ gs) first b more = (word_of text, rest, split_back text rest b, first, more)

pub read_groups_spelled : (n : ℕ) (text groups : List ℕ) → groups_within n text ≡ Some groups → SpellsGroups text groups × (length groups ≤ n)
read_groups_spelled zero text groups e = absurd (let none = within_none text in cc)
read_groups_spelled (suc n) text groups e = elim (some_option (group_of (word_of text))) [
  | inl bad ↦ absurd (let none = bad_word n text bad in cc)
  | inr (g, first) ↦ elim (some_option (behind_of text)) [
    | inl last ↦
        let one = last_word n text g first last in
        let is : g ∷ [] ≡ groups = cc in
        let alone : IsGroupText text g = subst (λ (t : List ℕ). IsGroupText t g) (sym (split_none text last)) (group_of_text (word_of text) g first) in
        subst (λ (gs : List ℕ). SpellsGroups text gs × (length gs ≤ suc n)) is (alone, omega arith)
    | inr (rest, b) ↦ elim (some_option (groups_within n rest)) [
      | inl bad ↦ absurd (let all = next_word n text g rest first b in let none : group_before (Some g) (groups_within n rest) ≡ None = ap (group_before (Some g)) bad in cc)
      | inr (gs, more) ↦
          let all = next_word n text g rest first b in
          let some : group_before (Some g) (groups_within n rest) ≡ Some (g ∷ gs) = ap (group_before (Some g)) more in
          let is : g ∷ gs ≡ groups = cc in
          let ih = read_groups_spelled n rest gs more in
          subst (λ (hs : List ℕ). SpellsGroups text hs × (length hs ≤ suc n)) is (spells_more text rest g gs (group_of_text (word_of text) g first) b ih.0, omega (arith, ih.1))
    ]
  ]
]

-- ---- two colons

gap_past_word : (word rest : List ℕ) → AllDigits 16 word → gap_at rest ≡ None → gap_at (word ++ rest) ≡ None
gap_past_word [] rest h e = e
gap_past_word (b ∷ word) rest h e = gap_later b (word ++ rest) (λ colon f. digit_no_colon b h.0 colon) ∙ ap (option_map suc) (gap_past_word word rest h.1 e)

gap_behind_word : (word rest : List ℕ) (k : ℕ) → AllDigits 16 word → gap_at rest ≡ Some k → gap_at (word ++ rest) ≡ Some (length word + k)
gap_behind_word [] rest k h e = e ∙ ap (λ (n : ℕ). Some n) (let same : k ≡ 0 + k = omega arith in same)
gap_behind_word (b ∷ word) rest k h e =
    gap_later b (word ++ rest) (λ colon f. digit_no_colon b h.0 colon) ∙ ap (option_map suc) (gap_behind_word word rest k h.1 e) ∙ ap (λ (n : ℕ). Some n) (let same : suc (length word + k) ≡ length (b ∷ word) + k = omega arith in same)

numeral_first : (word rest : List ℕ) → IsNumeral 16 word → get_or (word ++ rest) 0 0 ≡ 58 → ⊥
numeral_first [] rest h e = absurd (omega (arith, h.0))
numeral_first (b ∷ word) rest h e = digit_no_colon b h.1.0 e

groups_first : (text rest groups : List ℕ) → SpellsGroups text groups → get_or (text ++ rest) 0 0 ≡ 58 → ⊥
groups_first text rest [] h e = h
groups_first text rest (g ∷ []) h e = numeral_first text rest h.numeral e
groups_first text rest (g ∷ k ∷ gs) (word, more, is, first, later) e =
    numeral_first word (58 ∷ more ++ rest) first.numeral (subst (λ (t : List ℕ). get_or t 0 0 ≡ 58) (ap (λ (t : List ℕ). t ++ rest) is ∙ append_assoc word (58 ∷ more) rest) e)

groups_no_gap : (text groups : List ℕ) → SpellsGroups text groups → gap_at text ≡ None
groups_no_gap text [] h = absurd h
groups_no_gap text (g ∷ []) h = ap gap_at (sym (append-nil text)) ∙ gap_past_word text [] h.numeral.1 refl
groups_no_gap text (g ∷ k ∷ gs) (word, rest, is, first, more) =
    let next : gap_at (58 ∷ rest) ≡ None =
    gap_later 58 rest (λ e f. groups_first rest [] (k ∷ gs) more (subst (λ (t : List ℕ). get_or t 0 0 ≡ 58) (sym (append-nil rest)) f)) ∙ ap (option_map suc) (groups_no_gap rest (k ∷ gs) more) in
    ap gap_at is ∙ gap_past_word word (58 ∷ rest) first.numeral.1 next

groups_gap : (text groups behind : List ℕ) → SpellsGroups text groups → gap_at (text ++ 58 ∷ 58 ∷ behind) ≡ Some (length text)
groups_gap text [] behind h = absurd h
groups_gap text (g ∷ []) behind h = gap_behind_word text (58 ∷ 58 ∷ behind) 0 h.numeral.1 (gap_here 58 (58 ∷ behind) refl refl) ∙ ap (λ (n : ℕ). Some n) (let same : length text + 0 ≡ length text = omega arith in same)
groups_gap text (g ∷ k ∷ gs) behind (word, rest, is, first, more) =
    let later : gap_at (58 ∷ (rest ++ 58 ∷ 58 ∷ behind)) ≡ Some (suc (length rest)) =
    gap_later 58 (rest ++ 58 ∷ 58 ∷ behind) (λ e f. groups_first rest (58 ∷ 58 ∷ behind) (k ∷ gs) more f) ∙ ap (option_map suc) (groups_gap rest (k ∷ gs) behind more) in
    let shape : text ++ 58 ∷ 58 ∷ behind ≡ word ++ (58 ∷ (rest ++ 58 ∷ 58 ∷ behind)) = ap (λ (t : List ℕ). t ++ 58 ∷ 58 ∷ behind) is ∙ append_assoc word (58 ∷ rest) (58 ∷ 58 ∷ behind) in
    let len : length word + suc (length rest) ≡ length text = omega (arith, ap length is, length-append word (58 ∷ rest)) in
    ap gap_at shape ∙ gap_behind_word word (58 ∷ (rest ++ 58 ∷ 58 ∷ behind)) (suc (length rest)) first.numeral.1 later ∙ ap (λ (n : ℕ). Some n) len

some_gap : (text groups behind : List ℕ) → SpellsSome text groups → gap_at (text ++ 58 ∷ 58 ∷ behind) ≡ Some (length text)
some_gap text groups behind (inl h) = ap (λ (t : List ℕ). gap_at (t ++ 58 ∷ 58 ∷ behind)) h.0 ∙ gap_here 58 (58 ∷ behind) refl refl ∙ ap (λ (n : ℕ). Some n) (let none : 0 ≡ length text = sym (ap length h.0) in none)
some_gap text groups behind (inr h) = groups_gap text groups behind h

gap_is : (text : List ℕ) (k : ℕ) → gap_at text ≡ Some k → text ≡ take k text ++ 58 ∷ 58 ∷ drop (k + 2) text
gap_is [] k e = absurd cc
gap_is (a ∷ text) k e = elim (cases_Bool (eqb a 58 && eqb (get_or text 0 0) 58)) [
  | inl both ↦
      let p = and_parts (eqb a 58) (eqb (get_or text 0 0) 58) both in
      let here : Some 0 ≡ Some k = rw both at e in
      let zero_is : 0 ≡ k = cc in
      subst (λ (n : ℕ). a ∷ text ≡ take n (a ∷ text) ++ 58 ∷ 58 ∷ drop (n + 2) (a ∷ text)) zero_is (at_front a text (eqb-true _ _ p.0) (eqb-true _ _ p.1))
  | inr other ↦
      let later : option_map suc (gap_at text) ≡ Some k = rw other at e in
      elim (some_option (gap_at text)) [
        | inl none ↦ absurd (let nothing : None ≡ Some k = rw none at later in cc)
        | inr (j, there) ↦
            let next : Some (suc j) ≡ Some k = rw there at later in
            let suc_is : suc j ≡ k = cc in
            let place : suc j + 2 ≡ suc (j + 2) = omega arith in
            let tail : a ∷ text ≡ a ∷ (take j text ++ 58 ∷ 58 ∷ drop (j + 2) text) = ap (λ (t : List ℕ). a ∷ t) (gap_is text j there) in
            let shape : a ∷ text ≡ take (suc j) (a ∷ text) ++ 58 ∷ 58 ∷ drop (suc j + 2) (a ∷ text) = tail ∙ ap (λ (n : ℕ). a ∷ (take j text ++ 58 ∷ 58 ∷ drop n (a ∷ text))) (sym place) in
            subst (λ (n : ℕ). a ∷ text ≡ take n (a ∷ text) ++ 58 ∷ 58 ∷ drop (n + 2) (a ∷ text)) suc_is shape
      ]
]
  where
    at_front : (x : ℕ) (xs : List ℕ) → x ≡ 58 → get_or xs 0 0 ≡ 58 → x ∷ xs ≡ take 0 (x ∷ xs) ++ 58 ∷ 58 ∷ drop (0 + 2) (x ∷ xs)
    at_front x [] e f = absurd (omega arith)
    at_front x (y ∷ xs) e f = rw (e, f) refl

-- ---- the whole address

some_read : (text groups : List ℕ) → SpellsSome text groups → length groups ≤ 8 → some_groups text ≡ Some groups
some_read text groups (inl h) le = let none : eqb (length text) 0 ≡ true = eq-eqb _ _ (ap length h.0) in rw none (ap (λ (t : List ℕ). Some t) (sym h.1))
some_read text groups (inr h) le =
    let some : eqb (length text) 0 ≡ false = ne_eqb _ _ (λ e. nothing text groups h (nil_from_length text e)) in
    rw some (groups_read 8 text groups h le)
  where
    nothing : (t gs : List ℕ) → SpellsGroups t gs → t ≡ [] → ⊥
    nothing t [] h e = h
    nothing t (g ∷ []) h e = omega (arith, h.numeral.0, ap length e)
    nothing t (g ∷ k ∷ gs) (word, rest, is, first, more) e = omega (arith, ap length is, ap length e, length-append word (58 ∷ rest))

some_spelled : (text groups : List ℕ) → some_groups text ≡ Some groups → SpellsSome text groups
some_spelled text groups e = elim (cases_Bool (eqb (length text) 0)) [
  | inl empty ↦ let none : Some [] ≡ Some groups = rw empty at e in let is : [] ≡ groups = cc in inl (nil_from_length text (eqb-true _ _ empty), sym is)
  | inr some ↦ inr (read_groups_spelled 8 text groups (rw some at e)).0
]

pub address_read : (text groups : List ℕ) → SpellsAddress text groups → address_groups text ≡ Some groups
unfolding address_groups
address_read text groups (inl h) =
    let eight : eqb (length groups) 8 ≡ true = eq-eqb _ _ h.1 in
    rw (groups_no_gap text groups h.0, groups_read 8 text groups h.0 (omega (arith, h.1)), eight) refl
address_read text groups (inr s) =
    let gap : gap_at text ≡ Some (length s.front) = ap gap_at s.text_is ∙ some_gap s.front s.before s.behind s.front_is in
    let front : take (length s.front) text ≡ s.front = ap (take (length s.front)) s.text_is ∙ take_at s.front (58 ∷ 58 ∷ s.behind) (length s.front) refl in
    let whole : text ≡ (s.front ++ 58 ∷ 58 ∷ []) ++ s.behind = s.text_is ∙ sym (append_assoc s.front (58 ∷ 58 ∷ []) s.behind) in
    let behind : drop (length s.front + 2) text ≡ s.behind = ap (drop (length s.front + 2)) whole ∙ drop_at (s.front ++ 58 ∷ 58 ∷ []) s.behind (length s.front + 2) (length-append s.front (58 ∷ 58 ∷ [])) in
    let before = some_read s.front s.before s.front_is (omega (arith, s.fewer)) in
    let after = some_read s.behind s.after s.behind_is (omega (arith, s.fewer)) in
    let few : leb (length s.before + length s.after) 7 ≡ true = le-leb _ _ s.fewer in
    let all : around_gap (some_groups (take (length s.front) text)) (some_groups (drop (length s.front + 2) text)) ≡ around_gap (Some s.before) (Some s.after) =
    rw (front, behind, before, after) refl in
    ap (λ (o : Option ℕ). groups_by o text) gap ∙ all ∙ rw few (ap (λ (t : List ℕ). Some t) (sym s.groups_are))

whole_found : (text groups : List ℕ) → all_eight (groups_within 8 text) ≡ Some groups → SpellsAddress text groups
whole_found text groups e = elim (some_option (groups_within 8 text)) [
  | inl none ↦ absurd (let nothing : None ≡ Some groups = rw none at e in cc)
  | inr (gs, some) ↦ elim (cases_Bool (eqb (length gs) 8)) [
    | inl eight ↦
        let there : all_eight (Some gs) ≡ Some groups = rw some at e in
        let same : Some gs ≡ Some groups = rw eight at there in
        let is : gs ≡ groups = cc in
        inl (subst (λ (t : List ℕ). SpellsGroups text t × (length t ≡ 8)) is ((read_groups_spelled 8 text gs some).0, eqb-true _ _ eight))
    | inr other ↦ absurd (let there : all_eight (Some gs) ≡ Some groups = rw some at e in let nothing : None ≡ Some groups = rw other at there in cc)
  ]
]

shortened_found : (text groups : List ℕ) (k : ℕ) → gap_at text ≡ Some k → around_gap (some_groups (take k text)) (some_groups (drop (k + 2) text)) ≡ Some groups → SpellsAddress text groups
shortened_found text groups k gap e = elim (some_option (some_groups (take k text))) [
  | inl none ↦ absurd (let nothing : None ≡ Some groups = rw none at e in cc)
  | inr (before, first) ↦ elim (some_option (some_groups (drop (k + 2) text))) [
    | inl none ↦ absurd (let there : around_gap (Some before) (some_groups (drop (k + 2) text)) ≡ Some groups = rw first at e in let nothing : None ≡ Some groups = rw none at there in cc)
    | inr (after, second) ↦
        let both : around_gap (Some before) (Some after) ≡ Some groups = rw (first, second) at e in
        elim (cases_Bool (leb (length before + length after) 7)) [
          | inr over ↦ absurd (let nothing : None ≡ Some groups = rw over at both in cc)
          | inl few ↦
              let same : Some (before ++ replicate {A = ℕ} (8 - (length before + length after)) 0 ++ after) ≡ Some groups = rw few at both in
              let is : before ++ replicate {A = ℕ} (8 - (length before + length after)) 0 ++ after ≡ groups = cc in
              inr (record {
                front = take k text;
                behind = drop (k + 2) text;
                before = before;
                after = after;
                text_is = gap_is text k gap;
                front_is = some_spelled (take k text) before first;
                behind_is = some_spelled (drop (k + 2) text) after second;
                fewer = leb-true _ _ few;
                groups_are = sym is;
              })
        ]
  ]
]

address_found : (text groups : List ℕ) → address_groups text ≡ Some groups → SpellsAddress text groups
unfolding address_groups
address_found text groups e = elim (some_option (gap_at text)) [
  | inl none ↦ whole_found text groups (rw none at e)
  | inr (k, gap) ↦ shortened_found text groups k gap (rw gap at e)
]

-- ---- what the calls returned

pub by_gap : (text : List ℕ) (place : Option ℕ) (groups : Option (List ℕ)) → place ≡ gap_at text → groups ≡ groups_by place text → groups ≡ address_groups text
unfolding address_groups
by_gap text place groups e f = f ∙ ap (λ (o : Option ℕ). groups_by o text) e

pub groups_found : (text : List ℕ) (groups : Option (List ℕ)) → groups ≡ address_groups text → IfSome groups (λ g. SpellsAddress text g)
groups_found text None e = tt
groups_found text (Some groups) e = address_found text groups (sym e)
