-- What a walk over the announcements of a message keeps.
use Rattle.std.proofs.Common.{◌≡◌, ℕ, suc, zero, ◌+◌, ◌*◌, ◌^◌, ◌<◌, ◌≤◌, Bool, true, false, cond, eqb, List, [], ◌∷◌, ◌++◌, length, take, set, get_or, Option, Some, None, refl, sym, ◌∙◌, ap, subst, arith, inl, inr, ⊎_elim}
use Rattle.std.specs.Prelude.{is_some, not, ◌&&◌, nat_le, sum_by, MatchOption}
use Rattle.std.proofs.Math.Bool.{beq}
use Rattle.std.proofs.lemmas.Bool.{cases_Bool, true≢false, le-leb, cond-true, cond-false}
use Rattle.std.proofs.lemmas.Bool.Decides.{nat_tests}
use Rattle.std.proofs.lemmas.List.{length-append, length-take-le, get_or-take}
use Rattle.std.proofs.lemmas.List.Sums.{sum_by-cons, sum_by_push, sum_by_more, get_or-le-sum_by}
use Rattle.nd_table.specs.declared.lasting.Lasting.{Lasting}
use Rattle.nd_table.specs.declared.walk.Walk.{Walk}
use Rattle.nd_table.specs.Ends.{is_before}
use Rattle.nd_table.specs.Listing.{open_at, end_in, without, told, announced, fits}
use Rattle.nd_table.specs.ListingKept.{Distinct, count_after, enters}
use Rattle.nd_table.specs.WalkKept.{count_if, count_either, count_empty, count_name, times, LeadsTo}
use Rattle.nd_table.proofs.Finding.{Tells, end_in-without, fewer_filtered}
use Rattle.nd_table.proofs.Steps.{AllOpen-open, AllOpen-announced}
use Rattle.nd_table.proofs.Behind.{open_all, told_has, counted_told, one_shorter, Distinct-filter, Distinct-announced}

-- the last of the first names takes the place of one that leaves
pub sum_without : {X : Type 0} (f : X → ℕ) (xs : List X) (i m : ℕ) (d : X) → i ≤ m → m < length xs → sum_by f (take m (set xs i (get_or xs m d))) + f (get_or xs i d) ≡ sum_by f (take (suc m) xs)
sum_without f [] i m d le lt = absurd (omega (arith, lt))
sum_without f (x ∷ xs) zero zero d le lt = omega arith
sum_without f (x ∷ xs) zero (suc m) d le lt =
    let one : m + 1 ≡ suc m = omega arith in
    let more : sum_by f (take (suc m) xs) ≡ sum_by f (take m xs) + f (get_or xs m d) = ap (λ k. sum_by f (take k xs)) (sym one) ∙ sum_by_more f xs m d (omega (arith, lt)) in
    let all : sum_by f (get_or xs m d ∷ take m xs) + f x ≡ sum_by f (x ∷ take (suc m) xs) = omega (arith, sum_by-cons f (get_or xs m d) (take m xs), sum_by-cons f x (take (suc m) xs), more) in
    all
sum_without f (x ∷ xs) (suc i) zero d le lt = absurd (omega (arith, le))
sum_without f (x ∷ xs) (suc i) (suc m) d le lt =
    let rest = sum_without f xs i m d (omega (arith, le)) (omega (arith, lt)) in
    let all : sum_by f (x ∷ take m (set xs i (get_or xs m d))) + f (get_or xs i d) ≡ sum_by f (x ∷ take (suc m) xs) =
    omega (arith, sum_by-cons f x (take m (set xs i (get_or xs m d))), sum_by-cons f x (take (suc m) xs), rest) in
    all

-- a key that stands or not, by whether it did before and whether its name is kept
either_is : (a b : Bool) (n : ℕ) (o : Option ℕ) → n ≡ count_either a b → MatchOption o (n ≡ 0) (λ i. 1 ≤ n) → not (beq a (is_some o)) ≡ b
either_is true true n None e h = refl
either_is true false n None e h = absurd (omega (arith, e, h))
either_is false true n None e h = absurd (omega (arith, e, h))
either_is false false n None e h = refl
either_is true true n (Some i) e h = absurd (omega (arith, e, h))
either_is true false n (Some i) e h = refl
either_is false true n (Some i) e h = refl
either_is false false n (Some i) e h = absurd (omega (arith, e, h))

-- a name that is added where it was not kept
name_in : (a b s : Bool) (n : ℕ) → n ≡ count_either a b → n ≡ 0 → beq b s ≡ false → n + 1 ≡ count_either a s
name_in true true true n e z h = absurd (true≢false h)
name_in true true false n e z h = omega (arith, z)
name_in true false s n e z h = absurd (omega (arith, e, z))
name_in false true s n e z h = absurd (omega (arith, e, z))
name_in false false true n e z h = omega (arith, z)
name_in false false false n e z h = absurd (true≢false h)

-- and one that is removed where it was
name_out : (a b s : Bool) (n m : ℕ) → m ≡ count_either a b → n + 1 ≡ m → beq b s ≡ false → n ≡ count_either a s
name_out true true s n m e z h = absurd (omega (arith, e, z))
name_out true false true n m e z h = omega (arith, e, z)
name_out true false false n m e z h = absurd (true≢false h)
name_out false true true n m e z h = absurd (true≢false h)
name_out false true false n m e z h = omega (arith, e, z)
name_out false false s n m e z h = absurd (omega (arith, e, z))

-- where a key stands before and after, or neither, as many stand
same_count : (n : ℕ) (a b : Bool) → beq a b ≡ true → count_after n a b ≡ n
same_count n true true h = refl
same_count n true false h = absurd (true≢false (sym h))
same_count n false true h = absurd (true≢false (sym h))
same_count n false false h = refl

same_bool : (a b : Bool) → beq a b ≡ true → b ≡ a
same_bool true true h = refl
same_bool true false h = absurd (true≢false (sym h))
same_bool false true h = absurd (true≢false (sym h))
same_bool false false h = refl

either_le : (a b : Bool) → count_either a b ≤ count_if a + count_if b
either_le true true = omega arith
either_le true false = omega arith
either_le false true = omega arith
either_le false false = omega arith

enters_none : (stays stood : Bool) → beq stood stays ≡ true → (stays && not stood) ≡ false
enters_none true true h = refl
enters_none true false h = absurd (true≢false (sym h))
enters_none false stood h = refl

enters_if : (stays stood : Bool) → beq stood stays ≡ false → (stays && not stood) ≡ stays
enters_if true true h = absurd (true≢false h)
enters_if true false h = refl
enters_if false stood h = refl

-- a count of 1 is of a name of the key
one_name : (b : Bool) → count_if b ≡ 1 → b ≡ true
one_name true h = refl
one_name false h = absurd (omega (arith, h))

module _ {K Q : Type 0} (same : K → K → Bool) (tells : Tells same) (named : Q → K) where
  -- the key is among the entries
  abbrev has : K → List (Lasting K) → Bool
  has key es = is_some (end_in same key es)

  -- names of different keys, each of which is among these entries or those, are no more than there are of both
  pub few_names : (xs : List (Option Q)) (es fs : List (Lasting K)) → Distinct same es → Distinct same fs → sum_by count_empty xs ≡ 0
      → ((k : K) → times same named k xs ≤ count_if (has k es) + count_if (has k fs)) → length xs ≤ length es + length fs
  few_names [] es fs d c e h = omega arith
  few_names (None ∷ xs) es fs d c e h = absurd (omega (arith, e, sum_by-cons (count_empty {Q = Q}) None xs))
  few_names (Some q ∷ xs) es fs d c e h =
      let key = named q in
      let none : sum_by count_empty xs ≡ 0 = omega (arith, e, sum_by-cons (count_empty {Q = Q}) (Some q) xs) in
      let first : (k : K) → count_if (same key k) + times same named k xs ≤ count_if (has k es) + count_if (has k fs) = λ k. omega (arith, h k, sum_by-cons (count_name same named k) (Some q) xs) in
      elim (cases_Bool (has key es)) [
        | inl t ↦
            let shorter = one_shorter same tells key es d t in
            let rest = few_names xs (without same key es) fs (Distinct-filter same tells _ es d) c none (λ k. fewer key k es fs (times same named k xs) t (first k)) in
            omega (arith, shorter, rest)
        | inr n ↦ elim (cases_Bool (has key fs)) [
          | inl t ↦
              let shorter = one_shorter same tells key fs c t in
              let rest = few_names xs es (without same key fs) d (Distinct-filter same tells _ fs c) none
              (λ k. let le = fewer key k fs es (times same named k xs) t (omega (arith, first k)) in omega (arith, le)) in
              omega (arith, shorter, rest)
          | inr m ↦ absurd (neither key (times same named key xs) n m (first key))
        ]
      ]
    where
      fewer : (key k : K) (ds cs : List (Lasting K)) (n : ℕ) → has key ds ≡ true → count_if (same key k) + n ≤ count_if (has k ds) + count_if (has k cs) → n ≤ count_if (has k (without same key ds)) + count_if (has k cs)
      fewer key k ds cs n t le = grind (arith, tells, t, le, end_in-without same tells k key ds)

      neither : (key : K) (n : ℕ) → has key es ≡ false → has key fs ≡ false → count_if (same key key) + n ≤ count_if (has key es) + count_if (has key fs) → ⊥
      neither key n a b le = grind (arith, tells, a, b, le)

  module _ (w : Walk K) (kept : List (Option Q)) (es : List (Lasting K)) (l : LeadsTo same named w kept es) (name : Q) (lifetime : ℕ) where
    abbrev key : K
    key = named name

    abbrev stays : Bool
    stays = not (eqb lifetime 0)

    abbrev later : List (Lasting K)
    later = announced same w.now key lifetime es

    abbrev names : List (Option Q)
    names = take w.changed kept

    abbrev before : List (Lasting K)
    before = open_at w.now w.entries.now

    -- what was found
    abbrev Found : Option ℕ → Type 0
    Found o = MatchOption o (times same named key names ≡ 0) (λ i. (i < length names) × (count_name same named key (get_or names i None) ≡ 1))

    some_or_none : (o : Option ℕ) → Found o → MatchOption o (times same named key names ≡ 0) (λ i. 1 ≤ times same named key names)
    some_or_none None p = p
    some_or_none (Some i) p = omega (arith, get_or-le-sum_by (count_name same named key) names i None p.0, p.1)

    pub stood_is : (s i : Bool) (o : Option ℕ) → Found o → s ≡ has key before → i ≡ is_some o → not (beq s i) ≡ has key es
    stood_is s i o p is there =
        ap (λ b. not (beq b i)) is
        ∙ (ap (λ b. not (beq (has key before) b)) there
        ∙ either_is (has key before) (has key es) (times same named key names) o (l.changed key) (some_or_none o p))

    later_is : later ≡ told same w.now key lifetime es
    later_is = ap (λ xs. told same w.now key lifetime xs) l.unended

    has_later : (k : K) → has k later ≡ cond (same key k) stays (has k es)
    has_later k = ap (λ xs. has k xs) later_is ∙ told_has same tells k key w.now lifetime es

    count_later : count_after (length es) (has key es) stays ≡ length later
    count_later = counted_told same tells w.now key lifetime es l.distinct ∙ ap length (sym later_is)

    pub standing_later : (b : Bool) → b ≡ has key es → count_after w.standing b stays ≡ length later
    standing_later b is = ap (λ n. count_after n b stays) l.standing ∙ (ap (λ c. count_after (length es) c stays) is ∙ count_later)

    unended_later : open_at w.now later ≡ later
    unended_later = open_all same tells later w.now (AllOpen-announced same tells w.now key lifetime es)

    enters_is : enters same w.now key lifetime es ≡ (stays && not (has key es))
    enters_is = ap (λ xs. stays && not (has key xs)) l.unended

    has_same : beq (has key es) stays ≡ true → (k : K) → has k later ≡ has k es
    has_same h k = has_later k ∙ ⊎_elim
        (λ s. cond-true (same key k) stays (has k es) s.0 ∙ (same_bool (has key es) stays h ∙ ap (λ x. has x es) s.1))
        (λ n. cond-false (same key k) stays (has k es) n.0)
        (tells key k)

    pub stays_so : beq (has key es) stays ≡ true → (false ≡ enters same w.now key lifetime es) × LeadsTo same named w kept later
    stays_so h = (
      sym (enters_is ∙ enters_none stays (has key es) h),
      record {
        limited = l.limited;
        room = l.room;
        few = l.few;
        once = l.once;
        unended = unended_later;
        distinct = Distinct-announced same tells w.now key lifetime es l.distinct;
        standing = l.standing ∙ (sym (same_count (length es) (has key es) stays h) ∙ count_later);
        within = l.within;
        kept_within = l.kept_within;
        named_each = l.named_each;
        changed = λ k. l.changed k ∙ ap (λ b. count_either (has k before) b) (sym (has_same h k));
      },
    )

    -- one name more is kept
    more_named : sum_by count_empty (names ++ Some name ∷ []) ≡ 0
    more_named = omega (arith, sum_by_push (count_empty {Q = Q}) names (Some name), l.named_each)

    itself : same key key ≡ true
    itself = ⊎_elim (λ s. s.0) (λ n. absurd (n.1 refl)) (tells key key)

    has_key : has key later ≡ stays
    has_key = has_later key ∙ cond-true (same key key) stays (has key es) itself

    has_other : (k : K) → same key k ≡ false → has k later ≡ has k es
    has_other k n = has_later k ∙ cond-false (same key k) stays (has k es) n

    more_times : times same named key names ≡ 0 → beq (has key es) stays ≡ false → (k : K) → times same named k (names ++ Some name ∷ []) ≡ count_either (has k before) (has k later)
    more_times none h k =
        sum_by_push (count_name same named k) names (Some name) ∙ ⊎_elim
        (λ s. subst (λ x. times same named x names + count_if (same key x) ≡ count_either (has x before) (has x later)) s.1 at_key)
        (λ n. let c : count_if (same key k) ≡ 0 = ap count_if n.0 in omega (arith, c) ∙ (l.changed k ∙ ap (λ b. count_either (has k before) b) (sym (has_other k n.0))))
        (tells key k)
      where
        at_key : times same named key names + count_if (same key key) ≡ count_either (has key before) (has key later)
        at_key =
            let c : count_if (same key key) ≡ 1 = ap count_if itself in
            omega (arith, c) ∙ (name_in (has key before) (has key es) stays (times same named key names) (l.changed key) none h ∙ ap (λ b. count_either (has key before) b) (sym has_key))

    distinct_later : Distinct same later
    distinct_later = Distinct-announced same tells w.now key lifetime es l.distinct

    room_for : times same named key names ≡ 0 → beq (has key es) stays ≡ false → length later ≤ w.limit → w.changed < length kept
    room_for none h le =
        let few = few_names (names ++ Some name ∷ []) before later l.once distinct_later more_named (λ k. let e = more_times none h k in let m = either_le (has k before) (has k later) in omega (arith, e, m)) in
        let long = length-append names (Some name ∷ []) in
        let all = length-take-le w.changed kept l.kept_within in
        omega (arith, few, long, all, l.few, l.room, le)

    -- there is room for it, or its place is known
    pub place_for : (o : Option ℕ) → Found o → beq (has key es) stays ≡ false → length later ≤ w.limit → MatchOption o (w.changed < length kept) (λ i. i < w.changed)
    place_for None p h le = room_for p h le
    place_for (Some i) p h le = omega (arith, p.0, length-take-le w.changed kept l.kept_within)

    -- the count of another key's names doesn't change with a name that leaves
    named_so : (x : Option Q) → count_name same named key x ≡ 1 → (k : K) → count_name same named k x ≡ count_if (same key k)
    named_so None h k = absurd (omega (arith, h))
    named_so (Some q) h k = ⊎_elim (λ s. ap (λ y. count_if (same y k)) s.1) (λ n. absurd (true≢false (sym (one_name (same (named q) key) h) ∙ n.0))) (tells (named q) key)

    module _ (count : ℕ) (new : List (Option Q)) (h : beq (has key es) stays ≡ false) where
      -- a name was added, or one that was found removed
      abbrev Made : Option ℕ → Type 0
      Made o = MatchOption o (take count new ≡ names ++ Some name ∷ []) (λ i. (f : Option Q → ℕ) → sum_by f (take count new) + f (get_or kept i None) ≡ sum_by f names)

      named_later : (o : Option ℕ) → Made o → sum_by count_empty (take count new) ≡ 0
      named_later None m = ap (sum_by count_empty) m ∙ more_named
      named_later (Some i) m = omega (arith, m count_empty, l.named_each)

      times_later : (o : Option ℕ) → Found o → Made o → (k : K) → times same named k (take count new) ≡ count_either (has k before) (has k later)
      times_later None p m k = ap (times same named k) m ∙ more_times p h k
      times_later (Some i) p m k =
          let x : Option Q = get_or kept i None in
          let one : count_name same named key x ≡ 1 = ap (count_name same named key) (sym (get_or-take w.changed kept i None (omega (arith, p.0, length-take-le w.changed kept l.kept_within)))) ∙ p.1 in
          let some : (y : K) → count_name same named y x ≡ count_if (same key y) = named_so x one in
          ⊎_elim
          (λ s. subst (λ y. times same named y (take count new) ≡ count_either (has y before) (has y later)) s.1
          (name_out (has key before) (has key es) stays (times same named key (take count new)) (times same named key names) (l.changed key) (omega (arith, m (count_name same named key), one)) h
          ∙ ap (λ b. count_either (has key before) b) (sym has_key)))
          (λ n. let c : count_name same named k x ≡ 0 = some k ∙ ap count_if n.0 in
          omega (arith, m (count_name same named k), c) ∙ (l.changed k ∙ ap (λ b. count_either (has k before) b) (sym (has_other k n.0))))
          (tells key k)

      pub leads_on : (o : Option ℕ) → Found o → Made o → length new ≡ length kept → count ≤ length new → (standing : ℕ) → standing ≡ length later → standing ≤ w.limit
          → (stays ≡ enters same w.now key lifetime es) × LeadsTo same named (record { entries = w.entries; limit = w.limit; now = w.now; standing = standing; changed = count }) new later
      leads_on o found made long within standing is le = (
        sym (enters_is ∙ enters_if stays (has key es) h),
        record {
          limited = l.limited;
          room = omega (arith, l.room, long);
          few = l.few;
          once = l.once;
          unended = unended_later;
          distinct = distinct_later;
          standing = is;
          within = le;
          kept_within = within;
          named_each = named_later o made;
          changed = times_later o found made;
        },
      )

-- a walk begins at the keys that stand
pub begins : {K Q : Type 0} (same : K → K → Bool) (tells : Tells same) (named : Q → K) (w : Walk K) (kept : List (Option Q)) → Distinct same w.entries.now → length w.entries.now ≤ w.limit → w.limit < 2 ^ 32 → 2 * w.limit ≤ length kept
    → w.standing ≡ length (open_at w.now w.entries.now) → w.changed ≡ 0 → LeadsTo same named w kept (open_at w.now w.entries.now)
begins same tells named w kept distinct few limited room standing none =
    let fewer = fewer_filtered (λ e. is_before w.now e.end) w.entries.now in
    let once = Distinct-filter same tells _ w.entries.now distinct in
    record {
      limited = limited;
      room = room;
      few = omega (arith, few, fewer);
      once = once;
      unended = open_all same tells (open_at w.now w.entries.now) w.now (AllOpen-open same tells w.now w.entries.now);
      distinct = once;
      standing = standing;
      within = omega (arith, standing, few, fewer);
      kept_within = omega (arith, none);
      named_each = ap (λ n. sum_by count_empty (take n kept)) none;
      changed = λ key. ap (λ n. times same named key (take n kept)) none ∙ either_same (is_some (end_in same key (open_at w.now w.entries.now)));
    }
  where
    either_same : (b : Bool) → 0 ≡ count_either b b
    either_same true = refl
    either_same false = refl

-- what is left decides whether they fit
pub goes_on : {K Q : Type 0} (same : K → K → Bool) (named : Q → K) (w next : Walk K) (kept : List (Option Q)) (key : K) (lifetime : ℕ) (all more : List (K × ℕ)) (es : List (Lasting K)) (fit : Bool) → all ≡ (key, lifetime) ∷ more
    → LeadsTo same named next kept (announced same w.now key lifetime es) → next.limit ≡ w.limit → next.now ≡ w.now → fits same w.limit w.now all es ≡ fit
    → (entries : List (Lasting K)) × LeadsTo same named next kept entries × (fits same next.limit next.now more entries ≡ fit)
goes_on {K} same named w next kept key lifetime all more es fit is leads limit_is now_is so =
    let later = announced same w.now key lifetime es in
    let within : nat_le (length later) w.limit ≡ true = le-leb _ _ (omega (arith, leads.standing, leads.within, limit_is)) in (
      later,
      leads,
      ap (λ n. fits same n next.now more later) limit_is
          ∙ (ap (λ n. fits same w.limit n more later) now_is
          ∙ (ap (λ b. b && fits same w.limit w.now more later) (sym within)
          ∙ (ap (λ (l : List (K × ℕ)). fits same w.limit w.now l es) (sym is) ∙ so))),
    )

pub stops : {K : Type 0} (same : K → K → Bool) (limit now : ℕ) (key : K) (lifetime : ℕ) (all more : List (K × ℕ)) (es : List (Lasting K)) (fit : Bool) → all ≡ (key, lifetime) ∷ more
    → limit < length (announced same now key lifetime es) → fits same limit now all es ≡ fit → false ≡ fit
stops {K} same limit now key lifetime all more es fit is lt so =
    let over : nat_le (length (announced same now key lifetime es)) limit ≡ false = grind (arith, nat_tests, lt) in
    ap (λ b. b && fits same limit now more (announced same now key lifetime es)) (sym over) ∙ (ap (λ (l : List (K × ℕ)). fits same limit now l es) (sym is) ∙ so)
