-- What one more row does to the routers that failed.
use Rattle.std.proofs.Common.{◌≡◌, ℕ, ◌<◌, ◌≤◌, Bool, true, false, eqb, List, [], ◌∷◌, ◌++◌, length, Option, Some, None, refl, sym, ◌∙◌, ap, subst, arith, ⊎_elim}
use Rattle.std.specs.Prelude.{not, is_some, ◌&&◌, ◌||◌}
use Rattle.std.proofs.lemmas.Bool.Decides.{nat_tests, eqb_tells}
use Rattle.std.proofs.lemmas.Bool.{cond_both, true≢false}
use Rattle.nd_addr.specs.declared.preference.Preference.{Preference}
use Rattle.nd_table.specs.Announcements.{end_of, stands}
use Rattle.nd_table.specs.declared.lasting.Lasting.{Lasting}
use Rattle.nd_table.specs.Listing.{end_in, without}
use Rattle.nd_table.specs.ListingKept.{StandsUntilTold}
use Rattle.nd_table.proofs.Finding.{end_in-without}
use Rattle.nd_routers.proofs.Dues.{length-without}
use Rattle.nd_routers.specs.History.{RouterRow, Heard, LeftList, Failed, announcements, failure_of}
use Rattle.nd_routers.specs.RouterFailures.{has_failed, AllLater, InOrder, number_in, Failures}
use Rattle.nd_routers.specs.RouterFailuresKept.{others}
use Rattle.nd_routers.specs.Routers.{same}

pub has_failed-others : (k key : ℕ) (ks : List ℕ) → has_failed k (others key ks) ≡ (not (eqb key k) && has_failed k ks)
has_failed-others k key [] = grind (arith, nat_tests)
has_failed-others k key (x ∷ ks) = grind (arith, nat_tests, has_failed-others k key ks)

pub has_failed-push : (k key : ℕ) (ks : List ℕ) → has_failed k (ks ++ key ∷ []) ≡ (eqb key k || has_failed k ks)
has_failed-push k key [] = grind (arith, nat_tests)
has_failed-push k key (x ∷ ks) = grind (arith, nat_tests, has_failed-push k key ks)

pub head_has : (k : ℕ) (ks : List ℕ) → has_failed k (k ∷ ks) ≡ true
head_has k ks = grind (arith, nat_tests)

pub tail_has : (x k : ℕ) (ks : List ℕ) → has_failed k ks ≡ true → has_failed k (x ∷ ks) ≡ true
tail_has x k ks h = grind (arith, nat_tests, h)

AllLater-agree : (f g : ℕ → ℕ) (n : ℕ) (ks : List ℕ) → ((k : ℕ) → has_failed k ks ≡ true → f k ≡ g k) → AllLater f n ks → AllLater g n ks
AllLater-agree f g n [] a h = tt
AllLater-agree f g n (k ∷ ks) a h = (subst (λ (x : ℕ). n < x) (a k (head_has k ks)) h.0, AllLater-agree f g n ks (λ j p. a j (tail_has k j ks p)) h.1)

pub InOrder-agree : (f g : ℕ → ℕ) (ks : List ℕ) → ((k : ℕ) → has_failed k ks ≡ true → f k ≡ g k) → InOrder f ks → InOrder g ks
InOrder-agree f g [] a h = tt
InOrder-agree f g (k ∷ ks) a h =
    let a' : (j : ℕ) → has_failed j ks ≡ true → f j ≡ g j = λ j p. a j (tail_has k j ks p) in
    (subst (λ (x : ℕ). AllLater g x ks) (a k (head_has k ks)) (AllLater-agree f g (f k) ks a' h.0), InOrder-agree f g ks a' h.1)

AllLater-others : (f : ℕ → ℕ) (n key : ℕ) (ks : List ℕ) → AllLater f n ks → AllLater f n (others key ks)
AllLater-others f n key [] h = tt
AllLater-others f n key (k ∷ ks) h =
    let rest = AllLater-others f n key ks h.1 in
    cond_both (not (eqb k key)) (k ∷ others key ks) (others key ks) (AllLater f n) (λ _. (h.0, rest)) (λ _. rest)

pub InOrder-others : (f : ℕ → ℕ) (key : ℕ) (ks : List ℕ) → InOrder f ks → InOrder f (others key ks)
InOrder-others f key [] h = tt
InOrder-others f key (k ∷ ks) h =
    let rest = InOrder-others f key ks h.1 in
    cond_both (not (eqb k key)) (k ∷ others key ks) (others key ks) (InOrder f) (λ _. (AllLater-others f (f k) key ks h.0, rest)) (λ _. rest)

AllLater-push : (f : ℕ → ℕ) (n key : ℕ) (ks : List ℕ) → AllLater f n ks → n < f key → AllLater f n (ks ++ key ∷ [])
AllLater-push f n key [] h l = (l, tt)
AllLater-push f n key (k ∷ ks) h l = (h.0, AllLater-push f n key ks h.1 l)

pub InOrder-push : (f : ℕ → ℕ) (key : ℕ) (ks : List ℕ) → InOrder f ks → ((k : ℕ) → has_failed k ks ≡ true → f k < f key) → InOrder f (ks ++ key ∷ [])
InOrder-push f key [] h l = (tt, tt)
InOrder-push f key (k ∷ ks) h l = (AllLater-push f (f k) key ks h.0 (l k (head_has k ks)), InOrder-push f key ks h.1 (λ j p. l j (tail_has k j ks p)))

-- a failure is among the history
failure_below : (key : ℕ) (history : List RouterRow) → is_some (failure_of key history) ≡ true → number_in (failure_of key history) < length history
failure_below key [] h = absurd (true≢false (sym h))
failure_below key (Heard at k w p ∷ history) h = grind (arith, nat_tests, h, failure_below key history)
failure_below key (LeftList at k ∷ history) h = grind (arith, nat_tests, h, failure_below key history)
failure_below key (Failed at k ∷ history) h = grind (arith, nat_tests, h, failure_below key history)

both : (a b c : Bool) → a ≡ (b && c) → a ≡ true → (b ≡ true) × (c ≡ true)
both a true c is h = (refl, sym is ∙ h)
both a false c is h = absurd (true≢false (sym h ∙ is))

module _ (history : List RouterRow) (ks : List ℕ) (f : Failures history ks) where
  some_of : (k : ℕ) → has_failed k ks ≡ true → (is_some (end_of same k (announcements history)) ≡ true) × (is_some (failure_of k history) ≡ true)
  some_of k h = both _ _ _ (f.each k) h

  -- a router that leaves
  pub leaves : (at key : ℕ) → Failures (LeftList at key ∷ history) (others key ks)
  leaves at key = record {
    each = λ k. has_failed-others k key ks ∙ grind (arith, nat_tests, f.each k);
    order = InOrder-agree (λ k. number_in (failure_of k history)) _ (others key ks) (λ k h. grind (arith, nat_tests, h, has_failed-others k key ks)) (InOrder-others _ key ks f.order);
  }

  -- a router that is listed and fails
  pub fails_again : (at key : ℕ) → is_some (end_of same key (announcements history)) ≡ true → Failures (Failed at key ∷ history) (others key ks ++ key ∷ [])
  fails_again at key listed = record {
    each = λ k. has_failed-push k key (others key ks) ∙ grind (arith, nat_tests, f.each k, has_failed-others k key ks, listed);
    order = InOrder-push (λ k. number_in (failure_of k (Failed at key ∷ history))) key (others key ks)
        (InOrder-agree (λ k. number_in (failure_of k history)) _ (others key ks) (λ k h. grind (arith, nat_tests, h, has_failed-others k key ks)) (InOrder-others _ key ks f.order))
        (λ k h. grind (arith, nat_tests, h, has_failed-others k key ks, failure_below k history, some_of k));
  }

  -- a router that isn't listed and fails
  pub fails_unlisted : (at key : ℕ) → is_some (end_of same key (announcements history)) ≡ false → Failures (Failed at key ∷ history) ks
  fails_unlisted at key unlisted = record {
    each = λ k. grind (arith, nat_tests, f.each k, unlisted);
    order = InOrder-agree (λ k. number_in (failure_of k history)) _ ks (λ k h. grind (arith, nat_tests, h, unlisted, f.each k, some_of k)) f.order;
  }

  -- a router that announces that it is none
  pub is_removed : (at key : ℕ) (preference : Preference) → Failures (Heard at key 0 preference ∷ history) (others key ks)
  is_removed at key preference = record {
    each = λ k. has_failed-others k key ks ∙ grind (arith, nat_tests, f.each k);
    order = InOrder-agree (λ k. number_in (failure_of k history)) _ (others key ks) (λ k h. grind (arith, nat_tests, h, has_failed-others k key ks)) (InOrder-others _ key ks f.order);
  }

  -- a router that announces itself, where it stands if it is listed
  pub is_heard : (at key w : ℕ) (preference : Preference) → eqb w 0 ≡ false → stands same key (announcements history) at ≡ is_some (end_of same key (announcements history)) → Failures (Heard at key w preference ∷ history) ks
  is_heard at key w preference n settled = record {
    each = λ k. grind (arith, nat_tests, f.each k, n, settled);
    order = InOrder-agree (λ k. number_in (failure_of k history)) _ ks (λ k h. grind (arith, nat_tests, h, n, settled, some_of k)) f.order;
  }

pub not_first : (f : ℕ → ℕ) (n key : ℕ) (ks : List ℕ) → AllLater f n ks → f key ≤ n → has_failed key ks ≡ false
not_first f n key [] h le = refl
not_first f n key (k ∷ ks) h le =
    let rest = not_first f n key ks h.1 le in
    let lt = h.0 in
    ⊎_elim (λ s. let low = ap f s.1 in absurd (omega (arith, lt, low, le))) (λ d. grind (arith, d.0, rest)) (eqb_tells k key)

differ : (a b c : ℕ) (ks : List ℕ) → has_failed a ks ≡ false → has_failed b ks ≡ true → eqb a b ≡ false
differ a b c ks no_a b_in = ⊎_elim (λ s. absurd (true≢false (sym b_in ∙ (ap (λ k. has_failed k ks) (sym s.1) ∙ no_a)))) (λ d. d.0) (eqb_tells a b)

some_end : (key : ℕ) (es : List (Lasting ℕ)) → is_some (end_in same key es) ≡ true → (end : Option ℕ) × (end_in same key es ≡ Some end)
some_end key es h = by (end_in same key es) refl h
  where
    by : (o : Option (Option ℕ)) → end_in same key es ≡ o → is_some o ≡ true → (end : Option ℕ) × (end_in same key es ≡ Some end)
    by None e h' = absurd (true≢false (sym h'))
    by (Some end) e h' = (end, e)

-- keys that are in order and all have entries are no more than the entries
few : (f : ℕ → ℕ) (ks : List ℕ) (es : List (Lasting ℕ)) → InOrder f ks → ((k : ℕ) → has_failed k ks ≡ true → is_some (end_in same k es) ≡ true) → length ks ≤ length es
few f [] es o h = omega arith
few f (k ∷ ks) es o h =
    let found = some_end k es (h k (head_has k ks)) in
    let shorter = length-without k found.0 es found.1 in
    let first = not_first f (f k) k ks o.0 (omega arith) in
    let rest = few f ks (without same k es) o.1 (λ j p. let d = differ k j 0 ks first p in grind (arith, d, end_in-without same eqb_tells j k es, h j (tail_has k j ks p))) in
    omega (arith, shorter, rest)

-- there is room for a failure of a router that is listed
pub has_room : (history : List RouterRow) (ks : List ℕ) (es : List (Lasting ℕ)) (key : ℕ) → Failures history ks → StandsUntilTold same es (announcements history) → is_some (end_in same key es) ≡ true → length (others key ks) < length es
has_room history ks es key f s listed =
    let found = some_end key es listed in
    let shorter = length-without key found.0 es found.1 in
    let rest = few (λ k. number_in (failure_of k history)) (others key ks) (without same key es) (InOrder-others _ key ks f.order)
    (λ j p. grind (arith, nat_tests, p, has_failed-others j key ks, end_in-without same eqb_tells j key es, ap is_some (s.ends j), some_of history ks f j)) in
    omega (arith, shorter, rest)
