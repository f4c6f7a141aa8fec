-- What one more row does to the entries that stand for a history.
use Rattle.std.proofs.Common.{◌≡◌, ℕ, ◌<◌, ◌≤◌, Bool, true, false, cond, eqb, List, [], ◌∷◌, ◌++◌, length, Option, Some, None, refl, sym, ◌∙◌, ap, arith}
use Rattle.std.specs.Prelude.{not, ◌||◌, nat_le, nat_lt, map, filter, is_some}
use Rattle.std.proofs.lemmas.Bool.Decides.{nat_tests}
use Rattle.std.proofs.lemmas.Bool.{cond_both, cond-true, true≢false}
use Rattle.nd_table.specs.declared.lasting.Lasting.{Lasting}
use Rattle.nd_table.specs.Ends.{end_time, is_before}
use Rattle.nd_table.specs.Announcements.{Row, Announced, Ended, Cleared, last_moment, end_after, end_of, is_open, stands, place}
use Rattle.nd_table.specs.Listing.{open_at, end_in, Lists, renewed, without, told, announced, then_announced}
use Rattle.nd_table.specs.ListingKept.{StandsUntilTold, Stands, announced_all}
use Rattle.nd_table.proofs.Finding.{Tells, Has, end_in-renewed, end_in-without, end_in-push, end_in-open, absent_of, as_long, fewer_filtered, one_longer}
use Rattle.nd_table.proofs.LastingOrder.{Rises-agree, Rises-renewed, Rises-filter, Rises-push, distinct_of}

-- where an end is open there is one
pub open_some : (o : Option (Option ℕ)) (t : ℕ) → is_open o t ≡ true → is_some o ≡ true
open_some None t h = absurd (true≢false (sym h))
open_some (Some e) t h = refl

module _ {K : Type 0} (same : K → K → Bool) (tells : Tells same) where
  -- the place of a key that has an end is among the history
  pub place_below : (k : K) (history : List (Row K)) → is_some (end_of same k history) ≡ true → place same k history < length history
  place_below k [] h = absurd (true≢false (sym h))
  place_below k (Announced at key w ∷ history) h =
      grind (arith, nat_tests, tells, h, place_below k history, open_some (end_of same k history) at)
  place_below k (Ended at key ∷ history) h = grind (arith, nat_tests, tells, h, place_below k history)
  place_below k (Cleared at ∷ history) h = absurd (true≢false (sym h))

  -- where an entry is found its key stands
  found_stands : (a o : Option (Option ℕ)) (t : ℕ) → a ≡ cond (is_open o t) o None → is_some a ≡ true → is_open o t ≡ true
  found_stands a o t is h = grind (arith, is, h)

  -- where none is found it doesn't
  absent_ended : (a o : Option (Option ℕ)) (t : ℕ) → a ≡ cond (is_open o t) o None → a ≡ None → is_open o t ≡ false
  absent_ended a None t is h = refl
  absent_ended a (Some e) t is h = grind (arith, is, h)

  -- a lifetime that isn't 0 lasts
  pub lasts : (now w : ℕ) → eqb w 0 ≡ false → is_before now (end_time now w) ≡ true
  lasts now w h = grind (arith, nat_tests, h)

  ends_after : (now w : ℕ) → eqb w 0 ≡ false → end_after now w ≡ Some (end_time now w)
  ends_after now w h = grind (arith, nat_tests, h)

  -- one key's end changes, which is open where there is one
  changed : (b : Bool) (t : ℕ) (given a o : Option (Option ℕ)) → given ≡ cond (is_open given t) given None → a ≡ cond (is_open o t) o None → cond b given a ≡ cond (is_open (cond b given o) t) (cond b given o) None
  changed true t given a o g is = g
  changed false t given a o g is = is

  open_given : (t : ℕ) (end : Option ℕ) → is_before t end ≡ true → Some end ≡ cond (is_open (Some end) t) (Some end) None
  open_given t end h = sym (cond-true (is_before t end) (Some end) None h)

  module _ (es : List (Lasting K)) (history : List (Row K)) (now : ℕ) (l : Lists same history now es) where
    stands_of : (k : K) → Has same tells es k → stands same k history now ≡ true
    stands_of k h = found_stands (end_in same k es) (end_of same k history) now (l.ends k) h

    end_of_some : (k : K) → Has same tells es k → is_some (end_of same k history) ≡ true
    end_of_some k h = open_some (end_of same k history) now (stands_of k h)

    lists_renewed : (key : K) (w : ℕ) → eqb w 0 ≡ false → Has same tells es key → Lists same (Announced now key w ∷ history) now (map (renewed same key (end_time now w)) es)
    lists_renewed key w some has =
        let is = ends_after now w some in
        let opened = stands_of key has in
        record {
          ends = λ k. end_in-renewed same tells k key (end_time now w) es
              ∙ (ap (λ b. cond (same key k) (cond b (Some (end_time now w)) None) (end_in same k es)) has
              ∙ (changed (same key k) now (Some (end_time now w)) (end_in same k es) (end_of same k history) (open_given now (end_time now w) (lasts now w some)) (l.ends k)
              ∙ ap (λ g. cond (is_open (cond (same key k) g (end_of same k history)) now) (cond (same key k) g (end_of same k history)) None) (sym is)));
          order = Rises-renewed same tells _ key (end_time now w) es (Rises-agree same tells (λ k. place same k history) _ es (λ k _. grind (arith, tells, opened)) l.order);
        }

    lists_entered : (key : K) (w : ℕ) → eqb w 0 ≡ false → end_in same key es ≡ None → Lists same (Announced now key w ∷ history) now (es ++ record { key = key; end = end_time now w } ∷ [])
    lists_entered key w some absent =
        let is = ends_after now w some in
        let ended = absent_ended (end_in same key es) (end_of same key history) now (l.ends key) absent in
        let e : Lasting K = record { key = key; end = end_time now w } in
        record {
          ends = λ k. end_in-push same tells k es e absent
              ∙ (changed (same key k) now (Some (end_time now w)) (end_in same k es) (end_of same k history) (open_given now (end_time now w) (lasts now w some)) (l.ends k)
              ∙ ap (λ g. cond (is_open (cond (same key k) g (end_of same k history)) now) (cond (same key k) g (end_of same k history)) None) (sym is));
          order = Rises-push same tells (λ k. place same k (Announced now key w ∷ history)) es e
              (Rises-agree same tells (λ k. place same k history) _ es (λ k h. grind (arith, tells, ended, stands_of k h)) l.order)
              (λ k h. grind (arith, tells, ended, stands_of k h, end_of_some k h, place_below k history));
        }

    lists_removed : (key : K) (w : ℕ) → eqb w 0 ≡ true → Lists same (Announced now key w ∷ history) now (without same key es)
    lists_removed key w zero =
        let is : end_after now w ≡ None = cond-true (eqb w 0) None (Some (end_time now w)) zero in
        record {
          ends = λ k. end_in-without same tells k key es
              ∙ (changed (same key k) now None (end_in same k es) (end_of same k history) refl (l.ends k)
              ∙ ap (λ g. cond (is_open (cond (same key k) g (end_of same k history)) now) (cond (same key k) g (end_of same k history)) None) (sym is));
          order = Rises-agree same tells (λ k. place same k history) _ (without same key es) (λ k h. grind (arith, tells, h, end_in-without same tells k key es)) (Rises-filter same tells _ _ es l.order);
        }

    -- an announcement leads from the keys that stand at its moment to those that stand then with it
    pub told_lists : (key : K) (w : ℕ) → Lists same (Announced now key w ∷ history) now (told same now key w es)
    told_lists key w =
        cond_both (eqb w 0) (without same key es) (cond (is_some (end_in same key es)) (map (renewed same key (end_time now w)) es) (es ++ record { key = key; end = end_time now w } ∷ [])) (λ xs. Lists same (Announced now key w ∷ history) now xs)
        (λ z. lists_removed key w z)
        (λ n. cond_both (is_some (end_in same key es)) (map (renewed same key (end_time now w)) es) (es ++ record { key = key; end = end_time now w } ∷ []) (λ xs. Lists same (Announced now key w ∷ history) now xs)
        (λ h. lists_renewed key w n h)
        (λ h. lists_entered key w n (absent_of (end_in same key es) h)))

    -- what stands later is what hasn't ended by then
    pub lists_later : (t : ℕ) → now ≤ t → Lists same history t (open_at t es)
    lists_later t le = record {
      ends = λ k. end_in-open same tells t k es (distinct_of same tells _ es l.order) ∙ later_open (end_in same k es) (end_of same k history) t le (l.ends k);
      order = Rises-filter same tells _ _ es l.order;
    }
      where
        before_later : (t' : ℕ) (e : Option ℕ) → now ≤ t' → is_before t' e ≡ true → is_before now e ≡ true
        before_later t' None le' h = refl
        before_later t' (Some e) le' h = grind (arith, nat_tests, h)

        later_open : (a o : Option (Option ℕ)) (t' : ℕ) → now ≤ t' → a ≡ cond (is_open o now) o None → cond (is_open a t') a None ≡ cond (is_open o t') o None
        later_open a None t' le' is = rw is refl
        later_open a (Some e) t' le' is = grind (arith, nat_tests, is, before_later t' e le')

  -- a list whose keys end silently gains an announcement
  pub gains_silently : (old : List (Lasting K)) (history : List (Row K)) (now : ℕ) (key : K) (w : ℕ) → last_moment history ≤ now → Stands same old history → Stands same (announced same now key w old) (Announced now key w ∷ history)
  gains_silently old history now key w le s = record {
    lists = λ t later. lists_later (announced same now key w old) (Announced now key w ∷ history) now (told_lists (open_at now old) history now (s.lists now le) key w) t later;
  }

  -- each entry hasn't ended
  abbrev pub AllOpen : List (Lasting K) → ℕ → Type 0
  AllOpen [] now = Unit {0}
  AllOpen (e ∷ es) now = (is_before now e.end ≡ true) × AllOpen es now

  -- of entries none of which has ended each is found open
  pub open_in : (now : ℕ) (key : K) (es : List (Lasting K)) → AllOpen es now → Has same tells es key → is_open (end_in same key es) now ≡ true
  open_in now key [] s h = absurd (true≢false (sym h))
  open_in now key (e ∷ es) s h =
      cond_both (same e.key key) (Some e.end) (end_in same key es) (λ (o : Option (Option ℕ)). is_some o ≡ true → is_open o now ≡ true) (λ _ _. s.0) (λ _ h'. open_in now key es s.1 h') h

  open_of : (a b : Option (Option ℕ)) (now : ℕ) → a ≡ b → cond (is_open a now) a None ≡ cond (is_open b now) b None
  open_of a b now is = rw is refl

  -- what hasn't ended of the entries is what stands
  pub lists_at : (es : List (Lasting K)) (history : List (Row K)) (now : ℕ) → StandsUntilTold same es history → Lists same history now (open_at now es)
  lists_at es history now s = record {
    ends = λ key. end_in-open same tells now key es (distinct_of same tells _ es s.order) ∙ open_of (end_in same key es) (end_of same key history) now (s.ends key);
    order = Rises-filter same tells _ _ es s.order;
  }

  back : (b : Bool) (now : ℕ) (end : Option ℕ) (a o : Option (Option ℕ)) (n : Option (Option ℕ)) → n ≡ cond (is_open (cond b a o) now) (cond b a o) None → (b ≡ true → cond (is_open a now) a None ≡ a) → (b ≡ false → cond (is_open o now) o None ≡ o) → n ≡ cond b a o
  back true now end a o n is h k = is ∙ h refl
  back false now end a o n is h k = is ∙ k refl

  after_open : (now w : ℕ) → cond (is_open (end_after now w) now) (end_after now w) None ≡ end_after now w
  after_open now w = cond_both (eqb w 0) None (Some (end_time now w)) (λ (o : Option (Option ℕ)). cond (is_open o now) o None ≡ o)
      (λ _. refl) (λ n. cond-true (is_before now (end_time now w)) (Some (end_time now w)) None (lasts now w n))

  stays_open : (o : Option (Option ℕ)) (now : ℕ) → (is_some o ≡ true → is_open o now ≡ true) → cond (is_open o now) o None ≡ o
  stays_open None now h = refl
  stays_open (Some e) now h = cond-true (is_before now e) (Some e) None (h refl)

  -- a list whose keys are ended by history gains an announcement, where none of them has ended
  pub gains : (es : List (Lasting K)) (history : List (Row K)) (now : ℕ) (key : K) (w : ℕ) → AllOpen es now → StandsUntilTold same es history → StandsUntilTold same (announced same now key w es) (Announced now key w ∷ history)
  gains es history now key w opened s =
      let l = told_lists (open_at now es) history now (lists_at es history now s) key w in
      record {
        ends = λ k. back (same key k) now None (end_after now w) (end_of same k history) (end_in same k (announced same now key w es)) (l.ends k) (λ _. after_open now w)
            (λ _. stays_open (end_of same k history) now (λ h. ap (λ o. is_open o now) (sym (s.ends k)) ∙ open_in now k es opened (ap is_some (s.ends k) ∙ h)));
        order = l.order;
      }

  -- and a row that ends a key
  pub ends : (es : List (Lasting K)) (history : List (Row K)) (now : ℕ) (key : K) → StandsUntilTold same es history → StandsUntilTold same (without same key es) (Ended now key ∷ history)
  ends es history now key s = record {
    ends = λ k. end_in-without same tells k key es ∙ ap (λ o. cond (same key k) None o) (s.ends k);
    order = Rises-filter same tells _ _ es s.order;
  }

  pub AllOpen-filter : (now : ℕ) (p : Lasting K → Bool) (es : List (Lasting K)) → AllOpen es now → AllOpen (filter p es) now
  AllOpen-filter now p [] h = tt
  AllOpen-filter now p (e ∷ es) h =
      let rest = AllOpen-filter now p es h.1 in
      cond_both (p e) (e ∷ filter p es) (filter p es) (λ xs. AllOpen xs now) (λ _. (h.0, rest)) (λ _. rest)

  AllOpen-renewed : (now : ℕ) (key : K) (end : Option ℕ) (es : List (Lasting K)) → AllOpen es now → is_before now end ≡ true → AllOpen (map (renewed same key end) es) now
  AllOpen-renewed now key end [] h b = tt
  AllOpen-renewed now key end (e ∷ es) h b =
      (cond_both (same e.key key) end e.end (λ o. is_before now o ≡ true) (λ _. b) (λ _. h.0), AllOpen-renewed now key end es h.1 b)

  AllOpen-push : (now : ℕ) (es : List (Lasting K)) (e : Lasting K) → AllOpen es now → is_before now e.end ≡ true → AllOpen (es ++ e ∷ []) now
  AllOpen-push now [] e h b = (b, tt)
  AllOpen-push now (x ∷ es) e h b = (h.0, AllOpen-push now es e h.1 b)

  pub AllOpen-open : (now : ℕ) (es : List (Lasting K)) → AllOpen (open_at now es) now
  AllOpen-open now [] = tt
  AllOpen-open now (e ∷ es) =
      let rest = AllOpen-open now es in
      cond_both (is_before now e.end) (e ∷ open_at now es) (open_at now es) (λ xs. AllOpen xs now) (λ h. (h, rest)) (λ _. rest)

  -- behind an announcement nothing has ended
  pub AllOpen-announced : (now : ℕ) (key : K) (w : ℕ) (es : List (Lasting K)) → AllOpen (announced same now key w es) now
  AllOpen-announced now key w es =
      let opened = AllOpen-open now es in
      let xs = open_at now es in
      cond_both (eqb w 0) (without same key xs) (cond (is_some (end_in same key xs)) (map (renewed same key (end_time now w)) xs) (xs ++ record { key = key; end = end_time now w } ∷ [])) (λ ys. AllOpen ys now)
      (λ _. AllOpen-filter now _ xs opened)
      (λ n. cond_both (is_some (end_in same key xs)) (map (renewed same key (end_time now w)) xs) (xs ++ record { key = key; end = end_time now w } ∷ []) (λ ys. AllOpen ys now)
      (λ _. AllOpen-renewed now key (end_time now w) xs opened (lasts now w n))
      (λ _. AllOpen-push now xs _ opened (lasts now w n)))

  -- a list whose keys end silently gains a message's announcements
  pub gains_all : (now : ℕ) (more : List (K × ℕ)) (old : List (Lasting K)) (history : List (Row K)) → last_moment history ≤ now → Stands same old history → Stands same (announced_all same now more old) (then_announced now more history)
  gains_all now [] old history le s = s
  gains_all now ((key, w) ∷ more) old history le s = gains_all now more _ _ (omega arith) (gains_silently old history now key w le s)

  told_length : (now : ℕ) (key : K) (w limit : ℕ) (es : List (Lasting K)) → length es ≤ limit → nat_le (length (told same now key w es)) limit ≡ (eqb w 0 || (is_some (end_in same key es) || nat_lt (length es) limit))
  told_length now key w limit es le =
      cond_both (eqb w 0) (without same key es) (cond (is_some (end_in same key es)) (map (renewed same key (end_time now w)) es) (es ++ record { key = key; end = end_time now w } ∷ []))
      (λ xs. nat_le (length xs) limit ≡ (eqb w 0 || (is_some (end_in same key es) || nat_lt (length es) limit)))
      (λ z. let s = fewer_filtered (λ e. not (same e.key key)) es in grind (arith, nat_tests, z, s, le))
      (λ n. cond_both (is_some (end_in same key es)) (map (renewed same key (end_time now w)) es) (es ++ record { key = key; end = end_time now w } ∷ [])
      (λ xs. nat_le (length xs) limit ≡ (eqb w 0 || (is_some (end_in same key es) || nat_lt (length es) limit)))
      (λ h. grind (arith, nat_tests, h, as_long same tells key (end_time now w) es, le, n))
      (λ h. grind (arith, nat_tests, h, one_longer es (record { key = key; end = end_time now w }), n)))

  -- an announcement leads to no more entries than the limit where it enters none, or there is room
  pub announced_length : (now : ℕ) (key : K) (w limit : ℕ) (es : List (Lasting K)) → length es ≤ limit → nat_le (length (announced same now key w es)) limit ≡ (eqb w 0 || (is_some (end_in same key (open_at now es)) || nat_lt (length (open_at now es)) limit))
  announced_length now key w limit es le =
      let s = fewer_filtered (λ e. is_before now e.end) es in told_length now key w limit (open_at now es) (omega (arith, s, le))
