-- What one more row does to the table that stands for a history.
use Rattle.std.proofs.Common.{◌≡◌, ℕ, ◌<◌, true, false, cond, eqb, List, [], ◌∷◌, length, get_or, set, Option, Some, None, refl, sym, ◌∙◌, ap, subst, inl, inr}
use Rattle.std.specs.List.{remove}
use Rattle.std.proofs.lemmas.Bool.{cond_both, eqb-true, eq-eqb, cond-true, cond-false, cases_Bool}
use Rattle.nd_neighbour.specs.History.{RowKind, Forgot, Cause, is_end, Row, Story, story}
use Rattle.nd_neighbour.specs.EntryKept.{NeighbourEntry}
use Rattle.nd_neighbour.specs.Story.{is_present}
use Rattle.nd_neighbour.specs.StoryKept.{the_entry, entry_of}
use Rattle.nd_neighbour.specs.TableKept.{address, entry_in, GainsRow}
use Rattle.nd_table.proofs.Keyed.{at_key-set, Rises-set, at_key-remove, Rises-remove, put_in, at_key-put, Rises-put}

-- the story of another neighbour goes on unchanged
other_story : (k key at : ℕ) (h : RowKind) (history : List Row) → eqb key k ≡ false → story k ((at, key, h) ∷ history) ≡ story k history
other_story k key at h history other = rw other refl

pub same_story : (key at : ℕ) (h : RowKind) (history : List Row) → is_end h ≡ false → story key ((at, key, h) ∷ history) ≡ (at, h) ∷ story key history
same_story key at h history goes = rw (eq-eqb key key refl, goes) refl

pub ended_story : (key at : ℕ) (why : Cause) (history : List Row) → story key ((at, key, Forgot why) ∷ history) ≡ []
ended_story key at why history = rw (eq-eqb key key refl) refl

-- a neighbour that a table has is present
pub entry_present : (key : ℕ) (s : Story) (n : NeighbourEntry) → entry_of key s ≡ Some n → (is_present s ≡ true) × (n ≡ the_entry key s)
entry_present key s n is =
    cond_both (is_present s) (Some (the_entry key s)) None (λ o. o ≡ Some n → (is_present s ≡ true) × (n ≡ the_entry key s))
    (λ p e. (p, let e' : the_entry key s ≡ n = cc in sym e')) (λ _ e. absurd (cc)) is

pub entry_absent : (key : ℕ) (s : Story) → entry_of key s ≡ None → is_present s ≡ false
entry_absent key s is =
    cond_both (is_present s) (Some (the_entry key s)) None (λ o. o ≡ None → is_present s ≡ false) (λ _ e. absurd (cc)) (λ p _. p) is

-- the look-up of each neighbour, where that of one is changed
pub each_other : (k key at : ℕ) (h : RowKind) (history : List Row) (old new : List NeighbourEntry) (o : Option NeighbourEntry) → ((j : ℕ) → entry_in j new ≡ cond (eqb key j) o (entry_in j old)) → ((j : ℕ) → entry_in j old ≡ entry_of j (story j history)) → o ≡ entry_of key (story key ((at, key, h) ∷ history)) → entry_in k new ≡ entry_of k (story k ((at, key, h) ∷ history))
each_other k key at h history old new o change each is = elim (cases_Bool (eqb key k)) [
  | inl same ↦ let e : key ≡ k = eqb-true key k same in
      change k ∙ (cond-true (eqb key k) o (entry_in k old) same ∙ subst (λ (j : ℕ). o ≡ entry_of j (story j ((at, key, h) ∷ history))) e is)
  | inr other ↦ change k ∙ (cond-false (eqb key k) o (entry_in k old) other ∙ (each k ∙ ap (entry_of k) (sym (other_story k key at h history other))))
]

module _ (old new : List NeighbourEntry) (key at : ℕ) where
  -- a neighbour that is there changes
  pub changing : (h : RowKind) (i : ℕ) (n m : NeighbourEntry) → is_end h ≡ false → i < length old → n ≡ get_or old i n → entry_in key old ≡ Some n → m.key ≡ key → n.key ≡ key → new ≡ set old i m → ((s : Story) → is_present s ≡ true → n ≡ the_entry key s → entry_of key ((at, h) ∷ s) ≡ Some m) → GainsRow old new (at, key, h)
  changing h i n m goes lt at_i found m_key n_key is makes = record {
    stands = λ history s.
        let known = entry_present key (story key history) n (sym (s.each key) ∙ found) in
        let same : (get_or old i n).key ≡ m.key = ap (λ (x : NeighbourEntry). x.key) (sym at_i) ∙ (n_key ∙ sym m_key) in
        rw is (record {
          each = λ k. each_other k key at h history old (set old i m) (Some m)
              (λ j. at_key-set address j old i m n s.order lt same ∙ ap (λ (x : ℕ). cond (eqb x j) (Some m) (entry_in j old)) m_key)
              s.each (sym (ap (entry_of key) (same_story key at h history goes) ∙ makes (story key history) known.0 known.1));
          order = Rises-set address old i m n s.order same;
        });
  }

  -- something happens that changes no neighbour
  pub passing : (h : RowKind) → is_end h ≡ false → ((s : Story) → entry_in key old ≡ entry_of key s → entry_of key ((at, h) ∷ s) ≡ entry_in key old) → new ≡ old → GainsRow old new (at, key, h)
  passing h goes same is = record {
    stands = λ history s. rw is (record {
      each = λ k. each_other k key at h history old old (entry_in key old)
          (λ j. elim (cases_Bool (eqb key j)) [
            | inl e ↦ ap (λ (x : ℕ). entry_in x old) (sym (eqb-true key j e)) ∙ sym (cond-true (eqb key j) (entry_in key old) (entry_in j old) e)
            | inr e ↦ sym (cond-false (eqb key j) (entry_in key old) (entry_in j old) e)
          ])
          s.each (sym (ap (entry_of key) (same_story key at h history goes) ∙ same (story key history) (s.each key)));
      order = s.order;
    });
  }

  -- a new neighbour comes in
  pub entering : (h : RowKind) (m : NeighbourEntry) → is_end h ≡ false → entry_in key old ≡ None → m.key ≡ key → new ≡ put_in address m old → ((s : Story) → is_present s ≡ false → entry_of key ((at, h) ∷ s) ≡ Some m) → GainsRow old new (at, key, h)
  entering h m goes absent m_key is makes = record {
    stands = λ history s.
        let gone = entry_absent key (story key history) (sym (s.each key) ∙ absent) in
        rw is (record {
          each = λ k. each_other k key at h history old (put_in address m old) (Some m)
              (λ j. at_key-put address j m old ∙ ap (λ (x : ℕ). cond (eqb x j) (Some m) (entry_in j old)) m_key)
              s.each (sym (ap (entry_of key) (same_story key at h history goes) ∙ makes (story key history) gone));
          order = Rises-put address m old s.order (ap (λ (x : ℕ). entry_in x old) m_key ∙ absent);
        });
  }

  -- a neighbour goes
  pub leaving : (why : Cause) (i : ℕ) (n : NeighbourEntry) → i < length old → n ≡ get_or old i n → n.key ≡ key → new ≡ remove old i → GainsRow old new (at, key, Forgot why)
  leaving why i n lt at_i n_key is = record {
    stands = λ history s. rw is (record {
      each = λ k. each_other k key at (Forgot why) history old (remove old i) None
          (λ j. at_key-remove address j old i n s.order lt ∙ ap (λ (x : ℕ). cond (eqb x j) None (entry_in j old)) (ap (λ (x : NeighbourEntry). x.key) (sym at_i) ∙ n_key))
          s.each (sym (ap (entry_of key) (ended_story key at why history)));
      order = Rises-remove address old i s.order;
    });
  }
