-- What one more row does to the table that stands for a history.
use Rattle.std.proofs.Common.{◌≡◌, ℕ, ◌<◌, false, cond, eqb, List, [], ◌∷◌, length, get_or, set, Option, Some, None, refl, sym, ◌∙◌, ap, subst, inl, inr}
use Rattle.std.specs.List.{remove}
use Rattle.std.proofs.lemmas.Bool.{eqb-true, eq-eqb, cond-true, cond-false, cases_Bool}
use Rattle.nd_table.proofs.Keyed.{at_key-set, Rises-set, at_key-remove, Rises-remove, put_in, at_key-put, Rises-put}
use Rattle.nd_slaac.specs.History.{RowKind, Ended, is_end, Row, Story, story}
use Rattle.nd_slaac.specs.AddressKept.{Address, address_of}
use Rattle.nd_slaac.specs.TableKept.{key_of, address_in, Stands, GainsRow}

-- the story of another address goes on unchanged
pub other_story : (k key at : ℕ) (h : RowKind) (history : List Row) → eqb key k ≡ false → story k ((at, key, h) ∷ history) ≡ story k history
other_story k key at h history differ = rw differ refl

pub same_story : (key at : ℕ) (h : RowKind) (history : List Row) → is_end h ≡ false → story key ((at, key, h) ∷ history) ≡ (at, h) ∷ story key history
same_story key at h history goes = rw (eq-eqb key key refl, goes) refl

pub ended_story : (key at : ℕ) (history : List Row) → story key ((at, key, Ended) ∷ history) ≡ []
ended_story key at history = rw (eq-eqb key key refl) refl

-- the look-up of each address, where that of one is changed
each_other : (k key at : ℕ) (h : RowKind) (history : List Row) (old new : List Address) (o : Option Address) → ((j : ℕ) → address_in j new ≡ cond (eqb key j) o (address_in j old)) → ((j : ℕ) → address_in j old ≡ address_of j (story j history)) → o ≡ address_of key (story key ((at, key, h) ∷ history)) → address_in k new ≡ address_of k (story k ((at, key, h) ∷ history))
each_other k key at h history old new o change each is = elim (cases_Bool (eqb key k)) [
  | inl same ↦ let e : key ≡ k = eqb-true key k same in
      change k ∙ (cond-true (eqb key k) o (address_in k old) same ∙ subst (λ (j : ℕ). o ≡ address_of j (story j ((at, key, h) ∷ history))) e is)
  | inr differ ↦ change k ∙ (cond-false (eqb key k) o (address_in k old) differ ∙ (each k ∙ ap (address_of k) (sym (other_story k key at h history differ))))
]

module _ (old new : List Address) (key at : ℕ) where
  -- an address that is there changes
  pub changing : (h : RowKind) (i : ℕ) (n m : Address) → is_end h ≡ false → i < length old → n ≡ get_or old i n → n.key ≡ key → m.key ≡ key → new ≡ set old i m → ((history : List Row) → Stands old history → address_in key old ≡ Some n) → ((s : Story) → address_of key s ≡ Some n → address_of key ((at, h) ∷ s) ≡ Some m) → GainsRow old new (at, key, h)
  changing h i n m goes lt at_i n_key m_key is found makes = record {
    stands = λ history s.
        let same : (get_or old i n).key ≡ m.key = ap key_of (sym at_i) ∙ (n_key ∙ sym m_key) in
        rw is (record {
          each = λ k. each_other k key at h history old (set old i m) (Some m)
              (λ j. at_key-set key_of j old i m n s.order lt same ∙ ap (λ (x : ℕ). cond (eqb x j) (Some m) (address_in j old)) m_key)
              s.each (sym (ap (address_of key) (same_story key at h history goes) ∙ makes (story key history) (sym (s.each key) ∙ found history s)));
          order = Rises-set key_of old i m n s.order same;
        });
  }

  -- a new address comes in
  pub entering : (h : RowKind) (m : Address) → is_end h ≡ false → address_in key old ≡ None → m.key ≡ key → new ≡ put_in key_of m old → ((s : Story) → address_of key ((at, h) ∷ s) ≡ Some m) → GainsRow old new (at, key, h)
  entering h m goes absent m_key is makes = record {
    stands = λ history s. rw is (record {
      each = λ k. each_other k key at h history old (put_in key_of m old) (Some m)
          (λ j. at_key-put key_of j m old ∙ ap (λ (x : ℕ). cond (eqb x j) (Some m) (address_in j old)) m_key)
          s.each (sym (ap (address_of key) (same_story key at h history goes) ∙ makes (story key history)));
      order = Rises-put key_of m old s.order (ap (λ (x : ℕ). address_in x old) m_key ∙ absent);
    });
  }

  -- an address goes
  pub leaving : (i : ℕ) (n : Address) → i < length old → n ≡ get_or old i n → n.key ≡ key → new ≡ remove old i → GainsRow old new (at, key, Ended)
  leaving i n lt at_i n_key is = record {
    stands = λ history s. rw is (record {
      each = λ k. each_other k key at Ended history old (remove old i) None
          (λ j. at_key-remove key_of j old i n s.order lt ∙ ap (λ (x : ℕ). cond (eqb x j) None (address_in j old)) (ap key_of (sym at_i) ∙ n_key))
          s.each (sym (ap (address_of key) (ended_story key at history)));
      order = Rises-remove key_of old i s.order;
    });
  }
