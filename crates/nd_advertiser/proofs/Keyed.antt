-- The entries of the offers, each of which stands under its prefix.
use Rattle.std.proofs.Common.{◌≡◌, ℕ, suc, ◌<◌, ◌≤◌, true, false, List, [], ◌∷◌, length, Some, is_some, refl, sym, ◌∙◌, ap, subst, inl, inr, arith}
use Rattle.std.specs.Prelude.{◌||◌, not, nat_le, Ok, Err}
use Rattle.std.specs.List.{AllByRecursion}
use Rattle.std.specs.Map.{lookup, set_value, values_of}
use Rattle.std.proofs.lemmas.Bool.{and_from, and_left, and_right, not_from_true, not_from_false, le-leb, lt-leb, cond-true, cond-false, cases_Bool}
use Rattle.indexmap.specs.IndexMap.{insert_entry}
use Rattle.nd_addr.specs.Prefix.{PrefixValue}
use Rattle.nd_addr.specs.Same.{same_prefix}
use Rattle.nd_addr.proofs.SamePrefix.{same_is}
use Rattle.nd_decode.specs.declared.prefix_info.PrefixInfo.{PrefixInfo}
use Rattle.nd_advertiser.specs.Offers.{is_among, is_one_too_many, answer_to}
use Rattle.nd_advertiser.specs.Calls.{prefixes_in, with_offer}

abbrev pub IsKeyed : List (PrefixValue × PrefixInfo) → Type 0
IsKeyed es = AllByRecursion (λ e. e.0 ≡ e.1.prefix) es

-- a look-up finds a prefix that is among those offered
pub found_among : (p : PrefixValue) (es : List (PrefixValue × PrefixInfo)) → IsKeyed es → is_some (lookup (same_prefix p) es) ≡ is_among p (prefixes_in (values_of es))
found_among p [] h = refl
found_among p (e ∷ es) h = elim (cases_Bool (same_prefix p e.0)) [
  | inl same ↦
      ap is_some (cond-true (same_prefix p e.0) (Some e.1) (lookup (same_prefix p) es) same)
      ∙ sym (ap (λ b. b || is_among p (prefixes_in (values_of es))) (ap (same_prefix p) (sym h.0) ∙ same))
  | inr differ ↦
      ap is_some (cond-false (same_prefix p e.0) (Some e.1) (lookup (same_prefix p) es) differ)
      ∙ (found_among p es h.1 ∙ sym (ap (λ b. b || is_among p (prefixes_in (values_of es))) (ap (same_prefix p) (sym h.0) ∙ differ)))
]

-- a value that is written under its prefix
pub set_is : (info : PrefixInfo) (es : List (PrefixValue × PrefixInfo)) → IsKeyed es → is_some (lookup (same_prefix info.prefix) es) ≡ true
    → values_of (set_value (same_prefix info.prefix) es info) ≡ with_offer info (values_of es)
set_is info [] h s = absurd (cc)
set_is info (e ∷ es) h s =
    let p = info.prefix in
    elim (cases_Bool (same_prefix p e.0)) [
      | inl same ↦
          ap values_of (cond-true (same_prefix p e.0) ((e.0, info) ∷ es) (e ∷ set_value (same_prefix p) es info) same)
          ∙ sym (cond-true (same_prefix p e.1.prefix) (info ∷ values_of es) (e.1 ∷ with_offer info (values_of es)) (ap (same_prefix p) (sym h.0) ∙ same))
      | inr differ ↦
          let rest = sym (ap is_some (cond-false (same_prefix p e.0) (Some e.1) (lookup (same_prefix p) es) differ)) ∙ s in
          ap values_of (cond-false (same_prefix p e.0) ((e.0, info) ∷ es) (e ∷ set_value (same_prefix p) es info) differ)
          ∙ (ap (λ l. e.1 ∷ l) (set_is info es h.1 rest)
          ∙ sym (cond-false (same_prefix p e.1.prefix) (info ∷ values_of es) (e.1 ∷ with_offer info (values_of es)) (ap (same_prefix p) (sym h.0) ∙ differ)))
    ]

pub set_keyed : (info : PrefixInfo) (es : List (PrefixValue × PrefixInfo)) → IsKeyed es → IsKeyed (set_value (same_prefix info.prefix) es info)
set_keyed info [] h = tt
set_keyed info (e ∷ es) h =
    let p = info.prefix in
    elim (cases_Bool (same_prefix p e.0)) [
      | inl same ↦ subst IsKeyed (sym (cond-true (same_prefix p e.0) ((e.0, info) ∷ es) (e ∷ set_value (same_prefix p) es info) same)) (sym (same_is p e.0 same), h.1)
      | inr differ ↦ subst IsKeyed (sym (cond-false (same_prefix p e.0) ((e.0, info) ∷ es) (e ∷ set_value (same_prefix p) es info) differ)) (h.0, set_keyed info es h.1)
    ]

-- an entry that is put under its prefix
pub put_is : (info : PrefixInfo) (es : List (PrefixValue × PrefixInfo)) → IsKeyed es → values_of (insert_entry same_prefix es info.prefix info) ≡ with_offer info (values_of es)
put_is info [] h = refl
put_is info (e ∷ es) h =
    let p = info.prefix in
    elim (cases_Bool (same_prefix p e.0)) [
      | inl same ↦
          ap values_of (cond-true (same_prefix p e.0) ((e.0, info) ∷ es) (e ∷ insert_entry same_prefix es p info) same)
          ∙ sym (cond-true (same_prefix p e.1.prefix) (info ∷ values_of es) (e.1 ∷ with_offer info (values_of es)) (ap (same_prefix p) (sym h.0) ∙ same))
      | inr differ ↦
          ap values_of (cond-false (same_prefix p e.0) ((e.0, info) ∷ es) (e ∷ insert_entry same_prefix es p info) differ)
          ∙ (ap (λ l. e.1 ∷ l) (put_is info es h.1)
          ∙ sym (cond-false (same_prefix p e.1.prefix) (info ∷ values_of es) (e.1 ∷ with_offer info (values_of es)) (ap (same_prefix p) (sym h.0) ∙ differ)))
    ]

pub put_keyed : (info : PrefixInfo) (es : List (PrefixValue × PrefixInfo)) → IsKeyed es → IsKeyed (insert_entry same_prefix es info.prefix info)
put_keyed info [] h = (refl, tt)
put_keyed info (e ∷ es) h =
    let p = info.prefix in
    elim (cases_Bool (same_prefix p e.0)) [
      | inl same ↦ subst IsKeyed (sym (cond-true (same_prefix p e.0) ((e.0, info) ∷ es) (e ∷ insert_entry same_prefix es p info) same)) (sym (same_is p e.0 same), h.1)
      | inr differ ↦ subst IsKeyed (sym (cond-false (same_prefix p e.0) ((e.0, info) ∷ es) (e ∷ insert_entry same_prefix es p info) differ)) (h.0, put_keyed info es h.1)
    ]

-- as many prefixes as entries
pub length-prefixes : (es : List (PrefixValue × PrefixInfo)) → length (prefixes_in (values_of es)) ≡ length es
length-prefixes [] = refl
length-prefixes (e ∷ es) = ap suc (length-prefixes es)

-- the answer where the prefix is there, where it is new and there is no room, and where there is
pub answer_there : (limit : ℕ) (p : PrefixValue) (es : List (PrefixValue × PrefixInfo)) → IsKeyed es → is_some (lookup (same_prefix p) es) ≡ true → Ok tt ≡ answer_to limit p (prefixes_in (values_of es))
answer_there limit p es h s =
    let ps = prefixes_in (values_of es) in
    sym (cond-false (is_one_too_many limit p ps) (Err (record {})) (Ok tt) (and_left (not (is_among p ps)) (nat_le limit (length ps)) (not_from_true (is_among p ps) (sym (found_among p es h) ∙ s))))

pub answer_full : (limit : ℕ) (p : PrefixValue) (es : List (PrefixValue × PrefixInfo)) → IsKeyed es → is_some (lookup (same_prefix p) es) ≡ false → limit ≤ length es → Err (record {}) ≡ answer_to limit p (prefixes_in (values_of es))
answer_full limit p es h s n =
    let ps = prefixes_in (values_of es) in
    sym (cond-true (is_one_too_many limit p ps) (Err (record {})) (Ok tt) (
    and_from (not (is_among p ps)) (nat_le limit (length ps)) (not_from_false (is_among p ps) (sym (found_among p es h) ∙ s)) (le-leb limit (length ps) (omega (arith, n, length-prefixes es)))))

pub answer_new : (limit : ℕ) (p : PrefixValue) (es : List (PrefixValue × PrefixInfo)) → length es < limit → Ok tt ≡ answer_to limit p (prefixes_in (values_of es))
answer_new limit p es n =
    let ps = prefixes_in (values_of es) in
    sym (cond-false (is_one_too_many limit p ps) (Err (record {})) (Ok tt) (and_right (not (is_among p ps)) (nat_le limit (length ps)) (lt-leb limit (length ps) (omega (arith, n, length-prefixes es)))))
