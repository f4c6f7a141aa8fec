-- What is the same prefix.
use Rattle.std.proofs.Common.{◌≡◌, true, refl, sym, ◌∙◌, ap, inl, inr}
use Rattle.std.proofs.lemmas.Bool.{cases_Bool, true≢false, false≢true}
use Rattle.nd_addr.specs.Prefix.{PrefixValue}
use Rattle.nd_addr.specs.Same.{same_prefix, prefixes_tell}

pub same_is : (a b : PrefixValue) → same_prefix a b ≡ true → a ≡ b
same_is a b h = elim (prefixes_tell a b) [
  | inl t ↦ t.1
  | inr f ↦ absurd (true≢false (sym h ∙ f.0))
]

pub same_self : (a : PrefixValue) → same_prefix a a ≡ true
same_self a = elim (prefixes_tell a a) [
  | inl t ↦ t.0
  | inr f ↦ absurd (f.1 refl)
]

pub same_turned : (a b : PrefixValue) → same_prefix a b ≡ same_prefix b a
same_turned a b = elim (cases_Bool (same_prefix a b)) [
  | inl same ↦ same ∙ (sym (same_self b) ∙ ap (same_prefix b) (sym (same_is a b same)))
  | inr differ ↦ elim (cases_Bool (same_prefix b a)) [
    | inl same ↦ absurd (false≢true (sym differ ∙ (ap (same_prefix a) (same_is b a same) ∙ same_self a)))
    | inr other ↦ differ ∙ sym other
  ]
]
