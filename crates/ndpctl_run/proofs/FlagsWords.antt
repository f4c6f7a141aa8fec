-- Flags are determined by their word.
use Rattle.std.proofs.Common.{◌≡◌, ◌∙◌, ℕ, Bool, true, false, List, [], ◌∷◌, get_or, length, eqb, if◌then◌else◌, sym, refl, ap}
use Rattle.std.specs.Prelude.{codes, ◌||◌}
use Rattle.nd_addr.specs.declared.preference.Preference.{Preference}
use Rattle.nd_addr.specs.declared.preference.Preference.TheVariants.{High, Medium, Low}
use Rattle.nd_decode.specs.RouterFlags.{router_flags_text}
use Rattle.nd_text.specs.Flags.{flags_text}

-- ---- of a Router Advertisement, by the letters that are there

has_letter : ℕ → List ℕ → Bool
has_letter letter [] = false
has_letter letter (l ∷ word) = eqb l letter || has_letter letter word

preference_told : List ℕ → Preference
preference_told word = if has_letter 104 word then High else if has_letter 108 word then Low else Medium

managed_back : (a b : Bool) (p : Preference) → has_letter 109 (router_flags_text a b p) ≡ a
unfolding has_letter
managed_back true true High = refl
managed_back true false High = refl
managed_back false true High = refl
managed_back false false High = refl
managed_back true true Medium = refl
managed_back true false Medium = refl
managed_back false true Medium = refl
managed_back false false Medium = refl
managed_back true true Low = refl
managed_back true false Low = refl
managed_back false true Low = refl
managed_back false false Low = refl

other_back : (a b : Bool) (p : Preference) → has_letter 111 (router_flags_text a b p) ≡ b
unfolding has_letter
other_back true true High = refl
other_back true false High = refl
other_back false true High = refl
other_back false false High = refl
other_back true true Medium = refl
other_back true false Medium = refl
other_back false true Medium = refl
other_back false false Medium = refl
other_back true true Low = refl
other_back true false Low = refl
other_back false true Low = refl
other_back false false Low = refl

preference_back : (a b : Bool) (p : Preference) → preference_told (router_flags_text a b p) ≡ p
unfolding has_letter preference_told
preference_back true true High = refl
preference_back true false High = refl
preference_back false true High = refl
preference_back false false High = refl
preference_back true true Medium = refl
preference_back true false Medium = refl
preference_back false true Medium = refl
preference_back false false Medium = refl
preference_back true true Low = refl
preference_back true false Low = refl
preference_back false true Low = refl
preference_back false false Low = refl

pub one_router_flags : (word : List ℕ) (a b c d : Bool) (p q : Preference) → word ≡ router_flags_text a b p → word ≡ router_flags_text c d q → (a ≡ c) × (b ≡ d) × (p ≡ q)
one_router_flags word a b c d p q e f =
    let same = sym e ∙ f in (
      sym (managed_back a b p) ∙ (ap (has_letter 109) same ∙ managed_back c d q),
      sym (other_back a b p) ∙ (ap (has_letter 111) same ∙ other_back c d q),
      sym (preference_back a b p) ∙ (ap preference_told same ∙ preference_back c d q),
    )

-- ---- of a prefix, by the word's length, and its first letter

abbrev told : ℕ → List ℕ → Bool × Bool
told letter word =
    if eqb (length word) 2 then (true, true) else
    if eqb (get_or word 0 0) letter then (true, false) else
    if eqb (get_or word 0 0) 45 then (false, false) else (false, true)

prefix_back : (a b : Bool) → told 108 (flags_text a b (codes "l") (codes "a")) ≡ (a, b)
prefix_back true true = refl
prefix_back true false = refl
prefix_back false true = refl
prefix_back false false = refl

pub one_prefix_flags : (word : List ℕ) (a b c d : Bool) → word ≡ flags_text a b (codes "l") (codes "a") → word ≡ flags_text c d (codes "l") (codes "a") → (a ≡ c) × (b ≡ d)
one_prefix_flags word a b c d p q = let same = sym (prefix_back a b) ∙ ap (told 108) (sym p ∙ q) ∙ prefix_back c d in (ap (λ (set : Bool × Bool). set.0) same, ap (λ (set : Bool × Bool). set.1) same)
