-- A prefix is determined by its word.
use Rattle.std.proofs.Common.{◌≡◌, ◌∙◌, ℕ, ◌<◌, ◌≤◌, ◌^◌, List, [], ◌∷◌, ◌++◌, sym, subst, refl, arith}
use Rattle.std.specs.Char.{digit_value}
use Rattle.std.specs.Fmt.{decimal}
use Rattle.std.specs.Str.Parse.{AllDigits}
use Rattle.std.proofs.lemmas.Fmt.{decimal_injective, decimal_is_IsNumeral}
use Rattle.nd_text.specs.Spelling.{SpellsAddress}
use Rattle.nd_addr.specs.Prefix.{PrefixValue}
use Rattle.nd_addr.specs.Spelling.{SpellsPrefix}
use Rattle.nd_addr.specs.Text.{groups_of}
use Rattle.nd_addr.proofs.PrefixTexts.{prefix_one}
use Rattle.ndpctl_run.proofs.AddressWords.{same_groups}

-- behind a slash that is among digits no text would be one of digits alone
no_slash : (front behind : List ℕ) → AllDigits 10 (front ++ 47 ∷ behind) → ⊥
no_slash [] behind digits = let small : digit_value 47 < 10 = digits.0 in omega (arith, small)
no_slash (b ∷ front) behind digits = no_slash front behind digits.1

-- what stands before the last slash and behind it
parts_are_one : (front behind front' behind' : List ℕ) → AllDigits 10 behind → AllDigits 10 behind' → front ++ 47 ∷ behind ≡ front' ++ 47 ∷ behind' → (front ≡ front') × (behind ≡ behind')
parts_are_one [] behind [] behind' h h' e = (refl, (cc))
parts_are_one [] behind (b ∷ front') behind' h h' e =
    let same : behind ≡ front' ++ 47 ∷ behind' = cc in
    absurd (no_slash front' behind' (subst (AllDigits 10) same h))
parts_are_one (a ∷ front) behind [] behind' h h' e =
    let same : behind' ≡ front ++ 47 ∷ behind = cc in
    absurd (no_slash front behind (subst (AllDigits 10) same h'))
parts_are_one (a ∷ front) behind (b ∷ front') behind' h h' e =
    let first : a ≡ b = cc in
    let same : front ++ 47 ∷ behind ≡ front' ++ 47 ∷ behind' = cc in
    let later = parts_are_one front behind front' behind' h h' same in
    let fronts = later.0 in
    ((cc), later.1)

length_digits : (n : ℕ) → n ≤ 128 → AllDigits 10 (decimal n)
length_digits n short = let wide : n < 2 ^ 64 = omega arith in (decimal_is_IsNumeral n wide).0.1

pub one_prefix : (word : List ℕ) (p q : PrefixValue) → SpellsPrefix word p → SpellsPrefix word q → p ≡ q
one_prefix word p q s t =
    let parts = parts_are_one s.address_text (decimal p.length) t.address_text (decimal q.length) (length_digits p.length s.short) (length_digits q.length t.short) (sym s.text_is ∙ t.text_is) in
    let other = subst (λ (text : List ℕ). SpellsAddress text (groups_of t.address)) (sym parts.0) t.spelled in
    let groups = same_groups s.address_text (groups_of s.address) (groups_of t.address) s.spelled other in
    let len = decimal_injective p.length q.length (omega (arith, s.short)) (omega (arith, t.short)) parts.1 in
    prefix_one word s.address p.length p q t s.bytes groups len s.prefix_is
