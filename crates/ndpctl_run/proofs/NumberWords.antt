-- A number is determined by its word.
use Rattle.std.proofs.Common.{◌≡◌, ◌∙◌, ℕ, ◌<◌, ◌≤◌, ◌^◌, List, sym, subst, inl, inr, arith}
use Rattle.std.specs.Prelude.{codes}
use Rattle.std.specs.Char.{digit_value}
use Rattle.std.specs.Fmt.{decimal}
use Rattle.std.specs.Str.Parse.{AllDigits}
use Rattle.std.proofs.lemmas.Fmt.{decimal_injective, decimal_is_IsNumeral}
use Rattle.ndpctl_run.specs.Number.{IsNumberOr, IsNumberWord}

-- `-` is no number
pub dash_is_none : (word : List ℕ) (n : ℕ) → n < 2 ^ 64 → word ≡ codes "-" → word ≡ decimal n → ⊥
dash_is_none word n wide dash is =
    let digits : AllDigits 10 (codes "-") = subst (AllDigits 10) (sym is ∙ dash) (decimal_is_IsNumeral n wide).0.1 in
    let small : digit_value 45 < 10 = digits.0 in
    omega (arith, small)

pub one_number : (limit : ℕ) → limit ≤ 2 ^ 64 → (word : List ℕ) (n m : ℕ) → IsNumberWord limit word n → IsNumberWord limit word m → n ≡ m
one_number limit wide word n m p q = decimal_injective n m (omega (arith, p.0)) (omega (arith, q.0)) (sym p.1 ∙ q.1)

pub one_number_or : (default limit : ℕ) → limit ≤ 2 ^ 64 → (word : List ℕ) (n m : ℕ) → IsNumberOr default limit word n → IsNumberOr default limit word m → n ≡ m
one_number_or default limit wide word n m (inl p) (inl q) = p.1 ∙ sym q.1
one_number_or default limit wide word n m (inl p) (inr q) = absurd (dash_is_none word m (omega (arith, q.0)) p.0 q.1)
one_number_or default limit wide word n m (inr p) (inl q) = absurd (dash_is_none word n (omega (arith, p.0)) q.0 p.1)
one_number_or default limit wide word n m (inr p) (inr q) = one_number limit wide word n m p q

-- what `-` stands for
pub number_by_default : (default limit : ℕ) → limit ≤ 2 ^ 64 → (word : List ℕ) (n : ℕ) → word ≡ codes "-" → IsNumberOr default limit word n → n ≡ default
number_by_default default limit wide word n dash (inl p) = p.1
number_by_default default limit wide word n dash (inr p) = absurd (dash_is_none word n (omega (arith, p.0)) dash p.1)
