-- Characters are digits, step by step.
use Rattle.std.proofs.Common.{◌≡◌, ◌↔◌, ◌+◌, ◌<◌, ℕ, Bool, true, List, ◌++◌, length, map, get_or, Option, Some, None, is_some, unwrap_or, refl, sym, subst, inl, inr, arith}
use Rattle.std.specs.List.{AllPass}
use Rattle.std.proofs.lemmas.Bool.{cases_lt}
use Rattle.std.proofs.lemmas.List.{get_or-map, get_or_past, get_or_append_left, get_or-append-add, length-append, length-map}
use Rattle.std.proofs.lemmas.List.Elements.{All-append}
use Rattle.hex.specs.Hex.{hex_digit_value, is_hex_digit}
use Rattle.nd_text.specs.HexDigits.{value_or_none, AreValues}

is_read : (o : Option ℕ) → unwrap_or o 255 < 128 → is_some o ≡ true
is_read (Some v) lt = refl
is_read None lt = absurd (omega arith)

digit_small : (c : ℕ) → is_hex_digit c ≡ true → value_or_none c < 128
digit_small c h = grind (arith)

-- the values of one step tell whether it is of digits
pub values_pass : (step : List ℕ) → AreValues (map value_or_none step) ↔ AllPass is_hex_digit step
values_pass step = (
  λ h k d lt. is_read (hex_digit_value (get_or step k d)) (subst (λ (v : ℕ). v < 128) (get_or-map value_or_none step k d 0 lt) (h k)),
  λ h i. elim (cases_lt i (length step)) [
    | inl lt ↦ subst (λ (v : ℕ). v < 128) (sym (get_or-map value_or_none step i 0 0 lt)) (digit_small (get_or step i 0) (h i 0 lt))
    | inr ge ↦ let none : get_or (map value_or_none step) i 0 ≡ 0 = get_or_past (map value_or_none step) i 0 (omega (arith, length-map step value_or_none)) in omega (arith, none)
  ],
)

-- all pass exactly where those of both parts do
pub parts_pass : (p : ℕ → Bool) (all front back : List ℕ) → all ≡ front ++ back → AllPass p all ↔ (AllPass p front × AllPass p back)
parts_pass p all front back e = (
  λ h.
      let both : AllPass p (front ++ back) = subst (AllPass p) e h in (
        λ k d lt. subst (λ (c : ℕ). p c ≡ true) (get_or_append_left front back d k lt) (both k d (omega (arith, length-append front back))),
        λ k d lt. subst (λ (c : ℕ). p c ≡ true) (get_or-append-add front back k d) (both (length front + k) d (omega (arith, length-append front back))),
      ),
  λ h. subst (AllPass p) (sym e) (All-append (λ (c : ℕ). p c ≡ true) front back h.0 h.1),
)
