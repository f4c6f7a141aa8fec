-- Bytes of labels.
use Rattle.std.proofs.Common.{◌≡◌, ℕ, ◌+◌, ◌<◌, ◌≤◌, true, false, leb, eqb, ◌&&◌, ◌||◌, ◌⊎◌, refl, arith, inl, inr}
use Rattle.std.specs.Char.{IsAsciiUppercase, IsAsciiAlphanumeric, is_ascii_alphanumeric, is_ascii_uppercase, to_ascii_lowercase}
use Rattle.std.proofs.lemmas.Bool.{cases_lt, or_cases, or_left, or_right, and_parts, and_from, false_from_ne_true, leb-true, le-leb, eqb-true, eq-eqb, lt-ltb, le-ltb}
use Rattle.nd_search_list.specs.Label.{IsSign, is_sign}

in_range : (low high byte : ℕ) → (leb low byte && leb byte high) ≡ true → (low ≤ byte) × (byte ≤ high)
in_range low high byte e = let a = and_parts (leb low byte) (leb byte high) e in (leb-true _ _ a.0, leb-true _ _ a.1)

tests_range : (low high byte : ℕ) → low ≤ byte → byte ≤ high → (leb low byte && leb byte high) ≡ true
tests_range low high byte a b = and_from (leb low byte) (leb byte high) (le-leb _ _ a) (le-leb _ _ b)

alphanumeric_is : (byte : ℕ) → is_ascii_alphanumeric byte ≡ true → IsAsciiAlphanumeric byte
alphanumeric_is byte e = elim (or_cases ((leb 48 byte && leb byte 57) || (leb 65 byte && leb byte 90)) (leb 97 byte && leb byte 122) e) [
  | inl f ↦ elim (or_cases (leb 48 byte && leb byte 57) (leb 65 byte && leb byte 90) f) [
    | inl digit ↦ inl (inl (in_range 48 57 byte digit))
    | inr capital ↦ inl (inr (in_range 65 90 byte capital))
  ]
  | inr small ↦ inr (in_range 97 122 byte small)
]

alphanumeric_tests : (byte : ℕ) → IsAsciiAlphanumeric byte → is_ascii_alphanumeric byte ≡ true
alphanumeric_tests byte (inl (inl h)) =
    or_left ((leb 48 byte && leb byte 57) || (leb 65 byte && leb byte 90)) (leb 97 byte && leb byte 122) (or_left (leb 48 byte && leb byte 57) (leb 65 byte && leb byte 90) (tests_range 48 57 byte h.0 h.1))
alphanumeric_tests byte (inl (inr h)) =
    or_left ((leb 48 byte && leb byte 57) || (leb 65 byte && leb byte 90)) (leb 97 byte && leb byte 122) (or_right (leb 48 byte && leb byte 57) (leb 65 byte && leb byte 90) (tests_range 65 90 byte h.0 h.1))
alphanumeric_tests byte (inr h) = or_right ((leb 48 byte && leb byte 57) || (leb 65 byte && leb byte 90)) (leb 97 byte && leb byte 122) (tests_range 97 122 byte h.0 h.1)

pub sign_is : (byte : ℕ) → is_sign byte ≡ true → IsSign byte
sign_is byte e = elim (or_cases (is_ascii_alphanumeric byte || eqb byte 45) (eqb byte 95) e) [
  | inl f ↦ elim (or_cases (is_ascii_alphanumeric byte) (eqb byte 45) f) [
    | inl a ↦ inl (alphanumeric_is byte a)
    | inr hyphen ↦ inr (inl (eqb-true _ _ hyphen))
  ]
  | inr underscore ↦ inr (inr (eqb-true _ _ underscore))
]

pub sign_tests : (byte : ℕ) → IsSign byte → is_sign byte ≡ true
sign_tests byte (inl h) = or_left (is_ascii_alphanumeric byte || eqb byte 45) (eqb byte 95) (or_left (is_ascii_alphanumeric byte) (eqb byte 45) (alphanumeric_tests byte h))
sign_tests byte (inr (inl h)) = or_left (is_ascii_alphanumeric byte || eqb byte 45) (eqb byte 95) (or_right (is_ascii_alphanumeric byte) (eqb byte 45) (eq-eqb _ _ h))
sign_tests byte (inr (inr h)) = or_right (is_ascii_alphanumeric byte || eqb byte 45) (eqb byte 95) (eq-eqb _ _ h)

-- a sign is below 128
pub sign_low : (byte : ℕ) → IsSign byte → byte < 128
sign_low byte (inl (inl (inl h))) = omega (arith, h.1)
sign_low byte (inl (inl (inr h))) = omega (arith, h.1)
sign_low byte (inl (inr h)) = omega (arith, h.1)
sign_low byte (inr (inl h)) = omega arith
sign_low byte (inr (inr h)) = omega arith

-- what is no capital letter stays
pub lower_same : (byte : ℕ) → (IsAsciiUppercase byte → ⊥) → to_ascii_lowercase byte ≡ byte
lower_same byte h = elim (cases_lt byte 65) [
  | inl lt ↦ rw (lt-ltb _ _ lt) refl
  | inr le ↦ elim (cases_lt byte 91) [
    | inl lt ↦ absurd (h (le, omega arith))
    | inr past ↦ rw (le-ltb _ _ le, le-ltb _ _ past) refl
  ]
]

pub lower_capital : (byte : ℕ) → IsAsciiUppercase byte → to_ascii_lowercase byte ≡ byte + 32
lower_capital byte h =
    let lt : byte < 91 = omega (arith, h.1) in
    rw (le-ltb _ _ h.0, lt-ltb _ _ lt) refl

pub low_is_no_capital : (byte : ℕ) → byte ≤ 63 → IsAsciiUppercase byte → ⊥
low_is_no_capital byte le h = omega (arith, h.0)

pub cases_capital : (byte : ℕ) → IsAsciiUppercase byte ⊎ (IsAsciiUppercase byte → ⊥)
cases_capital byte = elim (cases_lt byte 65) [
  | inl lt ↦ inr (λ h. omega (arith, h.0))
  | inr le ↦ elim (cases_lt byte 91) [
    | inl lt ↦ inl (le, omega arith)
    | inr past ↦ inr (λ h. omega (arith, h.1))
  ]
]

-- a small letter is no capital one
pub lower_is_small : (byte : ℕ) → IsAsciiUppercase (to_ascii_lowercase byte) → ⊥
lower_is_small byte = elim (cases_capital byte) [
  | inl is ↦ rw (lower_capital byte is) (λ h. omega (arith, h.1, is.0))
  | inr not ↦ rw (lower_same byte not) not
]

pub lower_sign : (byte : ℕ) → IsSign byte → IsSign (to_ascii_lowercase byte)
lower_sign byte h = elim (cases_capital byte) [
  | inl is ↦ rw (lower_capital byte is) (inl (inr (omega (arith, is.0), omega (arith, is.1))))
  | inr not ↦ rw (lower_same byte not) h
]

pub small_is : (byte : ℕ) → is_ascii_uppercase byte ≡ false → IsAsciiUppercase byte → ⊥
small_is byte e h = absurd (let f : is_ascii_uppercase byte ≡ true = tests_range 65 90 byte h.0 h.1 in cc)

pub small_tests : (byte : ℕ) → (IsAsciiUppercase byte → ⊥) → is_ascii_uppercase byte ≡ false
small_tests byte h = false_from_ne_true _ (λ e. h (in_range 65 90 byte e))
