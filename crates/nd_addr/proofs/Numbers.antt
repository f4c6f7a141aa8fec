-- Bytes as numbers: masked bytes, equal bytes, the order of bytes.
use Rattle.std.proofs.Common.{◌≡◌, ◌≢◌, ◌⊎◌, ℕ, suc, ◌+◌, ◌*◌, ◌-◌, ◌/◌, ◌%◌, ◌^◌, ◌<◌, ◌≤◌, ◌↔◌, List, [], ◌∷◌, length, slice_index, eqb, ltb, true, false, min, refl, sym, ap, subst, ◌∙◌, arith, inl, inr}
use Rattle.std.proofs.lemmas.Bool.{cases_lt, eqb-true, eq-eqb, ne_eqb, lt-ltb, le-ltb, false≢true}
use Rattle.std.proofs.lemmas.Nat.{shl-shr, shr-shr, pow-add, pow_pos, shr_split, div-mul-add, mul-add-lt, same_from_place}
use Rattle.std.proofs.Math.Nat.{mul_assoc, mul_comm, add-mul, mul-add-div_right, mul-le-mul_right}
use Rattle.std.specs.Prelude.{IsTrue, Bool, bytes_eq}
use Rattle.nd_addr.specs.Same.{bytes_tell}
use Rattle.std.specs.Ordering.{nat_cmp, ordering_then}
use Rattle.std.specs.declared.cmp.Ordering.TheVariants.{Less, Equal, Greater}
use Rattle.std.specs.Cmp.Lexicographic.{slice_cmp}
use Rattle.nd_addr.specs.Bytes.{IsBytes, AreBytes}
use Rattle.nd_addr.specs.Prefix.{kept_bits, masked, IsPrefix}
use Rattle.nd_addr.specs.Number.{number_of}
use Rattle.nd_addr.proofs.Masking.{length-masked, IsBytes-masked}

pub number_below : (bytes : List ℕ) → IsBytes bytes → number_of bytes < 2 ^ (8 * length bytes)
number_below [] small = omega arith
number_below (b ∷ bytes) small =
    let here : b * 2 ^ (8 * length bytes) + number_of bytes < 2 ^ (8 * length bytes) * 256 = mul-add-lt b (2 ^ (8 * length bytes)) (number_of bytes) 256 (small 0) (number_below bytes (λ i. small (suc i))) in
    let power : 2 ^ (8 * length bytes + 8) ≡ 2 ^ (8 * length bytes) * 256 = pow-add 2 (8 * length bytes) 8 in
    let more : 8 * length (b ∷ bytes) ≡ 8 * length bytes + 8 = omega arith in
    let all : 2 ^ (8 * length (b ∷ bytes)) ≡ 2 ^ (8 * length bytes) * 256 = ap (λ (k : ℕ). 2 ^ k) more ∙ power in
    subst (λ (n : ℕ). b * 2 ^ (8 * length bytes) + number_of bytes < n) (sym all) here

nothing_kept : (bytes : List ℕ) → IsBytes bytes → number_of (masked 0 bytes) ≡ 0
nothing_kept [] small = refl
nothing_kept (b ∷ bytes) small =
    let byte : kept_bits 0 b ≡ 0 = let s = small 0 in omega arith in
    rw (byte, nothing_kept bytes (λ i. small (suc i))) (omega arith)

-- where the whole first byte is kept
masked_behind : (j e k b number kept len : ℕ) → j + e ≡ 8 * k → len ≡ k → kept ≡ number / 2 ^ e * 2 ^ e → b * 2 ^ (8 * len) + kept ≡ (b * 2 ^ (8 * k) + number) / 2 ^ e * 2 ^ e
masked_behind j e k b number kept len sum l ih =
    let power : 2 ^ (8 * k) ≡ 2 ^ j * 2 ^ e = ap (λ (n : ℕ). 2 ^ n) (sym sum) ∙ pow-add 2 j e in
    let front : b * 2 ^ (8 * k) ≡ b * 2 ^ j * 2 ^ e = ap (λ (n : ℕ). b * n) power ∙ sym (mul_assoc b (2 ^ j) (2 ^ e)) in
    let divided : (b * 2 ^ (8 * k) + number) / 2 ^ e ≡ b * 2 ^ j + number / 2 ^ e = ap (λ (n : ℕ). (n + number) / 2 ^ e) front ∙ mul-add-div_right (pow_pos e) (b * 2 ^ j) number in
    let back : (b * 2 ^ (8 * k) + number) / 2 ^ e * 2 ^ e ≡ b * 2 ^ (8 * k) + number / 2 ^ e * 2 ^ e =
    ap (λ (n : ℕ). n * 2 ^ e) divided ∙ add-mul (b * 2 ^ j) (number / 2 ^ e) (2 ^ e) ∙ ap (λ (n : ℕ). n + number / 2 ^ e * 2 ^ e) (sym front) in
    let same : b * 2 ^ (8 * len) ≡ b * 2 ^ (8 * k) = ap (λ (n : ℕ). b * 2 ^ (8 * n)) l in
    ap (λ (n : ℕ). n + kept) same ∙ ap (λ (n : ℕ). b * 2 ^ (8 * k) + n) ih ∙ sym back

-- where the end of the kept bits lies in the first byte
masked_within : (bits k b number kept len : ℕ) → bits < 8 → len ≡ k → kept ≡ 0 → number < 2 ^ (8 * k)
    → kept_bits bits b * 2 ^ (8 * len) + kept ≡ (b * 2 ^ (8 * k) + number) / 2 ^ (8 * k + (8 - bits)) * 2 ^ (8 * k + (8 - bits))
masked_within bits k b number kept len lt l none below =
    let u = 8 - bits in
    let first : (b * 2 ^ (8 * k) + number) / 2 ^ (8 * k + u) ≡ b / 2 ^ u = sym (shr-shr (b * 2 ^ (8 * k) + number) (8 * k) u) ∙ ap (λ (n : ℕ). n / 2 ^ u) (div-mul-add b (2 ^ (8 * k)) number below) in
    let power : 2 ^ (8 * k + u) ≡ 2 ^ u * 2 ^ (8 * k) = pow-add 2 (8 * k) u ∙ mul_comm (2 ^ (8 * k)) (2 ^ u) in
    let back : (b * 2 ^ (8 * k) + number) / 2 ^ (8 * k + u) * 2 ^ (8 * k + u) ≡ kept_bits bits b * 2 ^ (8 * k) =
    ap (λ (n : ℕ). n * 2 ^ (8 * k + u)) first ∙ ap (λ (n : ℕ). b / 2 ^ u * n) power ∙ sym (mul_assoc (b / 2 ^ u) (2 ^ u) (2 ^ (8 * k))) in
    let same : kept_bits bits b * 2 ^ (8 * len) ≡ kept_bits bits b * 2 ^ (8 * k) = ap (λ (n : ℕ). kept_bits bits b * 2 ^ (8 * n)) l in
    let alone : kept_bits bits b * 2 ^ (8 * len) + kept ≡ kept_bits bits b * 2 ^ (8 * len) = omega (arith, none) in
    alone ∙ same ∙ sym back

-- masked bytes are the number rounded down to a multiple of a power of two
pub number_of-masked : (bits : ℕ) (bytes : List ℕ) → IsBytes bytes → bits ≤ 8 * length bytes
    → number_of (masked bits bytes) ≡ number_of bytes / 2 ^ (8 * length bytes - bits) * 2 ^ (8 * length bytes - bits)
number_of-masked bits [] small le = let none : bits ≡ 0 = omega arith in rw none refl
number_of-masked bits (b ∷ bytes) small le = elim (cases_lt bits 8) [
  | inl lt ↦
      let all : min bits 8 ≡ bits = omega arith in
      let rest : bits - 8 ≡ 0 = omega arith in
      let e : 8 * length (b ∷ bytes) - bits ≡ 8 * length bytes + (8 - bits) = omega arith in
      let none : number_of (masked (bits - 8) bytes) ≡ 0 = ap (λ (n : ℕ). number_of (masked n bytes)) rest ∙ nothing_kept bytes (λ i. small (suc i)) in
      rw (all, e) (masked_within bits (length bytes) b (number_of bytes) _ _ lt (length-masked (bits - 8) bytes) none (number_below bytes (λ i. small (suc i))))
  | inr ge ↦
      let all : min bits 8 ≡ 8 = omega arith in
      let byte : kept_bits 8 b ≡ b = omega arith in
      let e : 8 * length (b ∷ bytes) - bits ≡ 8 * length bytes - (bits - 8) = omega arith in
      let ih = number_of-masked (bits - 8) bytes (λ i. small (suc i)) (omega arith) in
      rw (all, byte, e) (masked_behind (bits - 8) (8 * length bytes - (bits - 8)) (length bytes) b (number_of bytes) _ _ (omega arith) (length-masked (bits - 8) bytes) ih)
]

-- bytes of one length are told by their number
pub number_injective : (a b : List ℕ) → length a ≡ length b → IsBytes a → IsBytes b → number_of a ≡ number_of b → a ≡ b
number_injective [] [] l small_a small_b e = refl
number_injective [] (y ∷ ys) l small_a small_b e = absurd (omega arith)
number_injective (x ∷ xs) [] l small_a small_b e = absurd (omega arith)
number_injective (x ∷ xs) (y ∷ ys) l small_a small_b e =
    let len : length xs ≡ length ys = omega arith in
    let below : number_of ys < 2 ^ (8 * length xs) = subst (λ (n : ℕ). number_of ys < 2 ^ (8 * n)) (sym len) (number_below ys (λ i. small_b (suc i))) in
    let turned : x * 2 ^ (8 * length xs) + number_of xs ≡ y * 2 ^ (8 * length xs) + number_of ys = e ∙ ap (λ (n : ℕ). y * 2 ^ (8 * n) + number_of ys) (sym len) in
    let parts = same_from_place x (number_of xs) y (number_of ys) (2 ^ (8 * length xs)) (number_below xs (λ i. small_a (suc i))) below turned in
    let tail = number_injective xs ys len (λ i. small_a (suc i)) (λ i. small_b (suc i)) parts.1 in
    let head = parts.0 in cc

-- two addresses are compared as numbers
pub numbers_tell : (a b : List ℕ) → AreBytes 16 a → AreBytes 16 b → eqb (number_of a) (number_of b) ≡ bytes_eq a b
numbers_tell a b p q = by (bytes_tell a b)
  where
    by : ((bytes_eq a b ≡ true) × (a ≡ b)) ⊎ ((bytes_eq a b ≡ false) × (a ≢ b)) → eqb (number_of a) (number_of b) ≡ bytes_eq a b
    by (inl same) = eq-eqb (number_of a) (number_of b) (ap number_of same.1) ∙ sym same.0
    by (inr differ) = ne_eqb (number_of a) (number_of b) (λ e. differ.1 (number_injective a b (p.len_is ∙ sym q.len_is) p.each q.each e)) ∙ sym differ.0

-- two lists of 16 bytes have the same masked bytes exactly where their first bits are alike
masked_alike : (bits : ℕ) (a b : List ℕ) → bits ≤ 128 → length a ≡ 16 → length b ≡ 16 → IsBytes a → IsBytes b
    → (masked bits a ≡ masked bits b) ↔ (number_of a / 2 ^ (128 - bits) ≡ number_of b / 2 ^ (128 - bits))
masked_alike bits a b le la lb small_a small_b = (forth, back)
  where
    of_a : number_of (masked bits a) ≡ number_of a / 2 ^ (128 - bits) * 2 ^ (128 - bits)
    of_a = subst (λ (n : ℕ). number_of (masked bits a) ≡ number_of a / 2 ^ (n - bits) * 2 ^ (n - bits)) (let e : 8 * length a ≡ 128 = omega arith in e) (number_of-masked bits a small_a (omega arith))

    of_b : number_of (masked bits b) ≡ number_of b / 2 ^ (128 - bits) * 2 ^ (128 - bits)
    of_b = subst (λ (n : ℕ). number_of (masked bits b) ≡ number_of b / 2 ^ (n - bits) * 2 ^ (n - bits)) (let e : 8 * length b ≡ 128 = omega arith in e) (number_of-masked bits b small_b (omega arith))

    forth : masked bits a ≡ masked bits b → number_of a / 2 ^ (128 - bits) ≡ number_of b / 2 ^ (128 - bits)
    forth e =
        let both : number_of a / 2 ^ (128 - bits) * 2 ^ (128 - bits) ≡ number_of b / 2 ^ (128 - bits) * 2 ^ (128 - bits) = sym of_a ∙ ap number_of e ∙ of_b in
        sym (shl-shr (number_of a / 2 ^ (128 - bits)) (128 - bits)) ∙ ap (λ (n : ℕ). n / 2 ^ (128 - bits)) both ∙ shl-shr (number_of b / 2 ^ (128 - bits)) (128 - bits)

    back : number_of a / 2 ^ (128 - bits) ≡ number_of b / 2 ^ (128 - bits) → masked bits a ≡ masked bits b
    back e =
        let both : number_of (masked bits a) ≡ number_of (masked bits b) = of_a ∙ ap (λ (n : ℕ). n * 2 ^ (128 - bits)) e ∙ sym of_b in
        number_injective (masked bits a) (masked bits b) (length-masked bits a ∙ la ∙ sym lb ∙ sym (length-masked bits b)) (IsBytes-masked bits a small_a) (IsBytes-masked bits b small_b) both

-- an address whose masked bytes are those of a prefix is in it
pub in_prefix : (bits : ℕ) (address prefix kept : List ℕ) (b : Bool) → IsPrefix prefix bits → AreBytes 16 address → kept ≡ masked bits address → (IsTrue b ↔ (kept ≡ prefix))
    → IsTrue b ↔ (number_of address / 2 ^ (128 - bits) ≡ number_of prefix / 2 ^ (128 - bits))
in_prefix bits address prefix kept b p a k test =
    let alike = masked_alike bits address prefix p.short a.len_is p.address_is.len_is a.each p.address_is.each in (
      λ t. alike.0 (sym k ∙ test.0 t ∙ sym p.zeros),
      λ e. test.1 (k ∙ alike.1 e ∙ p.zeros),
    )

-- ---- the first bits of an address

-- the bytes behind are less than one of the first
without_behind : (k b : ℕ) (bytes : List ℕ) → length bytes ≡ k → IsBytes bytes → number_of (b ∷ bytes) / 2 ^ (8 * k) ≡ b
without_behind k b bytes len small =
    let same : 8 * length bytes ≡ 8 * k = omega arith in
    ap (λ (n : ℕ). number_of (b ∷ bytes) / 2 ^ n) (sym same) ∙ div-mul-add b (2 ^ (8 * length bytes)) (number_of bytes) (number_below bytes small)

pub first_byte : (bytes : List ℕ) → length bytes ≡ 16 → IsBytes bytes → number_of bytes / 2 ^ (8 * 15) ≡ slice_index bytes 0
first_byte [] len small = absurd (omega arith)
first_byte (b ∷ bytes) len small = without_behind 15 b bytes (omega arith) (λ i. small (suc i))

first_two : (k a b : ℕ) (bytes : List ℕ) → length bytes ≡ k → IsBytes bytes → number_of (a ∷ b ∷ bytes) / 2 ^ (8 * k) ≡ a * 256 + b
first_two k a b bytes len small =
    let power : 2 ^ (8 * length (b ∷ bytes)) ≡ 2 ^ 8 * 2 ^ (8 * k) = ap (λ (n : ℕ). 2 ^ n) (let e : 8 * length (b ∷ bytes) ≡ 8 + 8 * k = omega arith in e) ∙ pow-add 2 8 (8 * k) in
    let front : a * 2 ^ (8 * length (b ∷ bytes)) ≡ a * 2 ^ 8 * 2 ^ (8 * k) = ap (λ (n : ℕ). a * n) power ∙ sym (mul_assoc a (2 ^ 8) (2 ^ (8 * k))) in
    ap (λ (n : ℕ). (n + number_of (b ∷ bytes)) / 2 ^ (8 * k)) front ∙ mul-add-div_right (pow_pos (8 * k)) (a * 2 ^ 8) (number_of (b ∷ bytes)) ∙ ap (λ (n : ℕ). a * 256 + n) (without_behind k b bytes len small)

pub first_ten_bits : (bytes : List ℕ) → length bytes ≡ 16 → IsBytes bytes → number_of bytes / 2 ^ (8 * 14 + 6) ≡ slice_index bytes 0 * 4 + slice_index bytes 1 / 64
first_ten_bits [] len small = absurd (omega arith)
first_ten_bits (a ∷ []) len small = absurd (omega arith)
first_ten_bits (a ∷ b ∷ bytes) len small =
    let both = first_two 14 a b bytes (omega arith) (λ i. small (suc (suc i))) in
    let bits : (a * 256 + b) / 2 ^ 6 ≡ a * 4 + b / 64 = omega arith in
    sym (shr-shr (number_of (a ∷ b ∷ bytes)) (8 * 14) 6) ∙ ap (λ (n : ℕ). n / 2 ^ 6) both ∙ bits

pub tested : (n first m : ℕ) → n ≡ first → IsTrue (eqb first m) ↔ (n ≡ m)
tested n first m e = (λ t. e ∙ eqb-true _ _ t, λ h. eq-eqb _ _ (sym e ∙ h))

-- fe80::/10, where the first byte is fe
pub tested_second : (n a b : ℕ) → n ≡ a * 4 + b / 64 → a ≡ 254 → IsTrue (eqb (b / 64) 2) ↔ (n ≡ 1018)
tested_second n a b e first = (λ t. let two = eqb-true _ _ t in omega (arith, two), λ h. eq-eqb _ _ (omega arith))

-- and where it is another
pub tested_first : (n a b : ℕ) → n ≡ a * 4 + b / 64 → b < 256 → (a ≡ 254 → ⊥) → IsTrue (eqb a 254) ↔ (n ≡ 1018)
tested_first n a b e small other = (λ t. absurd (other (eqb-true _ _ t)), λ h. absurd (other (omega arith)))

-- a test that says that two numbers are equal is their comparison
pub same_test : (b : Bool) (n m : ℕ) → (IsTrue b ↔ (n ≡ m)) → b ≡ eqb n m
same_test true n m h = sym (eq-eqb _ _ (h.0 refl))
same_test false n m h = sym (ne_eqb _ _ (λ e. false≢true (h.1 e)))

-- ---- the order of bytes is that of their numbers

less_is : (n m : ℕ) → n < m → nat_cmp n m ≡ Less
less_is n m lt = rw (lt-ltb _ _ lt) refl

greater_is : (n m : ℕ) → m < n → nat_cmp n m ≡ Greater
greater_is n m gt =
    let not_less : ltb n m ≡ false = le-ltb _ _ (omega arith) in
    let not_equal : eqb n m ≡ false = ne_eqb n m (λ e. omega arith) in
    rw (not_less, not_equal) refl

equal_is : (n m : ℕ) → n ≡ m → nat_cmp n m ≡ Equal
equal_is n m e =
    let not_less : ltb n m ≡ false = le-ltb _ _ (omega arith) in
    let equal : eqb n m ≡ true = eq-eqb _ _ e in
    rw (not_less, equal) refl

shifted : (c n m : ℕ) → nat_cmp n m ≡ nat_cmp (c + n) (c + m)
shifted c n m = elim (cases_lt n m) [
  | inl lt ↦ less_is n m lt ∙ sym (less_is (c + n) (c + m) (omega arith))
  | inr ge ↦ elim (cases_lt m n) [
    | inl gt ↦ greater_is n m gt ∙ sym (greater_is (c + n) (c + m) (omega arith))
    | inr le ↦ equal_is n m (omega arith) ∙ sym (equal_is (c + n) (c + m) (omega arith))
  ]
]

-- a smaller first byte makes a smaller number
smaller : (w x n y m : ℕ) → x < y → n < w → x * w + n < y * w + m
smaller w x n y m lt below =
    let next : (x + 1) * w ≡ x * w + 1 * w = add-mul x 1 w in
    let more : (x + 1) * w ≤ y * w = mul-le-mul_right w (let le : x + 1 ≤ y = omega arith in le) in
    omega arith

ordered_behind : (k x y : ℕ) (xs ys : List ℕ) → length xs ≡ k → length ys ≡ k → IsBytes xs → IsBytes ys → slice_cmp nat_cmp xs ys ≡ nat_cmp (number_of xs) (number_of ys)
    → ordering_then (nat_cmp x y) (slice_cmp nat_cmp xs ys) ≡ nat_cmp (x * 2 ^ (8 * k) + number_of xs) (y * 2 ^ (8 * k) + number_of ys)
ordered_behind k x y xs ys lx ly small_x small_y ih =
    let below_x : number_of xs < 2 ^ (8 * k) = subst (λ (n : ℕ). number_of xs < 2 ^ (8 * n)) lx (number_below xs small_x) in
    let below_y : number_of ys < 2 ^ (8 * k) = subst (λ (n : ℕ). number_of ys < 2 ^ (8 * n)) ly (number_below ys small_y) in
    elim (cases_lt x y) [
      | inl lt ↦ rw (less_is x y lt) (sym (less_is _ _ (smaller (2 ^ (8 * k)) x (number_of xs) y (number_of ys) lt below_x)))
      | inr ge ↦ elim (cases_lt y x) [
        | inl gt ↦ rw (greater_is x y gt) (sym (greater_is _ _ (smaller (2 ^ (8 * k)) y (number_of ys) x (number_of xs) gt below_y)))
        | inr le ↦
            let e : x ≡ y = omega arith in
            rw (equal_is x y e) (ih ∙ shifted (x * 2 ^ (8 * k)) (number_of xs) (number_of ys) ∙ ap (λ (n : ℕ). nat_cmp (x * 2 ^ (8 * k) + number_of xs) (n * 2 ^ (8 * k) + number_of ys)) e)
      ]
    ]

pub ordered : (a b : List ℕ) → length a ≡ length b → IsBytes a → IsBytes b → slice_cmp nat_cmp a b ≡ nat_cmp (number_of a) (number_of b)
ordered [] [] l small_a small_b = refl
ordered [] (y ∷ ys) l small_a small_b = absurd (omega arith)
ordered (x ∷ xs) [] l small_a small_b = absurd (omega arith)
ordered (x ∷ xs) (y ∷ ys) l small_a small_b =
    let len : length ys ≡ length xs = omega arith in
    let ih = ordered xs ys (sym len) (λ i. small_a (suc i)) (λ i. small_b (suc i)) in
    ordered_behind (length xs) x y xs ys refl len (λ i. small_a (suc i)) (λ i. small_b (suc i)) ih
    ∙ ap (λ (n : ℕ). nat_cmp (x * 2 ^ (8 * length xs) + number_of xs) (y * 2 ^ (8 * n) + number_of ys)) (sym len)

-- the first bits of a number, shifted there and back
pub kept_number : (n k : ℕ) → n < 2 ^ 128 → n / 2 ^ k * 2 ^ k % 2 ^ 128 ≡ n / 2 ^ k * 2 ^ k
kept_number n k small = omega (arith, shr_split n k)

-- bytes whose number is that of the first bits
pub masked_by_number : (bits : ℕ) (bytes kept : List ℕ) → bits ≤ 128 → length bytes ≡ 16 → IsBytes bytes → length kept ≡ 16 → IsBytes kept
    → number_of kept ≡ number_of bytes / 2 ^ (128 - bits) * 2 ^ (128 - bits) → kept ≡ masked bits bytes
masked_by_number bits bytes kept short len small kept_len kept_small e =
    let places : 8 * length bytes - bits ≡ 128 - bits = omega (arith, len) in
    let m : number_of (masked bits bytes) ≡ number_of bytes / 2 ^ (128 - bits) * 2 ^ (128 - bits) =
    number_of-masked bits bytes small (omega (arith, len, short)) ∙ ap (λ (n : ℕ). number_of bytes / 2 ^ n * 2 ^ n) places in
    number_injective kept (masked bits bytes) (omega (arith, kept_len, len, length-masked bits bytes)) kept_small (IsBytes-masked bits bytes small) (e ∙ sym m)
