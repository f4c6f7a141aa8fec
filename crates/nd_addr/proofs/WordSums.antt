-- Adding words, step after step.
use Rattle.std.proofs.Common.{◌≡◌, ℕ, ◌+◌, ◌*◌, ◌-◌, ◌/◌, ◌%◌, ◌^◌, ◌<◌, ◌≤◌, true, false, List, [], ◌∷◌, ◌++◌, length, take, drop, refl, sym, ap, arith, ltb, inl, inr}
use Rattle.std.proofs.lemmas.Bool.{cases_lt, lt-ltb, le-ltb}
use Rattle.std.proofs.lemmas.List.{length-append, length-take, length-drop}
use Rattle.byteorder.specs.Endian.{big_bytes}
use Rattle.nd_addr.specs.Checksum.{word_sum, pseudo_header, total, HasRestOf, IsGoodSum, with_sum, sum_to_write}

-- the words of a list behind one of an even length
pub word_sum-append : (n : ℕ) (a b : List ℕ) → length a ≡ 2 * n → word_sum (a ++ b) ≡ word_sum a + word_sum b
word_sum-append n [] b e = sym (omega arith)
word_sum-append n (x ∷ []) b e = absurd (omega arith)
word_sum-append n (x ∷ y ∷ a) b e =
    let h = word_sum-append (n - 1) a b (omega arith) in omega (arith, h)

-- the parts of a pseudo-header
pub word_sum-pseudo_header : (source destination : List ℕ) (len : ℕ) → length source ≡ 16 → length destination ≡ 16
    → word_sum (pseudo_header source destination len) ≡ word_sum source + word_sum destination + word_sum (big_bytes 4 len) + 58
word_sum-pseudo_header source destination len s d =
    let tail : List ℕ = 0 ∷ 0 ∷ 0 ∷ 58 ∷ [] in
    let both : length (source ++ destination) ≡ 2 * 16 = omega (arith, length-append source destination) in
    let front : length (source ++ destination ++ big_bytes 4 len) ≡ 2 * 18 = omega (arith, length-append (source ++ destination) (big_bytes 4 len), both) in
    let three = word_sum-append 18 (source ++ destination ++ big_bytes 4 len) tail front in
    let two = word_sum-append 16 (source ++ destination) (big_bytes 4 len) both in
    let one = word_sum-append 8 source destination s in
    let end : word_sum tail ≡ 58 = refl in
    omega (arith, three, two, one, end)

-- the parts of a total
pub total-is : (source destination message : List ℕ) → length source ≡ 16 → length destination ≡ 16
    → total source destination message ≡ word_sum (pseudo_header source destination (length message)) + word_sum message
unfolding total
total-is source destination message s d =
    let both : length (source ++ destination) ≡ 32 = omega (arith, length-append source destination) in
    let four : length (source ++ destination ++ big_bytes 4 (length message)) ≡ 36 = omega (arith, length-append (source ++ destination) (big_bytes 4 (length message)), both) in
    let all : length (pseudo_header source destination (length message)) ≡ 2 * 20 = omega (arith, length-append (source ++ destination ++ big_bytes 4 (length message)) (0 ∷ 0 ∷ 0 ∷ 58 ∷ []), four) in
    word_sum-append 20 (pseudo_header source destination (length message)) message all

-- the words of a length have the rest of its low 32 bits
pub word_sum-length : (n : ℕ) → word_sum (big_bytes 4 n) % 65535 ≡ n % 2 ^ 32 % 65535
word_sum-length n =
    let high : ℕ = n % 2 ^ 32 / 65536 in
    let low : ℕ = n % 65536 in
    let a : 256 * (n / 16777216 % 256) + n / 65536 % 256 ≡ high = omega arith in
    let b : 256 * (n / 256 % 256) + n % 256 ≡ low = omega arith in
    let c : n % 2 ^ 32 ≡ high * 65536 + low = omega arith in
    omega (arith, a, b, c)

-- the sum of a pseudo-header, part by part
pub header_rest : (source destination : List ℕ) (len a b : ℕ) → length source ≡ 16 → length destination ≡ 16
    → HasRestOf a (word_sum source) → HasRestOf b (word_sum destination) → HasRestOf (len % 2 ^ 32 + 58 + a + b) (word_sum (pseudo_header source destination len))
header_rest source destination len a b s d ha hb =
    omega (arith, word_sum-pseudo_header source destination len s d, word_sum-length len, ha, hb)

-- what header and message add up to
pub total_rest : (source destination message : List ℕ) (a n : ℕ) → length source ≡ 16 → length destination ≡ 16
    → HasRestOf a (word_sum (pseudo_header source destination (length message))) → HasRestOf n (a + word_sum message) → HasRestOf n (total source destination message)
total_rest source destination message a n s d h k = omega (arith, total-is source destination message s d, h, k)

-- where a message is long enough, its sum field stands behind one word
word_sum-with_sum : (field message : List ℕ) → 4 ≤ length message → length field ≡ 2
    → word_sum (with_sum field message) ≡ word_sum (take 2 message) + word_sum field + word_sum (drop 4 message)
unfolding with_sum
word_sum-with_sum field message long two =
    let test : ltb (length message) 4 ≡ false = le-ltb _ _ long in
    let front : length (take 2 message) ≡ 2 * 1 = omega (arith, length-take 2 message) in
    let both : length (take 2 message ++ field) ≡ 2 * 2 = omega (arith, length-append (take 2 message) field, front) in
    rw test (omega (arith, word_sum-append 2 (take 2 message ++ field) (drop 4 message) both, word_sum-append 1 (take 2 message) field front))

length-with_sum : (field message : List ℕ) → length field ≡ 2 → length (with_sum field message) ≡ length message
unfolding with_sum
length-with_sum field message two =
    elim (cases_lt (length message) 4) [
      | inl lt ↦ let test : ltb (length message) 4 ≡ true = lt-ltb _ _ lt in rw test refl
      | inr le ↦ let test : ltb (length message) 4 ≡ false = le-ltb _ _ le in rw test (omega (arith, length-append (take 2 message ++ field) (drop 4 message), length-append (take 2 message) field, length-take 2 message, length-drop 4 message))
    ]

with_sum-short : (field message : List ℕ) → length message < 4 → with_sum field message ≡ message
unfolding with_sum
with_sum-short field message lt = let test : ltb (length message) 4 ≡ true = lt-ltb _ _ lt in rw test refl

-- a pseudo-header's sum is positive
pub header_some : (source destination : List ℕ) (len : ℕ) → length source ≡ 16 → length destination ≡ 16 → 0 < word_sum (pseudo_header source destination len)
header_some source destination len s d = omega (arith, word_sum-pseudo_header source destination len s d)

-- what a message without its sum adds up to
pub rest_without_sum : (source destination message : List ℕ) (start a n : ℕ) → length source ≡ 16 → length destination ≡ 16 → 4 ≤ length message
    → HasRestOf start (word_sum (pseudo_header source destination (length message))) → HasRestOf a (start + word_sum (take 2 message)) → HasRestOf n (a + word_sum (drop 4 message))
    → HasRestOf n (total source destination (with_sum (0 ∷ 0 ∷ []) message))
rest_without_sum source destination message start a n s d long h ha hn =
    let same : length (with_sum (0 ∷ 0 ∷ []) message) ≡ length message = length-with_sum (0 ∷ 0 ∷ []) message refl in
    let len : word_sum (pseudo_header source destination (length (with_sum (0 ∷ 0 ∷ []) message))) ≡ word_sum (pseudo_header source destination (length message)) = ap (λ (k : ℕ). word_sum (pseudo_header source destination k)) same in
    let e : total source destination (with_sum (0 ∷ 0 ∷ []) message) ≡ word_sum (pseudo_header source destination (length message)) + word_sum (take 2 message) + word_sum (drop 4 message) =
    omega (arith, total-is source destination (with_sum (0 ∷ 0 ∷ []) message) s d, word_sum-with_sum (0 ∷ 0 ∷ []) message long refl, len) in
    omega (arith, e, h, ha, hn)

-- a short message is summed as it is
pub rest_of_short : (source destination message : List ℕ) (start n : ℕ) → length source ≡ 16 → length destination ≡ 16 → length message < 4
    → HasRestOf start (word_sum (pseudo_header source destination (length message))) → HasRestOf n (start + word_sum message)
    → HasRestOf n (total source destination (with_sum (0 ∷ 0 ∷ []) message))
rest_of_short source destination message start n s d short h hn =
    rw (with_sum-short (0 ∷ 0 ∷ []) message short) (total_rest source destination message start n s d h hn)

-- a total is above 0
pub total_some : (source destination message : List ℕ) → length source ≡ 16 → length destination ≡ 16 → 0 < total source destination message
total_some source destination message s d =
    omega (arith, total-is source destination message s d, header_some source destination (length message) s d)

-- the written sum makes the total good
pub written_is_good : (source destination message : List ℕ) (x : ℕ) → length source ≡ 16 → length destination ≡ 16 → 4 ≤ length message → x < 65536
    → x ≡ sum_to_write source destination message → IsGoodSum source destination (with_sum (big_bytes 2 x) message)
written_is_good source destination message x s d long small e =
    let zero_len : word_sum (pseudo_header source destination (length (with_sum (0 ∷ 0 ∷ []) message))) ≡ word_sum (pseudo_header source destination (length message)) = ap (λ (k : ℕ). word_sum (pseudo_header source destination k)) (length-with_sum (0 ∷ 0 ∷ []) message refl) in
    let x_len : word_sum (pseudo_header source destination (length (with_sum (big_bytes 2 x) message))) ≡ word_sum (pseudo_header source destination (length message)) = ap (λ (k : ℕ). word_sum (pseudo_header source destination k)) (length-with_sum (big_bytes 2 x) message refl) in
    let field : word_sum (big_bytes 2 x) ≡ x = omega arith in
    let more : total source destination (with_sum (big_bytes 2 x) message) ≡ total source destination (with_sum (0 ∷ 0 ∷ []) message) + x =
    omega (arith, field, zero_len, x_len, total-is source destination (with_sum (0 ∷ 0 ∷ []) message) s d, total-is source destination (with_sum (big_bytes 2 x) message) s d, word_sum-with_sum (0 ∷ 0 ∷ []) message long refl, word_sum-with_sum (big_bytes 2 x) message long refl) in
    (total_some source destination (with_sum (big_bytes 2 x) message) s d, omega (arith, more, e))
