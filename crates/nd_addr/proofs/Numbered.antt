-- An address is told by its number.
use Rattle.std.proofs.Common.{◌≡◌, ℕ, zero, suc, ◌+◌, ◌*◌, ◌^◌, ◌<◌, List, [], ◌∷◌, length, refl, sym, ap, subst, ◌∙◌, arith}
use Rattle.std.proofs.lemmas.List.{append-nil}
use Rattle.std.proofs.lemmas.Nat.{pow-add}
use Rattle.byteorder.specs.Endian.{big_bytes, big_from}
use Rattle.byteorder.specs.Numbers.{big_from-cons, big_number-reads_back, length-bytes_high_first}
use Rattle.nd_addr.specs.Bytes.{IsBytes, AreBytes}
use Rattle.nd_addr.specs.Number.{number_of, addr_at, mac_at}
use Rattle.nd_addr.specs.declared.addr.Addr.{Addr}
use Rattle.nd_addr.specs.declared.mac.Mac.{Mac}
use Rattle.nd_addr.proofs.ByteLists.{IsBytes-from}
use Rattle.nd_addr.proofs.Numbers.{number_below, number_injective}

powers : (n : ℕ) → 2 ^ (8 * n) ≡ 256 ^ n
powers zero = refl
powers (suc n) =
    let two : 2 ^ (8 * suc n) ≡ 2 ^ (8 * n) * 256 = ap (λ (k : ℕ). 2 ^ k) (let e : 8 * suc n ≡ 8 * n + 8 = omega arith in e) ∙ pow-add 2 (8 * n) 8 in
    let more : 256 ^ suc n ≡ 256 ^ n * 256 = ap (λ (k : ℕ). 256 ^ k) (let e : suc n ≡ n + 1 = omega arith in e) ∙ pow-add 256 n 1 in
    two ∙ ap (λ (k : ℕ). k * 256) (powers n) ∙ sym more

pub number_from : (bytes : List ℕ) → number_of bytes ≡ big_from 0 (length bytes) bytes
number_from [] = refl
number_from (b ∷ bytes) =
    ap (λ (k : ℕ). b * k + number_of bytes) (powers (length bytes))
    ∙ ap (λ (k : ℕ). b * 256 ^ length bytes + k) (number_from bytes ∙ sym (big_from-cons 0 (length bytes) b bytes))

-- the number of the bytes of a number
number_back : (n x : ℕ) → x < 256 ^ n → number_of (big_bytes n x) ≡ x
number_back n x small =
    number_from (big_bytes n x)
    ∙ ap (λ (k : ℕ). big_from 0 k (big_bytes n x)) (length-bytes_high_first n x)
    ∙ ap (big_from 0 n) (sym (append-nil (big_bytes n x)))
    ∙ big_number-reads_back n x [] small

-- the bytes of the number of bytes
bytes_back : (n : ℕ) (bytes : List ℕ) → AreBytes n bytes → IsBytes (big_bytes n (number_of bytes)) → big_bytes n (number_of bytes) ≡ bytes
bytes_back n bytes h small =
    let below : number_of bytes < 256 ^ n = subst (λ (k : ℕ). number_of bytes < k) (powers n) (subst (λ (k : ℕ). number_of bytes < 2 ^ (8 * k)) h.len_is (number_below bytes h.each)) in
    number_injective (big_bytes n (number_of bytes)) bytes (length-bytes_high_first n (number_of bytes) ∙ sym h.len_is) small h.each (number_back n (number_of bytes) below)

six_bytes : (x : ℕ) → IsBytes (big_bytes 6 x)
six_bytes x = IsBytes-from (big_bytes 6 x) (omega arith, (omega arith, (omega arith, (omega arith, (omega arith, (omega arith, tt))))))

sixteen_bytes : (x : ℕ) → IsBytes (big_bytes 16 x)
sixteen_bytes x = IsBytes-from (big_bytes 16 x) (omega arith, (omega arith, (omega arith, (omega arith, (omega arith, (omega arith, (omega arith, (omega arith, (omega arith, (omega arith, (omega arith, (omega arith, (omega arith, (omega arith, (omega arith, (omega arith, tt))))))))))))))))

pub mac_back : (mac : Mac) → AreBytes 6 mac.0 → mac_at (number_of mac.0) ≡ mac
mac_back mac h = ap (λ (x : List ℕ). let m : Mac = record { 0 = x } in m) (bytes_back 6 mac.0 h (six_bytes (number_of mac.0)))

pub addr_back : (addr : Addr) → AreBytes 16 addr.0 → addr_at (number_of addr.0) ≡ addr
addr_back addr h = ap (λ (x : List ℕ). let a : Addr = record { 0 = x } in a) (bytes_back 16 addr.0 h (sixteen_bytes (number_of addr.0)))

pub mac_number_back : (number : ℕ) → number < 2 ^ 48 → number_of (mac_at number).0 ≡ number
mac_number_back number small = number_back 6 number small

pub addr_number_back : (number : ℕ) → number < 2 ^ 128 → number_of (addr_at number).0 ≡ number
addr_number_back number small = number_back 16 number small

pub six : (number : ℕ) → AreBytes 6 (mac_at number).0
six number = record { len_is = length-bytes_high_first 6 number; each = six_bytes number }

pub sixteen : (number : ℕ) → AreBytes 16 (addr_at number).0
sixteen number = record { len_is = length-bytes_high_first 16 number; each = sixteen_bytes number }
