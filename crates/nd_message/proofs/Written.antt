-- What is written of a message.
use Rattle.std.proofs.Common.{◌≡◌, ℕ, ◌+◌, ◌-◌, ◌/◌, ◌%◌, ◌<◌, ◌≤◌, List, ◌++◌, length, drop, set, refl, sym, ap, subst, ◌∙◌, arith}
use Rattle.std.specs.List.{flat_map}
use Rattle.std.proofs.lemmas.List.{length-append, drop_at, set-append_right}
use Rattle.nd_addr.specs.declared.addr.Addr.{Addr}
use Rattle.nd_addr.specs.Checksum.{IsGoodSum, sum_to_write}
use Rattle.nd_addr.proofs.WordSums.{written_is_good}
use Rattle.nd_decode.specs.Message.{Parts, Spells}
use Rattle.nd_message.specs.Spelling.{piece_of, fields_of, spelling, written_length, written_message}
use Rattle.nd_message.specs.WellFormed.{IsWellFormed}
use Rattle.nd_message.proofs.Formed.{spelled_as, short_spelling, length-fields_of}
use Rattle.nd_message.proofs.Looping.{long_spelling, spelling_with, sum_put_number}

-- a good sum
pub message_good : (source destination : Addr) (m : Parts) → length source.0 ≡ 16 → length destination.0 ≡ 16 → IsGoodSum source.0 destination.0 (written_message source destination m)
message_good source destination m s d =
    let x : ℕ = sum_to_write source.0 destination.0 (spelling 0 m) in
    let small : x < 65536 = omega arith in
    let good = written_is_good source.0 destination.0 (spelling 0 m) x s d (long_spelling m) small refl in
    subst (λ (bytes : List ℕ). IsGoodSum source.0 destination.0 bytes) (spelling_with x m) good

-- the message
pub message_spelled : (source destination : Addr) (m : Parts) → IsWellFormed m → Spells (written_message source destination m) m
message_spelled source destination m w = spelled_as m (written_message source destination m) (sum_to_write source.0 destination.0 (spelling 0 m)) w refl

-- short enough
pub message_short : (source destination : Addr) (m : Parts) → IsWellFormed m → length (written_message source destination m) ≤ 65535
message_short source destination m w = short_spelling m (written_message source destination m) (sum_to_write source.0 destination.0 (spelling 0 m)) w refl

length-spelling : (x : ℕ) (m : Parts) → length (spelling x m) ≡ length (spelling 0 m)
unfolding spelling
length-spelling x m =
    omega (arith, length-append (fields_of x m.body) (flat_map piece_of m.options), length-append (fields_of 0 m.body) (flat_map piece_of m.options), length-fields_of x m.body)

-- its length
pub message_length : (source destination : Addr) (m : Parts) → length (written_message source destination m) ≡ written_length m
message_length source destination m = length-spelling (sum_to_write source.0 destination.0 (spelling 0 m)) m

-- a message that is put behind others, and then its sum at its place
pub message_put : (source destination : Addr) (m : Parts) (start : ℕ) (old one two : List ℕ) (sum : ℕ) → start ≡ length old → sum < 65536 → one ≡ old ++ spelling 0 m
    → sum ≡ sum_to_write source.0 destination.0 (drop start one) → two ≡ set (set one (start + 2) (sum / 256)) (start + 2 + 1) (sum % 256) → two ≡ old ++ written_message source destination m
message_put source destination m start old one two sum at small e h k =
    let bytes : List ℕ = spelling 0 m in
    let message : drop start one ≡ bytes = ap (drop start) e ∙ drop_at old bytes start (sym at) in
    let is : sum ≡ sum_to_write source.0 destination.0 bytes = h ∙ ap (sum_to_write source.0 destination.0) message in
    let two_on : start + 2 - start ≡ 2 = omega arith in
    let three_on : start + 2 + 1 - start ≡ 3 = omega arith in
    let first : set (old ++ bytes) (start + 2) (sum / 256) ≡ old ++ set bytes 2 (sum / 256) =
    set-append_right old bytes start (start + 2) (sum / 256) (sym at) (omega arith) ∙ ap (λ (i : ℕ). old ++ set bytes i (sum / 256)) two_on in
    let second : set (old ++ set bytes 2 (sum / 256)) (start + 2 + 1) (sum % 256) ≡ old ++ set (set bytes 2 (sum / 256)) 3 (sum % 256) =
    set-append_right old (set bytes 2 (sum / 256)) start (start + 2 + 1) (sum % 256) (sym at) (omega arith) ∙ ap (λ (i : ℕ). old ++ set (set bytes 2 (sum / 256)) i (sum % 256)) three_on in
    let written : set (set bytes 2 (sum / 256)) 3 (sum % 256) ≡ written_message source destination m =
    sum_put_number bytes sum small (long_spelling m) ∙ spelling_with sum m ∙ ap (λ (x : ℕ). spelling x m) is in
    k ∙ ap (λ (xs : List ℕ). set (set xs (start + 2) (sum / 256)) (start + 2 + 1) (sum % 256)) e
    ∙ ap (λ (xs : List ℕ). set xs (start + 2 + 1) (sum % 256)) first ∙ second ∙ ap (λ (xs : List ℕ). old ++ xs) written
