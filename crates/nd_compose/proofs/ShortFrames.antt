-- The frame of a message whose checksum is set last.
use Rattle.std.proofs.Common.{◌≡◌, ℕ, ◌≤◌, Bool, true, false, ltb, List, [], ◌∷◌, ◌++◌, length, slice_index, take, drop, refl, sym, ap, ◌∙◌, arith, append_assoc}
use Rattle.std.proofs.lemmas.Bool.{le-ltb}
use Rattle.std.proofs.lemmas.List.{append-nil, drop-drop}
use borrow.Rule.Slice.PartMut.{put_mid}
use Rattle.byteorder.specs.Endian.{big_bytes}
use Rattle.nd_addr.specs.Checksum.{sum_to_write, with_sum}
use Rattle.nd_addr.specs.Frame.{written_frame}
use Rattle.nd_addr.specs.declared.addr.Addr.{Addr}
use Rattle.nd_addr.specs.declared.mac.Mac.{Mac}
use Rattle.nd_decode.specs.Message.{Parts}
use Rattle.nd_message.specs.Frame.{message_header, message_frame}
use Rattle.nd_message.specs.Spelling.{three_flags_of, spelling}
use Rattle.nd_compose.specs.Frames.{advertisement, solicitation}
use Rattle.nd_message.proofs.Looping.{spelling_with}

-- the six bytes of an Ethernet address, each by its place
pub six_bytes : (bytes : List ℕ) → length bytes ≡ 6
    → slice_index bytes 0 ∷ slice_index bytes 1 ∷ slice_index bytes 2 ∷ slice_index bytes 3 ∷ slice_index bytes 4 ∷ slice_index bytes 5 ∷ [] ≡ bytes
six_bytes [] e = absurd (omega arith)
six_bytes (a ∷ []) e = absurd (omega arith)
six_bytes (a ∷ b ∷ []) e = absurd (omega arith)
six_bytes (a ∷ b ∷ c ∷ []) e = absurd (omega arith)
six_bytes (a ∷ b ∷ c ∷ d ∷ []) e = absurd (omega arith)
six_bytes (a ∷ b ∷ c ∷ d ∷ x ∷ []) e = absurd (omega arith)
six_bytes (a ∷ b ∷ c ∷ d ∷ x ∷ y ∷ []) e = refl
six_bytes (a ∷ b ∷ c ∷ d ∷ x ∷ y ∷ z ∷ rest) e = absurd (omega arith)

-- what is written of the two messages, with no sum
pub advertisement_spelled : (router solicited : Bool) (mac : Mac) (target : Addr)
    → (136 ∷ 0 ∷ 0 ∷ 0 ∷ three_flags_of router solicited true ∷ 0 ∷ 0 ∷ 0 ∷ []) ++ target.0 ++ (2 ∷ 1 ∷ mac.0) ≡ spelling 0 (advertisement router solicited mac target)
unfolding spelling
advertisement_spelled router solicited mac target =
    ap (λ (bytes : List ℕ). (136 ∷ 0 ∷ 0 ∷ 0 ∷ three_flags_of router solicited true ∷ 0 ∷ 0 ∷ 0 ∷ []) ++ target.0 ++ (2 ∷ 1 ∷ bytes)) (sym (append-nil mac.0))

pub solicitation_spelled : (mac : Mac) (target : Addr)
    → (135 ∷ 0 ∷ 0 ∷ 0 ∷ 0 ∷ 0 ∷ 0 ∷ 0 ∷ []) ++ target.0 ++ (1 ∷ 1 ∷ mac.0) ≡ spelling 0 (solicitation mac target)
unfolding spelling
solicitation_spelled mac target =
    ap (λ (bytes : List ℕ). (135 ∷ 0 ∷ 0 ∷ 0 ∷ 0 ∷ 0 ∷ 0 ∷ 0 ∷ []) ++ target.0 ++ (1 ∷ 1 ∷ bytes)) (sym (append-nil mac.0))

-- two bytes that are put into the field
pub sum_put_last : (field message : List ℕ) → 4 ≤ length message → put_mid 2 2 message field ≡ with_sum field message
unfolding with_sum
sum_put_last field message long =
    let test : ltb (length message) 4 ≡ false = le-ltb _ _ long in
    rw test (ap (λ (xs : List ℕ). take 2 message ++ (field ++ xs)) (drop-drop 2 2 message) ∙ sym (append_assoc (take 2 message) field (drop 4 message)))

-- a spelling with its sum in it is the message
pub summed_is : (to from : Mac) (source destination : Addr) (m : Parts) (message : List ℕ) → message ≡ spelling 0 m
    → written_frame to from (message_header source destination) (with_sum (big_bytes 2 (sum_to_write source.0 destination.0 message)) message) ≡ message_frame to from source destination m
unfolding message_frame
summed_is to from source destination m message e =
    let header = message_header source destination in
    ap (λ (bytes : List ℕ). written_frame to from header (with_sum (big_bytes 2 (sum_to_write source.0 destination.0 bytes)) bytes)) e
    ∙ ap (written_frame to from header) (spelling_with (sum_to_write source.0 destination.0 (spelling 0 m)) m)
