-- The length of a name's text, and the text with zeros behind it.
use Rattle.std.proofs.Common.{◌≡◌, ℕ, suc, zero, ◌+◌, ◌-◌, ◌≤◌, false, eqb, List, [], ◌∷◌, ◌++◌, length, take, drop, replicate, get_or, refl, sym, ap, ◌∙◌, arith}
use Rattle.std.specs.Char.{to_ascii_lowercase}
use Rattle.std.proofs.lemmas.Bool.{ne_eqb}
use Rattle.std.proofs.lemmas.List.{length-map, drop-replicate}
use Rattle.nd_search_list.specs.Name.{IsSpelled, lowered}
use Rattle.nd_search_list.specs.Text.{text_from, name_text}
use Rattle.nd_search_list.proofs.Texts.{text_from_rest}
use Rattle.nd_c_types.specs.NameText.{padded}

-- a dot stands for a length byte: the text has as many bytes
length_text_from : (left : ℕ) (bytes : List ℕ) → length (text_from left bytes) ≡ length bytes
length_text_from left [] = refl
length_text_from zero (byte ∷ bytes) = ap suc (length_text_from byte bytes)
length_text_from (suc left) (byte ∷ bytes) =
    let some : eqb (suc left) 0 ≡ false = ne_eqb _ _ (λ e. omega arith) in
    rw some (ap suc (length_text_from (suc left - 1) bytes))

-- all but the first byte of the name
pub length_text : (bytes : List ℕ) → 1 ≤ length bytes → length (name_text (lowered bytes)) + 1 ≡ length bytes
length_text [] h = absurd (omega arith)
length_text (byte ∷ bytes) h =
    let e = length_text_from (to_ascii_lowercase byte) (lowered bytes) in
    let m : length (lowered bytes) ≡ length bytes = length-map _ _ in
    omega arith

-- a text that is written over zeros, and the zeros behind it
over : (room n : ℕ) (a b : List ℕ) → a ≡ b → n ≡ length b → a ++ drop n (replicate room 0) ≡ b ++ replicate (room - length b) 0
over room n a b p q = rw (p, q) (ap (λ (d : List ℕ). b ++ d) (drop-replicate (length b) room 0))

-- so is the text of a name
pub padded_text : (bytes text : List ℕ) → IsSpelled bytes → 1 ≤ length bytes
    → text ≡ text_from (get_or bytes 0 0) (lowered (take (length bytes - 1) (drop 1 bytes))) ++ drop (length (take (length bytes - 1) (drop 1 bytes))) (replicate 256 0)
    → text ≡ padded (name_text (lowered bytes))
padded_text bytes text s some e =
    let rest = take (length bytes - 1) (drop 1 bytes) in
    let same : name_text (lowered bytes) ≡ text_from (get_or bytes 0 0) (lowered rest) = text_from_rest bytes s some in
    let long : length (text_from (get_or bytes 0 0) (lowered rest)) ≡ length (lowered rest) = length_text_from _ _ in
    let kept : length (lowered rest) ≡ length rest = length-map _ _ in
    e ∙ over 256 (length rest) _ _ (sym same) (sym kept ∙ sym long ∙ ap length (sym same))
