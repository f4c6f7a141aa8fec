-- Reading a prefix.
use Rattle.std.proofs.Common.{◌≡◌, ℕ, zero, suc, ◌+◌, ◌-◌, ◌<◌, ◌≤◌, ◌^◌, List, [], ◌∷◌, ◌++◌, length, take, drop, get_or, refl, sym, ap, subst, ◌∙◌, arith, inl, inr, append_assoc}
use Rattle.std.specs.Char.{digit_value}
use Rattle.std.specs.Fmt.{decimal}
use Rattle.std.specs.Str.Parse.{AllDigits}
use Rattle.std.proofs.lemmas.Bool.{cases_lt}
use Rattle.std.proofs.lemmas.Fmt.{decimal_is_IsNumeral}
use Rattle.std.proofs.lemmas.Grind.{same_number_lists}
use Rattle.std.proofs.lemmas.List.{length-append, get_or-drop, take_at, drop_at, take-append-drop}
use Rattle.std.proofs.Math.Seq.{drop-cons}
use Rattle.nd_addr.specs.Bytes.{IsBytes, AreBytes}
use Rattle.nd_addr.specs.Prefix.{PrefixValue, IsPrefix, prefix_at}
use Rattle.nd_text.specs.Spelling.{SpellsAddress}
use Rattle.nd_addr.specs.Spelling.{SpellsPrefix}
use Rattle.nd_addr.specs.Text.{group_at, groups_of, address_text, prefix_text}

-- ---- an address is told by its groups

pair_bytes : (a b : List ℕ) (i j : ℕ) → i + 1 ≡ j → IsBytes a → IsBytes b → group_at a i ≡ group_at b i → (get_or a i 0 ≡ get_or b i 0) × (get_or a j 0 ≡ get_or b j 0)
pair_bytes a b i j next sa sb e =
    let high_a : get_or (drop i a) 0 0 ≡ get_or a i 0 = get_or-drop i a 0 0 ∙ ap (λ (n : ℕ). get_or a n 0) (let z : i + 0 ≡ i = omega arith in z) in
    let high_b : get_or (drop i b) 0 0 ≡ get_or b i 0 = get_or-drop i b 0 0 ∙ ap (λ (n : ℕ). get_or b n 0) (let z : i + 0 ≡ i = omega arith in z) in
    let low_a : get_or (drop i a) 1 0 ≡ get_or a j 0 = get_or-drop i a 1 0 ∙ ap (λ (n : ℕ). get_or a n 0) next in
    let low_b : get_or (drop i b) 1 0 ≡ get_or b j 0 = get_or-drop i b 1 0 ∙ ap (λ (n : ℕ). get_or b n 0) next in
    let small_a = sa j in
    let small_b = sb j in
    (omega arith, omega arith)

each_byte : (a b : List ℕ) → IsBytes a → IsBytes b → groups_of a ≡ groups_of b → (k : ℕ) → k < 16 → get_or a k 0 ≡ get_or b k 0
each_byte a b sa sb e zero lt = (pair_bytes a b 0 1 refl sa sb (let f : group_at a 0 ≡ group_at b 0 = cc in f)).0
each_byte a b sa sb e (suc zero) lt = (pair_bytes a b 0 1 refl sa sb (let f : group_at a 0 ≡ group_at b 0 = cc in f)).1
each_byte a b sa sb e (suc (suc zero)) lt = (pair_bytes a b 2 3 refl sa sb (let f : group_at a 2 ≡ group_at b 2 = cc in f)).0
each_byte a b sa sb e (suc (suc (suc zero))) lt = (pair_bytes a b 2 3 refl sa sb (let f : group_at a 2 ≡ group_at b 2 = cc in f)).1
each_byte a b sa sb e (suc (suc (suc (suc zero)))) lt = (pair_bytes a b 4 5 refl sa sb (let f : group_at a 4 ≡ group_at b 4 = cc in f)).0
each_byte a b sa sb e (suc (suc (suc (suc (suc zero))))) lt = (pair_bytes a b 4 5 refl sa sb (let f : group_at a 4 ≡ group_at b 4 = cc in f)).1
each_byte a b sa sb e (suc (suc (suc (suc (suc (suc zero)))))) lt = (pair_bytes a b 6 7 refl sa sb (let f : group_at a 6 ≡ group_at b 6 = cc in f)).0
each_byte a b sa sb e (suc (suc (suc (suc (suc (suc (suc zero))))))) lt = (pair_bytes a b 6 7 refl sa sb (let f : group_at a 6 ≡ group_at b 6 = cc in f)).1
each_byte a b sa sb e (suc (suc (suc (suc (suc (suc (suc (suc zero)))))))) lt = (pair_bytes a b 8 9 refl sa sb (let f : group_at a 8 ≡ group_at b 8 = cc in f)).0
each_byte a b sa sb e (suc (suc (suc (suc (suc (suc (suc (suc (suc zero))))))))) lt = (pair_bytes a b 8 9 refl sa sb (let f : group_at a 8 ≡ group_at b 8 = cc in f)).1
each_byte a b sa sb e (suc (suc (suc (suc (suc (suc (suc (suc (suc (suc zero)))))))))) lt = (pair_bytes a b 10 11 refl sa sb (let f : group_at a 10 ≡ group_at b 10 = cc in f)).0
each_byte a b sa sb e (suc (suc (suc (suc (suc (suc (suc (suc (suc (suc (suc zero))))))))))) lt = (pair_bytes a b 10 11 refl sa sb (let f : group_at a 10 ≡ group_at b 10 = cc in f)).1
each_byte a b sa sb e (suc (suc (suc (suc (suc (suc (suc (suc (suc (suc (suc (suc zero)))))))))))) lt = (pair_bytes a b 12 13 refl sa sb (let f : group_at a 12 ≡ group_at b 12 = cc in f)).0
each_byte a b sa sb e (suc (suc (suc (suc (suc (suc (suc (suc (suc (suc (suc (suc (suc zero))))))))))))) lt = (pair_bytes a b 12 13 refl sa sb (let f : group_at a 12 ≡ group_at b 12 = cc in f)).1
each_byte a b sa sb e (suc (suc (suc (suc (suc (suc (suc (suc (suc (suc (suc (suc (suc (suc zero)))))))))))))) lt = (pair_bytes a b 14 15 refl sa sb (let f : group_at a 14 ≡ group_at b 14 = cc in f)).0
each_byte a b sa sb e (suc (suc (suc (suc (suc (suc (suc (suc (suc (suc (suc (suc (suc (suc (suc zero))))))))))))))) lt = (pair_bytes a b 14 15 refl sa sb (let f : group_at a 14 ≡ group_at b 14 = cc in f)).1
each_byte a b sa sb e (suc (suc (suc (suc (suc (suc (suc (suc (suc (suc (suc (suc (suc (suc (suc (suc k)))))))))))))))) lt = absurd (omega arith)

pub groups_injective : (a b : List ℕ) → AreBytes 16 a → AreBytes 16 b → groups_of a ≡ groups_of b → a ≡ b
groups_injective a b sa sb e =
    same_number_lists a b (sa.len_is ∙ sym sb.len_is) (λ k lt. each_byte a b sa.each sb.each e k (omega (arith, sa.len_is)))

-- ---- the slash

digits_no_slash : (text : List ℕ) (k : ℕ) → AllDigits 10 text → k < length text → get_or text k 0 ≡ 47 → ⊥
digits_no_slash [] k h lt e = omega arith
digits_no_slash (b ∷ text) zero h lt e = let big : digit_value 47 < 10 = subst (λ (n : ℕ). digit_value n < 10) e h.0 in omega (arith, big)
digits_no_slash (b ∷ text) (suc k) h lt e = digits_no_slash text k h.1 (omega arith) e

decimal_no_slash : (n k : ℕ) → n ≤ 128 → k < length (decimal n) → get_or (decimal n) k 0 ≡ 47 → ⊥
decimal_no_slash n k le lt e = let wide : n < 2 ^ 64 = omega arith in digits_no_slash (decimal n) k (decimal_is_IsNumeral n wide).0.1 lt e

-- where a text is cut at its last slash
pub record IsCut (text : List ℕ) (place : ℕ) (front behind : List ℕ) : Type 0 where
  pub front_is : take place text ≡ front
  pub behind_is : drop (place + 1) text ≡ behind

slash_at : (front behind : List ℕ) → get_or (front ++ 47 ∷ behind) (length front) 0 ≡ 47
slash_at [] behind = refl
slash_at (b ∷ front) behind = slash_at front behind

behind_slash : (front behind : List ℕ) (k : ℕ) → get_or (front ++ 47 ∷ behind) (length front + suc k) 0 ≡ get_or behind k 0
behind_slash [] behind k = ap (λ (n : ℕ). get_or (47 ∷ behind) n 0) (let z : 0 + suc k ≡ suc k = omega arith in z)
behind_slash (b ∷ front) behind k =
    ap (λ (n : ℕ). get_or (b ∷ (front ++ 47 ∷ behind)) n 0) (let z : length (b ∷ front) + suc k ≡ suc (length front + suc k) = omega arith in z) ∙ behind_slash front behind k

slash_place : (front : List ℕ) (n at : ℕ) → n ≤ 128 → at < length (front ++ 47 ∷ decimal n) → get_or (front ++ 47 ∷ decimal n) at 0 ≡ 47
    → ((k : ℕ) → at < k → k < length (front ++ 47 ∷ decimal n) → get_or (front ++ 47 ∷ decimal n) k 0 ≡ 47 → ⊥) → at ≡ length front
slash_place front n at small lt e last = elim (cases_lt at (length front)) [
  | inl before ↦ absurd (last (length front) before (omega (arith, length-append front (47 ∷ decimal n))) (slash_at front (decimal n)))
  | inr ge ↦ elim (cases_lt (length front) at) [
    | inr le ↦ omega arith
    | inl after ↦
        let k : ℕ = at - length front - 1 in
        let place : at ≡ length front + suc k = omega arith in
        let there : get_or (decimal n) k 0 ≡ 47 = sym (behind_slash front (decimal n) k) ∙ ap (λ (m : ℕ). get_or (front ++ 47 ∷ decimal n) m 0) (sym place) ∙ e in
        absurd (decimal_no_slash n k small (omega (arith, length-append front (47 ∷ decimal n))) there)
  ]
]

pub cut_of : (text : List ℕ) (p : PrefixValue) (at : ℕ) (s : SpellsPrefix text p) → at < length text → get_or text at 0 ≡ 47
    → ((k : ℕ) → at < k → k < length text → get_or text k 0 ≡ 47 → ⊥) → IsCut text at s.address_text (decimal p.length)
cut_of text p at s lt e last =
    let is = s.text_is in
    let place : at ≡ length s.address_text =
    slash_place s.address_text p.length at s.short (subst (λ (t : List ℕ). at < length t) is lt) (subst (λ (t : List ℕ). get_or t at 0 ≡ 47) is e)
    (subst (λ (t : List ℕ). (k : ℕ) → at < k → k < length t → get_or t k 0 ≡ 47 → ⊥) is last) in
    let whole : text ≡ (s.address_text ++ 47 ∷ []) ++ decimal p.length = is ∙ sym (append_assoc s.address_text (47 ∷ []) (decimal p.length)) in
    record {
      front_is = ap (take at) is ∙ take_at s.address_text (47 ∷ decimal p.length) at (sym place);
      behind_is = ap (drop (at + 1)) whole ∙ drop_at (s.address_text ++ 47 ∷ []) (decimal p.length) (at + 1) (omega (arith, length-append s.address_text (47 ∷ []), place));
    }

pub no_slash : (text : List ℕ) (p : PrefixValue) → SpellsPrefix text p → ((k : ℕ) → k < length text → get_or text k 0 ≡ 47 → ⊥) → ⊥
no_slash text p s none =
    none (length s.address_text) (omega (arith, ap length s.text_is, length-append s.address_text (47 ∷ decimal p.length))) (ap (λ (t : List ℕ). get_or t (length s.address_text) 0) s.text_is ∙ slash_at s.address_text (decimal p.length))

-- what was read is spelled
pub prefix_spelled : (text address : List ℕ) (at n : ℕ) (p : PrefixValue) → at < length text → get_or text at 0 ≡ 47 → SpellsAddress (take at text) (groups_of address) → AreBytes 16 address
    → n ≤ 128 → drop (at + 1) text ≡ decimal n → p ≡ prefix_at n address → SpellsPrefix text p
prefix_spelled text address at n p lt slash s bytes short d e =
    let back : drop at text ≡ 47 ∷ decimal n = drop-cons text at 0 lt ∙ ap (λ (b : ℕ). b ∷ drop (suc at) text) slash ∙ ap (λ (t : List ℕ). 47 ∷ t) (ap (λ (m : ℕ). drop m text) (let z : suc at ≡ at + 1 = omega arith in z) ∙ d) in
    let len : p.length ≡ n = ap (λ (q : PrefixValue). q.length) e in
    record {
      address_text = take at text;
      address = address;
      text_is = sym (take-append-drop at text) ∙ ap (λ (t : List ℕ). take at text ++ t) back ∙ ap (λ (m : ℕ). take at text ++ 47 ∷ decimal m) (sym len);
      spelled = s;
      bytes = bytes;
      short = omega (arith, len);
      prefix_is = e ∙ ap (λ (m : ℕ). prefix_at m address) (sym len);
    }

-- and it is the only one
pub prefix_one : (text address : List ℕ) (n : ℕ) (p q : PrefixValue) (s : SpellsPrefix text q) → AreBytes 16 address → groups_of address ≡ groups_of s.address → n ≡ q.length → p ≡ prefix_at n address → p ≡ q
prefix_one text address n p q s bytes g len e =
    let same = groups_injective address s.address bytes s.bytes g in
    e ∙ ap (λ (m : ℕ). prefix_at m address) len ∙ ap (λ (a : List ℕ). prefix_at q.length a) same ∙ sym s.prefix_is

-- what is written of a prefix spells it
pub prefix_text_spells : (p : PrefixValue) → IsPrefix p.address.0 p.length → SpellsAddress (address_text p.address.0) (groups_of p.address.0) → SpellsPrefix (prefix_text p) p
prefix_text_spells p is s = record {
  address_text = address_text p.address.0;
  address = p.address.0;
  text_is = refl;
  spelled = s;
  bytes = is.address_is;
  short = is.short;
  prefix_is = ap (λ (a : List ℕ). let q : PrefixValue = record { address = record { 0 = a }; length = p.length } in q) (sym is.zeros);
}
