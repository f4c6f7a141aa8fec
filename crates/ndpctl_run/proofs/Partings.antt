-- The one way to part a text at its first space, and all its words.
use Rattle.std.proofs.Common.{◌≡◌, ◌≢◌, ◌==◌, ℕ, false, zero, suc, ◌<◌, ◌^◌, List, [], ◌∷◌, ◌++◌, length, get_or, refl, sym, ap, subst, ◌∙◌, arith}
use Rattle.std.specs.Char.{digit_value}
use Rattle.std.specs.Fmt.{decimal}
use Rattle.std.specs.Str.Parse.{AllDigits}
use Rattle.std.proofs.lemmas.Bool.Decides.{nat_tests}
use Rattle.std.proofs.lemmas.Fmt.{decimal_is_IsNumeral}
use Rattle.ndpctl_run.specs.Words.{HasNoSpace, IsParted, Parts, words_of}

-- the words behind the first ones
tail_has_none : (b : ℕ) (word : List ℕ) → HasNoSpace (b ∷ word) → HasNoSpace word
tail_has_none b word none = λ k lt e. none (suc k) (omega arith) e

parts_are_one : (word rest word' rest' : List ℕ) → HasNoSpace word → HasNoSpace word' → word ++ 32 ∷ rest ≡ word' ++ 32 ∷ rest' → (word ≡ word') × (rest ≡ rest')
parts_are_one [] rest [] rest' none none' e = (refl, (cc))
parts_are_one [] rest (b ∷ word') rest' none none' e = let space : b ≡ 32 = cc in absurd (none' 0 (omega arith) space)
parts_are_one (a ∷ word) rest [] rest' none none' e = let space : a ≡ 32 = cc in absurd (none 0 (omega arith) space)
parts_are_one (a ∷ word) rest (b ∷ word') rest' none none' e =
    let first : a ≡ b = cc in
    let behind : word ++ 32 ∷ rest ≡ word' ++ 32 ∷ rest' = cc in
    let later = parts_are_one word rest word' rest' (tail_has_none a word none) (tail_has_none b word' none') behind in
    let words = later.0 in
    ((cc), later.1)

-- a text is parted in one way
pub one_parting : (text word rest word' rest' : List ℕ) → IsParted text word rest → IsParted text word' rest' → (word ≡ word') × (rest ≡ rest')
one_parting text word rest word' rest' p q = parts_are_one word rest word' rest' p.no_space q.no_space (sym p.text_is ∙ q.text_is)

space_at : (word rest : List ℕ) → get_or (word ++ 32 ∷ rest) (length word) 0 ≡ 32
space_at [] rest = refl
space_at (b ∷ word) rest = space_at word rest

space_within : (word rest : List ℕ) → length word < length (word ++ 32 ∷ rest)
space_within [] rest = omega arith
space_within (b ∷ word) rest = let later = space_within word rest in omega arith

-- and one with no space in none
pub no_parting : (text word rest : List ℕ) → HasNoSpace text → IsParted text word rest → ⊥
no_parting text word rest none p =
    none (length word) (subst (λ (t : List ℕ). length word < length t) (sym p.text_is) (space_within word rest)) (ap (λ (t : List ℕ). get_or t (length word) 0) p.text_is ∙ space_at word rest)

-- ---- what is said of the parts

pub parts_at : (text word rest : List ℕ) (First Rest : List ℕ → Type 0) → IsParted text word rest → Parts text First Rest → First word × Rest rest
parts_at text word rest First Rest p q = let one = one_parting text word rest q.word q.rest p q.parted in (subst First (sym one.0) q.first, subst Rest (sym one.1) q.behind)

pub no_parts : (text : List ℕ) (First Rest : List ℕ → Type 0) → HasNoSpace text → Parts text First Rest → ⊥
no_parts text First Rest none q = no_parting text q.word q.rest none q.parted

pub parts_of : (text word rest : List ℕ) (First : List ℕ → Type 0) → IsParted text word rest → First word → Parts text First (λ r. r ≡ rest)
parts_of text word rest First p first = record { word = word; rest = rest; parted = p; first = first; behind = refl }

-- of the rest only which it is
pub in_front : (text : List ℕ) (First Rest : List ℕ → Type 0) (q : Parts text First Rest) → Parts text First (λ r. r ≡ q.rest)
in_front text First Rest q = parts_of text q.word q.rest First q.parted q.first

-- and more of it
pub with_rest : (text rest : List ℕ) (First Rest : List ℕ → Type 0) → Parts text First (λ r. r ≡ rest) → Rest rest → Parts text First Rest
with_rest text rest First Rest q behind = record { word = q.word; rest = q.rest; parted = q.parted; first = q.first; behind = subst Rest (sym q.behind) behind }

-- ---- numbers

digits_no_space : (text : List ℕ) (k : ℕ) → AllDigits 10 text → k < length text → get_or text k 0 ≡ 32 → ⊥
digits_no_space [] k h lt e = omega arith
digits_no_space (b ∷ text) zero h lt e = let big : digit_value 32 < 10 = subst (λ (n : ℕ). digit_value n < 10) e h.0 in omega (arith, big)
digits_no_space (b ∷ text) (suc k) h lt e = digits_no_space text k h.1 (omega arith) e

-- there is no space in a number
pub decimal_no_space : (n : ℕ) → n < 2 ^ 64 → HasNoSpace (decimal n)
decimal_no_space n wide = λ k lt e. digits_no_space (decimal n) k (decimal_is_IsNumeral n wide).0.1 lt e

-- ---- all words of a text

head_is_none : (b : ℕ) (text : List ℕ) → HasNoSpace (b ∷ text) → (b == 32) ≡ false
head_is_none b text none = let other : b ≢ 32 = none 0 (omega arith) in grind (arith, nat_tests)

-- a text with no space is its only word
pub one_word : (text : List ℕ) → HasNoSpace text → words_of text ≡ text ∷ []
unfolding words_of
one_word [] none = refl
one_word (b ∷ text) none = rw (head_is_none b text none, one_word text (tail_has_none b text none))

-- what stands before the first space is the first word
front_word : (word rest : List ℕ) → HasNoSpace word → words_of (word ++ 32 ∷ rest) ≡ word ∷ words_of rest
unfolding words_of
front_word [] rest none = refl
front_word (b ∷ word) rest none = rw (head_is_none b word none, front_word word rest (tail_has_none b word none))

pub first_word : (text word rest : List ℕ) → IsParted text word rest → words_of text ≡ word ∷ words_of rest
first_word text word rest p = ap words_of p.text_is ∙ front_word word rest p.no_space

-- each text has a word
pub some_word : (text : List ℕ) → 0 < length (words_of text)
unfolding words_of
some_word [] = omega arith
some_word (b ∷ text) = grind (arith)

pub count_one : (text : List ℕ) → HasNoSpace text → length (words_of text) ≡ 1
count_one text none = ap length (one_word text none)

pub count_first : (text word rest : List ℕ) → IsParted text word rest → length (words_of text) ≡ suc (length (words_of rest))
count_first text word rest p = ap length (first_word text word rest p)
