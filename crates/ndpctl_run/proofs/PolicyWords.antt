-- The words of a text that names policies, one after the other.
use Rattle.std.proofs.Common.{◌≡◌, ◌≢◌, ℕ, ◌+◌, ◌<◌, true, false, ◌==◌, List, [], ◌∷◌, None, ◌++◌, length, get_or, refl, arith}
use Rattle.std.proofs.lemmas.Bool.Decides.{nat_tests}
use Rattle.std.proofs.lemmas.Grind.{common_steps}
use Rattle.std.specs.List.{slice_split}
use Rattle.ndpctl_run.specs.Policies.{with_all, words_in}

abbrev Lacks : ℕ → List ℕ → Type 0
Lacks c xs = (i : ℕ) → i < length xs → get_or xs i 0 ≢ c

head_differs : (c x : ℕ) (xs : List ℕ) → Lacks c (x ∷ xs) → (x == c) ≡ false
head_differs c x xs h = let ne : x ≢ c = h 0 (grind (arith, common_steps)) in grind (arith, nat_tests)

tail_lacks : (c x : ℕ) (xs : List ℕ) → Lacks c (x ∷ xs) → Lacks c xs
tail_lacks c x xs h i lt = let k = h (i + 1) (grind (arith, common_steps)) in grind (arith, common_steps)

split_lacks : (c : ℕ) (xs : List ℕ) → Lacks c xs → slice_split (λ x. x == c) xs ≡ xs ∷ []
split_lacks c [] h = refl
split_lacks c (x ∷ xs) h = rw (head_differs c x xs h, split_lacks c xs (tail_lacks c x xs h))

split_at : (c : ℕ) (xs ys : List ℕ) → Lacks c xs → slice_split (λ x. x == c) (xs ++ c ∷ ys) ≡ xs ∷ slice_split (λ x. x == c) ys
split_at c [] ys h = let same : (c == c) ≡ true = grind (arith, nat_tests) in rw same
split_at c (x ∷ xs) ys h = rw (head_differs c x xs h, split_at c xs ys (tail_lacks c x xs h))

-- a text without a comma is one word
pub one_word : (text : List ℕ) → Lacks 44 text → words_in text ≡ text ∷ []
one_word text lacks = split_lacks 44 text lacks

-- another one is a word, and the words behind the comma
pub first_word : (word rest : List ℕ) → Lacks 44 word → words_in (word ++ 44 ∷ rest) ≡ word ∷ words_in rest
first_word word rest lacks = split_at 44 word rest lacks

-- where a word is wrong, no policies are named
pub named_none : (words : List (List ℕ)) → with_all words None ≡ None
named_none [] = refl
named_none (word ∷ words) = named_none words
