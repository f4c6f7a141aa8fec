-- The first line of some bytes, by the place of their first line feed.
use Rattle.std.proofs.Common.{◌≡◌, ◌<◌, ◌≤◌, ◌+◌, ℕ, zero, suc, List, [], ◌∷◌, ◌++◌, ◌==◌, length, take, drop, false, refl, ap, ◌∙◌, arith, add-one, append_assoc, length-append}
use Rattle.std.proofs.lemmas.Bool.{eqb-true}
use Rattle.std.proofs.lemmas.Bool.Decides.{nat_tests}
use Rattle.std.proofs.lemmas.List.{length-take}
use Rattle.memchr.specs.Find.{Nowhere, Passes, is_byte}
use Rattle.nd_lines.specs.Ahead.{IsWholeLine}
use Rattle.nd_lines.specs.Lines.{lines_of, with_front, HasLongLine}

-- no line feed stands before place n
abbrev NoFeedBefore : List ℕ → ℕ → Type 0
NoFeedBefore bytes n = Nowhere (Passes (is_byte 10) bytes) 0 n

no_feed_first : (b : ℕ) (bytes : List ℕ) (n : ℕ) → NoFeedBefore (b ∷ bytes) (suc n) → (b == 10) ≡ false
no_feed_first b bytes n none = let first = none 0 (omega arith) (omega arith) in grind (arith, nat_tests, first)

no_feed_rest : (b : ℕ) (bytes : List ℕ) (n : ℕ) → NoFeedBefore (b ∷ bytes) (suc n) → NoFeedBefore bytes n
no_feed_rest b bytes n none = λ k low high. none (suc k) (omega arith) (omega arith)

-- a line feed at place n cuts the bytes
cut_at : (bytes : List ℕ) (n : ℕ) → n < length bytes → Passes (is_byte 10) bytes n → bytes ≡ take n bytes ++ (10 ∷ drop (suc n) bytes)
cut_at [] n within here = absurd (omega arith)
cut_at (b ∷ bytes) zero within here = let feed : b ≡ 10 = eqb-true b 10 here in rw feed refl
cut_at (b ∷ bytes) (suc n) within here = ap (λ (l : List ℕ). b ∷ l) (cut_at bytes n (omega arith) here)

-- bytes without a line feed are one line where one follows
one_before : (bytes rest : List ℕ) (n : ℕ) → NoFeedBefore bytes n → n ≤ length bytes → lines_of (take n bytes ++ (10 ∷ rest)) ≡ take n bytes ∷ lines_of rest
one_before bytes rest zero none within = refl
one_before [] rest (suc n) none within = absurd (omega arith)
one_before (b ∷ bytes) rest (suc n) none within =
    let first : (b == 10) ≡ false = no_feed_first b bytes n none in
    rw first (ap (with_front b) (one_before bytes rest n (no_feed_rest b bytes n none) (omega arith)))

-- the bytes before the first line feed are a whole line
pub whole_to_feed : (bytes : List ℕ) (n : ℕ) → NoFeedBefore bytes n → n < length bytes → Passes (is_byte 10) bytes n → IsWholeLine bytes n
whole_to_feed bytes n none within here = record {
  cut = rw add-one (cut_at bytes n within here);
  one = λ rest. one_before bytes rest n none (omega arith);
}

-- the bytes and what comes behind them, cut at the line feed
pub cut_on : (bytes rest : List ℕ) (n : ℕ) → IsWholeLine bytes n → bytes ++ rest ≡ take n bytes ++ (10 ∷ (drop (n + 1) bytes ++ rest))
cut_on bytes rest n whole = ap (λ (l : List ℕ). l ++ rest) whole.cut ∙ append_assoc (take n bytes) (10 ∷ drop (n + 1) bytes) rest

-- a whole line stands first, whatever comes behind the bytes
pub line_first : (bytes rest : List ℕ) (n : ℕ) → IsWholeLine bytes n → lines_of (bytes ++ rest) ≡ take n bytes ∷ lines_of (drop (n + 1) bytes ++ rest)
line_first bytes rest n whole = ap lines_of (cut_on bytes rest n whole) ∙ whole.one (drop (n + 1) bytes ++ rest)

-- the same, where there are too many of them
pub long_to_feed : (bytes rest : List ℕ) (n : ℕ) → NoFeedBefore bytes n → n < length bytes → Passes (is_byte 10) bytes n → 16384 < n → HasLongLine (bytes ++ rest)
long_to_feed bytes rest n none within here long =
    (take n bytes, lines_of (drop (n + 1) bytes ++ rest), line_first bytes rest n (whole_to_feed bytes n none within here), omega (arith, length-take {A = ℕ}))

with_front-first : (b : ℕ) (lines : List (List ℕ)) → (more : List ℕ) × (others : List (List ℕ)) × (with_front b lines ≡ (b ∷ more) ∷ others)
with_front-first b [] = ([], [], refl)
with_front-first b (line ∷ lines) = (line, lines, refl)

unended_front : (b : ℕ) (bytes rest : List ℕ) → NoFeedBefore (b ∷ bytes) (length (b ∷ bytes)) → (more : List ℕ) × (others : List (List ℕ)) × (lines_of ((b ∷ bytes) ++ rest) ≡ ((b ∷ bytes) ++ more) ∷ others)
unended_front b [] rest none =
    let first : (b == 10) ≡ false = no_feed_first b [] 0 none in
    let found = with_front-first b (lines_of rest) in
    (found.0, found.1, rw first found.2)
unended_front b (c ∷ bytes) rest none =
    let first : (b == 10) ≡ false = no_feed_first b (c ∷ bytes) (length (c ∷ bytes)) none in
    let found = unended_front c bytes rest (no_feed_rest b (c ∷ bytes) (length (c ∷ bytes)) none) in
    (found.0, found.1, rw first (ap (with_front b) found.2))

-- many bytes without a line feed make a line that is too long
pub long_unended : (bytes rest : List ℕ) → NoFeedBefore bytes (length bytes) → 16384 < length bytes → HasLongLine (bytes ++ rest)
long_unended [] rest none long = absurd (omega arith)
long_unended (b ∷ bytes) rest none long =
    let found = unended_front b bytes rest none in
    ((b ∷ bytes) ++ found.0, found.1, found.2, omega (arith, length-append (b ∷ bytes) found.0))

unended_line : (b : ℕ) (bytes : List ℕ) → NoFeedBefore (b ∷ bytes) (length (b ∷ bytes)) → lines_of (b ∷ bytes) ≡ (b ∷ bytes) ∷ []
unended_line b [] none = let first : (b == 10) ≡ false = no_feed_first b [] 0 none in rw first refl
unended_line b (c ∷ bytes) none =
    let first : (b == 10) ≡ false = no_feed_first b (c ∷ bytes) (length (c ∷ bytes)) none in
    rw first (ap (with_front b) (unended_line c bytes (no_feed_rest b (c ∷ bytes) (length (c ∷ bytes)) none)))

-- some bytes without a line feed are one line
pub line_without_feed : (bytes : List ℕ) → NoFeedBefore bytes (length bytes) → 0 < length bytes → lines_of bytes ≡ bytes ∷ []
line_without_feed [] none some = absurd (omega arith)
line_without_feed (b ∷ bytes) none some = unended_line b bytes none
