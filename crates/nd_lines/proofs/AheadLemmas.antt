-- The bytes in hand after a take and after a read.
use Rattle.std.proofs.Common.{◌≡◌, ◌≤◌, ◌+◌, ◌-◌, ℕ, List, ◌++◌, length, take, drop, [], Option, Some, None, refl, sym, ap, ◌∙◌, arith, append_assoc}
use Rattle.std.proofs.lemmas.List.{drop-take, drop-drop, length-take, take-take, take-append-le}
use Rattle.std.proofs.Math.Seq.{take-append-add}
use Rattle.std.specs.Io.KnownBytes.{Consumes, Keeps, prepend_known}
use Rattle.nd_lines.specs.Ahead.{in_hand}

-- taking bytes from the front of those in hand drops them
pub in_hand-take : (buffer : List ℕ) (start end count : ℕ) → count ≤ end - start → in_hand buffer (start + count) end ≡ drop count (in_hand buffer start end)
in_hand-take buffer start end count within =
    let size : end - start ≡ count + (end - (start + count)) = omega arith in
    rw size (sym (drop-take count (end - (start + count)) (drop start buffer) ∙ ap (take (end - (start + count))) (drop-drop count start buffer)))

-- a buffer whose bytes from `at` on were read into begins with what it had, and then with what was read
pub in_hand-read : (items read after tail : List ℕ) (start at count room : ℕ) → start ≡ 0 → at ≤ length items → count ≤ length read → at + count ≤ room → in_hand (take room ((take at items ++ (read ++ after)) ++ tail)) start (at + count) ≡ in_hand items start at ++ take count read
in_hand-read items read after tail start at count room front within given fits =
    let all : List ℕ = (take at items ++ (read ++ after)) ++ tail in
    let size : length (take at items) ≡ at = omega (arith, length-take {A = ℕ}) in
    let shape : all ≡ take at items ++ (read ++ (after ++ tail)) = simp append_assoc in
    let cut : take (at + count) (take room all) ≡ take (at + count) all = take-take (at + count) room all fits in
    let whole : take (at + count) all ≡ take at items ++ take count read =
    ap (take (at + count)) shape ∙ (ap (λ (k : ℕ). take (k + count) (take at items ++ (read ++ (after ++ tail)))) (sym size) ∙ (take-append-add (take at items) (read ++ (after ++ tail)) count ∙ ap (λ (l : List ℕ). take at items ++ l) (take-append-le count read (after ++ tail) given))) in
    let all_of : at + count - start ≡ at + count = omega arith in
    let old_of : at - start ≡ at = omega arith in
    rw (all_of, old_of, front) (cut ∙ whole)

-- bytes that were read behind those in hand come after them
pub Keeps-read : (before after : Option (List ℕ)) (hand hand' bytes : List ℕ) → Consumes before after bytes → hand' ≡ hand ++ bytes → Keeps (prepend_known hand before) (prepend_known hand' after)
Keeps-read None after hand hand' bytes consumed joined = tt
Keeps-read (Some xs) None hand hand' bytes consumed joined = absurd consumed
Keeps-read (Some xs) (Some ys) hand hand' bytes consumed joined =
    ap (λ (l : List ℕ). l ++ ys) joined ∙ (append_assoc hand bytes ys ∙ ap (λ (l : List ℕ). hand ++ l) (sym consumed))

pub none_in_hand : (buffer : List ℕ) (end : ℕ) → in_hand buffer end end ≡ []
none_in_hand buffer end = let none : end - end ≡ 0 = omega arith in rw none refl
