-- What writes, one after the other, append to bytes that are known or not.
use Rattle.std.proofs.Common.{◌≡◌, ◌+◌, ◌-◌, ℕ, List, [], ◌++◌, length, take, drop, Option, Some, None, refl, sym, ap, ◌∙◌, arith, append_assoc, append-nil}
use Rattle.std.proofs.Math.Seq.{take-add}
use Rattle.std.proofs.lemmas.Slice.{between_to_end}
use Rattle.std.specs.Io.KnownBytes.{Appends, Keeps}
use Rattle.nd_lines.specs.Written.{AppendsFront, AppendsUpTo}

pub Appends-nothing : (old : Option (List ℕ)) → Appends old old []
Appends-nothing None = tt
Appends-nothing (Some xs) = sym (append-nil xs)

-- two appends, one after the other
pub Appends-both : (a b c : Option (List ℕ)) (xs ys zs : List ℕ) → Appends a b xs → Appends b c ys → xs ++ ys ≡ zs → Appends a c zs
Appends-both None b c xs ys zs first second whole = tt
Appends-both (Some ks) None c xs ys zs first second whole = absurd first
Appends-both (Some ks) (Some bs) None xs ys zs first second whole = absurd second
Appends-both (Some ks) (Some bs) (Some cs) xs ys zs first second whole =
    second ∙ (ap (λ (l : List ℕ). l ++ ys) first ∙ (append_assoc ks xs ys ∙ ap (λ (l : List ℕ). ks ++ l) whole))

-- what was appended stays
pub Appends-kept : (a b c : Option (List ℕ)) (xs : List ℕ) → Appends a b xs → Keeps b c → Appends a c xs
Appends-kept None b c xs appended kept = tt
Appends-kept (Some ks) None c xs appended kept = absurd appended
Appends-kept (Some ks) (Some bs) None xs appended kept = absurd kept
Appends-kept (Some ks) (Some bs) (Some cs) xs appended kept = kept ∙ appended

-- a front of the rest goes on with the front
pub take_on : (l : List ℕ) (i n : ℕ) → take i l ++ take n (take (length l - i) (drop i l)) ≡ take (i + n) l
take_on l i n =
    ap (λ (p : List ℕ). take i l ++ take n p) (between_to_end l i (length l) (omega arith)) ∙ sym (take-add i n l)

-- nothing is a beginning of any text
pub AppendsFront-nothing : (old : Option (List ℕ)) (text : List ℕ) → AppendsFront old old text
AppendsFront-nothing old text = (text, ([], refl, Appends-nothing old))

-- the whole text is a beginning of it
pub AppendsFront-whole : (old new : Option (List ℕ)) (text : List ℕ) → Appends old new text → AppendsFront old new text
AppendsFront-whole old new text written = ([], (text, sym (append-nil text), written))

-- a beginning of a text is one of a longer text
pub AppendsFront-more : (old new : Option (List ℕ)) (text more : List ℕ) → AppendsFront old new text → AppendsFront old new (text ++ more)
AppendsFront-more old new text more front =
    (front.0 ++ more, (front.1.0, ap (λ (l : List ℕ). l ++ more) front.1.1 ∙ append_assoc front.1.0 front.0 more, front.1.2))

-- more text behind the rest
pub AppendsUpTo-more : (old new : Option (List ℕ)) (text rest more : List ℕ) → AppendsUpTo old new text rest → AppendsUpTo old new (text ++ more) (rest ++ more)
AppendsUpTo-more old new text rest more written = (written.0, ap (λ (l : List ℕ). l ++ more) written.1 ∙ append_assoc written.0 rest more, written.2)

-- a beginning was written, and then a beginning of what was left
pub AppendsFront-after : (old mid new : Option (List ℕ)) (text rest : List ℕ) → AppendsUpTo old mid text rest → AppendsFront mid new rest → AppendsFront old new text
AppendsFront-after old mid new text rest first front =
    (front.0, (first.0 ++ front.1.0, first.1 ∙ (ap (λ (l : List ℕ). first.0 ++ l) front.1.1 ∙ sym (append_assoc first.0 front.1.0 front.0)), Appends-both old mid new first.0 front.1.0 (first.0 ++ front.1.0) first.2 front.1.2 refl))

-- a text was written whole, and then another one, of which nothing is left
pub AppendsUpTo-both : (old mid new : Option (List ℕ)) (text more bytes rest : List ℕ) → Appends old mid text → bytes ≡ more → rest ≡ [] → Appends mid new bytes → AppendsUpTo old new (text ++ more) rest
AppendsUpTo-both old mid new text more bytes rest first same none second =
    (text ++ more, rw none (sym (append-nil (text ++ more))), Appends-both old mid new text bytes (text ++ more) first second (ap (λ (l : List ℕ). text ++ l) same))

-- a text was written whole, and then a beginning of another one
pub AppendsFront-both : (old mid new : Option (List ℕ)) (text more bytes : List ℕ) → Appends old mid text → bytes ≡ more → AppendsFront mid new bytes → AppendsFront old new (text ++ more)
AppendsFront-both old mid new text more bytes first same front = AppendsFront-after old mid new (text ++ more) bytes (text, ap (λ (l : List ℕ). text ++ l) (sym same), first) front
