-- A node that starts is determined by its words.
use Rattle.std.proofs.Common.{◌≡◌, ◌≤◌, ◌∙◌, ℕ, List, [], ◌∷◌, length, get_or, sym, refl, ap, subst, arith}
use Rattle.std.specs.Fmt.{decimal}
use Rattle.std.proofs.lemmas.Fmt.{decimal_injective}
use Rattle.nd_addr.specs.declared.mac.Mac.{Mac}
use Rattle.nd_addr.specs.declared.role.Role.{Role}
use Rattle.nd_addr.specs.declared.role.Role.TheVariants.{Host, Router}
use Rattle.nd_addr.specs.Spelling.{SpellsMac}
use Rattle.nd_addr.proofs.MacTexts.{mac_one}
use Rattle.nd_random.specs.declared.source.Source.{Source}
use Rattle.nd_random.specs.declared.source.Source.TheVariants.{Seeded, Constant}
use Rattle.nd_random.specs.Source.{seeded}
use Rattle.ndpctl_run.specs.Source.{IsSource}
use Rattle.ndpctl_run.proofs.Partings.{parts_at}
use Rattle.ndpctl_link.specs.Role.{role_word}
use Rattle.ndpctl_run.specs.Words.{words_of}
use Rattle.ndpctl_run.specs.Transmits.{IsTransmitsWord}
use Rattle.ndpctl_link.specs.Start.{IsStart, SpellEnd}

-- by the bytes of an address
pub by_bytes : (a b : Mac) → a.0 ≡ b.0 → a ≡ b
by_bytes a b same = ap (λ (bytes : List ℕ). let mac : Mac = record { 0 = bytes } in mac) same

pub one_role : (a b : Role) → role_word a ≡ role_word b → a ≡ b
one_role Host Host e = refl
one_role Host Router e = cc
one_role Router Host e = cc
one_role Router Router e = refl

pub one_mac : (word : List ℕ) (a b : Mac) → SpellsMac word a.0 → SpellsMac word b.0 → a ≡ b
one_mac word a b p q =
    by_bytes a b (mac_one word a.0 b.0 6 (record { six = p.six; pairs = λ k lt. p.pairs k lt; colons = λ k lt five. p.colons k five }) (omega arith) q)

pub one_source : (word : List ℕ) (a b : Source) → IsSource word a → IsSource word b → a ≡ b
one_source word (Seeded g) (Seeded h) (n, wide, is, made) (m, wide', is', made') =
    let same : decimal n ≡ decimal m = cc in
    let one : n ≡ m = decimal_injective n m wide wide' same in
    ap Seeded (made ∙ ap seeded one ∙ sym made')
one_source word (Seeded g) (Constant w) (n, wide, is, made) (small, is') =
    let letter : 115 ≡ 119 = ap (λ (text : List ℕ). get_or text 0 0) (sym is ∙ is') in absurd (omega (arith, letter))
one_source word (Constant v) (Seeded h) (small, is) (m, wide', is', made') =
    let letter : 119 ≡ 115 = ap (λ (text : List ℕ). get_or text 0 0) (sym is ∙ is') in absurd (omega (arith, letter))
one_source word (Constant v) (Constant w) (small, is) (small', is') =
    let same : decimal v ≡ decimal w = cc in
    ap Constant (decimal_injective v w (omega (arith, small)) (omega (arith, small')) same)

pub one_transmits : (word : List ℕ) (a b : ℕ) → IsTransmitsWord word a → IsTransmitsWord word b → a ≡ b
one_transmits word a b p q = let few = p.0.1 in let few' = q.0.1 in decimal_injective a b (omega (arith, few)) (omega (arith, few')) (sym p.1 ∙ q.1)

pub one_end : (words : List (List ℕ)) (transmits transmits' : ℕ) (source source' : Source) → SpellEnd words transmits source → SpellEnd words transmits' source'
    → (transmits ≡ transmits') × (source ≡ source')
one_end [] transmits transmits' source source' p q = absurd p
one_end (word ∷ []) transmits transmits' source source' p q = (p.1 ∙ sym q.1, one_source word source source' p.0 q.0)
one_end (word ∷ number ∷ []) transmits transmits' source source' p q = (one_transmits number transmits transmits' p.1 q.1, one_source word source source' p.0 q.0)
one_end (word ∷ number ∷ more ∷ rest) transmits transmits' source source' p q = absurd p

-- there are one or two
pub few_words : (words : List (List ℕ)) (transmits : ℕ) (source : Source) → SpellEnd words transmits source → length words ≤ 2
few_words [] transmits source p = absurd p
few_words (word ∷ []) transmits source p = omega arith
few_words (word ∷ number ∷ []) transmits source p = omega arith
few_words (word ∷ number ∷ more ∷ rest) transmits source p = absurd p

-- what is said by the words of a text, once they are known
pub end_by : (text : List ℕ) (words : List (List ℕ)) (transmits : ℕ) (source : Source) → words_of text ≡ words → SpellEnd words transmits source → SpellEnd (words_of text) transmits source
end_by text words transmits source e p = subst (λ ws. SpellEnd ws transmits source) (sym e) p

pub end_at : (text : List ℕ) (words : List (List ℕ)) (transmits : ℕ) (source : Source) → words_of text ≡ words → SpellEnd (words_of text) transmits source → SpellEnd words transmits source
end_at text words transmits source e p = subst (λ ws. SpellEnd ws transmits source) e p

pub one_start : (words : List ℕ) (role role' : Role) (mac mac' : Mac) (transmits transmits' : ℕ) (source source' : Source) → IsStart words role mac transmits source
    → IsStart words role' mac' transmits' source' → (role ≡ role') × (mac ≡ mac') × (transmits ≡ transmits') × (source ≡ source')
one_start words role role' mac mac' transmits transmits' source source' p q =
    let first = parts_at words p.word p.rest _ _ p.parted q in
    let second = parts_at p.rest p.behind.word p.behind.rest _ _ p.behind.parted first.1 in
    let end = one_end (words_of p.behind.rest) transmits transmits' source source' p.behind.behind second.1 in
    (one_role role role' (sym p.first ∙ first.0), one_mac p.behind.word mac mac' p.behind.first second.0, end.0, end.1)
