-- Each text spells how a node starts, or doesn't.
use Rattle.std.proofs.Common.{◌≡◌, ℕ, zero, suc, ◌+◌, ◌*◌, ◌^◌, ◌<◌, List, [], ◌∷◌, ◌++◌, length, refl, subst, arith, inl, inr}
use Rattle.std.specs.Prelude.{slice_index, codes}
use Rattle.std.specs.Char.{digit_value}
use Rattle.std.specs.Fmt.{decimal}
use Rattle.std.proofs.lemmas.Bool.{cases_lt}
use Rattle.std.proofs.lemmas.Bool.Decides.{eqb_tells}
use Rattle.nd_addr.specs.declared.mac.Mac.{Mac}
use Rattle.nd_addr.specs.declared.role.Role.{Role}
use Rattle.nd_addr.specs.declared.role.Role.TheVariants.{Host, Router}
use Rattle.nd_addr.specs.Spelling.{SpellsMac}
use Rattle.nd_existence.proofs.Deciding.{Decided, both_or, same_or, some_below}
use Rattle.nd_random.specs.declared.source.Source.{Source}
use Rattle.nd_random.specs.declared.source.Source.TheVariants.{Seeded, Constant}
use Rattle.nd_random.specs.Source.{seeded}
use Rattle.ndpctl_run.specs.Source.{IsSource}
use Rattle.ndpctl_run.specs.Transmits.{IsTransmitsWord}
use Rattle.ndpctl_run.specs.Words.{Parts, words_of}
use Rattle.nd_existence.proofs.Words.{less_or, most_or}
use Rattle.nd_existence.proofs.Arguments.{parts_or}
use Rattle.ndpctl_link.specs.Role.{role_word}
use Rattle.ndpctl_link.specs.Start.{SpellEnd, IsStart}

-- ---- roles

pub role_or : (word : List ℕ) → Decided ((role : Role) × (word ≡ role_word role))
role_or word = elim (same_or word (codes "host")) [
  | inl e ↦ inl (Host, e)
  | inr a ↦ elim (same_or word (codes "router")) [
    | inl e ↦ inl (Router, e)
    | inr b ↦ inr (λ p. neither p.0 p.1 a b)
  ]
]
  where
    neither : (role : Role) → word ≡ role_word role → (word ≡ codes "host" → ⊥) → (word ≡ codes "router" → ⊥) → ⊥
    neither Host e a b = a e
    neither Router e a b = b e

-- ---- Ethernet addresses

equal_or : (a b : ℕ) → Decided (a ≡ b)
equal_or a b = elim (eqb_tells a b) [ inl e ↦ inl e.1 | inr d ↦ inr d.1 ]

all_below : (P : ℕ → Type 0) → ((k : ℕ) → Decided (P k)) → (bound : ℕ) → Decided ((k : ℕ) → k < bound → P k)
all_below P decided zero = inl (λ k lt. absurd (omega (arith, lt)))
all_below P decided (suc bound) = elim (decided bound) [
  | inr none ↦ inr (λ all. none (all bound (omega arith)))
  | inl last ↦ elim (all_below P decided bound) [
    | inr none ↦ inr (λ all. none (λ k lt. all k (omega (arith, lt))))
    | inl before ↦ inl (λ k lt. elim (cases_lt k bound) [
      | inl less ↦ before k less
      | inr ge ↦ let e : bound ≡ k = omega (arith, lt, ge) in subst P e last
    ])
  ]
]

module _ (text : List ℕ) where
  abbrev high : ℕ → ℕ
  high i = digit_value (slice_index text (3 * i))

  abbrev low : ℕ → ℕ
  low i = digit_value (slice_index text (3 * i + 1))

  abbrev value : ℕ → ℕ
  value i = 16 * high i + low i

  abbrev six : List ℕ
  six = value 0 ∷ value 1 ∷ value 2 ∷ value 3 ∷ value 4 ∷ value 5 ∷ []

  at_six : (i : ℕ) → i < 6 → slice_index six i ≡ value i
  at_six zero lt = refl
  at_six (suc zero) lt = refl
  at_six (suc (suc zero)) lt = refl
  at_six (suc (suc (suc zero))) lt = refl
  at_six (suc (suc (suc (suc zero)))) lt = refl
  at_six (suc (suc (suc (suc (suc zero))))) lt = refl
  at_six (suc (suc (suc (suc (suc (suc i)))))) lt = absurd (omega (arith, lt))

  pub mac_or : Decided ((mac : Mac) × SpellsMac text mac.0)
  mac_or = elim (both_or (equal_or (length text) 17) (both_or
      (all_below (λ i. (high i < 16) × (low i < 16)) (λ i. both_or (less_or (high i) 16) (less_or (low i) 16)) 6)
      (all_below (λ i. slice_index text (3 * i + 2) ≡ 58) (λ i. equal_or (slice_index text (3 * i + 2)) 58) 5))) [
        | inl p ↦ inl (
          record { 0 = six },
          record {
            len = p.0;
            six = refl;
            pairs = λ i lt. record { high = (p.1.0 i lt).0; low = (p.1.0 i lt).1; value = at_six i lt };
            colons = p.1.1;
          },
        )
        | inr none ↦ inr (λ p. none (p.1.len, ((λ i lt. ((p.1.pairs i lt).high, (p.1.pairs i lt).low)), p.1.colons)))
      ]

-- ---- sources of words

numbered_or : (limit : ℕ) (label text : List ℕ) → Decided ((n : ℕ) × ((n < limit) × (text ≡ label ++ decimal n)))
numbered_or limit label text = elim (some_below (λ n. (n < limit) × (text ≡ label ++ decimal n)) (λ n. both_or (less_or n limit) (same_or text (label ++ decimal n))) limit) [
  | inl p ↦ inl p
  | inr none ↦ inr (λ p. none p.0 p.1.0 p.1)
]

pub source_or : (text : List ℕ) → Decided ((source : Source) × IsSource text source)
source_or text = elim (numbered_or (2 ^ 64) (codes "seed:") text) [
  | inl p ↦ inl (Seeded (seeded p.0), (p.0, p.1.0, p.1.1, refl))
  | inr a ↦ elim (numbered_or (2 ^ 32) (codes "word:") text) [
    | inl p ↦ inl (Constant p.0, p.1)
    | inr b ↦ inr (λ p. neither p.0 p.1 a b)
  ]
]
  where
    neither : (source : Source) → IsSource text source → (((n : ℕ) × ((n < 2 ^ 64) × (text ≡ codes "seed:" ++ decimal n))) → ⊥) → (((n : ℕ) × ((n < 2 ^ 32) × (text ≡ codes "word:" ++ decimal n))) → ⊥) → ⊥
    neither (Seeded generator) is a b = a (is.0, (is.1, is.2))
    neither (Constant word) is a b = b (word, is)

transmits_or : (word : List ℕ) → Decided ((n : ℕ) × IsTransmitsWord word n)
transmits_or word = elim (some_below (λ n. IsTransmitsWord word n) (λ n. both_or (both_or (most_or 1 n) (most_or n 8)) (same_or word (decimal n))) 9) [
  | inl p ↦ inl p
  | inr none ↦ inr (λ p. let most = p.1.0.1 in none p.0 (omega (arith, most)) p.1)
]

-- ---- how a node starts

-- its source of words, and how many solicitations it sends
abbrev Ending : Type 0
Ending = ℕ × Source

ending_by : (words : List (List ℕ)) → Decided ((ending : Ending) × SpellEnd words ending.0 ending.1)
ending_by [] = inr (λ p. p.1)
ending_by (word ∷ []) = elim (source_or word) [
  | inl s ↦ inl ((1, s.0), (s.1, refl))
  | inr none ↦ inr (λ p. none (p.0.1, p.1.0))
]
ending_by (word ∷ number ∷ []) = elim (source_or word) [
  | inr none ↦ inr (λ p. none (p.0.1, p.1.0))
  | inl s ↦ elim (transmits_or number) [
    | inr none ↦ inr (λ p. none (p.0.0, p.1.1))
    | inl t ↦ inl ((t.0, s.0), (s.1, t.1))
  ]
]
ending_by (word ∷ number ∷ more ∷ rest) = inr (λ p. p.1)

abbrev Behind : Type 0
Behind = Mac × Ending

abbrev IsBehind : List ℕ → Behind → Type 0
IsBehind words b = Parts words (λ word. SpellsMac word b.0.0) (λ rest. SpellEnd (words_of rest) b.1.0 b.1.1)

behind_or : (words : List ℕ) → Decided ((b : Behind) × IsBehind words b)
behind_or words = elim (parts_or (λ word (mac : Mac). SpellsMac word mac.0) (λ rest (e : Ending). SpellEnd (words_of rest) e.0 e.1) mac_or (λ rest. ending_by (words_of rest)) words) [
  | inl p ↦ inl ((p.0, p.1.0), p.1.1)
  | inr none ↦ inr (λ p. none (p.0.0, (p.0.1, p.1)))
]

pub start_or : (words : List ℕ) → Decided ((role : Role) × ((b : Mac × (ℕ × Source)) × IsStart words role b.0 b.1.0 b.1.1))
start_or words = parts_or (λ word role. word ≡ role_word role) IsBehind role_or behind_or words
