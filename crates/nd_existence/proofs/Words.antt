-- Each word spells something of its kind, or doesn't.
use Rattle.std.proofs.Common.{◌≡◌, ℕ, zero, suc, ◌*◌, ◌^◌, ◌<◌, ◌≤◌, List, [], ◌∷◌, ◌++◌, Some, None, refl, sym, ◌∙◌, ap, subst, arith, ◌⊎◌, inl, inr}
use Rattle.std.specs.Prelude.{codes, Result, Ok, Err}
use Rattle.std.specs.Fmt.{decimal}
use Rattle.std.proofs.lemmas.Bool.Decides.{eqb_tells}
use Rattle.std.proofs.lemmas.Bool.{cases_lt}
use Rattle.std.proofs.lemmas.Option.{same_Some}
use Rattle.hex.specs.Hex as hex
use Rattle.nd_text.specs.Parsing.{address_groups}
use Rattle.nd_text.specs.Spelling.{SpellsAddress}
use Rattle.nd_text.proofs.AddressTexts.{address_read, groups_found, some_option}
use Rattle.nd_addr.specs.declared.addr.Addr.{Addr}
use Rattle.nd_addr.specs.Number.{addr_at, number_of}
use Rattle.nd_addr.specs.Prefix.{PrefixValue, prefix_at}
use Rattle.nd_addr.specs.Spelling.{SpellsPrefix}
use Rattle.nd_addr.specs.Text.{groups_of}
use Rattle.nd_addr.proofs.Numbers.{number_below}
use Rattle.nd_addr.proofs.Numbered.{addr_back, sixteen}
use Rattle.nd_existence.proofs.Deciding.{Decided, both_or, same_or, some_below}
use Rattle.ndpctl_run.specs.Address.{IsAddressWord}
use Rattle.ndpctl_run.specs.Bytes.{IsBytesWord}
use Rattle.ndpctl_run.specs.Number.{IsNumberWord, IsNumberOr}
use Rattle.ndpctl_run.specs.Words.{HasNoSpace, IsParted}

-- ---- the first space

no_space_first : (x : ℕ) (xs : List ℕ) → (x ≡ 32 → ⊥) → HasNoSpace xs → HasNoSpace (x ∷ xs)
no_space_first x xs d h zero lt = d
no_space_first x xs d h (suc k) lt = h k (omega (arith, lt))

-- a text is parted by its first space, or has none
pub parted_or : (text : List ℕ) → ((word : List ℕ) × (rest : List ℕ) × IsParted text word rest) ⊎ HasNoSpace text
parted_or [] = inr (λ k lt. absurd (omega (arith, lt)))
parted_or (x ∷ xs) = elim (eqb_tells x 32) [
  | inl e ↦ inl ([], xs, record { text_is = ap (λ y. y ∷ xs) e.1; no_space = λ k lt. absurd (omega (arith, lt)) })
  | inr d ↦ elim (parted_or xs) [
    | inl p ↦ inl (x ∷ p.0, p.1, record { text_is = ap (λ ys. x ∷ ys) p.2.text_is; no_space = no_space_first x p.0 d.1 p.2.no_space })
    | inr none ↦ inr (no_space_first x xs d.1 none)
  ]
]

-- ---- any two parts

nothing_first : (a b : List ℕ) → [] ≡ a ++ b → (a ≡ []) × (b ≡ [])
nothing_first [] b e = (refl, sym e)
nothing_first (x ∷ a) b e = absurd (let no : ⊥ = cc in no)

head_is : (x y : ℕ) (xs ys : List ℕ) → x ∷ xs ≡ y ∷ ys → x ≡ y
head_is x y xs ys e = cc

tail_is : (x y : ℕ) (xs ys : List ℕ) → x ∷ xs ≡ y ∷ ys → xs ≡ ys
tail_is x y xs ys e = cc

-- a text has two such parts, or hasn't
pub split_or : (P : List ℕ → List ℕ → Type 0) → ((a b : List ℕ) → Decided (P a b)) → (text : List ℕ)
    → ((a : List ℕ) × (b : List ℕ) × (text ≡ a ++ b) × P a b) ⊎ ((a b : List ℕ) → text ≡ a ++ b → P a b → ⊥)
split_or P decided [] = elim (decided [] []) [
  | inl p ↦ inl ([], [], refl, p)
  | inr none ↦ inr (λ a b e p. let parts = nothing_first a b e in none (subst (λ x. P x []) parts.0 (subst (λ y. P a y) parts.1 p)))
]
split_or P decided (x ∷ xs) = elim (decided [] (x ∷ xs)) [
  | inl p ↦ inl ([], x ∷ xs, refl, p)
  | inr none ↦ elim (split_or (λ a b. P (x ∷ a) b) (λ a b. decided (x ∷ a) b) xs) [
    | inl q ↦ inl (x ∷ q.0, q.1, ap (λ l. x ∷ l) q.2, q.3)
    | inr nothing ↦ inr (λ a b e p. neither P x xs none nothing a b e p)
  ]
]
  where
    neither : (Q : List ℕ → List ℕ → Type 0) (y : ℕ) (ys : List ℕ) → (Q [] (y ∷ ys) → ⊥) → ((a b : List ℕ) → ys ≡ a ++ b → Q (y ∷ a) b → ⊥)
        → (a b : List ℕ) → y ∷ ys ≡ a ++ b → Q a b → ⊥
    neither Q y ys first later [] b e p = first (subst (λ z. Q [] z) (sym e) p)
    neither Q y ys first later (z ∷ a) b e p = later a b (tail_is y z ys (a ++ b) e) (subst (λ h. Q (h ∷ a) b) (sym (head_is y z ys (a ++ b) e)) p)

-- ---- numbers

pub less_or : (n limit : ℕ) → Decided (n < limit)
less_or n limit = elim (cases_lt n limit) [ inl lt ↦ inl lt | inr ge ↦ inr (λ lt. absurd (omega (arith, lt, ge))) ]

pub most_or : (n most : ℕ) → Decided (n ≤ most)
most_or n most = elim (cases_lt most n) [ inl lt ↦ inr (λ le. absurd (omega (arith, lt, le))) | inr ge ↦ inl ge ]

pub number_or : (limit : ℕ) (word : List ℕ) → Decided ((n : ℕ) × IsNumberWord limit word n)
number_or limit word = elim (some_below (λ n. IsNumberWord limit word n) (λ n. both_or (less_or n limit) (same_or word (decimal n))) limit) [
  | inl p ↦ inl p
  | inr none ↦ inr (λ p. none p.0 p.1.0 p.1)
]

pub number_or_default : (default limit : ℕ) (word : List ℕ) → Decided ((n : ℕ) × IsNumberOr default limit word n)
number_or_default default limit word = elim (same_or word (codes "-")) [
  | inl e ↦ inl (default, inl (e, refl))
  | inr d ↦ elim (number_or limit word) [
    | inl p ↦ inl (p.0, inr p.1)
    | inr none ↦ inr (λ p. neither p.0 p.1 d (λ q. none (p.0, q)))
  ]
]
  where
    neither : (n : ℕ) → IsNumberOr default limit word n → (word ≡ codes "-" → ⊥) → (IsNumberWord limit word n → ⊥) → ⊥
    neither n (inl e) d none = d e.0
    neither n (inr q) d none = none q

-- ---- bytes

digits_or : (word : List ℕ) (r : Result (List ℕ) _) → hex.decode_of word ≡ r → (word ≡ codes "-" → ⊥) → Decided ((bytes : List ℕ) × IsBytesWord word bytes)
digits_or word (Ok (b ∷ bytes)) e d = inl (b ∷ bytes, e)
digits_or word (Ok []) e d = inr (λ p. none p.0 p.1)
  where
    none : (bytes : List ℕ) → IsBytesWord word bytes → ⊥
    none [] is = d is
    none (b ∷ bytes) is = let f : Ok [] ≡ Ok (b ∷ bytes) = sym e ∙ is in absurd (let no : ⊥ = cc in no)
digits_or word (Err why) e d = inr (λ p. none p.0 p.1)
  where
    none : (bytes : List ℕ) → IsBytesWord word bytes → ⊥
    none [] is = d is
    none (b ∷ bytes) is = let f : Err why ≡ Ok (b ∷ bytes) = sym e ∙ is in absurd (let no : ⊥ = cc in no)

pub bytes_or : (word : List ℕ) → Decided ((bytes : List ℕ) × IsBytesWord word bytes)
bytes_or word = elim (same_or word (codes "-")) [
  | inl e ↦ inl ([], e)
  | inr d ↦ digits_or word (hex.decode_of word) refl d
]

-- ---- addresses

address_at : (word : List ℕ) (k : ℕ) → Decided (IsAddressWord word (addr_at k))
address_at word k = elim (some_option (address_groups word)) [
  | inl none ↦ inr (λ is. let f : None ≡ Some (groups_of (addr_at k).0) = sym none ∙ address_read word (groups_of (addr_at k).0) is.spelled in absurd (let no : ⊥ = cc in no))
  | inr g ↦ elim (same_or g.0 (groups_of (addr_at k).0)) [
    | inl e ↦ inl (record { spelled = subst (λ (groups : List ℕ). SpellsAddress word groups) e (groups_found word (Some g.0) (sym g.1)); bytes = sixteen k })
    | inr d ↦ inr (λ is. d (same_Some g.0 (groups_of (addr_at k).0) (sym g.1 ∙ address_read word (groups_of (addr_at k).0) is.spelled)))
  ]
]

pub address_or : (word : List ℕ) → Decided ((a : Addr) × IsAddressWord word a)
address_or word = elim (some_below (λ k. IsAddressWord word (addr_at k)) (address_at word) (2 ^ 128)) [
  | inl p ↦ inl (addr_at p.0, p.1)
  | inr none ↦ inr (λ p.
      let lt : number_of p.0.0 < 2 ^ 128 = subst (λ (n : ℕ). number_of p.0.0 < 2 ^ (8 * n)) p.1.bytes.len_is (number_below p.0.0 p.1.bytes.each) in
      none (number_of p.0.0) lt (subst (λ (a : Addr). IsAddressWord word a) (sym (addr_back p.0 p.1.bytes)) p.1))
]

-- ---- prefixes

abbrev PrefixParts : List ℕ → List ℕ → Type 0
PrefixParts a b = ((len : ℕ) × (len ≤ 128) × (b ≡ 47 ∷ decimal len)) × ((address : Addr) × IsAddressWord a address)

length_or : (b : List ℕ) → Decided ((len : ℕ) × (len ≤ 128) × (b ≡ 47 ∷ decimal len))
length_or b = elim (some_below (λ len. (len ≤ 128) × (b ≡ 47 ∷ decimal len)) (λ len. both_or (most_or len 128) (same_or b (47 ∷ decimal len))) 129) [
  | inl p ↦ inl (p.0, p.1.0, p.1.1)
  | inr none ↦ inr (λ p. let le = p.1 in none p.0 (omega (arith, le)) (p.1, p.2))
]

pub prefix_or : (word : List ℕ) → Decided ((prefix : PrefixValue) × SpellsPrefix word prefix)
prefix_or word = elim (split_or PrefixParts (λ a b. both_or (length_or b) (address_or a)) word) [
  | inl p ↦
      let len = p.3.0 in
      let address = p.3.1 in
      inl (
        prefix_at len.0 address.0.0,
        record {
          address_text = p.0;
          address = address.0.0;
          text_is = p.2 ∙ ap (λ b. p.0 ++ b) len.2;
          spelled = address.1.spelled;
          bytes = address.1.bytes;
          short = len.1;
          prefix_is = refl;
        },
      )
  | inr none ↦ inr (λ p. none p.1.address_text (47 ∷ decimal p.0.length) p.1.text_is
      ((p.0.length, p.1.short, refl), (record { 0 = p.1.address }, record { spelled = p.1.spelled; bytes = p.1.bytes })))
]
