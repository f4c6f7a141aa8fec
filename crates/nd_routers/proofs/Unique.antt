-- One table is that of the history, and one order is that of the failures.
use Rattle.std.proofs.Common.{◌≡◌, ℕ, ◌<◌, true, false, eqb, List, [], ◌∷◌, refl, sym, ◌∙◌, ap, arith, ⊎_elim}
use Rattle.std.specs.Prelude.{◌||◌}
use Rattle.std.proofs.lemmas.Bool.Decides.{nat_tests, eqb_tells}
use Rattle.std.proofs.lemmas.Bool.{true≢false}
use Rattle.nd_table.proofs.UniqueKeys.{one_list}
use Rattle.nd_table.specs.declared.lasting.Lasting.{Lasting}
use Rattle.nd_routers.specs.History.{RouterRow}
use Rattle.nd_routers.specs.Preferences.{preferences_of}
use Rattle.nd_routers.specs.RouterFailures.{has_failed, AllLater, InOrder, Failures}
use Rattle.nd_routers.specs.Routers.{same}
use Rattle.nd_routers.specs.RoutersKept.{Table, Stands}
use Rattle.nd_routers.proofs.Failing.{head_has, not_first}

abbrev SameKeys : List ℕ → List ℕ → Type 0
SameKeys js ks = (key : ℕ) → has_failed key js ≡ has_failed key ks

-- a key behind others is later
AllLater-has : (f : ℕ → ℕ) (n key : ℕ) (ks : List ℕ) → AllLater f n ks → has_failed key ks ≡ true → n < f key
AllLater-has f n key [] h is = absurd (true≢false (sym is))
AllLater-has f n key (k ∷ ks) h is = ⊎_elim
    (λ s. let lt = h.0 in let at = ap f s.1 in omega (arith, lt, at))
    (λ d. AllLater-has f n key ks h.1 (grind (arith, d.0, is)))
    (eqb_tells k key)

other_in : (j k : ℕ) (ks : List ℕ) → eqb j k ≡ false → has_failed k (j ∷ ks) ≡ has_failed k ks
other_in j k ks d = ap (λ b. b || has_failed k ks) d

tail_keys : (f : ℕ → ℕ) (j k : ℕ) (js ks : List ℕ) → j ≡ k → AllLater f (f j) js → AllLater f (f k) ks → SameKeys (j ∷ js) (k ∷ ks) → SameKeys js ks
tail_keys f j k js ks is h l all key = ⊎_elim
    (λ s. let at = ap f s.1 in let at' = ap f is in not_first f (f j) key js h (omega (arith, at)) ∙ sym (not_first f (f k) key ks l (omega (arith, at, at'))))
    (λ d. sym (other_in j key js d.0) ∙ (all key ∙ other_in k key ks (ap (λ i. eqb i key) (sym is) ∙ d.0)))
    (eqb_tells j key)

pub one_order : (f : ℕ → ℕ) (js ks : List ℕ) → InOrder f js → InOrder f ks → SameKeys js ks → js ≡ ks
one_order f [] [] o p all = refl
one_order f [] (k ∷ ks) o p all = absurd (true≢false (sym (head_has k ks) ∙ sym (all k)))
one_order f (j ∷ js) [] o p all = absurd (true≢false (sym (head_has j js) ∙ all j))
one_order f (j ∷ js) (k ∷ ks) o p all = ⊎_elim
    (λ s.
    let rest = one_order f js ks o.1 p.1 (tail_keys f j k js ks s.1 o.0 p.0 all) in
    ap (λ (x : ℕ). x ∷ js) s.1 ∙ ap (λ (l : List ℕ). k ∷ l) rest)
    (λ d.
    let here = AllLater-has f (f j) k js o.0 (sym (other_in j k js d.0) ∙ (all k ∙ head_has k ks)) in
    let back : eqb k j ≡ false = grind (arith, nat_tests, d.0) in
    let there = AllLater-has f (f k) j ks p.0 (sym (other_in k j ks back) ∙ (sym (all j) ∙ head_has j js)) in
    absurd (omega (arith, here, there)))
    (eqb_tells j k)

pub one_failures : (history : List RouterRow) (a b : List ℕ) → Failures history a → Failures history b → a ≡ b
one_failures history a b s t = one_order _ a b s.order t.order (λ key. s.each key ∙ sym (t.each key))

pub one_table : (history : List RouterRow) (a b : Table) → Stands a history → Stands b history → (a.entries ≡ b.entries) × (a.preferences ≡ b.preferences) × (a.failed ≡ b.failed)
one_table history a b s t = (
  entries,
  s.preferred ∙ (ap (λ (es : List (Lasting ℕ)). preferences_of history es) entries ∙ sym t.preferred),
  one_failures history a.failed b.failed s.failures t.failures,
)
  where
    entries : a.entries ≡ b.entries
    entries = one_list same eqb_tells _ a.entries b.entries s.routers.order t.routers.order (λ key. s.routers.ends key ∙ sym (t.routers.ends key))
