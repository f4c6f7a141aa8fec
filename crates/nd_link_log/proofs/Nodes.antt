-- The nodes of a log are numbered in the order in which they start, and who has a row is there.
use Rattle.std.proofs.Common.{◌≡◌, ℕ, ◌<◌, ◌≤◌, Bool, true, false, [], ◌∷◌, Some, refl, sym, ◌∙◌, ap, subst, arith, ⊎_elim}
use Rattle.std.specs.Prelude.{◌==◌, is_some, if◌then◌else◌}
use Rattle.std.proofs.lemmas.Bool.{cases_lt, true≢false}
use Rattle.std.proofs.lemmas.Bool.Decides.{Decides-eqb}
use Rattle.nd_table.specs.History.{Past}
use Rattle.nd_chronicle.specs.Happening.{Chronicle, Happening}
use Rattle.nd_link_log.specs.Log.{Log, Begins, Adds, Carries, Reaches, Refuses, adding, chronicle_of, nodes, start_of}
use Rattle.nd_link_log.proofs.Chronicles.{row_of, start_with}

abbrev pub Numbered : Log → Type 0
Numbered [] = Unit {0}
Numbered (Begins node start ∷ log) = (node ≡ nodes log) × Numbered log
Numbered (_ ∷ log) = Numbered log

pub numbered_with : (node : ℕ) (rows : Chronicle) (log : Log) → Numbered log → Numbered (adding node rows log)
numbered_with node [] log numbered = numbered
numbered_with node (row ∷ rows) log numbered = numbered_with node rows log numbered

-- those below the next number are there
pub is_there : (i : ℕ) (log : Log) → Numbered log → i < nodes log → is_some (start_of i log) ≡ true
is_there i [] numbered lt = absurd (omega (arith, lt))
is_there i (Begins node start ∷ log) numbered lt = by (node == i) refl (is_there i log numbered.1)
  where
    by : (own : Bool) → (node == i) ≡ own → (i < nodes log → is_some (start_of i log) ≡ true) → is_some (if own then Some start else start_of i log) ≡ true
    by true e before = refl
    by false e before = ⊎_elim before
        (λ more. absurd (let is = numbered.0 in let same : node ≡ i = omega (arith, lt, more, is) in true≢false (sym ((Decides-eqb node i).1 same) ∙ e))) (cases_lt i (nodes log))
is_there i (Adds node at what ∷ log) numbered lt = is_there i log numbered lt
is_there i (Carries node at number ∷ log) numbered lt = is_there i log numbered lt
is_there i (Reaches at ∷ log) numbered lt = is_there i log numbered lt
is_there i (Refuses at why ∷ log) numbered lt = is_there i log numbered lt

-- and no others
pub none_there : (i : ℕ) (log : Log) → Numbered log → nodes log ≤ i → is_some (start_of i log) ≡ false
none_there i [] numbered le = refl
none_there i (Begins node start ∷ log) numbered le = by (node == i) refl (none_there i log numbered.1 (omega (arith, le)))
  where
    by : (own : Bool) → (node == i) ≡ own → is_some (start_of i log) ≡ false → is_some (if own then Some start else start_of i log) ≡ false
    by true e before = absurd (let same = (Decides-eqb node i).0 e in let is = numbered.0 in omega (arith, le, same, is))
    by false e before = before
none_there i (Adds node at what ∷ log) numbered le = none_there i log numbered le
none_there i (Carries node at number ∷ log) numbered le = none_there i log numbered le
none_there i (Reaches at ∷ log) numbered le = none_there i log numbered le
none_there i (Refuses at why ∷ log) numbered le = none_there i log numbered le

-- ---- who has a row is there

abbrev pub RowsThere : Log → Type 0
RowsThere [] = Unit {0}
RowsThere (Adds node at what ∷ log) = (is_some (start_of node log) ≡ true) × RowsThere log
RowsThere (_ ∷ log) = RowsThere log

pub there_with : (node : ℕ) (rows : Chronicle) (log : Log) → is_some (start_of node log) ≡ true → RowsThere log → RowsThere (adding node rows log)
there_with node [] log here there = there
there_with node (row ∷ rows) log here there = (ap is_some (start_with node node rows log) ∙ here, there_with node rows log here there)

-- so it is at each place
pub there_at : (log : Log) → RowsThere log → (node at : ℕ) (what : Happening) (a : Log) → Past (Adds node at what ∷ a) log → is_some (start_of node a) ≡ true
there_at [] there node at what a p = absurd (let no : ⊥ = cc in no)
there_at (Adds n when other ∷ log) there node at what a p = ⊎_elim
    (λ same. let is : node ≡ n = cc in let rest : a ≡ log = cc in
    subst (λ (x : Log). is_some (start_of node x) ≡ true) (sym rest) (subst (λ (x : ℕ). is_some (start_of x log) ≡ true) (sym is) there.0))
    (λ below. there_at log there.1 node at what a below) p
there_at (Begins n start ∷ log) there node at what a p = ⊎_elim (λ same. absurd (let no : ⊥ = cc in no)) (λ below. there_at log there node at what a below) p
there_at (Carries n when number ∷ log) there node at what a p = ⊎_elim (λ same. absurd (let no : ⊥ = cc in no)) (λ below. there_at log there node at what a below) p
there_at (Reaches when ∷ log) there node at what a p = ⊎_elim (λ same. absurd (let no : ⊥ = cc in no)) (λ below. there_at log there node at what a below) p
there_at (Refuses when why ∷ log) there node at what a p = ⊎_elim (λ same. absurd (let no : ⊥ = cc in no)) (λ below. there_at log there node at what a below) p

-- who isn't there has no row
pub no_rows : (i : ℕ) (log : Log) → RowsThere log → is_some (start_of i log) ≡ false → chronicle_of i log ≡ []
no_rows i [] there none = refl
no_rows i (Adds node at what ∷ log) there none = by (node == i) refl (no_rows i log there.1 none)
  where
    by : (own : Bool) → (node == i) ≡ own → chronicle_of i log ≡ [] → chronicle_of i (Adds node at what ∷ log) ≡ []
    by true e before = absurd (true≢false (sym there.0 ∙ ap (λ (x : ℕ). is_some (start_of x log)) ((Decides-eqb node i).0 e) ∙ none))
    by false e before = row_of false i node at what log e ∙ before
no_rows i (Begins node start ∷ log) there none = no_rows i log there (by (node == i) none)
  where
    by : (own : Bool) → is_some (if own then Some start else start_of i log) ≡ false → is_some (start_of i log) ≡ false
    by true e = absurd (true≢false e)
    by false e = e
no_rows i (Carries node at number ∷ log) there none = no_rows i log there none
no_rows i (Reaches at ∷ log) there none = no_rows i log there none
no_rows i (Refuses at why ∷ log) there none = no_rows i log there none
