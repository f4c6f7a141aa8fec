-- The chronicle of each node, in the log.
use Rattle.std.proofs.Common.{◌≡◌, inl, inr, ℕ, Bool, true, false, [], ◌∷◌, ◌++◌, refl, sym, ◌∙◌, ap, subst, ⊎_elim}
use Rattle.std.specs.Prelude.{◌==◌, if◌then◌else◌}
use Rattle.std.proofs.lemmas.Bool.Decides.{Decides-eqb}
use Rattle.nd_table.specs.History.{Past}
use Rattle.nd_table.proofs.Pasts.{past_self}
use Rattle.nd_chronicle.specs.Happening.{Chronicle, Happening, Passed}
use Rattle.nd_link_log.specs.Log.{Entry, Log, Begins, Adds, Carries, Reaches, Refuses, adding, chronicle_of, nodes, start_of}

-- ---- rows of a node

pub same_number : (n : ℕ) → (n == n) ≡ true
same_number n = (Decides-eqb n n).1 refl

pub row_of : (own : Bool) (i node at : ℕ) (what : Happening) (log : Log) → (node == i) ≡ own
    → chronicle_of i (Adds node at what ∷ log) ≡ (if own then (at, what) ∷ chronicle_of i log else chronicle_of i log)
row_of own i node at what log e = ap (λ (b : Bool). if b then (at, what) ∷ chronicle_of i log else chronicle_of i log) e

pub own_row : (node at : ℕ) (what : Happening) (log : Log) → chronicle_of node (Adds node at what ∷ log) ≡ (at, what) ∷ chronicle_of node log
own_row node at what log = row_of true node node at what log (same_number node)

pub own_rows : (node : ℕ) (rows : Chronicle) (log : Log) → chronicle_of node (adding node rows log) ≡ rows ++ chronicle_of node log
own_rows node [] log = refl
own_rows node (row ∷ rows) log = own_row node row.0 row.1 (adding node rows log) ∙ ap (λ (c : Chronicle). row ∷ c) (own_rows node rows log)

-- they leave the chronicles of the others
pub other_rows : (i node : ℕ) (rows : Chronicle) (log : Log) → (node == i) ≡ false → chronicle_of i (adding node rows log) ≡ chronicle_of i log
other_rows i node [] log e = refl
other_rows i node (row ∷ rows) log e = row_of false i node row.0 row.1 (adding node rows log) e ∙ other_rows i node rows log e

-- and who is there
pub start_with : (i node : ℕ) (rows : Chronicle) (log : Log) → start_of i (adding node rows log) ≡ start_of i log
start_with i node [] log = refl
start_with i node (row ∷ rows) log = start_with i node rows log

pub nodes_with : (node : ℕ) (rows : Chronicle) (log : Log) → nodes (adding node rows log) ≡ nodes log
nodes_with node [] log = refl
nodes_with node (row ∷ rows) log = nodes_with node rows log

pub past_with : (node : ℕ) (rows : Chronicle) (log : Log) → Past log (adding node rows log)
past_with node [] log = past_self log
past_with node (row ∷ rows) log = inr (past_with node rows log)

-- ---- places

-- what the log was, the chronicle was
pub past_of : (i : ℕ) (d log : Log) → Past d log → Past (chronicle_of i d) (chronicle_of i log)
past_of i d [] p = ap (chronicle_of i) p
past_of i d (entry ∷ log) p = ⊎_elim
    (λ same. subst (λ (x : Log). Past (chronicle_of i x) (chronicle_of i (entry ∷ log))) (sym same) (past_self (chronicle_of i (entry ∷ log))))
    (λ below. by entry (past_of i d log below)) p
  where
    either : (own : Bool) (row : ℕ × Happening) → Past (chronicle_of i d) (chronicle_of i log)
        → Past (chronicle_of i d) (if own then row ∷ chronicle_of i log else chronicle_of i log)
    either true row q = inr q
    either false row q = q

    by : (entry : Entry) → Past (chronicle_of i d) (chronicle_of i log) → Past (chronicle_of i d) (chronicle_of i (entry ∷ log))
    by (Adds node at what) q = either (node == i) (at, what) q
    by (Begins node start) q = q
    by (Carries node at number) q = q
    by (Reaches at) q = q
    by (Refuses at why) q = q

-- a row of a chronicle is in the log
pub record Lifted (i at : ℕ) (what : Happening) (c : Chronicle) (log : Log) : Type 0 where
  pub below : Log
  pub there : Past (Adds i at what ∷ below) log
  pub chronicle_is : chronicle_of i below ≡ c

abbrev moment_in_front : Chronicle → ℕ
moment_in_front [] = 0
moment_in_front (row ∷ c) = row.0

abbrev pub what_in_front : Chronicle → Happening
what_in_front [] = Passed
what_in_front (row ∷ c) = row.1

abbrev behind : Chronicle → Chronicle
behind [] = []
behind (row ∷ c) = c

module _ (i at : ℕ) (what : Happening) (c : Chronicle) where
  further : (entry : Entry) (log : Log) → Lifted i at what c log → Lifted i at what c (entry ∷ log)
  further entry log l = record { below = l.below; there = inr l.there; chronicle_is = l.chronicle_is }

  here : (node when : ℕ) (other : Happening) (log : Log) → node ≡ i → (at, what) ∷ c ≡ (when, other) ∷ chronicle_of i log → Lifted i at what c (Adds node when other ∷ log)
  here node when other log is e =
      let first : at ≡ when = ap moment_in_front e in
      let second : what ≡ other = ap what_in_front e in record {
        below = log;
        there = inl (let same : Adds i at what ≡ Adds node when other = cc in ap (λ (x : Entry). x ∷ log) same);
        chronicle_is = sym (ap behind e);
      }

  in_rows : (node when : ℕ) (other : Happening) (log : Log) (own : Bool) → (node == i) ≡ own → (Past ((at, what) ∷ c) (chronicle_of i log) → Lifted i at what c log)
      → Past ((at, what) ∷ c) (if own then (when, other) ∷ chronicle_of i log else chronicle_of i log) → Lifted i at what c (Adds node when other ∷ log)
  in_rows node when other log true e lower p = ⊎_elim (λ same. here node when other log ((Decides-eqb node i).0 e) same) (λ below. further (Adds node when other) log (lower below)) p
  in_rows node when other log false e lower p = further (Adds node when other) log (lower p)

  pub lift : (log : Log) → Past ((at, what) ∷ c) (chronicle_of i log) → Lifted i at what c log
  lift [] p = absurd (let no : ⊥ = cc in no)
  lift (Adds node when other ∷ log) p = in_rows node when other log (node == i) refl (lift log) p
  lift (Begins node start ∷ log) p = further (Begins node start) log (lift log p)
  lift (Carries node when number ∷ log) p = further (Carries node when number) log (lift log p)
  lift (Reaches when ∷ log) p = further (Reaches when) log (lift log p)
  lift (Refuses when why ∷ log) p = further (Refuses when why) log (lift log p)
