-- What is kept, whatever is added to a log up to a moment.
use Rattle.std.proofs.Common.{◌≡◌, ℕ, zero, suc, ◌<◌, ◌≤◌, Bool, true, false, [], ◌∷◌, refl, sym, ◌∙◌, ap, arith, ⊎_elim}
use Rattle.std.specs.Prelude.{◌==◌, is_some}
use Rattle.std.proofs.lemmas.Bool.{cases_lt, true≢false}
use Rattle.std.proofs.lemmas.Bool.Decides.{Decides-eqb}
use Rattle.nd_chronicle.specs.Happening.{Chronicle, Passed}
use Rattle.nd_link_log.specs.Log.{Log, adding, chronicle_of, last_moment, nodes, start_of}
use Rattle.nd_link_log.specs.Event.{passing}
use Rattle.nd_link_log.specs.History.{Walk, over, adds, passes}
use Rattle.nd_link_log.proofs.Carried.{AllBring, bring_with}
use Rattle.nd_link_log.proofs.Chronicles.{row_of, start_with}
use Rattle.nd_link_log.proofs.Moments.{EachAt, RisesTo, due_at, rises_with}
use Rattle.nd_link_log.proofs.Nodes.{Numbered, RowsThere, is_there, numbered_with, there_with}

-- Its moments rise up to this one, its nodes are numbered, and who has a row is there; and if what is passed in is bytes, each frame that was
-- carried brought what it had to.
pub record Kept (Bytes : Type 0) (log : Log) (at : ℕ) : Type 0 where
  pub rises : RisesTo at log
  pub numbered : Numbered log
  pub there : RowsThere log
  pub bring : Bytes → AllBring log

pub kept_with : (Bytes : Type 0) (at node : ℕ) (rows : Chronicle) (log : Log) → EachAt at rows → is_some (start_of node log) ≡ true → Kept Bytes log at
    → Kept Bytes (adding node rows log) at
kept_with Bytes at node rows log each here g = record {
  rises = rises_with at node rows log each g.rises;
  numbered = numbered_with node rows log g.numbered;
  there = there_with node rows log here g.there;
  bring = λ b. bring_with node rows log (g.bring b);
}

kept_later : (Bytes : Type 0) (log : Log) (at later : ℕ) → at ≤ later → Kept Bytes log at → Kept Bytes log later
kept_later Bytes log at later le g = record {
  rises = record { rising = g.rises.rising; by = let by = g.rises.by in omega (arith, by, le) };
  numbered = g.numbered;
  there = g.there;
  bring = g.bring;
}

-- ---- a walk

pub walk_start : {log d : Log} {moment end : ℕ} → Walk log moment end d → (i : ℕ) → start_of i d ≡ start_of i log
walk_start (over lt) i = refl
walk_start {log = log} (adds node start what rows le is due idle gives w) i = walk_start w i ∙ start_with i node rows log
walk_start (passes le idle w) i = walk_start w i

pub kept_walk : (Bytes : Type 0) {log d : Log} {moment end : ℕ} → Walk log moment end d → (last : ℕ) → last ≤ moment → last ≤ end → Kept Bytes log last → Kept Bytes d end
kept_walk Bytes {log = log} {end = end} (over lt) last le more g = kept_later Bytes log last end more g
kept_walk Bytes {log = log} {moment = moment} {end = end} (adds node start what rows within is due idle gives w) last le more g =
    kept_walk Bytes w moment (omega arith) within
    (kept_with Bytes moment node rows log (due_at start moment (chronicle_of node log) what rows gives) (ap is_some is) (kept_later Bytes log last moment le g))
kept_walk Bytes (passes within idle w) last le more g = kept_walk Bytes w last (omega (arith, le)) more g

-- ---- time passes at each node

module _ (now : ℕ) (log : Log) where
  pub start_passing : (k i : ℕ) → start_of i (passing now k log) ≡ start_of i log
  start_passing zero i = refl
  start_passing (suc k) i = start_passing k i

  pub moment_passing : (k : ℕ) → last_moment log ≡ now → last_moment (passing now k log) ≡ now
  moment_passing zero e = e
  moment_passing (suc k) e = refl

  pub kept_passing : (Bytes : Type 0) (k : ℕ) → k ≤ nodes log → Kept Bytes log now → Kept Bytes (passing now k log) now
  kept_passing Bytes zero le g = g
  kept_passing Bytes (suc k) le g =
      kept_with Bytes now k ((now, Passed) ∷ []) (passing now k log) (refl, tt) (ap is_some (start_passing k k) ∙ is_there k log g.numbered (omega (arith, le))) (kept_passing Bytes k (omega (arith, le)) g)

  pub still : (k i : ℕ) → k ≤ i → chronicle_of i (passing now k log) ≡ chronicle_of i log
  still zero i le = refl
  still (suc k) i le = by (k == i) refl (still k i (omega (arith, le)))
    where
      by : (own : Bool) → (k == i) ≡ own → chronicle_of i (passing now k log) ≡ chronicle_of i log → chronicle_of i (passing now (suc k) log) ≡ chronicle_of i log
      by true e below = absurd (let same = (Decides-eqb k i).0 e in omega (arith, same, le))
      by false e below = row_of false i k now Passed (passing now k log) e ∙ below

  pub passed : (k i : ℕ) → i < k → chronicle_of i (passing now k log) ≡ (now, Passed) ∷ chronicle_of i log
  passed zero i lt = absurd (omega (arith, lt))
  passed (suc k) i lt = by (k == i) refl (passed k i)
    where
      by : (own : Bool) → (k == i) ≡ own → (i < k → chronicle_of i (passing now k log) ≡ (now, Passed) ∷ chronicle_of i log)
          → chronicle_of i (passing now (suc k) log) ≡ (now, Passed) ∷ chronicle_of i log
      by true e below =
          let same = (Decides-eqb k i).0 e in
          row_of true i k now Passed (passing now k log) e ∙ ap (λ (c : Chronicle). (now, Passed) ∷ c) (still k i (omega (arith, same)))
      by false e below =
          row_of false i k now Passed (passing now k log) e
          ∙ below (⊎_elim (λ less. less) (λ more. absurd (let is : k ≡ i = omega (arith, lt, more) in true≢false (sym ((Decides-eqb k i).1 is) ∙ e))) (cases_lt i k))
