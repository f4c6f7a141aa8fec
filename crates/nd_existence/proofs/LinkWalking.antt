-- Each millisecond of a link ends, and so does a walk up to a moment.
use Rattle.std.proofs.Common.{◌≡◌, ℕ, zero, suc, ◌+◌, ◌<◌, ◌≤◌, true, false, [], ◌++◌, Option, Some, None, refl, sym, ◌∙◌, ap, subst, arith, inl, inr}
use Rattle.std.specs.Prelude.{◌==◌, is_some}
use Rattle.std.proofs.lemmas.Bool.{true≢false, cases_lt, cases_Bool, ne_eqb}
use Rattle.std.proofs.lemmas.Bool.Decides.{Decides-eqb}
use Rattle.std.proofs.lemmas.Option.{same_Some}
use Rattle.nd_chronicle.specs.Start.{Start}
use Rattle.nd_chronicle.specs.Happening.{Chronicle}
use Rattle.nd_chronicle.specs.Due.{Due, comes}
use Rattle.nd_chronicle.specs.History as node
use Rattle.nd_chronicle.proofs.Growth.{comes_grows}
use Rattle.nd_link_log.specs.Log.{Log, nodes, start_of, chronicle_of, adding}
use Rattle.nd_link_log.specs.History.{IsIdle, Walk, over, adds, passes}
use Rattle.nd_link_log.proofs.Chronicles.{own_rows, other_rows, start_with, nodes_with}
use Rattle.nd_link_log.proofs.Nodes.{Numbered, numbered_with, is_there, none_there}
use Rattle.nd_existence.specs.Intervals.{AreTimed}
use Rattle.nd_existence.proofs.Walking.{walked}
use Rattle.nd_existence.proofs.Timing.{comes_timed}

-- the nodes are numbered, and the settings of each leave some time
pub record IsFine (log : Log) : Type 0 where
  pub numbered : Numbered log
  pub timed : (i : ℕ) → AreTimed (chronicle_of i log)

-- where nothing happened all is fine
pub fine_nothing : IsFine []
fine_nothing = record { numbered = tt; timed = λ i. tt }

pub there_is : (o : Option Start) → is_some o ≡ true → (start : Start) × (o ≡ Some start)
there_is None is = absurd (true≢false (sym is))
there_is (Some start) is = (start, refl)

-- rows of a node leave the log fine where its chronicle is
pub fine_with : (at : ℕ) (rows : Chronicle) (log : Log) → IsFine log → AreTimed (rows ++ chronicle_of at log) → IsFine (adding at rows log)
fine_with at rows log fine own = record {
  numbered = numbered_with at rows log fine.numbered;
  timed = each;
}
  where
    each : (i : ℕ) → AreTimed (chronicle_of i (adding at rows log))
    each i = elim (cases_Bool (at == i)) [
      | inl e ↦
          let same : at ≡ i = (Decides-eqb at i).0 e in
          subst (λ (j : ℕ). AreTimed (chronicle_of j (adding at rows log))) same (subst AreTimed (sym (own_rows at rows log)) own)
      | inr e ↦ subst AreTimed (sym (other_rows i at rows log e)) (fine.timed i)
    ]

module _ (m end : ℕ) (le : m ≤ end) where
  abbrev pub Leads : Log → Type 0
  Leads log = (d : Log) × Walk log m end d × IsFine d

  -- nothing is due at the nodes below this one
  abbrev Below : ℕ → Log → Type 0
  Below i log = (other : ℕ) → other < i → IsIdle other log m

  below_with : (i : ℕ) (rows : Chronicle) (log : Log) → Below i log → Below i (adding i rows log)
  below_with i rows log below other lt start is =
      subst (λ (c : Chronicle). Due start c m None) (sym (other_rows other i rows log (ne_eqb i other (λ e. absurd (omega (arith, lt, e))))))
      (below other lt start (sym (start_with other i rows log) ∙ is))

  -- a node is walked through the millisecond
  node_walked : (i : ℕ) (start : Start) {c d : Chronicle} {from to : ℕ} → node.Walk start c from to d → from ≡ m → to ≡ m → (log : Log) → chronicle_of i log ≡ c → start_of i log ≡ Some start
      → IsFine log → Below i log → ((later : Log) → nodes later ≡ nodes log → IsFine later → Below (suc i) later → Leads later) → Leads log
  node_walked i start (node.over lt) f t log is there fine below rest = absurd (omega (arith, lt, f, t))
  node_walked i start {c = c} {from = from} (node.passes le' due w) f t log is there fine below rest =
      rest log refl fine upto
    where
      here : IsIdle i log m
      here other there' =
          let same : start ≡ other = same_Some start other (sym there ∙ there') in
          subst (λ (s : Start). Due s (chronicle_of i log) m None) same (subst (λ (x : Chronicle). Due start x m None) (sym is) (subst (λ (n : ℕ). Due start c n None) f due))

      upto : Below (suc i) log
      upto other lt = elim (cases_lt other i) [
        | inl less ↦ below other less
        | inr ge ↦ let e : i ≡ other = omega (arith, lt, ge) in subst (λ (j : ℕ). IsIdle j log m) e here
      ]
  node_walked i start {c = c} {from = from} (node.adds what le' due w) f t log is there fine below rest =
      let g = comes_grows from start what c in
      let rows = g.newer in
      let chronicle_is : chronicle_of i (adding i rows log) ≡ comes start from what c = own_rows i rows log ∙ (ap (λ x. rows ++ x) is ∙ sym g.all) in
      let gives : comes start m what (chronicle_of i log) ≡ rows ++ chronicle_of i log =
      ap (λ x. comes start m what x) is ∙ (ap (λ n. comes start n what c) (sym f) ∙ (g.all ∙ ap (λ x. rows ++ x) (sym is))) in
      let timed : AreTimed (comes start from what c) = comes_timed start from what c (subst AreTimed is (fine.timed i)) in
      let fine' : IsFine (adding i rows log) = fine_with i rows log fine (subst AreTimed (g.all ∙ ap (λ x. rows ++ x) (sym is)) timed) in
      let l = node_walked i start w f t (adding i rows log) chronicle_is (start_with i i rows log ∙ there) fine' (below_with i rows log below)
      (λ later same fine'' below'. rest later (same ∙ nodes_with i rows log) fine'' below') in
      (l.0, adds i start what rows le there (subst (λ (x : Chronicle). Due start x m (Some what)) (sym is) (subst (λ (n : ℕ). Due start c n (Some what)) f due)) below gives l.1, l.2)

  module _ (rest : (log : Log) → IsFine log → ((i : ℕ) → IsIdle i log m) → Leads log) where
    all_walked : (left i : ℕ) (log : Log) → i + left ≡ nodes log → IsFine log → Below i log → Leads log
    all_walked zero i log e fine below = rest log fine idle
      where
        idle : (j : ℕ) → IsIdle j log m
        idle j start there = elim (cases_lt j i) [
          | inl lt ↦ below j lt start there
          | inr ge ↦ absurd (true≢false (sym (ap is_some there) ∙ none_there j log fine.numbered (omega (arith, ge, e))))
        ]
    all_walked (suc left) i log e fine below =
        let s = there_is (start_of i log) (is_there i log fine.numbered (omega (arith, e))) in
        let w = walked s.0 m 1 (chronicle_of i log) m (omega arith) (fine.timed i) in
        node_walked i s.0 w.1 refl refl log refl s.1 fine below (λ later same fine' below'. all_walked left (suc i) later (omega (arith, e, same)) fine' below')

    pub one_millisecond : (log : Log) → IsFine log → Leads log
    one_millisecond log fine = all_walked (nodes log) 0 log (omega arith) fine (λ other lt. absurd (omega (arith, lt)))

-- from each log a walk leads up to each moment
pub link_walked : (end left : ℕ) (log : Log) (m : ℕ) → m + left ≡ end + 1 → IsFine log → (d : Log) × Walk log m end d × IsFine d
link_walked end zero log m e fine = (log, over (omega (arith, e)), fine)
link_walked end (suc left) log m e fine =
    let le : m ≤ end = omega (arith, e) in
    one_millisecond m end le
    (λ d fine' idle. let w = link_walked end left d (suc m) (omega (arith, e)) fine' in (w.0, passes le idle w.1, w.2)) log fine
