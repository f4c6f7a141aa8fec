-- Time passes at the nodes of a link.
use Rattle.std.proofs.Common.{◌≡◌, ◌≢◌, ℕ, zero, suc, ◌+◌, ◌<◌, ◌≤◌, List, ◌∷◌, length, set, append-nil, Some, refl, sym, ◌∙◌, ap, subst, arith, ⊎_elim}
use Rattle.std.proofs.lemmas.Bool.{cases_lt}
use Rattle.std.specs.Prelude.{slice_get}
use Rattle.rand_core.specs.Stream.{Stream}
use Rattle.nd_chronicle.specs.Happening as chronicle
use Rattle.nd_chronicle.specs.Happening.{Chronicle, Passed}
use Rattle.nd_node.specs.declared.node.Node.{Node}
use Rattle.nd_node.specs.NodeKept as node
use Rattle.nd_node.specs.NodeKept.{next_of}
use Rattle.nd_link_log.specs.Log.{Log, Reaches, chronicle_of, last_moment, nodes, start_of}
use Rattle.nd_link_log.specs.Event.{passing}
use Rattle.nd_link_log.specs.Told.{reports}
use Rattle.nd_link_log.proofs.Kept.{moment_passing, passed, start_passing, still}
use Rattle.nd_link.specs.Arrival.{reached}
use Rattle.nd_link.specs.Due.{AreSettled}
use Rattle.nd_link.specs.Frames.{frames}
use Rattle.nd_link.specs.Link.{NodesStand, OthersStand}
use Rattle.nd_link.specs.Passing.{OthersPass, PassesTo}
use Rattle.std.specs.declared.vec.Vec.{Vec}
use Rattle.std.specs.Vec.{with_items}
use Rattle.std.proofs.lemmas.List.{length-set, with_items_is}
use Rattle.std.proofs.lemmas.Option.{slice_get_within}
use Rattle.nd_link.proofs.Lists.{set_others, set_own}

-- ---- at one node after the other

-- time has passed at those before a place
pub record PassedUpTo {R A : Type 0} (stream : R → Stream) (now but place : ℕ) (old new : List (Node R A)) : Type 0 where
  pub count : length new ≡ length old
  pub passed : (i : ℕ) (m : Node R A) → i < place → i ≢ but → slice_get new i ≡ Some m → (n : Node R A) × (slice_get old i ≡ Some n) × PassesTo stream now n m
  pub rest : (i : ℕ) → place ≤ i → slice_get new i ≡ slice_get old i
  pub own : slice_get new but ≡ slice_get old but

module _ {R A : Type 0} (stream : R → Stream) (now but : ℕ) (old : List (Node R A)) where
  module _ (place : ℕ) (list : List (Node R A)) (p : PassedUpTo stream now but place old list) where
    pub one_left : place ≡ but → PassedUpTo stream now but (place + 1) old list
    one_left e = record {
      count = p.count;
      passed = λ i m lt ne is. p.passed i m (below i lt (λ same. ne (same ∙ e))) ne is;
      rest = λ i le. p.rest i (omega (arith, le));
      own = p.own;
    }
      where
        below : (i : ℕ) → i < place + 1 → i ≢ place → i < place
        below i lt ne = ⊎_elim (λ less. less) (λ more. absurd (let same : i ≡ place = omega (arith, lt, more) in ne same)) (cases_lt i place)

    pub one_passed : (n m : Node R A) → slice_get list place ≡ Some n → PassesTo stream now n m → place ≢ but → PassedUpTo stream now but (place + 1) old (set list place m)
    one_passed n m there passes ne = record {
      count = length-set list place m ∙ p.count;
      passed = λ i x lt other is. by i x lt other is;
      rest = λ i le. set_others list place i m (λ e. absurd (omega (arith, le, e))) ∙ p.rest i (omega (arith, le));
      own = set_others list place but m ne ∙ p.own;
    }
      where
        own_one : (x : Node R A) → slice_get (set list place m) place ≡ Some x → (o : Node R A) × (slice_get old place ≡ Some o) × PassesTo stream now o x
        own_one x is = (n, sym (p.rest place (omega arith)) ∙ there, subst (PassesTo stream now n) (sym (set_own list place m x is)) passes)

        by : (i : ℕ) (x : Node R A) → i < place + 1 → i ≢ but → slice_get (set list place m) i ≡ Some x → (o : Node R A) × (slice_get old i ≡ Some o) × PassesTo stream now o x
        by i x lt other is = ⊎_elim
            (λ less. p.passed i x less other (sym (set_others list place i m (λ e. absurd (omega (arith, less, e)))) ∙ is))
            (λ more.
            let at : place ≡ i = omega (arith, more, lt) in
            subst (λ (k : ℕ). (o : Node R A) × (slice_get old k ≡ Some o) × PassesTo stream now o x) at (own_one x (subst (λ (k : ℕ). slice_get (set list place m) k ≡ Some x) (sym at) is)))
            (cases_lt i place)

  pub all_passed : (place : ℕ) (list : List (Node R A)) → length list ≤ place → PassedUpTo stream now but place old list → OthersPass stream now but old list
  all_passed place list le p = record {
    count = p.count;
    passed = λ i m ne is. p.passed i m (let lt = slice_get_within list i m is in omega (arith, lt, le)) ne is;
    own = p.own;
  }

-- who comes later is settled still
pub settled_still : {R A : Type 0} (stream : R → Stream) (now but place : ℕ) (old list : List (Node R A)) → PassedUpTo stream now but place old list → AreSettled now old → (n : Node R A) → slice_get list place ≡ Some n
    → now < next_of n
settled_still stream now but place old list p settled n is = settled place n (sym (p.rest place (omega arith)) ∙ is)

-- ---- what that is to the log

module _ (now : ℕ) (log : Log) where
  frames_passing : (k : ℕ) → frames (passing now k log) ≡ frames log
  frames_passing zero = refl
  frames_passing (suc k) = append-nil (frames (passing now k log)) ∙ frames_passing k

  reports_passing : (k : ℕ) → reports (passing now k log) ≡ reports log
  reports_passing zero = refl
  reports_passing (suc k) = append-nil (reports (passing now k log)) ∙ reports_passing k

  nodes_passing : (k : ℕ) → nodes (passing now k log) ≡ nodes log
  nodes_passing zero = refl
  nodes_passing (suc k) = nodes_passing k

pub frames_reached : (now : ℕ) (log : Log) → frames (reached now log) ≡ frames log
frames_reached now log = frames_passing now (Reaches now ∷ log) (nodes log)

pub reports_reached : (now : ℕ) (log : Log) → reports (reached now log) ≡ reports log
reports_reached now log = reports_passing now (Reaches now ∷ log) (nodes log) ∙ append-nil (reports log)

pub moment_reached : (now : ℕ) (log : Log) → last_moment (reached now log) ≡ now
moment_reached now log = moment_passing now (Reaches now ∷ log) (nodes log) refl

pub nodes_reached : (now : ℕ) (log : Log) → nodes (reached now log) ≡ nodes log
nodes_reached now log = nodes_passing now (Reaches now ∷ log) (nodes log)

pub start_reached : (now : ℕ) (log : Log) (i : ℕ) → start_of i (reached now log) ≡ start_of i log
start_reached now log i = start_passing now (Reaches now ∷ log) (nodes log) i

pub chronicle_reached : (now : ℕ) (log : Log) (i : ℕ) → i < nodes log → chronicle_of i (reached now log) ≡ (now, Passed) ∷ chronicle_of i log
chronicle_reached now log i lt = passed now (Reaches now ∷ log) (nodes log) i lt

pub absent_reached : (now : ℕ) (log : Log) (i : ℕ) → nodes log ≤ i → chronicle_of i (reached now log) ≡ chronicle_of i log
absent_reached now log i le = still now (Reaches now ∷ log) (nodes log) i le

module _ {R A : Type 0} (stream : R → Stream) (old new : List (Node R A)) (log : Log) (last now but : ℕ) (s : NodesStand stream old log last) (in_time : last ≤ now)
    (p : OthersPass stream now but old new) where
  pub others_reached : OthersStand stream new (reached now log) now but
  others_reached = record {
    count = p.count ∙ s.count ∙ sym (nodes_reached now log);
    each = λ i m ne is.
        let q = p.passed i m ne is in
        let o = s.each i q.0 q.1 in
        let by = o.by_then in
        let stands : node.Stands stream o.start m ((now, Passed) ∷ chronicle_of i log) = q.2.each o.start (chronicle_of i log) o.stands (omega (arith, by, in_time)) in
        let lt : i < nodes log = subst (λ (k : ℕ). i < k) s.count (slice_get_within old i q.0 q.1) in
        let is_now = chronicle_reached now log i lt in
        let ahead = stands.in_time in record {
          start = o.start;
          starts = start_reached now log i ∙ o.starts;
          stands = subst (node.Stands stream o.start m) (sym is_now) stands;
          by_then = subst (λ (c : Chronicle). chronicle.last_moment o.start.at c ≤ now) (sym is_now) (omega arith);
          ahead = ahead;
        };
    absent = λ i le.
        let past : length old ≤ i = subst (λ (k : ℕ). k ≤ i) p.count le in
        let a = s.absent i past in record {
          starts = start_reached now log i ∙ a.starts;
          rows = absent_reached now log i (subst (λ (k : ℕ). k ≤ i) s.count past) ∙ a.rows;
        };
  }

-- where the nodes are in a vector
pub passed_in : {R A : Type 0} (stream : R → Stream) (now but : ℕ) (nodes : Vec (Node R A) A) (before after : List (Node R A)) → before ≡ nodes.items → OthersPass stream now but before after
    → OthersPass stream now but nodes.items (with_items nodes after).items
passed_in stream now but nodes before after e p =
    subst (OthersPass stream now but nodes.items) (sym (with_items_is nodes after (p.count ∙ ap length e ∙ sym nodes.ok.0))) (subst (λ l. OthersPass stream now but l after) e p)

-- the one that time hasn't passed at is settled still
pub own_settled : {R A : Type 0} (stream : R → Stream) (now but : ℕ) (old new : List (Node R A)) → OthersPass stream now but old new → AreSettled now old → (n : Node R A) → slice_get new but ≡ Some n → now < next_of n
own_settled stream now but old new p settled n is = settled but n (sym p.own ∙ is)
