-- The nodes of a link stand for what is added to its log.
use Rattle.std.proofs.Common.{◌≡◌, ◌≢◌, ℕ, ◌<◌, ◌≤◌, Bool, true, false, List, [], length, set, Some, None, refl, sym, ◌∙◌, ap, subst, arith, ◌++◌, ⊎_elim}
use Rattle.std.specs.Prelude.{◌==◌, slice_get}
use Rattle.std.proofs.lemmas.Bool.{cases_lt, eqb-false, ne_eqb}
use Rattle.std.proofs.lemmas.Bool.Decides.{Decides-eqb}
use Rattle.std.proofs.lemmas.List.{length-set}
use Rattle.std.proofs.lemmas.Option.{none-some, same_Some, slice_get_within}
use Rattle.rand_core.specs.Stream.{Stream}
use Rattle.nd_chronicle.specs.Start.{Start}
use Rattle.nd_chronicle.specs.Happening as chronicle
use Rattle.nd_chronicle.specs.Happening.{Chronicle}
use Rattle.nd_chronicle.specs.Due.{Due}
use Rattle.nd_node.specs.declared.node.Node.{Node}
use Rattle.nd_node.specs.NodeKept as node
use Rattle.nd_node.specs.NodeKept.{next_of}
use Rattle.nd_link_log.specs.Log.{Log, adding, chronicle_of, start_of}
use Rattle.nd_link_log.specs.History.{IsIdle}
use Rattle.nd_link_log.proofs.Chronicles.{nodes_with, other_rows, own_rows, start_with}
use Rattle.nd_link.specs.declared.link.Link.{Link}
use Rattle.nd_link.specs.Due.{AreDated}
use Rattle.nd_link.specs.Frames.{kept_frames}
use Rattle.nd_link.specs.Link.{NodeStands, NodesStand, OthersStand, Stands}
use Rattle.nd_link.proofs.Lists.{get_there, set_others, set_own}

module _ {R A : Type 0} (stream : R → Stream) (list : List (Node R A)) (log : Log) (now : ℕ) (s : NodesStand stream list log now) where
  -- nothing is due anywhere at a moment before that of each node
  pub idle_at : (moment : ℕ) → AreDated stream list → (i : ℕ) → ((n : Node R A) → slice_get list i ≡ Some n → moment < next_of n) → IsIdle i log moment
  idle_at moment dated i before = λ start is. ⊎_elim
      (λ less.
      let there = get_there list i less in
      let o = s.each i there.0 there.1 in
      let same : o.start ≡ start = same_Some o.start start (sym o.starts ∙ is) in
      subst (λ (x : Start). Due x (chronicle_of i log) moment None) same ((dated i there.0 there.1 o.start (chronicle_of i log) o.stands).nothing_before moment (before there.0 there.1)))
      (λ more. absurd (none-some start (sym (s.absent i more).starts ∙ is)))
      (cases_lt i (length list))

-- rows are added at one node
module _ {R A : Type 0} (stream : R → Stream) (list : List (Node R A)) (log : Log) (now i : ℕ) (s : OthersStand stream list log now i) (new : Node R A) (rows : Chronicle) (later : ℕ)
    (there : i < length list) (start : Start) (starts : start_of i log ≡ Some start) (stands : node.Stands stream start new (rows ++ chronicle_of i log))
    (by_then : chronicle.last_moment start.at (rows ++ chronicle_of i log) ≤ later) (ahead : later ≤ next_of new) (onward : now ≤ later)
    (others : (j : ℕ) (n : Node R A) → i ≢ j → slice_get list j ≡ Some n → later ≤ next_of n) where
  own : NodeStands stream (adding i rows log) later i new
  own = record {
    start = start;
    starts = start_with i i rows log ∙ starts;
    stands = subst (node.Stands stream start new) (sym (own_rows i rows log)) stands;
    by_then = subst (λ (c : Chronicle). chronicle.last_moment start.at c ≤ later) (sym (own_rows i rows log)) by_then;
    ahead = ahead;
  }

  other : (j : ℕ) (n : Node R A) → (i == j) ≡ false → slice_get list j ≡ Some n → NodeStands stream (adding i rows log) later j n
  other j n ne is =
      let o = s.each j n (λ e. eqb-false i j ne (sym e)) is in
      let by = o.by_then in record {
        start = o.start;
        starts = start_with j i rows log ∙ o.starts;
        stands = subst (node.Stands stream o.start n) (sym (other_rows j i rows log ne)) o.stands;
        by_then = subst (λ (c : Chronicle). chronicle.last_moment o.start.at c ≤ later) (sym (other_rows j i rows log ne)) (omega (arith, by, onward));
        ahead = others j n (eqb-false i j ne) is;
      }

  pub rows_stand : NodesStand stream (set list i new) (adding i rows log) later
  rows_stand = record {
    count = length-set list i new ∙ s.count ∙ sym (nodes_with i rows log);
    each = λ j n is. by j n (i == j) refl is;
    absent = λ j more.
        let past : length list ≤ j = subst (λ (k : ℕ). k ≤ j) (length-set list i new) more in
        let a = s.absent j past in record {
          starts = start_with j i rows log ∙ a.starts;
          rows = other_rows j i rows log (ne_eqb i j (λ e. absurd (omega (arith, past, there, e)))) ∙ a.rows;
        };
  }
    where
      by : (j : ℕ) (n : Node R A) (b : Bool) → (i == j) ≡ b → slice_get (set list i new) j ≡ Some n → NodeStands stream (adding i rows log) later j n
      by j n true e is =
          let same : i ≡ j = (Decides-eqb i j).0 e in
          let mine = set_own list i new n (subst (λ (k : ℕ). slice_get (set list i new) k ≡ Some n) (sym same) is) in
          subst (λ (k : ℕ). NodeStands stream (adding i rows log) later k n) same (subst (NodeStands stream (adding i rows log) later i) (sym mine) own)
      by j n false e is = other j n e (sym (set_others list i j new (eqb-false i j e)) ∙ is)

pub others_of : {R A : Type 0} (stream : R → Stream) (list : List (Node R A)) (log : Log) (now but : ℕ) → NodesStand stream list log now → OthersStand stream list log now but
others_of stream list log now but s = record { count = s.count; each = λ i n ne is. s.each i n is; absent = s.absent }

-- all but that of a number which no node has
pub all_of : {R A : Type 0} (stream : R → Stream) (list : List (Node R A)) (log : Log) (now but : ℕ) → length list ≤ but → OthersStand stream list log now but → NodesStand stream list log now
all_of stream list log now but le s = record {
  count = s.count;
  each = λ i n is. s.each i n (λ e. let lt = slice_get_within list i n is in omega (arith, lt, le, e)) is;
  absent = s.absent;
}

-- no node has started where there is none
pub none_started : {W R A : Type 0} (stream : R → Stream) (link : Link W R A) → link.nodes.items ≡ [] → link.frames.items ≡ [] → link.last ≡ 0 → Stands stream link []
none_started {W} {R} {A} stream link no_nodes no_frames start = record {
  nodes = record {
    count = ap length no_nodes;
    each = λ i n is. absurd (none-some n (subst (λ (l : List (Node R A)). slice_get l i ≡ Some n) no_nodes is));
    absent = λ i le. record { starts = refl; rows = refl };
  };
  frames = ap kept_frames no_frames;
  last = start;
}
