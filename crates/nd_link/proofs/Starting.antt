-- Another node starts.
use Rattle.std.proofs.Common.{◌≡◌, ℕ, suc, ◌<◌, ◌≤◌, Bool, false, List, [], ◌∷◌, ◌++◌, length, append-nil, Some, sym, ◌∙◌, ap, subst, arith, ⊎_elim}
use Rattle.std.specs.Prelude.{slice_get, ◌==◌, if◌then◌else◌}
use Rattle.std.proofs.lemmas.Bool.{cases_lt, ne_eqb}
use Rattle.std.proofs.lemmas.Option.{slice_get_within}
use Rattle.rand_core.specs.Stream.{Stream}
use Rattle.nd_chronicle.specs.Start.{Start}
use Rattle.nd_chronicle.specs.Happening as chronicle
use Rattle.nd_chronicle.specs.Happening.{Chronicle}
use Rattle.nd_chronicle.specs.History.{beginning}
use Rattle.nd_node.specs.declared.node.Node.{Node}
use Rattle.nd_node.specs.NodeKept as node
use Rattle.nd_link_log.specs.Log.{Log, Begins, adding, chronicle_of, nodes, start_of}
use Rattle.nd_link_log.specs.Told.{reports}
use Rattle.nd_link_log.proofs.Chronicles.{nodes_with, other_rows, own_rows, same_number, start_with}
use Rattle.nd_link.specs.Frames.{frames}
use Rattle.nd_link.specs.Link.{NodeStands, NodesStand}
use Rattle.nd_link.proofs.Lists.{push_length, push_others, push_own, same_element}

-- the log once it has started
abbrev pub started : ℕ → Start → Log → Log
started i start log = adding i (beginning start) (Begins i start ∷ log)

start_own : (i : ℕ) (start : Start) (log : Log) → start_of i (Begins i start ∷ log) ≡ Some start
start_own i start log = ap (λ (b : Bool). if b then Some start else start_of i log) (same_number i)

start_other : (i j : ℕ) (start : Start) (log : Log) → (i == j) ≡ false → start_of j (Begins i start ∷ log) ≡ start_of j log
start_other i j start log e = ap (λ (b : Bool). if b then Some start else start_of j log) e

module _ {R A : Type 0} (stream : R → Stream) (list : List (Node R A)) (new : Node R A) (log : Log) (start : Start) (s : NodesStand stream list log start.at)
    (stands : node.Stands stream start new (beginning start)) where
  abbrev place : ℕ
  place = nodes log

  at : length list ≡ place
  at = s.count

  abbrev d : Log
  d = started place start log

  own : NodeStands stream d start.at place new
  own =
      let rows_are : chronicle_of place d ≡ beginning start =
      own_rows place (beginning start) (Begins place start ∷ log) ∙ (ap (λ (c : Chronicle). beginning start ++ c) (s.absent place (omega (arith, let e = at in e))).rows ∙ append-nil (beginning start)) in
      record {
        start = start;
        starts = start_with place place (beginning start) (Begins place start ∷ log) ∙ start_own place start log;
        stands = subst (node.Stands stream start new) (sym rows_are) stands;
        by_then = subst (λ (c : Chronicle). chronicle.last_moment start.at c ≤ start.at) (sym rows_are) (omega arith);
        ahead = stands.in_time;
      }

  other : (j : ℕ) (n : Node R A) → j < length list → slice_get list j ≡ Some n → NodeStands stream d start.at j n
  other j n lt is =
      let o = s.each j n is in
      let e = at in
      let ne : (place == j) ≡ false = ne_eqb place j (λ same. absurd (omega (arith, lt, e, same))) in
      let rows_are = other_rows j place (beginning start) (Begins place start ∷ log) ne in record {
        start = o.start;
        starts = start_with j place (beginning start) (Begins place start ∷ log) ∙ (start_other place j start log ne ∙ o.starts);
        stands = subst (node.Stands stream o.start n) (sym rows_are) o.stands;
        by_then = subst (λ (c : Chronicle). chronicle.last_moment o.start.at c ≤ start.at) (sym rows_are) o.by_then;
        ahead = o.ahead;
      }

  pub nodes_started : NodesStand stream (list ++ new ∷ []) d start.at
  nodes_started = record {
    count = push_length list new ∙ (ap suc at ∙ sym (nodes_with place (beginning start) (Begins place start ∷ log)));
    each = λ j n is. ⊎_elim
        (λ less. other j n less (sym (push_others list j new less) ∙ is))
        (λ more.
        let lt : j < suc (length list) = subst (λ (k : ℕ). j < k) (push_length list new) (slice_get_within (list ++ new ∷ []) j n is) in
        let here : length list ≡ j = omega (arith, more, lt) in
        let same : new ≡ n = same_element (slice_get (list ++ new ∷ []) j) new n (subst (λ (k : ℕ). slice_get (list ++ new ∷ []) k ≡ Some new) here (push_own list new)) is in
        subst (λ (k : ℕ). NodeStands stream d start.at k n) (sym at ∙ here) (subst (NodeStands stream d start.at place) same own))
        (cases_lt j (length list));
    absent = λ j le.
        let past : suc (length list) ≤ j = subst (λ (k : ℕ). k ≤ j) (push_length list new) le in
        let e = at in
        let a = s.absent j (omega (arith, past)) in
        let ne : (place == j) ≡ false = ne_eqb place j (λ same. absurd (omega (arith, past, e, same))) in record {
          starts = start_with j place (beginning start) (Begins place start ∷ log) ∙ (start_other place j start log ne ∙ a.starts);
          rows = other_rows j place (beginning start) (Begins place start ∷ log) ne ∙ a.rows;
        };
  }

-- a beginning reports nothing, and sends nothing
pub frames_started : (i : ℕ) (start : Start) (log : Log) → frames (started i start log) ≡ frames log
frames_started i start log = append-nil _ ∙ (append-nil _ ∙ append-nil (frames log))

pub reports_started : (i : ℕ) (start : Start) (log : Log) → reports (started i start log) ≡ reports log
reports_started i start log = append-nil _ ∙ (append-nil _ ∙ (append-nil _ ∙ append-nil (reports log)))
