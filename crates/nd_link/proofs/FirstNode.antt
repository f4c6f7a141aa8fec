-- The first of the nodes at which something is due.
use Rattle.std.proofs.Common.{◌≡◌, ℕ, suc, ◌+◌, ◌<◌, ◌≤◌, Bool, true, false, List, [], ◌∷◌, ◌++◌, length, take, get_or, Option, Some, None, refl, sym, ◌∙◌, ap, subst, arith, ⊎_elim}
use Rattle.std.specs.Prelude.{slice_get, nat_lt, if◌then◌else◌}
use Rattle.std.proofs.lemmas.Bool.{cases_lt, ltb-false}
use Rattle.std.proofs.lemmas.Bool.Decides.{Decides-ltb}
use Rattle.std.proofs.lemmas.List.{length-take-le}
use Rattle.std.proofs.lemmas.Option.{none-some, slice_get_cases, slice_get_within}
use Rattle.rand_core.specs.Stream.{Stream}
use Rattle.nd_chronicle.specs.Start.{Start}
use Rattle.nd_chronicle.specs.Happening.{Chronicle}
use Rattle.nd_node.specs.declared.node.Node.{Node}
use Rattle.nd_node.specs.Node.{NextDue}
use Rattle.nd_node.specs.NodeKept.{Stands, next_of}
use Rattle.nd_node.proofs.Running.{take_more}
use Rattle.nd_link.specs.Due.{AreDated, AreSettled, FirstDue, IsFirst, earlier}
use Rattle.nd_link.proofs.Lists.{push_length, push_others, push_own, same_element}

module _ {R A : Type 0} (stream : R → Stream) (list : List (Node R A)) (n : Node R A) where
  abbrev pub IsDated : Type 0
  IsDated = (start : Start) (c : Chronicle) → Stands stream start n c → NextDue start c (next_of n)

  -- what holds of each, where it holds of those before and of the last
  each_of : (P : ℕ → Node R A → Type 0) → ((i : ℕ) (m : Node R A) → slice_get list i ≡ Some m → P i m) → P (length list) n → (i : ℕ) (m : Node R A) → slice_get (list ++ n ∷ []) i ≡ Some m → P i m
  each_of P before last i m is = ⊎_elim
      (λ less. before i m (sym (push_others list i n less) ∙ is))
      (λ more.
      let lt : i < suc (length list) = subst (λ (k : ℕ). i < k) (push_length list n) (slice_get_within (list ++ n ∷ []) i m is) in
      let at : length list ≡ i = omega (arith, more, lt) in
      let same : n ≡ m = same_element (slice_get (list ++ n ∷ []) i) n m (subst (λ (k : ℕ). slice_get (list ++ n ∷ []) k ≡ Some n) at (push_own list n)) is in
      subst (P i) same (subst (λ (k : ℕ). P k n) at last))
      (cases_lt i (length list))

  dated_more : AreDated stream list → IsDated → AreDated stream (list ++ n ∷ [])
  dated_more before last = each_of (λ i m. (start : Start) (c : Chronicle) → Stands stream start m c → NextDue start c (next_of m)) before last

  -- the one that was first stays first
  pub first_stays : (place least : ℕ) → IsFirst stream list place least → IsDated → least ≤ next_of n → IsFirst stream (list ++ n ∷ []) place least
  first_stays place least first last le =
      let within = first.within in record {
        within = subst (λ (k : ℕ). place < k) (sym (push_length list n)) (omega (arith, within));
        is = λ m there. first.is m (sym (push_others list place n within) ∙ there);
        least = each_of (λ i m. least ≤ next_of m) first.least le;
        first = λ i m less there. first.first i m less (sym (push_others list i n (omega (arith, less, within))) ∙ there);
        dated = dated_more first.dated last;
      }

  -- the last one is first now
  module _ (dated : AreDated stream list) (last : IsDated) (later : (i : ℕ) (m : Node R A) → slice_get list i ≡ Some m → next_of n < next_of m) where
    pub last_is_first : (place due : ℕ) → place ≡ length list → due ≡ next_of n → IsFirst stream (list ++ n ∷ []) place due
    last_is_first place due at is = record {
      within = subst (λ (k : ℕ). place < k) (sym (push_length list n)) (omega (arith, at));
      is = λ m there.
          let own = subst (λ (k : ℕ). slice_get (list ++ n ∷ []) k ≡ Some n) (sym at) (push_own list n) in
          subst (λ (x : Node R A). next_of x ≡ due) (same_element (slice_get (list ++ n ∷ []) place) n m own there) (sym is);
      least = each_of (λ i m. due ≤ next_of m) (λ i m there. let lt = later i m there in omega (arith, lt, is)) (omega (arith, is));
      first = λ i m less there. let lt = later i m (sym (push_others list i n (omega (arith, less, at))) ∙ there) in omega (arith, lt, is);
      dated = dated_more dated last;
    }

module _ {R A : Type 0} (stream : R → Stream) where
  pub none_dated : (list : List (Node R A)) → list ≡ [] → AreDated stream list
  none_dated list e = subst (AreDated stream) (sym e) (λ i m is start c s. absurd (none-some m is))

  pub none_later : (list : List (Node R A)) (P : ℕ → Node R A → Type 0) → list ≡ [] → (i : ℕ) (m : Node R A) → slice_get list i ≡ Some m → P i m
  none_later list P e i m is = absurd (none-some m (subst (λ (l : List (Node R A)). slice_get l i ≡ Some m) e is))

  -- the first of some, and of one more
  one_more : (list : List (Node R A)) (n : Node R A) (first : Option (ℕ × ℕ)) → IsDated stream list n → FirstDue stream list first → FirstDue stream (list ++ n ∷ []) (earlier first (length list) (next_of n))
  one_more list n None dated none =
      last_is_first stream list n (none_dated list none) dated (none_later list (λ i m. next_of n < next_of m) none) (length list) (next_of n) refl refl
  one_more list n (Some f) dated is = by (nat_lt (next_of n) f.1) refl
    where
      by : (t : Bool) → nat_lt (next_of n) f.1 ≡ t → FirstDue stream (list ++ n ∷ []) (if t then Some (length list, next_of n) else Some f)
      by true e =
          let lt = (Decides-ltb (next_of n) f.1).0 e in
          last_is_first stream list n is.dated dated (λ i m there. let le = is.least i m there in omega (arith, lt, le)) (length list) (next_of n) refl refl
      by false e = first_stays stream list n f.0 f.1 is dated (ltb-false (next_of n) f.1 e)

  pub first_more : (nodes : List (Node R A)) (i : ℕ) (n : Node R A) (first : Option (ℕ × ℕ)) (due : ℕ) → i < length nodes → n ≡ get_or nodes i n → due ≡ next_of n → IsDated stream nodes n → FirstDue stream (take i nodes) first
      → FirstDue stream (take (i + 1) nodes) (earlier first i due)
  first_more nodes i n first due lt is due_is dated sofar =
      let count : length (take i nodes) ≡ i = length-take-le i nodes (omega (arith, lt)) in
      let more : i + 1 ≡ suc i = omega arith in
      subst (λ (l : List (Node R A)). FirstDue stream l (earlier first i due)) (sym (ap (λ (k : ℕ). take k nodes) more ∙ take_more nodes i n lt is))
      (subst (λ (m : ℕ). FirstDue stream (take i nodes ++ n ∷ []) (earlier first i m)) (sym due_is)
      (subst (λ (k : ℕ). FirstDue stream (take i nodes ++ n ∷ []) (earlier first k (next_of n))) count (one_more (take i nodes) n first dated sofar)))

-- the first node has nothing due where none has
pub none_first : {R A : Type 0} (stream : R → Stream) (nodes : List (Node R A)) (place moment now : ℕ) → IsFirst stream nodes place moment → moment ≤ now → AreSettled now nodes → ⊥
none_first stream nodes place moment now first due settled = ⊎_elim
    (λ there. let lt = settled place there.0 there.2 in let is = first.is there.0 there.2 in absurd (omega (arith, lt, is, due)))
    (λ past. let le = past.0 in let within = first.within in absurd (omega (arith, le, within)))
    (slice_get_cases nodes place).1
