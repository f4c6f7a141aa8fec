-- Events that come one after the other.
use Rattle.std.proofs.Common.{◌≡◌, ℕ, zero, suc, ◌+◌, ◌<◌, List, [], ◌∷◌, ◌++◌, length, take, drop, get_or, Result, Ok, Err, refl, sym, ◌∙◌, ap, subst, arith}
use Rattle.std.specs.Prelude.{OnErr}
use Rattle.std.proofs.lemmas.List.{length-map}
use Rattle.std.proofs.Math.ListN.{get_or-map}
use Rattle.rand_core.specs.Stream.{Stream}
use Rattle.nd_chronicle.specs.Start.{Start}
use Rattle.nd_chronicle.specs.Happening.{Chronicle}
use Rattle.nd_chronicle.specs.Event as events
use Rattle.nd_chronicle.specs.Answer.{Answer}
use Rattle.nd_chronicle.specs.History.{Follows, Runs}
use Rattle.nd_out.specs.declared.out.Out.{Out}
use Rattle.nd_steps.proofs.Telling.{Tells-then}
use Rattle.nd_node.specs.declared.node.Node.{Node}
use Rattle.nd_node.specs.declared.event.Event.{Event}
use Rattle.nd_node.specs.Event.{event_of, events_of, FollowsBy, RunsBy, RunsInPart}
use Rattle.nd_node.specs.Time.{Leads, Onward}

-- the events before a place, the one there, and those behind it
split_here : {X : Type 0} (xs : List X) (i : ℕ) (x : X) → i < length xs → x ≡ get_or xs i x → xs ≡ take i xs ++ x ∷ drop (suc i) xs
split_here [] i x lt is = absurd (omega (arith, lt))
split_here (y ∷ ys) zero x lt is = ap (λ z. z ∷ ys) (sym is)
split_here (y ∷ ys) (suc i) x lt is = ap (λ l. y ∷ l) (split_here ys i x (omega (arith, lt)) is)

pub split_at_place : {A : Type 0} (list : List (ℕ × Event A)) (i : ℕ) (e : ℕ × Event A) → i < length list → e ≡ get_or list i e
    → events_of list ≡ take i (events_of list) ++ (e.0, event_of e.1) ∷ drop (suc i) (events_of list)
split_at_place {A} list i e lt is =
    let f : ℕ × Event A → ℕ × events.Event = λ x. (x.0, event_of x.1) in
    split_here (events_of list) i (f e) (subst (λ (n : ℕ). i < n) (sym (length-map list f)) lt) (ap f is ∙ sym (get_or-map f list i e))

-- the events up to a place, and the one there
pub take_more : {X : Type 0} (xs : List X) (i : ℕ) (x : X) → i < length xs → x ≡ get_or xs i x → take (suc i) xs ≡ take i xs ++ x ∷ []
take_more [] i x lt is = absurd (omega (arith, lt))
take_more (y ∷ ys) zero x lt is = ap (λ z. z ∷ []) (sym is)
take_more (y ∷ ys) (suc i) x lt is = ap (λ l. y ∷ l) (take_more ys i x (omega (arith, lt)) is)

pub at_place : {A : Type 0} (list : List (ℕ × Event A)) (i : ℕ) (e : ℕ × Event A) → i < length list → e ≡ get_or list i e
    → take (i + 1) (events_of list) ≡ take i (events_of list) ++ (e.0, event_of e.1) ∷ []
at_place {A} list i e lt is =
    let f : ℕ × Event A → ℕ × events.Event = λ x. (x.0, event_of x.1) in
    let more : i + 1 ≡ suc i = omega arith in
    ap (λ (n : ℕ). take n (events_of list)) more
    ∙ take_more (events_of list) i (f e) (subst (λ (n : ℕ). i < n) (sym (length-map list f)) lt) (ap f is ∙ sym (get_or-map f list i e))

-- whatever a failure is made of
pub on_err_any : {T E : Type 0} (r : Result T E) (P : Type 0) → P → OnErr r P
on_err_any (Ok x) P p = tt
on_err_any (Err e) P p = p

abbrev Events : Type 0
Events = List (ℕ × events.Event)

-- one more comes behind those that came
one_more_event : (start : Start) (c d e : Chronicle) (list : Events) (at : ℕ) (event : events.Event) → Runs start c list d → Follows start d at event e → Runs start c (list ++ (at, event) ∷ []) e
one_more_event start c d e [] at event is follows = (e, subst (λ (x : Chronicle). Follows start x at event e) is follows, refl)
one_more_event start c d e (first ∷ list) at event runs follows = (runs.0, runs.1, one_more_event start runs.0 d e list at event runs.2 follows)

module _ {R A : Type 0} (stream : R → Stream) where
  module _ (origin old new : Node R A) (x y z : List (ℕ × Out A)) (list : Events) (sofar : Leads stream origin old x y (RunsBy list)) where
    pub came : (at : ℕ) (event : events.Event) (more : Events) {answer : Answer} → more ≡ list ++ (at, event) ∷ [] → Leads stream old new y z (FollowsBy at event answer) → Leads stream origin new x z (RunsBy more)
    came at event more {answer} is next = record {
      each = λ start c s.
          let l = sofar.each start c s in
          let n = next.each start l.0 l.2 in (
            n.0,
            subst (λ (m : Events). Runs start c m n.0) (sym is) (one_more_event start c l.0 n.0 list at event l.1 n.1.0),
            n.2,
            Tells-then c l.0 n.0 x y z l.3 n.3,
          );
    }

    pub came_in_part : (all : Events) (at : ℕ) (event : events.Event) (later : Events) → all ≡ list ++ (at, event) ∷ later → Leads stream old new y z (Onward at) → Leads stream origin new x z (RunsInPart all)
    came_in_part all at event later is next = record {
      each = λ start c s.
          let l = sofar.each start c s in
          let n = next.each start l.0 l.2 in (
            n.0,
            (list, later, (at, event), l.0, is, l.1, n.1),
            n.2,
            Tells-then c l.0 n.0 x y z l.3 n.3,
          );
    }
