-- What a session does by what its node did: it took a frame or an event, and what was due.
use Rattle.std.proofs.Common.{◌≡◌, ◌≤◌, ℕ, List, Bool, true, false, sym, subst, Ok, Err, inl}
use Rattle.std.specs.Prelude.{◌⊎◌, Result, IfOk, OnOk, OnErr, MatchResult}
use Rattle.std.specs.declared.alloc.AllocError.{AllocError}
use Rattle.std.proofs.lemmas.Bool.{true≢false}
use Rattle.rand_core.specs.Stream.{Stream}
use Rattle.nd_chronicle.specs.Start.{Start}
use Rattle.nd_chronicle.specs.Happening.{Chronicle, Happening}
use Rattle.nd_out.specs.declared.out.Out.{Out}
use Rattle.nd_out.specs.Out.{happening}
use Rattle.nd_steps.specs.Outputs.{happenings, Tells}
use Rattle.nd_addr.specs.declared.addr.Addr.{Addr}
use Rattle.nd_node.specs.declared.node.Node.{Node}
use Rattle.nd_node.specs.declared.resolve.Resolution.{Resolution}
use Rattle.nd_node.specs.Resolve.{answer_by, answer_told, with_answer}
use Rattle.nd_node.specs.declared.answer.Answer.{Answer}
use Rattle.nd_node.specs.declared.frame.Reception.{Reception}
use Rattle.nd_session.specs.Settling.{done, leaves_paths}
use Rattle.nd_chronicle.specs.Answer as answers
use Rattle.nd_chronicle.specs.Event as events
use Rattle.nd_node.specs.Answer.{answer_of}
use Rattle.nd_node.specs.Event.{FollowsBy}
use Rattle.nd_node.specs.EventKept.{AddsEvent}
use Rattle.nd_node.specs.Frame.{Stays}
use Rattle.nd_node.specs.Time.{Leads, Onward, Passes}
use Rattle.nd_node.proofs.Steps.{follows}
use Rattle.nd_session.specs.Reception.{answer_in, changes_tables}

-- ---- a frame

module _ (heard : Result Reception AllocError) where
  -- what is so where the node took it, is so of its answer
  pub answered_of : (r : Result Answer AllocError) → r ≡ answer_in heard → (S : Answer → Type 0) → IfOk heard (λ reception. S reception.answer) → IfOk r S
  answered_of r is S given = subst (λ (x : Result Answer AllocError). IfOk x S) (sym is) (by heard given)
    where
      by : (h : Result Reception AllocError) → IfOk h (λ reception. S reception.answer) → IfOk (answer_in h) S
      by (Ok reception) given' = given'
      by (Err e) given' = tt

  -- and what is so where it failed
  pub failed_of : (P : Type 0) (r : Result Answer AllocError) → r ≡ answer_in heard → OnErr heard P → OnErr r P
  failed_of P r is given = subst (λ (x : Result Answer AllocError). OnErr x P) (sym is) (by heard given)
    where
      by : (h : Result Reception AllocError) → OnErr h P → OnErr (answer_in h) P
      by (Ok reception) given' = tt
      by (Err e) given' = given'

  -- nothing but the last moment has changed
  pub left_alone : (P : Type 0) → changes_tables heard ≡ false → IfOk heard (λ reception. reception.changes_tables ≡ false → P) → P
  left_alone P same given = by heard same given
    where
      by : (h : Result Reception AllocError) → changes_tables h ≡ false → IfOk h (λ reception. reception.changes_tables ≡ false → P) → P
      by (Ok reception) same' given' = given' same'
      by (Err e) same' given' = absurd (true≢false same')

  -- what is so where no table has changed, is so where the node took a frame that changes none
  pub idle_of : (P : Type 0) (r : Result Answer AllocError) → r ≡ answer_in heard → IfOk heard (λ reception. reception.changes_tables ≡ false) → (changes_tables heard ≡ false → P) → OnOk r P
  idle_of P r is idle given = subst (λ (x : Result Answer AllocError). OnOk x P) (sym is) (by heard idle given)
    where
      by : (h : Result Reception AllocError) → IfOk h (λ reception. reception.changes_tables ≡ false) → (changes_tables h ≡ false → P) → OnOk (answer_in h) P
      by (Ok reception) idle' given' = given' idle'
      by (Err e) idle' given' = tt

-- ---- an event

-- what is due is done, and then the event adds what it adds, or nothing
pub event_taken : {R A : Type 0} (stream : R → Stream) (old mid new : Node R A) (x y z : List (ℕ × Out A)) (now : ℕ) (event : events.Event) (r : Result Answer AllocError) → old.last ≤ now
    → Leads stream old mid x y (Onward now) → Leads stream old mid x y (Passes now)
    → IfOk r (λ a. AddsEvent stream mid new y z now event (answer_of a)) → OnErr r (Stays stream mid new) → OnErr r (z ≡ y)
    → MatchResult r (λ a. Leads stream old new x z (FollowsBy now event (answer_of a))) (λ error. Leads stream old new x z (Onward now))
event_taken stream old mid new x y z now event (Ok a) le onward passes adds stays told = follows stream old mid new x y z now event le passes adds
event_taken stream old mid new x y z now event (Err e) le onward passes adds stays told = record {
  each = λ start c s. let (d, to, stood, tells) = onward.each start c s in (d, to, stays.each start d stood, subst (λ (w : List (ℕ × Out _)). Tells c d x w) (sym told) tells);
}

-- ---- what was due

pub done_on_ok : (r : Result Bool AllocError) (s : Result (Unit {0}) AllocError) (P : Type 0) → s ≡ done r → OnOk r P → OnOk s P
done_on_ok (Ok leaves) s P is p = subst (λ (q : Result (Unit {0}) AllocError). OnOk q P) (sym is) p
done_on_ok (Err error) s P is p = subst (λ (q : Result (Unit {0}) AllocError). OnOk q P) (sym is) tt

pub done_on_err : (r : Result Bool AllocError) (s : Result (Unit {0}) AllocError) (P : Type 0) → s ≡ done r → OnErr r P → OnErr s P
done_on_err (Ok leaves) s P is p = subst (λ (q : Result (Unit {0}) AllocError). OnErr q P) (sym is) tt
done_on_err (Err error) s P is p = subst (λ (q : Result (Unit {0}) AllocError). OnErr q P) (sym is) p

-- it has left what it says
pub left_by : (r : Result Bool AllocError) (P : Type 0) → leaves_paths r ≡ true → IfOk r (λ leaves. leaves ≡ true → P) → P
left_by (Ok leaves) P is p = p is
left_by (Err error) P is p = absurd (true≢false (sym is))

-- ---- how far time has passed

-- what is so anyhow is so after an error
pub anyhow : {X P : Type 0} (r : Result X AllocError) → P → OnErr r P
anyhow (Ok x) p = tt
anyhow (Err e) p = p

module _ {R A : Type 0} (stream : R → Stream) (old mid new : Node R A) (x y z : List (ℕ × Out A)) (now : ℕ) where
  -- where what was due is done, and nothing else happens
  pub advanced : Leads stream old mid x y (Passes now) → Stays stream mid new → z ≡ y → Leads stream old new x z (Passes now)
  advanced passes stays told = record {
    each = λ start c s. let (d, to, stood, tells) = passes.each start c s in (d, to, stays.each start d stood, subst (λ (w : List (ℕ × Out _)). Tells c d x w) (sym told) tells);
  }

  -- and then memory runs out
  pub advanced_on_err : {X : Type 0} (P S Q : Type 0) (r : Result X AllocError) → Leads stream old mid x y (Passes now) → OnErr r (Stays stream mid new) → OnErr r (z ≡ y)
      → OnErr r (P → S → Leads stream old new x z (Passes now) ⊎ Q)
  advanced_on_err P S Q (Ok a) passes stays told = tt
  advanced_on_err P S Q (Err e) passes stays told = λ ready empty. inl (advanced passes stays told)
