-- No two nodes hold the same address, where each attempt for one reaches the other nodes.
use Rattle.std.proofs.Common.{◌≡◌, ◌≢◌, ◌⊎◌, inl, inr, ℕ, ◌*◌, ◌<◌, Bool, true, false, List, ◌∷◌, refl, sym, ◌∙◌, ap, subst, arith, ⊎_elim}
use Rattle.std.specs.Prelude.{◌==◌, not, is_some, if◌then◌else◌}
use Rattle.std.proofs.lemmas.Bool.Decides.{Decides-eqb}
use Rattle.nd_table.specs.History.{Past}
use Rattle.nd_table.proofs.Pasts.{past_self, past_then, past_tail, past_linear}
use Rattle.nd_slaac.specs.History.{Conflict, Story}
use Rattle.nd_slaac.specs.State.{is_assigned, is_known, is_tentative, was_assigned}
use Rattle.nd_slaac.proofs.Histories.{conflict_by}
use Rattle.nd_chronicle.specs.Happening.{Address, Chronicle, Happening, Sent}
use Rattle.nd_chronicle.specs.OwnAddress.{story_of}
use Rattle.nd_link_log.specs.Log.{Log, Adds, Carries, chronicle_of, sent, start_of}
use Rattle.nd_link_log.specs.Holding.{Arrives, HasOneHolder, Holds, IsTrying}
use Rattle.nd_link_log.specs.Attempt.{Attempt, Claims, Tries, beginning_of, ending_of}
use Rattle.nd_link_log.specs.Losing.{LosesLittle, Reaches, answering}
use Rattle.nd_link_log.specs.Sound.{Answers, Brings, Gains, IsSound, Tried}
use Rattle.nd_link_log.proofs.Chronicles.{own_row, past_with, same_number}
use Rattle.nd_link_log.proofs.Frames.{one_frame}
use Rattle.nd_link_log.proofs.Pasts.{there_past}
use Rattle.nd_link_log.proofs.Unique.{frame_in}

-- ---- a conflict

conflict_story : (key at : ℕ) (c : Chronicle) → story_of ((at, Address key Conflict) ∷ c) key ≡ (at, Conflict) ∷ story_of c key
conflict_story key at c = ap (λ (own : Bool). if own then (at, Conflict) ∷ story_of c key else story_of c key) (same_number key)

story_with_it : (node key at : ℕ) (log : Log) → story_of (chronicle_of node (Adds node at (Address key Conflict) ∷ log)) key ≡ (at, Conflict) ∷ story_of (chronicle_of node log) key
story_with_it node key at log = ap (λ (c : Chronicle). story_of c key) (own_row node at (Address key Conflict) log) ∙ conflict_story key at (chronicle_of node log)

-- with it the address is neither tentative nor held
not_trying : (node key at : ℕ) (log : Log) → IsTrying node key (Adds node at (Address key Conflict) ∷ log) → ⊥
not_trying node key at log h =
    let s : Story = story_of (chronicle_of node log) key in
    conflict_by (is_known ((at, Conflict) ∷ s)) (not (was_assigned ((at, Conflict) ∷ s))) (subst (λ (x : Story). is_tentative x ≡ true) (story_with_it node key at log) h)

not_holding : (node key at : ℕ) (log : Log) → Holds node key (Adds node at (Address key Conflict) ∷ log) → ⊥
not_holding node key at log h =
    let s : Story = story_of (chronicle_of node log) key in
    conflict_by (is_known ((at, Conflict) ∷ s)) (was_assigned ((at, Conflict) ∷ s)) (subst (λ (x : Story). is_assigned x ≡ true) (story_with_it node key at log) h)

-- ---- how one node came to hold it

module _ (node key : ℕ) (log : Log) (a : Tried node key log) where
  -- from its forming on it is tentative or held
  untouched : (d : Log) → Past d log → Past (beginning_of a.attempt) d → IsTrying node key d ⊎ Holds node key d
  untouched d p q = ⊎_elim
      (λ before. ⊎_elim (λ here. inr (a.since d p (subst (λ (x : Log). Past (ending_of a.attempt) x) (sym here) (past_self (ending_of a.attempt))))) (λ under. inl (a.attempt.trying d under q)) before)
      (λ after. inr (a.since d p after))
      (past_linear d (ending_of a.attempt) log p a.ended)

  -- so there is no conflict since
  no_conflict : (at : ℕ) (d : Log) → Past (Adds node at (Address key Conflict) ∷ d) log → Past (beginning_of a.attempt) d → ⊥
  no_conflict at d p q = ⊎_elim (not_trying node key at d) (not_holding node key at d) (untouched (Adds node at (Address key Conflict) ∷ d) p (inr q))

-- ---- a frame that is carried

-- it is the frame of its number, which was sent before
pub record Met (log : Log) (node at number : ℕ) (before sending : Log) (frame : List ℕ) : Type 0 where
  pub above : Past sending before
  pub answers : (key : ℕ) → Tries key frame → Holds node key before → (answer : List ℕ) × Claims key answer × Answers log before node at number answer
  pub clashes : (key : ℕ) → Tries key frame ⊎ Claims key frame → IsTrying node key before → Gains log before node at (Address key Conflict)

pub meets : (log : Log) (node at sender when : ℕ) (frame : List ℕ) (earlier before : Log) → Past (Adds sender when (Sent frame) ∷ earlier) log → Past before log
    → Brings log node at (sent earlier) before → Met log node at (sent earlier) before (Adds sender when (Sent frame) ∷ earlier) frame
meets log node at sender when frame earlier before p q b =
    let f = b.is_frame in
    let same = one_frame b.sender sender b.sent_at when b.frame frame f.before earlier log (past_then _ before log f.there q) p f.number_is in
    let is : b.frame ≡ frame = frame_in b.sender sender b.sent_at when b.frame frame f.before earlier same in record {
      above = subst (λ (x : Log). Past x before) same f.there;
      answers = λ key tries holds. b.answers key (subst (λ (x : List ℕ). Tries key x) (sym is) tries) holds;
      clashes = λ key says trying. b.clashes key (subst (λ (x : List ℕ). Tries key x ⊎ Claims key x) (sym is) says) trying;
    }

-- ---- two nodes

module _ (log : Log) (sound : IsSound log) (within : ℕ) (little : LosesLittle within log) (h : Log) (ph : Past h log) (key : ℕ) where
  -- of two nodes the one that formed the address later is answered, or finds it a duplicate; or the other one does
  later_loses : (i j : ℕ) → i ≢ j → (a : Tried i key h) (b : Tried j key h) → Past (beginning_of a.attempt) b.attempt.below → ⊥
  later_loses i j differ a b p =
      let at : Attempt j key = b.attempt in
      let first : Log = beginning_of a.attempt in
      let second : Log = beginning_of at in
      let over_h : Past at.over h = past_tail _ at.over h b.ended in
      let over_log : Past at.over log = past_then at.over h log over_h ph in
      let assigned_log : Past (ending_of at) log = past_then (ending_of at) h log b.ended ph in
      let formed_log : Past second log = past_then second at.over log at.formed_at over_log in
      let waits : 2 * within < at.retrans = little.waits j at.formed key at.delay at.retrans at.lifetimes at.below formed_log in
      let below_log : Past at.below log = past_tail _ at.below log formed_log in
      let first_log : Past first log = past_then first at.below log p below_log in
      -- a solicitation of it arrives at the other one, which was there
      let here : is_some (start_of i at.below) ≡ true =
      there_past i a.attempt.below at.below (past_tail _ a.attempt.below at.below p) (sound.there i a.attempt.formed _ a.attempt.below first_log) in
      let r : Reaches log within at i = little.reaches j key at assigned_log i differ here in
      let s = r.solicitation in
      let told = b.each r.at r.frame r.earlier s in
      let wait = told.1 in
      let c : Arrives log i (sent r.earlier) r.at within = r.arrives in
      let in_time = c.in_time in
      let sending : Log = Adds j r.at (Sent r.frame) ∷ r.earlier in
      let sending_log : Past sending log = past_then sending at.over log s.sends over_log in
      let before_log : Past c.before log = past_tail _ c.before log c.carried in
      let met = meets log i c.at j r.at r.frame r.earlier c.before sending_log before_log (sound.brings i c.at (sent r.earlier) c.before c.carried) in
      let carried_over = sound.in_order (Carries i c.at (sent r.earlier)) _ c.before at.over c.at at.assigned c.carried assigned_log refl refl (omega (arith, in_time, waits, wait)) in
      let before_h : Past c.before h = past_then c.before at.over h (past_tail _ c.before at.over carried_over) over_h in
      let second_before : Past second c.before = past_then second sending c.before (inr s.since) met.above in
      let first_before : Past first c.before = past_then first second c.before (inr p) second_before in
      ⊎_elim
      -- it is tentative there: it finds it a duplicate, and doesn't come to hold it
      (λ trying.
      let g = met.clashes key (inl told.0) trying in
      let g_over = sound.in_order (Adds i c.at (Address key Conflict)) _ g.below at.over c.at at.assigned g.gained assigned_log refl refl (omega (arith, in_time, waits, wait)) in
      no_conflict i key h a c.at g.below (past_then _ at.over h g_over over_h) (past_then first c.before g.below first_before g.above))
      -- it is held there: the answer arrives, and finds it tentative
      (λ holds.
      let said = met.answers key told.0 holds in
      let answer : List ℕ = said.0 in
      let g = said.2 in
      let place : Log = answering i c.at (sent r.earlier) g.rows c.before in
      let sent_back : Log = Adds i c.at (Sent answer) ∷ place in
      let second_place : Past second place =
      past_then second c.before place second_before (past_then c.before (Carries i c.at (sent r.earlier) ∷ c.before) place (inr (past_self c.before)) (past_with i g.rows (Carries i c.at (sent r.earlier) ∷ c.before))) in
      let d : Arrives log j (sent place) c.at within = r.answered answer g.rows said.1 g.sends in
      let back_in_time = d.in_time in
      let there_log : Past d.before log = past_tail _ d.before log d.carried in
      let back = meets log j d.at i c.at answer place d.before g.sends there_log (sound.brings j d.at (sent place) d.before d.carried) in
      let back_over = sound.in_order (Carries j d.at (sent place)) _ d.before at.over d.at at.assigned d.carried assigned_log refl refl (omega (arith, back_in_time, in_time, waits, wait)) in
      let second_there : Past second d.before = past_then second sent_back d.before (inr second_place) back.above in
      let q = back.clashes key (inr said.1) (at.trying d.before (past_tail _ d.before at.over back_over) second_there) in
      let q_over = sound.in_order (Adds j d.at (Address key Conflict)) _ q.below at.over d.at at.assigned q.gained assigned_log refl refl (omega (arith, back_in_time, in_time, waits, wait)) in
      no_conflict j key h b d.at q.below (past_then _ at.over h q_over over_h) (past_then second d.before q.below second_there q.above))
      (untouched i key h a c.before before_h first_before)

node_in : (i j : ℕ) (at when : ℕ) (what other : Happening) (a b : Log) → Adds i at what ∷ a ≡ Adds j when other ∷ b → i ≡ j
node_in i j at when what other a b e = cc

pub one_holder : (log : Log) → IsSound log → (within : ℕ) → LosesLittle within log → HasOneHolder log
one_holder log sound within little h ph i j key hi hj =
    let a : Tried i key h = sound.tried i key h ph hi in
    let b : Tried j key h = sound.tried j key h ph hj in
    by (i == j) refl a b (past_linear (beginning_of a.attempt) (beginning_of b.attempt) h (begun i a) (begun j b))
  where
    begun : (node : ℕ) (t : Tried node key h) → Past (beginning_of t.attempt) h
    begun node t = past_then _ t.attempt.over h t.attempt.formed_at (past_tail _ t.attempt.over h t.ended)

    by : (same : Bool) → (i == j) ≡ same → (a : Tried i key h) (b : Tried j key h) → Past (beginning_of a.attempt) (beginning_of b.attempt) ⊎ Past (beginning_of b.attempt) (beginning_of a.attempt) → i ≡ j
    by true e a b p = (Decides-eqb i j).0 e
    by false e a b p =
        let differ : i ≢ j = λ same. let t : (i == j) ≡ true = (Decides-eqb i j).1 same in let no : ⊥ = cc in no in
        ⊎_elim
        (λ l. ⊎_elim (λ same. node_in i j a.attempt.formed b.attempt.formed _ _ a.attempt.below b.attempt.below same) (λ below. absurd (later_loses log sound within little h ph key i j differ a b below)) l)
        (λ l. ⊎_elim (λ same. sym (node_in j i b.attempt.formed a.attempt.formed _ _ b.attempt.below a.attempt.below same)) (λ below. absurd (later_loses log sound within little h ph key j i (λ same. differ (sym same)) b a below)) l)
        p
