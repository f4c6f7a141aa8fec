-- A timely link loses little, so that no two nodes on it hold the same address.
use Rattle.std.proofs.Common.{◌≡◌, inr, ℕ, ◌*◌, ◌<◌, ◌≤◌, Bool, true, false, List, [], ◌∷◌, refl, sym, ◌∙◌, ap, subst, arith, ⊎_elim}
use Rattle.std.specs.Prelude.{◌&&◌, not, is_some, if◌then◌else◌}
use Rattle.std.proofs.lemmas.Bool.{true≢false}
use Rattle.nd_table.specs.History.{Past}
use Rattle.nd_table.proofs.Pasts.{past_self, past_then, past_tail, past_linear}
use Rattle.nd_slaac.specs.History.{Assigned, Formed, Story}
use Rattle.nd_slaac.specs.State.{has_conflict, is_assigned, is_known, was_assigned}
use Rattle.nd_chronicle.specs.Happening.{Address, Chronicle, Sent}
use Rattle.nd_chronicle.specs.OwnAddress.{story_of}
use Rattle.nd_link_log.specs.Log.{Log, Adds, Carries, chronicle_of, last_moment, sent, start_of}
use Rattle.nd_link_log.specs.Holding.{Arrives, HasOneHolder, Holds, IsTimely, IsTrying}
use Rattle.nd_link_log.specs.Attempt.{Attempt, Solicitation, beginning_of, ending_of}
use Rattle.nd_link_log.specs.Losing.{LosesLittle, answering}
use Rattle.nd_link_log.specs.Sound.{IsSound, Tried}
use Rattle.nd_link_log.proofs.Chronicles.{own_row, past_with, same_number}
use Rattle.nd_link_log.proofs.Holding as losing
use Rattle.nd_link_log.proofs.Holding.{meets}
use Rattle.nd_link_log.proofs.Pasts.{there_past}

holds_by : (known conflict assigned : Bool) → (known && not conflict && not assigned) ≡ true → (known && not conflict && true) ≡ true
holds_by true false assigned h = refl
holds_by true true assigned h = absurd (true≢false (sym h))
holds_by false true assigned h = absurd (true≢false (sym h))
holds_by false false assigned h = absurd (true≢false (sym h))

both_by : (known conflict assigned : Bool) → (known && not conflict && not assigned) ≡ true → (known && not conflict && assigned) ≡ true → ⊥
both_by true false true h k = true≢false (sym h)
both_by true false false h k = true≢false (sym k)
both_by true true assigned h k = true≢false (sym h)
both_by false conflict assigned h k = true≢false (sym h)

pub known_by : (known conflict assigned : Bool) → (known && not conflict && not assigned) ≡ true → known ≡ true
known_by true conflict assigned h = refl
known_by false conflict assigned h = absurd (true≢false (sym h))

-- an address that is tentative is held once it is assigned
assigned_story : (node key at : ℕ) (log : Log) → story_of (chronicle_of node (Adds node at (Address key Assigned) ∷ log)) key ≡ (at, Assigned) ∷ story_of (chronicle_of node log) key
assigned_story node key at log =
    ap (λ (c : Chronicle). story_of c key) (own_row node at (Address key Assigned) log)
    ∙ ap (λ (own : Bool). if own then (at, Assigned) ∷ story_of (chronicle_of node log) key else story_of (chronicle_of node log) key) (same_number key)

held_then : (node key at : ℕ) (log : Log) → IsTrying node key log → Holds node key (Adds node at (Address key Assigned) ∷ log)
held_then node key at log trying =
    let s : Story = story_of (chronicle_of node log) key in
    subst (λ (x : Story). is_assigned x ≡ true) (sym (assigned_story node key at log)) (holds_by (is_known s) (has_conflict s) (was_assigned s) trying)

not_both : (node key : ℕ) (log : Log) → IsTrying node key log → Holds node key log → ⊥
not_both node key log trying holds = let s : Story = story_of (chronicle_of node log) key in both_by (is_known s) (has_conflict s) (was_assigned s) trying holds

known_then : (node key : ℕ) (log : Log) → IsTrying node key log → is_known (story_of (chronicle_of node log) key) ≡ true
known_then node key log trying = let s : Story = story_of (chronicle_of node log) key in known_by (is_known s) (has_conflict s) (was_assigned s) trying

-- ---- an attempt is the one by which the address is held then

abbrev behind : Log → Log
behind [] = []
behind (entry ∷ log) = log

module _ (log : Log) (sound : IsSound log) (node key : ℕ) where
  -- what is formed where it is tentative isn't formed
  not_formed_twice : (a b : Attempt node key) → Past (beginning_of b) log → Past (beginning_of a) b.below → Past b.below a.over → ⊥
  not_formed_twice a b p q r =
      true≢false (sym (known_then node key b.below (a.trying b.below r q)) ∙ sound.forms node key b.formed b.delay b.retrans b.lifetimes b.below p)

  module _ (a : Attempt node key) (ended : Past (ending_of a) log) where
    held : Holds node key (ending_of a)
    held = held_then node key a.assigned a.over (a.trying a.over (past_self a.over) a.formed_at)

    t : Tried node key (ending_of a)
    t = sound.tried node key (ending_of a) ended held

    -- it is the attempt by which the address is held then
    same_ending : ending_of t.attempt ≡ ending_of a
    same_ending = ⊎_elim (λ same. same)
        (λ below. absurd (not_both node key a.over (a.trying a.over (past_self a.over) a.formed_at) (t.since a.over (inr (past_self a.over)) below))) t.ended

    same_over : t.attempt.over ≡ a.over
    same_over = ap behind same_ending

    over_log : Past a.over log
    over_log = past_tail _ a.over log ended

    begun : Past (beginning_of t.attempt) a.over
    begun = subst (Past (beginning_of t.attempt)) same_over t.attempt.formed_at

    same_beginning : beginning_of t.attempt ≡ beginning_of a
    same_beginning = ⊎_elim
        (λ under. ⊎_elim (λ same. same)
        (λ below. absurd (not_formed_twice t.attempt a (past_then _ a.over log a.formed_at over_log) below (subst (Past a.below) (sym same_over) (past_tail _ a.below a.over a.formed_at)))) under)
        (λ above. ⊎_elim (λ same. sym same)
        (λ below. absurd (not_formed_twice a t.attempt (past_then _ a.over log begun over_log) below (past_tail _ t.attempt.below a.over begun))) above)
        (past_linear (beginning_of t.attempt) (beginning_of a) a.over begun a.formed_at)

    -- so its solicitations are those of that one
    is_one_of : (at : ℕ) (frame : List ℕ) (earlier : Log) → Solicitation t.attempt at frame earlier → Solicitation a at frame earlier
    is_one_of at frame earlier s = record {
      rest = s.rest;
      row = s.row;
      sends = subst (Past (Adds node at (Sent frame) ∷ earlier)) same_over s.sends;
      since = subst (λ (x : Log). Past x earlier) same_beginning s.since;
    }

-- ---- a timely link

abbrev retrans_in : Log → ℕ
retrans_in (Adds node at (Address key (Formed delay retrans lifetimes)) ∷ log) = retrans
retrans_in _ = 0

abbrev moment_in : Log → ℕ
moment_in (Adds node at what ∷ log) = at
moment_in _ = 0

pub loses_little : (log : Log) → IsSound log → (within : ℕ) → IsTimely within log → LosesLittle within log
loses_little log sound within timely = record {
  reaches = λ node key a ended other differ here.
      let one = t log sound node key a ended in
      let s = one.solicited in
      let at : ℕ = s.0 in
      let earlier : Log = s.2 in
      let own : Solicitation a at s.1 earlier = is_one_of log sound node key a ended at s.1 earlier s.3 in
      let wait = (one.each at s.1 earlier s.3).1 in
      let same_wait : one.attempt.retrans ≡ a.retrans = ap retrans_in (same_beginning log sound node key a ended) in
      let same_end : one.attempt.assigned ≡ a.assigned = ap moment_in (same_ending log sound node key a ended) in
      let over_log : Past a.over log = past_tail _ a.over log ended in
      let formed_log : Past (beginning_of a) log = past_then _ a.over log a.formed_at over_log in
      let waits : 2 * within < a.retrans = timely.waits node a.formed key a.delay a.retrans a.lifetimes a.below formed_log in
      let last : a.assigned ≤ last_moment log = sound.by_then _ a.over a.assigned ended refl in
      let below_earlier : Past a.below earlier = past_tail _ a.below earlier own.since in
      let c : Arrives log other (sent earlier) at within =
      timely.arrives node at s.1 earlier (past_then _ a.over log own.sends over_log) (omega (arith, waits, wait, same_wait, same_end, last)) other differ (there_past other a.below earlier below_earlier here) in
      let in_time = c.in_time in record {
        at = at;
        frame = s.1;
        earlier = earlier;
        solicitation = own;
        arrives = c;
        answered = λ answer rows claims sends.
            let place : Log = answering other c.at (sent earlier) rows c.before in
            let first = past_tail _ a.below log formed_log in
            let there : is_some (start_of node a.below) ≡ true = sound.there node a.formed _ a.below formed_log in
            let before : Past c.before place = past_then c.before (Carries other c.at (sent earlier) ∷ c.before) place (inr (past_self c.before)) (past_with other rows (Carries other c.at (sent earlier) ∷ c.before)) in
            let met = meets log other c.at node at s.1 earlier c.before (past_then _ a.over log own.sends over_log) (past_tail _ c.before log c.carried) (sound.brings other c.at (sent earlier) c.before c.carried) in
            let since : Past a.below place = past_then a.below earlier place below_earlier (past_then earlier (Adds node at (Sent s.1) ∷ earlier) place (inr (past_self earlier)) (past_then _ c.before place met.above before)) in
            timely.arrives other c.at answer place sends (omega (arith, in_time, waits, wait, same_wait, same_end, last)) node (λ same. differ (sym same)) (there_past node a.below place since there);
      };
  waits = timely.waits;
}

-- ---- so it is on a timely link

pub one_holder : (log : Log) → IsSound log → (within : ℕ) → IsTimely within log → HasOneHolder log
one_holder log sound within timely = losing.one_holder log sound within (loses_little log sound within timely)
