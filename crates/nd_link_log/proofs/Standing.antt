-- A log between two events: each node lives its own history up to the last moment.
use Rattle.std.proofs.Common.{◌≡◌, inr, ℕ, ◌<◌, ◌≤◌, Bool, true, false, [], ◌∷◌, ◌++◌, Some, refl, sym, ◌∙◌, ap, subst, arith, ⊎_elim}
use Rattle.std.specs.Prelude.{◌==◌, is_some, nat_lt, if◌then◌else◌}
use Rattle.std.proofs.lemmas.Bool.{cases_lt, ltb-false, true≢false}
use Rattle.std.proofs.lemmas.Bool.Decides.{Decides-eqb}
use Rattle.std.proofs.lemmas.List.Elements.{All-from_recursion}
use Rattle.nd_addr.specs.Bytes.{AreBytes, IsBytes}
use Rattle.nd_table.specs.History.{Past}
use Rattle.nd_table.proofs.Pasts.{past_self, past_then}
use Rattle.nd_chronicle.specs.Start.{Start, no_policies}
use Rattle.nd_chronicle.specs.Happening.{Chronicle}
use Rattle.nd_chronicle.specs.Event as nodes
use Rattle.nd_chronicle.specs.Event.{ComesAsBytes, EventAdds}
use Rattle.nd_chronicle.specs.History.{beginning}
use Rattle.nd_chronicle.proofs.Growth.{event_grows}
use Rattle.nd_link_log.specs.Log.{Entry, Log, Begins, Carries, Reaches, Refuses, adding, chronicle_of, last_moment, nodes, start_of}
use Rattle.nd_link_log.specs.Event.{passing}
use Rattle.nd_link_log.specs.Bytes.{SendsBytes}
use Rattle.nd_link_log.specs.History.{Walk}
use Rattle.nd_link_log.proofs.Carried.{AllBring, bring_carried, bring_entry, brings}
use Rattle.nd_link_log.proofs.Chronicles.{other_rows, own_rows, past_with, start_with}
use Rattle.nd_link_log.proofs.Lives.{Lives, Reached, lives_on, lives_then, walk_at}
use Rattle.nd_link_log.proofs.Moments.{EachAt, RisesTo, gained_at, moment_with, rises_with}
use Rattle.nd_link_log.proofs.Nodes.{Numbered, RowsThere, no_rows, none_there, numbered_with, there_with}
use Rattle.nd_link_log.proofs.Seen.{Seen, Nothing, Refused, Started, Came, Carried}
use Rattle.nd_link_log.proofs.Kept.{Kept, kept_walk, kept_with, kept_passing, moment_passing, passed, start_passing, walk_start}

-- ---- between events

pub record Stands (Bytes : Type 0) (log : Log) : Type 0 where
  pub kept : Kept Bytes log (last_moment log)
  pub lives : (i : ℕ) (start : Start) → start_of i log ≡ Some start → Lives Bytes start (chronicle_of i log) (last_moment log)

-- an event has been reached: time has passed up to it
pub record Reaching (Bytes : Type 0) (log : Log) (now : ℕ) : Type 0 where
  pub moment : last_moment log ≡ now
  pub kept : Kept Bytes log now
  pub reached : (i : ℕ) (start : Start) → start_of i log ≡ Some start → Reached Bytes start (chronicle_of i log) now

pub reaching : (Bytes : Type 0) (log e : Log) (now : ℕ) → nat_lt now (last_moment log) ≡ false → Walk log (last_moment log) now e → Stands Bytes log
    → Reaching Bytes (passing now (nodes e) (Reaches now ∷ e)) now
reaching Bytes log e now in_time w s =
    let le : last_moment log ≤ now = ltb-false now (last_moment log) in_time in
    let g : Kept Bytes e now = kept_walk Bytes w (last_moment log) (omega arith) le s.kept in
    let by = g.rises.by in
    let r : Kept Bytes (Reaches now ∷ e) now = record {
      rises = record { rising = (by, g.rises.rising); by = omega arith };
      numbered = g.numbered;
      there = g.there;
      bring = λ b. bring_entry (Reaches now) e refl (g.bring b);
    } in record {
      moment = moment_passing now (Reaches now ∷ e) (nodes e) refl;
      kept = kept_passing now (Reaches now ∷ e) Bytes (nodes e) (omega arith) r;
      reached = λ i start is.
          let at : start_of i e ≡ Some start = sym (start_passing now (Reaches now ∷ e) (nodes e) i) ∙ is in
          let was : start_of i log ≡ Some start = sym (walk_start w i) ∙ at in
          let lt : i < nodes e = ⊎_elim (λ less. less) (λ more. absurd (true≢false (sym (ap is_some at) ∙ none_there i e g.numbered more))) (cases_lt i (nodes e)) in record {
            before = chronicle_of i log;
            last = last_moment log;
            lives = s.lives i start was;
            in_time = in_time;
            over = chronicle_of i e;
            walked = walk_at w i start was;
            passed = passed now (Reaches now ∷ e) (nodes e) i lt;
          };
    }

-- ---- an event

stands_at : (Bytes : Type 0) (d : Log) (now : ℕ) → last_moment d ≡ now → Kept Bytes d now
    → ((i : ℕ) (start : Start) → start_of i d ≡ Some start → Lives Bytes start (chronicle_of i d) now) → Stands Bytes d
stands_at Bytes d now moment kept lives = record {
  kept = subst (Kept Bytes d) (sym moment) kept;
  lives = λ i start is. subst (Lives Bytes start (chronicle_of i d)) (sym moment) (lives i start is);
}

module _ (Bytes : Type 0) (now : ℕ) (log : Log) (r : Reaching Bytes log now) where
  lives_still : (i : ℕ) (start : Start) → start_of i log ≡ Some start → Lives Bytes start (chronicle_of i log) now
  lives_still i start is = lives_on Bytes start (chronicle_of i log) now (r.reached i start is)

  kept_entry : (entry : Entry) → last_moment (entry ∷ log) ≡ now → (Bytes → AllBring (entry ∷ log)) → Numbered (entry ∷ log) → RowsThere (entry ∷ log) → Kept Bytes (entry ∷ log) now
  kept_entry entry moment bring numbered there =
      let g = r.kept in
      let by = g.rises.by in record {
        rises = record { rising = (omega (arith, by, moment), g.rises.rising); by = omega (arith, moment) };
        numbered = numbered;
        there = there;
        bring = bring;
      }

  -- rows of one node
  module _ (at : ℕ) (event : nodes.Event) (start : Start) (rows : Chronicle) (is : start_of at log ≡ Some start)
      (adds : EventAdds start now event (chronicle_of at log) (rows ++ chronicle_of at log)) where
    rows_at : EachAt now rows
    rows_at = gained_at now rows (chronicle_of at log) _ (event_grows start now (chronicle_of at log) event _ adds) refl

  module _ (at : ℕ) (event : nodes.Event) (start : Start) (rows : Chronicle) (is : start_of at log ≡ Some start) (bytes : Bytes → ComesAsBytes event)
      (adds : EventAdds start now event (chronicle_of at log) (rows ++ chronicle_of at log)) (d : Log) (same_start : (i : ℕ) → start_of i d ≡ start_of i log)
      (same_rows : (i : ℕ) → chronicle_of i d ≡ chronicle_of i log) where
    lives_after : (i : ℕ) (other : Start) → start_of i (adding at rows d) ≡ Some other → Lives Bytes other (chronicle_of i (adding at rows d)) now
    lives_after i other there = by (at == i) refl
      where
        here : start_of i log ≡ Some other
        here = sym (same_start i) ∙ sym (start_with i at rows d) ∙ there

        by : (own : Bool) → (at == i) ≡ own → Lives Bytes other (chronicle_of i (adding at rows d)) now
        by true e =
            let same : at ≡ i = (Decides-eqb at i).0 e in
            let both : Some start ≡ Some other = sym is ∙ ap (λ (x : ℕ). start_of x log) same ∙ here in
            let one : start ≡ other = cc in
            subst (λ (x : ℕ). Lives Bytes other (chronicle_of x (adding at rows d)) now) same
            (subst (λ (x : Start). Lives Bytes x (chronicle_of at (adding at rows d)) now) one
            (subst (λ (c : Chronicle). Lives Bytes start c now) (sym (own_rows at rows d ∙ ap (λ (c : Chronicle). rows ++ c) (same_rows at)))
            (lives_then Bytes start (chronicle_of at log) now (r.reached at start is) event (rows ++ chronicle_of at log) bytes adds)))
        by false e = subst (λ (c : Chronicle). Lives Bytes other c now) (sym (other_rows i at rows d e ∙ same_rows i)) (lives_still i other here)

  -- a node that starts
  module _ (start : Start) (moment : start.at ≡ now) (policies : start.policies ≡ no_policies) (types : Bytes → AreBytes 6 start.mac.0 × (0 < start.transmits)) where
    abbrev begun : Log
    begun = Begins (nodes log) start ∷ log

    fresh : chronicle_of (nodes log) log ≡ []
    fresh = no_rows (nodes log) log r.kept.there (none_there (nodes log) log r.kept.numbered (omega arith))

    first : Lives Bytes start (beginning start) now
    first = record { mac = λ b. (types b).0; transmits = λ b. (types b).1; policies = policies; events = []; bytes = λ b. All-from_recursion _ [] tt; runs = refl; last_is = moment }

    here_now : is_some (start_of (nodes log) begun) ≡ true
    here_now = by (nodes log == nodes log) ((Decides-eqb (nodes log) (nodes log)).1 refl)
      where
        by : (own : Bool) → own ≡ true → is_some (if own then Some start else start_of (nodes log) log) ≡ true
        by true e = refl
        by false e = absurd (true≢false (sym e))

    lives_begun : (i : ℕ) (other : Start) → start_of i (adding (nodes log) (beginning start) begun) ≡ Some other
        → Lives Bytes other (chronicle_of i (adding (nodes log) (beginning start) begun)) now
    lives_begun i other there = by (nodes log == i) refl (sym (start_with i (nodes log) (beginning start) begun) ∙ there)
      where
        by : (own : Bool) → (nodes log == i) ≡ own → (if own then Some start else start_of i log) ≡ Some other
            → Lives Bytes other (chronicle_of i (adding (nodes log) (beginning start) begun)) now
        by true e is =
            let same : nodes log ≡ i = (Decides-eqb (nodes log) i).0 e in
            let one : start ≡ other = cc in
            subst (λ (x : ℕ). Lives Bytes other (chronicle_of x (adding (nodes log) (beginning start) begun)) now) same
            (subst (λ (x : Start). Lives Bytes x (chronicle_of (nodes log) (adding (nodes log) (beginning start) begun)) now) one
            (subst (λ (c : Chronicle). Lives Bytes start c now)
            (sym (own_rows (nodes log) (beginning start) begun ∙ ap (λ (c : Chronicle). beginning start ++ c) fresh)) first))
        by false e is = subst (λ (c : Chronicle). Lives Bytes other c now) (sym (other_rows i (nodes log) (beginning start) begun e)) (lives_still i other is)

    stands_begun : Stands Bytes (adding (nodes log) (beginning start) begun)
    stands_begun = stands_at Bytes _ now (moment_with now (nodes log) (beginning start) begun each moment)
        (kept_with Bytes now (nodes log) (beginning start) begun each here_now
        (kept_entry (Begins (nodes log) start) moment (λ b. bring_entry (Begins (nodes log) start) log refl (r.kept.bring b)) (refl, r.kept.numbered) r.kept.there))
        lives_begun
      where
        each : EachAt now (beginning start)
        each = (moment, (moment, (moment, tt)))

  pub stands_seen : (d : Log) → (Bytes → SendsBytes d) → Seen Bytes now log d → Stands Bytes d
  stands_seen d sends (Nothing same) = subst (Stands Bytes) (sym same) (stands_at Bytes log now r.moment r.kept lives_still)
  stands_seen d sends (Refused why moment same) =
      subst (Stands Bytes) (sym same)
      (stands_at Bytes (Refuses now why ∷ log) now moment (kept_entry (Refuses now why) moment (λ b. bring_entry (Refuses now why) log refl (r.kept.bring b)) r.kept.numbered r.kept.there) lives_still)
  stands_seen d sends (Started start moment policies types same) = subst (Stands Bytes) (sym same) (stands_begun start moment policies types)
  stands_seen d sends (Came at start event rows bytes is gained same) =
      let each = rows_at at event start rows is gained in
      subst (Stands Bytes) (sym same)
      (stands_at Bytes (adding at rows log) now (moment_with now at rows log each r.moment) (kept_with Bytes now at rows log each (ap is_some is) r.kept)
      (lives_after at event start rows is bytes gained log (λ i. refl) (λ i. refl)))
  stands_seen d sends (Carried at number sender when frame start rows is_frame is gained same) =
      let carrying : Log = Carries at now number ∷ log in
      let whole : Past log (adding at rows carrying) = past_then log carrying (adding at rows carrying) (inr (past_self log)) (past_with at rows carrying) in
      let bytes : Bytes → IsBytes frame = λ b. subst SendsBytes same (sends b) sender when frame is_frame.before (past_then _ log (adding at rows carrying) is_frame.there whole) in
      let each = rows_at at (nodes.Receives frame) start rows is gained in
      let all : Bytes → AllBring (adding at rows carrying) = λ b. bring_carried at now number rows log (r.kept.bring b)
      (brings at now number log rows Bytes b start (lives_still at start is) frame (bytes b) gained sender when is_frame) in
      let g = r.kept in
      let rises : RisesTo now carrying = record { rising = (g.rises.by, g.rises.rising); by = omega arith } in
      subst (Stands Bytes) (sym same)
      (stands_at Bytes (adding at rows carrying) now (moment_with now at rows carrying each refl)
      (record { rises = rises_with now at rows carrying each rises; numbered = numbered_with at rows carrying g.numbered; there = there_with at rows carrying (ap is_some is) g.there; bring = all })
      (lives_after at (nodes.Receives frame) start rows is (λ b. record { frame = λ f e. let one : frame ≡ f = cc in subst IsBytes one (bytes b); own = λ own e. absurd (let no : ⊥ = cc in no) }) gained carrying (λ i. refl) (λ i. refl)))
