-- Each node of a link lives its own history: what the link walks is walked at each node, and an event at one node is time that passes at the others.
use Rattle.std.proofs.Common.{◌≡◌, ℕ, ◌<◌, ◌≤◌, Bool, true, false, List, [], ◌∷◌, ◌++◌, Some, refl, sym, ◌∙◌, ap, subst}
use Rattle.std.specs.Prelude.{◌==◌, nat_lt}
use Rattle.std.specs.List.{All}
use Rattle.std.proofs.lemmas.Bool.Decides.{Decides-eqb}
use Rattle.std.proofs.lemmas.List.Elements.{All-append, All-from_recursion}
use Rattle.nd_addr.specs.Bytes.{AreBytes}
use Rattle.nd_table.proofs.Tests.{by_false}
use Rattle.nd_chronicle.specs.Start.{Start, no_policies}
use Rattle.nd_chronicle.specs.Happening as chronicle
use Rattle.nd_chronicle.specs.Happening.{Chronicle, Passed, TooLate}
use Rattle.nd_chronicle.specs.Due.{What, Due, comes}
use Rattle.nd_chronicle.specs.Event as nodes
use Rattle.nd_chronicle.specs.Event.{ComesAsBytes, EventAdds}
use Rattle.nd_chronicle.specs.History as node
use Rattle.nd_chronicle.specs.History.{IsChronicle, Runs}
use Rattle.nd_chronicle.proofs.Growth.{event_grows}
use Rattle.nd_link_log.specs.Log.{Log, adding, chronicle_of, start_of}
use Rattle.nd_link_log.specs.History.{Walk, over, adds, passes}
use Rattle.nd_link_log.proofs.Chronicles.{other_rows, own_rows, start_with}
use Rattle.nd_link_log.proofs.Moments.{each_in, newest_moment}

-- It is the chronicle of a history of the node, up to a moment; and if what is passed in is bytes, so are its events, and it solicits once or more
-- often for an address.
pub record Lives (Bytes : Type 0) (start : Start) (c : Chronicle) (last : ℕ) : Type 0 where
  pub mac : Bytes → AreBytes 6 start.mac.0
  pub transmits : Bytes → 0 < start.transmits
  pub policies : start.policies ≡ no_policies
  pub events : List (ℕ × nodes.Event)
  pub bytes : Bytes → All (λ event. ComesAsBytes event.1) events
  pub runs : IsChronicle start events c
  pub last_is : chronicle.last_moment start.at c ≡ last

-- it is that of one that an event reaches: time has passed up to it
pub record Reached (Bytes : Type 0) (start : Start) (c : Chronicle) (now : ℕ) : Type 0 where
  pub before : Chronicle
  pub last : ℕ
  pub lives : Lives Bytes start before last
  pub in_time : nat_lt now last ≡ false
  pub over : Chronicle
  pub walked : node.Walk start before last now over
  pub passed : c ≡ (now, Passed) ∷ over

-- ---- a walk

module _ (log d : Log) (moment end : ℕ) (at : ℕ) (other : Start) (what : What) (rows : Chronicle) (le : moment ≤ end) where
  own_step : (start : Start) → start_of at log ≡ Some other → start_of at log ≡ Some start → Due other (chronicle_of at log) moment (Some what)
      → comes other moment what (chronicle_of at log) ≡ rows ++ chronicle_of at log → node.Walk start (chronicle_of at (adding at rows log)) moment end (chronicle_of at d)
      → node.Walk start (chronicle_of at log) moment end (chronicle_of at d)
  own_step start is there due gives rest =
      let both : Some other ≡ Some start = sym is ∙ there in
      let same : other ≡ start = cc in
      node.adds what le (subst (λ (s : Start). Due s (chronicle_of at log) moment (Some what)) same due)
      (subst (λ (c : Chronicle). node.Walk start c moment end (chronicle_of at d)) (own_rows at rows log ∙ sym gives ∙ ap (λ (s : Start). comes s moment what (chronicle_of at log)) same) rest)

  one_step : (i : ℕ) (start : Start) (own : Bool) → (at == i) ≡ own → start_of at log ≡ Some other → start_of i log ≡ Some start → Due other (chronicle_of at log) moment (Some what)
      → comes other moment what (chronicle_of at log) ≡ rows ++ chronicle_of at log → node.Walk start (chronicle_of i (adding at rows log)) moment end (chronicle_of i d)
      → node.Walk start (chronicle_of i log) moment end (chronicle_of i d)
  one_step i start true e is there due gives rest =
      let same : at ≡ i = (Decides-eqb at i).0 e in
      subst (λ (x : ℕ). start_of x log ≡ Some start → node.Walk start (chronicle_of x (adding at rows log)) moment end (chronicle_of x d)
      → node.Walk start (chronicle_of x log) moment end (chronicle_of x d)) same
      (λ there rest. own_step start is there due gives rest) there rest
  one_step i start false e is there due gives rest = subst (λ (c : Chronicle). node.Walk start c moment end (chronicle_of i d)) (other_rows i at rows log e) rest

pub walk_at : {log d : Log} {moment end : ℕ} → Walk log moment end d → (i : ℕ) (start : Start) → start_of i log ≡ Some start
    → node.Walk start (chronicle_of i log) moment end (chronicle_of i d)
walk_at (over lt) i start there = node.over lt
walk_at {log = log} {d = d} {moment = moment} {end = end} (adds at other what rows le is due idle gives w) i start there =
    one_step log d moment end at other what rows le i start (at == i) refl is there due gives (walk_at w i start (start_with i at rows log ∙ there))
walk_at (passes le idle w) i start there = node.passes le (idle i start there) (walk_at w i start there)

-- ---- an event

runs_further : (start : Start) (events later : List (ℕ × nodes.Event)) (c d e : Chronicle) → Runs start c events d → Runs start d later e → Runs start c (events ++ later) e
runs_further start [] later c d e h k = subst (λ (x : Chronicle). Runs start x later e) h k
runs_further start (event ∷ events) later c d e h k = (h.0, h.1, runs_further start events later h.0 d e h.2 k)

module _ (Bytes : Type 0) (start : Start) (c : Chronicle) (now : ℕ) (r : Reached Bytes start c now) where
  pub lives_then : (event : nodes.Event) (d : Chronicle) → (Bytes → ComesAsBytes event) → EventAdds start now event c d → Lives Bytes start d now
  lives_then event d bytes h =
      let l = r.lives in
      let each : ℕ × nodes.Event → Type 0 = λ x. ComesAsBytes x.1 in
      let more : EventAdds start now event ((now, Passed) ∷ r.over) d = subst (λ (x : Chronicle). EventAdds start now event x d) r.passed h in
      let g = event_grows start now ((now, Passed) ∷ r.over) event d more in
      let walked = subst (λ (n : ℕ). node.Walk start r.before n now r.over) (sym l.last_is) r.walked in
      let late = ap (nat_lt now) l.last_is ∙ r.in_time in record {
        mac = l.mac;
        transmits = l.transmits;
        policies = l.policies;
        events = l.events ++ ((now, event) ∷ []);
        bytes = λ b. All-append each l.events ((now, event) ∷ []) (l.bytes b) (All-from_recursion each ((now, event) ∷ []) (bytes b, tt));
        runs = runs_further start l.events ((now, event) ∷ []) _ r.before d l.runs
            (d, by_false (nat_lt now (chronicle.last_moment start.at r.before)) (d ≡ (now, TooLate (chronicle.last_moment start.at r.before)) ∷ r.before) _ late (r.over, walked, more), refl);
        last_is = ap (chronicle.last_moment start.at) g.all ∙ newest_moment start.at now g.newer ((now, Passed) ∷ r.over) (each_in now g.newer g.each) refl;
      }

  pub lives_on : Lives Bytes start c now
  lives_on = lives_then nodes.Passes c (λ b. record { frame = λ frame e. absurd (let no : ⊥ = cc in no); own = λ own e. absurd (let no : ⊥ = cc in no) }) refl
