-- Events that come to a link, one after the other.
use Rattle.std.proofs.Common.{◌≡◌, ℕ, List, [], ◌∷◌, ◌++◌, append-nil, append_assoc, refl, sym, ◌∙◌, ap, subst}
use Rattle.std.specs.Prelude.{Result, Ok, Err, IsErrAnd, IsErrOf}
use Rattle.std.proofs.lemmas.List.{map-append}
use Rattle.std.proofs.lemmas.List.Elements.{All-nil, All-push}
use Rattle.rand_core.specs.Stream.{Stream}
use Rattle.nd_node.specs.Limits.{usual_limits}
use Rattle.nd_link_log.specs.Log.{Log}
use Rattle.nd_link_log.specs.Bytes.{AreOfBytes, IsOfBytes}
use Rattle.nd_link_log.specs.Event.{Event}
use Rattle.nd_link_log.specs.History.{Runs}
use Rattle.nd_link.specs.declared.event.LinkEvent.{LinkEvent}
use Rattle.nd_link.specs.declared.link.Link.{Link}
use Rattle.nd_link.specs.declared.told.Told.{Told}
use Rattle.nd_link.specs.Event.{AreEarly, link_event, link_events}
use Rattle.nd_link.specs.Run.{ComesNext, FollowsBy, IsDelivery, RunsBy, RunsInPart, RunsUpTo}
use Rattle.nd_link.specs.Time.{Leads, Onward, Passes, TellsOf}
use Rattle.nd_link.proofs.Walks.{told_same, told_then}

-- more come behind those that came
pub runs_then : (events more : List (ℕ × Event)) (log d e : Log) → Runs usual_limits log events d → Runs usual_limits d more e → Runs usual_limits log (events ++ more) e
runs_then [] more log d e runs next = subst (λ (x : Log). Runs usual_limits x more e) runs next
runs_then (first ∷ events) more log d e runs next = (runs.0, runs.1, runs_then events more runs.0 d e runs.2 next)

no_split : (first : List (ℕ × Event)) (event : ℕ × Event) (later : List (ℕ × Event)) → [] ≡ first ++ event ∷ later → ⊥
no_split [] event later e = cc
no_split (head ∷ first) event later e = cc

early_rest : {R A : Type 0} (e : ℕ × LinkEvent R A) (rest all : List (ℕ × LinkEvent R A)) → all ≡ e ∷ rest → AreEarly all → AreEarly rest
early_rest {R} {A} e rest all is early = (subst (λ (l : List (ℕ × LinkEvent R A)). AreEarly l) is early).1

-- an error that is handed on is the one that came
pub handed_on : {T E : Type 0} (r : Result T E) (e fault : E) → IsErrAnd r (λ x. x ≡ e) → IsErrOf r fault → IsErrOf {T = T} (Err e) fault
handed_on (Ok x) e fault handed is = absurd handed
handed_on (Err x) e fault handed is = ap (λ y. Err y) (sym handed) ∙ is

pub handed_back : {T E : Type 0} (r : Result T E) (e fault : E) → IsErrAnd r (λ x. x ≡ e) → IsErrOf {T = T} (Err e) fault → IsErrOf r fault
handed_back (Ok x) e fault handed is = absurd handed
handed_back (Err x) e fault handed is = ap (λ y. Err y) handed ∙ is

-- of the events these came, and those are left
pub record Came {W R A : Type 0} (Faithful : Type 0) (stream : R → Stream) (origin link : Link W R A) (x y : List (Told A)) (all rest : List (ℕ × LinkEvent R A)) : Type 0 where
  pub came : List (ℕ × LinkEvent R A)
  pub all_is : all ≡ came ++ rest
  pub early : AreEarly rest
  pub bytes : AreOfBytes (link_events stream came)
  pub sofar : Faithful → Leads stream origin link x y (RunsBy (link_events stream came))

-- none of them came
none_in_part : (events : List (ℕ × Event)) (log : Log) → RunsInPart events log log
none_in_part [] log = refl
none_in_part (event ∷ events) log = (event, log, record { first = []; later = events; split = refl; runs = refl }, λ e w. w)

pub nothing_came : {W R A : Type 0} (stream : R → Stream) (link : Link W R A) (told : List (Told A)) (events : List (ℕ × Event)) → TellsOf stream link told told (RunsInPart events)
nothing_came stream link told events = record { each = λ log s. (log, none_in_part events log, told_same log told) }

module _ {W R A : Type 0} (Faithful : Type 0) (stream : R → Stream) where
  pub none_came : (link : Link W R A) (told : List (Told A)) (all rest : List (ℕ × LinkEvent R A)) → all ≡ rest → AreEarly all → Came Faithful stream link link told told all rest
  none_came link told all rest is early = record {
    came = [];
    all_is = is;
    early = subst (λ (l : List (ℕ × LinkEvent R A)). AreEarly l) is early;
    bytes = All-nil (λ (v : ℕ × Event). IsOfBytes v.1);
    sofar = λ faithful. record { each = λ log s. (log, refl, s, told_same log told) };
  }

  module _ (origin old new : Link W R A) (x y z : List (Told A)) (all before rest : List (ℕ × LinkEvent R A)) (e : ℕ × LinkEvent R A) (is : before ≡ e ∷ rest) (c : Came Faithful stream origin old x y all before) where
    pushed : link_events stream (c.came ++ e ∷ []) ≡ link_events stream c.came ++ (e.0, link_event stream e.1) ∷ []
    pushed = map-append (λ (v : ℕ × LinkEvent R A). (v.0, link_event stream v.1)) c.came (e ∷ [])

    pub one_came : IsOfBytes (link_event stream e.1) → (Faithful → Leads stream old new y z (FollowsBy e.0 (link_event stream e.1))) → Came Faithful stream origin new x z all rest
    one_came bytes next = record {
      came = c.came ++ e ∷ [];
      all_is = c.all_is ∙ (ap (λ (l : List (ℕ × LinkEvent R A)). c.came ++ l) is ∙ sym (append_assoc c.came (e ∷ []) rest));
      early = early_rest e rest before is c.early;
      bytes = subst AreOfBytes (sym pushed) (All-push (λ (v : ℕ × Event). IsOfBytes v.1) (link_events stream c.came) (e.0, link_event stream e.1) c.bytes bytes);
      sofar = λ faithful. record {
        each = λ log s.
            let l = (c.sofar faithful).each log s in
            let n = (next faithful).each l.0 l.2 in (
              n.0,
              subst (λ (events : List (ℕ × Event)). Runs usual_limits log events n.0) (sym pushed)
                  (runs_then (link_events stream c.came) ((e.0, link_event stream e.1) ∷ []) log l.0 n.0 l.1 (n.0, n.1, refl)),
              n.2,
              told_then log l.0 n.0 x y z l.3 n.3,
            );
      };
    }

    -- the next one stands behind those that came
    next_one : link_events stream all ≡ link_events stream c.came ++ (e.0, link_event stream e.1) ∷ link_events stream rest
    next_one =
        ap (link_events stream) (c.all_is ∙ ap (λ (l : List (ℕ × LinkEvent R A)). c.came ++ l) is)
        ∙ map-append (λ (v : ℕ × LinkEvent R A). (v.0, link_event stream v.1)) c.came (e ∷ rest)

    is_next : (log d : Log) → Runs usual_limits log (link_events stream c.came) d → ComesNext (link_events stream all) log (e.0, link_event stream e.1) d
    is_next log d runs = record { first = link_events stream c.came; later = link_events stream rest; split = next_one; runs = runs }

    in_part : (events : List (ℕ × Event)) (event : ℕ × Event) (log d before : Log) → ComesNext events log event before → Onward event.0 before d → RunsInPart events log d
    in_part [] event log d before next onward = absurd (no_split next.first event next.later next.split)
    in_part (head ∷ tail) event log d before next onward = (event, before, next, onward)

    pub came_in_part : Faithful → TellsOf stream old y z (Onward e.0) → TellsOf stream origin x z (RunsInPart (link_events stream all))
    came_in_part faithful next = record {
      each = λ log s.
          let l = (c.sofar faithful).each log s in
          let n = next.each l.0 l.2 in (
            n.0,
            in_part (link_events stream all) (e.0, link_event stream e.1) log n.0 l.0 (is_next log l.0 l.1) n.1,
            told_then log l.0 n.0 x y z l.3 n.2,
          );
    }

    pub came_up_to : Faithful → IsDelivery (link_event stream e.1) → Leads stream old new y z (Passes e.0) → Leads stream origin new x z (RunsUpTo (link_events stream all))
    came_up_to faithful delivers next = record {
      each = λ log s.
          let l = (c.sofar faithful).each log s in
          let n = next.each l.0 l.2 in (
            n.0,
            ((e.0, link_event stream e.1), l.0, is_next log l.0 l.1, delivers, n.1),
            n.2,
            told_then log l.0 n.0 x y z l.3 n.3,
          );
    }

  -- all came where none is left
  module _ (origin link : Link W R A) (x y : List (Told A)) (all rest : List (ℕ × LinkEvent R A)) (none : rest ≡ []) (c : Came Faithful stream origin link x y all rest) where
    whole : c.came ≡ all
    whole = sym (c.all_is ∙ (ap (λ (l : List (ℕ × LinkEvent R A)). c.came ++ l) none ∙ append-nil c.came))

    pub all_came : Faithful → Leads stream origin link x y (RunsBy (link_events stream all))
    all_came faithful = subst (λ (l : List (ℕ × LinkEvent R A)). Leads stream origin link x y (RunsBy (link_events stream l))) whole (c.sofar faithful)

    pub all_of_bytes : AreOfBytes (link_events stream all)
    all_of_bytes = subst (λ (l : List (ℕ × LinkEvent R A)). AreOfBytes (link_events stream l)) whole c.bytes
