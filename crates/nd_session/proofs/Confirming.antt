-- A sign that packets to a destination arrive.
use Rattle.std.proofs.Common.{◌≡◌, ◌≤◌, Bool, ℕ, List, None, Ok, Option, Some, arith, subst, sym}
use Rattle.std.specs.Prelude.{Result, if◌then◌else◌}
use Rattle.std.specs.Option.{option_map}
use Rattle.std.specs.Global.{Global}
use Rattle.std.specs.declared.alloc.AllocError.{AllocError}
use Rattle.nd_addr.specs.declared.addr.Addr.{Addr}
use Rattle.nd_addr.specs.Number.{number_of}
use Rattle.nd_chronicle.specs.Answer as answers
use Rattle.nd_chronicle.specs.Happening.{Chronicle, last_moment}
use Rattle.nd_chronicle.specs.Start.{Start}
use Rattle.nd_out.specs.declared.out.Out.{Out}
use Rattle.nd_steps.proofs.Telling.{Tells-then}
use Rattle.nd_node.specs.declared.answer.Answer.{Answer}
use Rattle.nd_node.specs.declared.answer.Answer.TheVariants.{Done}
use Rattle.nd_node.specs.EventKept.{AddsEvent}
use Rattle.nd_node.specs.NodeKept.{Stands}
use Rattle.nd_node.specs.ReachabilityConfirmation.{IsConfirmed}
use Rattle.nd_node.specs.Time.{Leads, Passes}
use Rattle.nd_node.proofs.Steps.{walk_last}
use Rattle.nd_random.specs.Source.{stream_of_source}
use Rattle.nd_session.specs.Confirmation.{ConfirmsTo, event_of}
use Rattle.nd_session.specs.Event.{LedBy}
use Rattle.nd_session.specs.Ready.{IsReady}
use Rattle.nd_session.specs.declared.session.Session.{Session}
use Rattle.nd_session.proofs.Keeping.{event_ready}

-- by a neighbour of the same number
pub confirmed_where : (start : Start) (c : Chronicle) (now : ℕ) (destination : Addr) (least key to : ℕ) (b r : Bool) → key ≡ to → b ≡ r
    → IsConfirmed start c now destination least (if b then Some key else None) → IsConfirmed start c now destination least (if r then Some to else None)
confirmed_where start c now destination least key to b r same is confirmed =
    subst (λ (x : Bool). IsConfirmed start c now destination least (if x then Some to else None)) is (subst (λ (k : ℕ). IsConfirmed start c now destination least (if b then Some k else None)) same confirmed)

module _ (old mid new : Session) (now : ℕ) (neighbour : Option Addr) (le : old.node.last ≤ now) (passes : Leads stream_of_source old.node mid.node old.reports.items mid.reports.items (Passes now))
    (adds : AddsEvent stream_of_source mid.node new.node mid.reports.items mid.reports.items now (event_of neighbour) answers.Done) (reports : new.reports.items ≡ mid.reports.items) where
  -- what is due is done, and then the neighbour is confirmed, or none
  pub confirms_then : (destination : Addr) (least : ℕ)
      → ((start : Start) (c : Chronicle) → Stands stream_of_source start mid.node c → last_moment start.at c ≤ now → IsConfirmed start c now destination least (option_map (λ addr. number_of addr.0) neighbour))
      → LedBy old new (ConfirmsTo now destination least neighbour)
  confirms_then destination least confirmed =
      subst (λ (q : List (ℕ × Out Global)). Leads stream_of_source old.node new.node old.reports.items q (ConfirmsTo now destination least neighbour)) (sym reports) (record {
        each = λ start c s.
            let e = passes.each start c s in
            let last = walk_last start c e.0 (last_moment start.at c) now e.1 (omega (arith, le, s.last)) in
            let d = adds.each start e.0 e.2 last in (
              d.0,
              record { between = e.0; passes = e.1; confirmed = confirmed start e.0 e.2 last; adds = d.1 },
              d.2,
              Tells-then c e.0 d.0 old.reports.items mid.reports.items mid.reports.items e.3 d.3,
            );
      })

  -- the session is as ready as before
  pub ready_then : new.room ≡ mid.room → (start : Start) (c : Chronicle) → Stands stream_of_source start old.node c → IsReady mid → IsReady new
  ready_then room start c s ready =
      let done : Result Answer AllocError = Ok Done in
      rw (reports, room) (event_ready stream_of_source old.node mid.node new.node old.reports.items mid.reports.items mid.reports.items now (event_of neighbour) done mid.room le passes adds tt tt start c s ready)
