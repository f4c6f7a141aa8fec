-- What a command makes of one neighbour, or a command of a router at a host, and the chronicle that a node stands for.
use Rattle.std.proofs.Common.{◌≡◌, ℕ, ◌<◌, ◌≤◌, List, [], ◌∷◌, ◌++◌, append-nil, refl, sym, ◌∙◌, ap, subst, arith}
use Rattle.std.specs.List.{flat_map}
use Rattle.rand_core.specs.Stream.{Stream}
use Rattle.nd_addr.specs.declared.addr.Addr.{Addr}
use Rattle.nd_addr.specs.Number.{number_of}
use Rattle.nd_neighbour.specs.History as rows
use Rattle.nd_neighbour.specs.History.{story}
use Rattle.nd_neighbour.specs.Story.{waits_of}
use Rattle.nd_neighbour.specs.TableKept as neighbours
use Rattle.nd_routers.specs.History.{RouterRow}
use Rattle.nd_nexthop.specs.History.{RedirectRow}
use Rattle.nd_chronicle.specs.Start.{Start}
use Rattle.nd_chronicle.specs.Happening.{Chronicle, Neighbour, Passed, Forgotten, last_moment}
use Rattle.nd_chronicle.specs.Histories.{neighbour_history, then_failed, then_target}
use Rattle.nd_chronicle.specs.InForce.{reachable_time}
use Rattle.nd_chronicle.specs.Packet.{losing}
use Rattle.nd_chronicle.specs.Event as events
use Rattle.nd_chronicle.specs.Told.{Told, items_at, items}
use Rattle.nd_out.specs.declared.out.Out.{Out}
use Rattle.nd_steps.specs.Outputs.{happenings}
use Rattle.nd_steps.proofs.Quiet.{losing_is_quiet}
use Rattle.nd_steps.proofs.Saying.{NoneOverdueStill, OverdueByTable}
use Rattle.nd_steps.proofs.Telling.{lost_at, lost_items}
use Rattle.nd_chronicle.specs.Answer.{Done}
use Rattle.nd_chronicle.proofs.Answering.{losing_done}
use Rattle.nd_node.specs.declared.node.Node.{Node}
use Rattle.nd_node.specs.EventKept.{AddsEvent}
use Rattle.nd_node.specs.NodeKept.{Stands, next_of}
use Rattle.nd_steps.specs.DestinationCache.{MayRemember}
use Rattle.nd_node.proofs.Beside.{Same, beside_neighbour, stands_neighbours}
use Rattle.nd_node.proofs.Quiet.{stands_quiet}
use Rattle.nd_node.proofs.Steps.{passed}
use Rattle.nd_node.proofs.Turns.{neighbours_before}

module _ {R A : Type 0} (stream : R → Stream) (old new : Node R A) (now : ℕ) (neighbour : Addr) (settled : now < next_of old) (still : NoneOverdueStill) (table : OverdueByTable)
    (same : Same (record old { last = now }) new) (is : new.addresses ≡ old.addresses) (may : MayRemember old.choice new.choice old.neighbours.entries new.neighbours.entries) where
  -- the neighbour has one more row, which is no failure
  row_stands : (kind : rows.RowKind) → ((history : List RouterRow) → then_failed now (number_of neighbour.0) kind history ≡ history)
      → ((history : List RedirectRow) → then_target now (number_of neighbour.0) kind history ≡ history)
      → (start : Start) (c : Chronicle) → Stands stream start old c → last_moment start.at c ≤ now
      → neighbours.Stands new.neighbours.entries ((now, number_of neighbour.0, kind) ∷ neighbour_history c)
      → Stands stream start new ((now, Neighbour (number_of neighbour.0) kind) ∷ (now, Passed) ∷ c)
  row_stands kind routers' redirects' start c s le stands' =
      let key : ℕ = number_of neighbour.0 in
      let history : List rows.Row = neighbour_history c in
      let base : Node R A = record old { last = now } in
      let later : Chronicle = (now, Passed) ∷ c in
      let not_past : now ≤ next_of old = omega (arith, settled) in
      let before = (table old.neighbours.entries history now s.neighbours).0 (neighbours_before old now not_past) in
      let none = (table new.neighbours.entries ((now, key, kind) ∷ history) now stands').1 (still history now key kind before) in
      stands_neighbours stream start base new later ((now, Neighbour key kind) ∷ later) now same (beside_neighbour now key kind later routers' redirects')
      (passed stream start old base c now s le settled refl) refl refl is refl stands' none may

  -- it is confirmed, at the ReachableTime in force
  pub confirms : (reachable : ℕ) → reachable ≡ old.params.reachable_time
      → neighbours.GainsRow old.neighbours.entries new.neighbours.entries (now, number_of neighbour.0, rows.Confirmed reachable)
      → (outs : List (ℕ × Out A)) → AddsEvent stream old new outs outs now (events.Confirms neighbour) Done
  confirms reachable reachable_is gains outs = record {
    each = λ start c s le.
        let key : ℕ = number_of neighbour.0 in
        let kind : rows.RowKind = rows.Confirmed (reachable_time c) in
        let later : Chronicle = (now, Passed) ∷ c in
        let stands' : neighbours.Stands new.neighbours.entries ((now, key, kind) ∷ neighbour_history c) =
        subst (λ (r : ℕ). neighbours.Stands new.neighbours.entries ((now, key, rows.Confirmed r) ∷ neighbour_history c)) (reachable_is ∙ s.params.reachable_time)
        (gains.stands (neighbour_history c) s.neighbours) in (
          (now, Neighbour key kind) ∷ later,
          refl,
          row_stands kind (λ h. refl) (λ h. refl) start c s le stands',
          record { newer = []; told = append-nil (items later); outs = sym (append-nil (happenings outs)) },
          refl,
        );
  }

  -- it is forgotten, and what waited for it is lost
  pub forgets : (x room y : List (ℕ × Out A)) (packets : List (List ℕ)) → neighbours.GainsRow old.neighbours.entries new.neighbours.entries (now, number_of neighbour.0, rows.Forgot rows.Removed)
      → ((history : List rows.Row) → neighbours.Stands old.neighbours.entries history → packets ≡ waits_of (story (number_of neighbour.0) history))
      → room ≡ x → happenings y ≡ happenings room ++ lost_at now Forgotten packets → AddsEvent stream old new x y now (events.Forgets neighbour) Done
  forgets x room y packets gains packets_are reserved told = record {
    each = λ start c s le.
        let key : ℕ = number_of neighbour.0 in
        let kind : rows.RowKind = rows.Forgot rows.Removed in
        let later : Chronicle = (now, Passed) ∷ c in
        let row : Chronicle = (now, Neighbour key kind) ∷ later in
        let waited : List (List ℕ) = waits_of (story key (neighbour_history c)) in
        let gone = row_stands kind (λ h. refl) (λ h. refl) start c s le (gains.stands (neighbour_history c) s.neighbours) in (
          losing now Forgotten waited row,
          refl,
          stands_quiet stream start new row (losing now Forgotten waited row) (losing_is_quiet now Forgotten waited row (λ at. refl)) gone,
          record {
            newer = lost_at now Forgotten waited;
            told = lost_items now Forgotten waited row ∙ ap (λ (t : List (ℕ × Told)). t ++ flat_map items_at (lost_at now Forgotten waited)) (append-nil (items later) ∙ append-nil (items c));
            outs = told ∙ (ap (λ (r : List (ℕ × Out A)). happenings r ++ lost_at now Forgotten packets) reserved
                ∙ ap (λ (p : List (List ℕ)). happenings x ++ lost_at now Forgotten p) (packets_are (neighbour_history c) s.neighbours));
          },
          sym (losing_done now Forgotten waited row refl),
        );
  }
