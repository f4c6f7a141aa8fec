use Rattle.std.proofs.Common.{◌≡◌, length, refl, sym, ◌∙◌, arith}
use Rattle.std.proofs.lemmas.List.{nil_from_length}
use Rattle.std.specs.Vec.Iter.{into_iter_items}
use Rattle.nd_wire.specs.Wire.{IsFaithful}
use Rattle.nd_node.proofs.Running.{on_err_any}
use Rattle.nd_link.specs.Event.{link_events}
use Rattle.nd_link.proofs.Coming.{all_came, all_of_bytes, came_in_part, came_up_to, handed_back, handed_on, none_came, nothing_came, one_came}
use Rattle.nd_link.proofs.Holder.{keeps_one_holder, keeps_one_holder_with_losses}
use Rattle.nd_link.proofs.link.Link.run.Goals as goal

pub returns-then-self-clause-in_part : goal.returns-then-self-clause-in_part
returns-then-self-clause-in_part g c = λ faithful. nothing_came g.R.Rng.stream c.args.self.now c.args.told.now.items (link_events g.R.Rng.stream c.args.events.items)

pub loop-at-init : goal.loop-at-init
loop-at-init g c = record {
  came = none_came (IsFaithful g.W.Wire.arrives) g.R.Rng.stream c.args.self.now c.args.told.now.items c.args.events.items (into_iter_items c.into_iter-at-iterator.result) (sym c.into_iter-at-iterator.ensures.into_iter_gives.0) c.requires;
  carried = refl;
  spent = refl;
}

pub loop-at-preserved : goal.loop-at-preserved
loop-at-preserved g c =
    let inv = c.loop-at.invariant in record {
      came = one_came (IsFaithful g.W.Wire.arrives) g.R.Rng.stream c.args.self.now c.loop-at.self c.event.new.self c.args.told.now.items c.loop-at.told.items c.event.new.told.items c.args.events.items
          (into_iter_items c.loop-at.at-iterator) (into_iter_items c.next.new.self) (c.in-Some.at, c.in-Some.event) c.in-Some.ensures.steps.0 inv.came c.in_ok-event.ensures.bytes c.in_ok-event.ensures.follows;
      carried = c.in_ok-event.ensures.wire_carried (λ e. let no : ⊥ = cc in no) ∙ inv.carried;
      spent = c.in_ok-event.ensures.unspent ∙ inv.spent;
    }

pub returns-in_err-event-clause-in_part : goal.returns-in_err-event-clause-in_part
returns-in_err-event-clause-in_part g c = λ faithful.
    on_err_any c.from_residual.result _
    (came_in_part (IsFaithful g.W.Wire.arrives) g.R.Rng.stream c.args.self.now c.loop-at.self c.event.new.self c.args.told.now.items c.loop-at.told.items c.event.new.told.items c.args.events.items
    (into_iter_items c.loop-at.at-iterator) (into_iter_items c.next.new.self) (c.in-Some.at, c.in-Some.event) c.in-Some.ensures.steps.0 c.loop-at.invariant.came faithful c.in_err-event.ensures.told)

pub returns-in_err-event-clause-passes : goal.returns-in_err-event-clause-passes
returns-in_err-event-clause-passes g c = λ faithful wire.
    came_up_to (IsFaithful g.W.Wire.arrives) g.R.Rng.stream c.args.self.now c.loop-at.self c.event.new.self c.args.told.now.items c.loop-at.told.items c.event.new.told.items c.args.events.items
    (into_iter_items c.loop-at.at-iterator) (into_iter_items c.next.new.self) (c.in-Some.at, c.in-Some.event) c.in-Some.ensures.steps.0 c.loop-at.invariant.came faithful
    (c.in_err-event.ensures.delivery (handed_on c.from_residual.result _ _ c.from_residual.ensures.1 wire))
    (c.in_err-event.ensures.passes (handed_on c.from_residual.result _ _ c.from_residual.ensures.1 wire))

pub returns-in_err-event-clause-wire_carried : goal.returns-in_err-event-clause-wire_carried
returns-in_err-event-clause-wire_carried g c = λ other.
    c.in_err-event.ensures.wire_carried (λ is. other (handed_back c.from_residual.result _ _ c.from_residual.ensures.1 is)) ∙ c.loop-at.invariant.carried

pub returns-clause-runs : goal.returns-clause-runs
returns-clause-runs g c = λ faithful.
    let ok = c.loop-at.at-iterator.rest.ok.0 in
    let none = c.in-None.ensures.steps.0 in
    let len : length (into_iter_items c.loop-at.at-iterator) ≡ 0 = omega (arith, ok, none) in
    all_came (IsFaithful g.W.Wire.arrives) g.R.Rng.stream c.args.self.now c.loop-at.self c.args.told.now.items c.loop-at.told.items c.args.events.items (into_iter_items c.loop-at.at-iterator) (nil_from_length (into_iter_items c.loop-at.at-iterator) len) c.loop-at.invariant.came faithful

pub returns-clause-one_holder : goal.returns-clause-one_holder
returns-clause-one_holder g c = λ faithful.
    let ok = c.loop-at.at-iterator.rest.ok.0 in
    let none = c.in-None.ensures.steps.0 in
    let len : length (into_iter_items c.loop-at.at-iterator) ≡ 0 = omega (arith, ok, none) in
    let over = nil_from_length (into_iter_items c.loop-at.at-iterator) len in
    let rest = into_iter_items c.loop-at.at-iterator in
    keeps_one_holder g.R.Rng.stream c.args.self.now c.loop-at.self c.args.told.now.items c.loop-at.told.items (link_events g.R.Rng.stream c.args.events.items)
    (all_of_bytes (IsFaithful g.W.Wire.arrives) g.R.Rng.stream c.args.self.now c.loop-at.self c.args.told.now.items c.loop-at.told.items c.args.events.items rest over c.loop-at.invariant.came)
    (all_came (IsFaithful g.W.Wire.arrives) g.R.Rng.stream c.args.self.now c.loop-at.self c.args.told.now.items c.loop-at.told.items c.args.events.items rest over c.loop-at.invariant.came faithful)

pub returns-clause-one_holder_where_frames_are_lost : goal.returns-clause-one_holder_where_frames_are_lost
returns-clause-one_holder_where_frames_are_lost g c = λ faithful.
    let ok = c.loop-at.at-iterator.rest.ok.0 in
    let none = c.in-None.ensures.steps.0 in
    let len : length (into_iter_items c.loop-at.at-iterator) ≡ 0 = omega (arith, ok, none) in
    let over = nil_from_length (into_iter_items c.loop-at.at-iterator) len in
    let rest = into_iter_items c.loop-at.at-iterator in
    keeps_one_holder_with_losses g.R.Rng.stream c.args.self.now c.loop-at.self c.args.told.now.items c.loop-at.told.items (link_events g.R.Rng.stream c.args.events.items)
    (all_of_bytes (IsFaithful g.W.Wire.arrives) g.R.Rng.stream c.args.self.now c.loop-at.self c.args.told.now.items c.loop-at.told.items c.args.events.items rest over c.loop-at.invariant.came)
    (all_came (IsFaithful g.W.Wire.arrives) g.R.Rng.stream c.args.self.now c.loop-at.self c.args.told.now.items c.loop-at.told.items c.args.events.items rest over c.loop-at.invariant.came faithful)
