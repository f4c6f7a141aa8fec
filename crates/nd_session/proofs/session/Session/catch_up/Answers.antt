use Rattle.std.proofs.Common.{ℕ, List, ap, sym, ◌∙◌}
use Rattle.std.specs.Global.{Global}
use Rattle.std.specs.Prelude.{is_none, slice_get}
use Rattle.nd_out.specs.declared.out.Out.{Out}
use Rattle.nd_session.proofs.Behind.{done_on_err, done_on_ok, left_by}
use Rattle.nd_session.proofs.Keeping.{in_hand_at_nothing, ready_after}
use Rattle.nd_session.proofs.Lasting.{keeps_unless}
use Rattle.nd_session.proofs.Remembered.{remembers_nothing}
use Rattle.nd_session.proofs.session.Session.catch_up.Goals as goal

pub returns-clause-passes : goal.returns-clause-passes
returns-clause-passes c = done_on_ok c.settle_in-settled.result c.done.result _ c.done.ensures c.settle_in-settled.ensures.passes

pub returns-clause-advances : goal.returns-clause-advances
returns-clause-advances c = λ ready empty.
    done_on_err c.settle_in-settled.result c.done.result _ c.done.ensures
    (c.settle_in-settled.ensures.advances (in_hand_at_nothing c.args.self.now.reports.items empty ready) (c.is_empty-room.ensures.room (c.is_empty-room.ensures.value ∙ ap (λ (l : List (ℕ × Out Global)). is_none (slice_get l 0)) empty)))

pub returns-clause-ready : goal.returns-clause-ready
returns-clause-ready c = λ ready.
    ready_after c.args.self.now.node c.settle_in-settled.new.self c.args.self.now.room c.settle_in-settled.new.room c.args.self.now.reports.items c.settle_in-settled.new.outs.items
    c.settle_in-settled.ensures.room c.settle_in-settled.ensures.grows c.settle_in-settled.ensures.longest ready

pub returns-clause-settled : goal.returns-clause-settled
returns-clause-settled c = done_on_ok c.settle_in-settled.result c.done.result _ c.done.ensures c.settle_in-settled.ensures.settled

pub returns-clause-leases : goal.returns-clause-leases
returns-clause-leases c =
    keeps_unless c.leaves_paths.result c.args.self.now _ c.forget_unless.ensures.least c.forget_unless.ensures.grows
    (λ held. left_by c.settle_in-settled.result _ (sym c.leaves_paths.ensures ∙ held) c.settle_in-settled.ensures.leaves)

pub invariant_of-self : goal.invariant_of-self
invariant_of-self c = record { remembered = remembers_nothing c.forget_unless.new.self c.settle_in-settled.new.self c.forget_unless.ensures.forgotten }
