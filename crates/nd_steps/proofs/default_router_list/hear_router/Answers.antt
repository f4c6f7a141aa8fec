use Rattle.std.proofs.Common.{ap, ◌∙◌}
use Rattle.nd_addr.specs.Number.{number_of}
use Rattle.nd_steps.proofs.Refreshed.{kept_stand, kept_until, listed, nothing}
use Rattle.nd_steps.proofs.GivingWay.{way_recollects, way_until}
use Rattle.nd_steps.proofs.default_router_list.hear_router.Goals as goal

pub returns-then-not-listed-clause-routers : goal.returns-then-not-listed-clause-routers
returns-then-not-listed-clause-routers g c = λ history s.
    rw c.if-not-listed.true (c.note_way.ensures.notes.routers c.args.now _ (c.leave_out.ensures.stands history s))

pub returns-clause-routers : goal.returns-clause-routers
returns-clause-routers g c = λ history s. rw c.if-not-listed.false ((c.ended.ensures.stands c.args.now).stands _ (c.note_way-2.ensures.notes.routers c.args.now _ (c.take_ra.ensures.stands.stands history s)))

pub returns-clause-redirects : goal.returns-clause-redirects
returns-clause-redirects g c = λ history s.
    (c.target_gone.ensures.stands c.args.now).stands _ (c.note_way-2.ensures.notes.redirects c.args.now history (kept_stand c.only_refreshes-refreshes.result c.args.choice.now c.keep_if.new.choice c.keep_if.ensures history s))

pub returns-then-not-times_out-clause-recollects : goal.returns-then-not-times_out-clause-recollects
returns-then-not-times_out-clause-recollects g c =
    way_recollects c.args.gone c.args.choice.now c.keep_if.new.choice c.note_way-2.new.choice c.args.routers.now c.take_ra.new.self c.note_way-2.new.routers c.note_way-2.ensures.same c.note_way-2.ensures.forgets
    (listed c.only_refreshes-refreshes.result c.args.now (number_of c.args.source.0) c.args.lifetime c.args.preference c.args.choice.now c.keep_if.new.choice c.args.routers.now c.take_ra.new.self c.only_refreshes-refreshes.ensures.0 c.keep_if.ensures c.requires.settled c.take_ra.ensures.entries c.take_ra.ensures.preferences c.take_ra.ensures.failed)

pub returns-clause-recollects : goal.returns-clause-recollects
returns-clause-recollects g c =
    nothing c.args.choice.now c.target_gone.new.self _ (ap (λ m. m.hops) c.target_gone.ensures.memory) (ap (λ m. m.until) c.target_gone.ensures.memory
    ∙ way_until c.args.gone c.args.choice.now c.keep_if.new.choice c.note_way-2.new.choice c.args.routers.now c.take_ra.new.self c.note_way-2.new.routers c.note_way-2.ensures.same c.note_way-2.ensures.forgets
    ∙ kept_until c.only_refreshes-refreshes.result c.args.choice.now c.keep_if.new.choice c.keep_if.ensures)

pub returns-then-not-times_out-clause-redirects : goal.returns-then-not-times_out-clause-redirects
returns-then-not-times_out-clause-redirects g c = λ history s.
    c.note_way-2.ensures.notes.redirects c.args.now history (kept_stand c.only_refreshes-refreshes.result c.args.choice.now c.keep_if.new.choice c.keep_if.ensures history s)

pub returns-then-not-times_out-clause-routers : goal.returns-then-not-times_out-clause-routers
returns-then-not-times_out-clause-routers g c = λ history s. rw c.if-not-listed.false (c.note_way-2.ensures.notes.routers c.args.now _ (c.take_ra.ensures.stands.stands history s))
