use Rattle.std.proofs.Common.{◌≡◌, ◌≤◌, sym, subst, ⊎_elim, inr}
use Rattle.std.specs.Prelude.{OnOk}
use Rattle.std.proofs.lemmas.Bool.{cases_lt}
use Rattle.nd_chronicle.specs.Event as events
use Rattle.nd_node.specs.Node.{last_of}
use Rattle.nd_node.specs.NodeKept.{Stands}
use Rattle.nd_random.specs.Source.{stream_of_source}
use Rattle.nd_session.specs.declared.session.Session.{Session}
use Rattle.nd_session.proofs.Behind.{advanced_on_err, anyhow, event_taken}
use Rattle.nd_session.proofs.Keeping.{event_ready}
use Rattle.nd_session.proofs.Lasting.{one_after_another}
use Rattle.nd_session.proofs.session.Session.receive.Goals as goal

pub returns-clause-takes : goal.returns-clause-takes
returns-clause-takes c = record {
  past = λ lt. absurd (let is = c.past.ensures.past lt in let none = c.in_default.is in let no : ⊥ = cc in no);
  taken = λ le.
      event_taken stream_of_source c.args.self.now.node c.settle.new.self.node c.hear.new.self.node c.args.self.now.reports.items c.settle.new.self.reports.items c.hear.new.self.reports.items
      c.args.now (events.Receives c.args.frame.now) c.hear.result le c.in_ok-settle.ensures.onward c.in_ok-settle.ensures.passes c.hear.ensures.adds c.hear.ensures.stays c.hear.ensures.told;
}

pub returns-clause-ready : goal.returns-clause-ready
returns-clause-ready c = λ start history s ready.
    let le : last_of c.args.self.now.node ≤ c.args.now =
    ⊎_elim (λ lt. absurd (let is = c.past.ensures.past lt in let none = c.in_default.is in let no : ⊥ = cc in no)) (λ le. le) (cases_lt c.args.now (last_of c.args.self.now.node)) in
    rw c.hear.ensures.room
    (event_ready stream_of_source c.args.self.now.node c.settle.new.self.node c.hear.new.self.node c.args.self.now.reports.items c.settle.new.self.reports.items c.hear.new.self.reports.items
    c.args.now (events.Receives c.args.frame.now) c.hear.result c.settle.new.self.room le c.in_ok-settle.ensures.passes c.hear.ensures.adds c.hear.ensures.stays c.hear.ensures.told
    start history s (c.in_ok-settle.ensures.ready ready))

pub returns-clause-leases : goal.returns-clause-leases
returns-clause-leases c = one_after_another c.args.self.now c.settle.new.self c.hear.new.self c.in_ok-settle.ensures.leases c.hear.ensures.leases

pub returns-clause-advances : goal.returns-clause-advances
returns-clause-advances c =
    advanced_on_err stream_of_source c.args.self.now.node c.settle.new.self.node c.hear.new.self.node c.args.self.now.reports.items c.settle.new.self.reports.items c.hear.new.self.reports.items
    c.args.now _ _ _ c.hear.result c.in_ok-settle.ensures.passes c.hear.ensures.stays c.hear.ensures.told

pub returns-in_err-settle-clause-advances : goal.returns-in_err-settle-clause-advances
returns-in_err-settle-clause-advances c = anyhow c.from_residual.result (λ ready empty. inr (c.in_err-settle.ensures.advances ready empty))

pub returns-clause-idle : goal.returns-clause-idle
returns-clause-idle c = λ verdict start history s le before heard leaves.
    let same = c.in_ok-settle.ensures.idle before in
    subst (λ (x : Session). OnOk c.hear.result (c.hear.new.self.paths.leases ≡ x.paths.leases)) same
    (c.hear.ensures.idle verdict start history (subst (λ (x : Session). Stands stream_of_source start x.node history) (sym same) s) le heard leaves)
