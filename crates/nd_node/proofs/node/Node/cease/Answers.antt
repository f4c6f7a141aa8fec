use Rattle.std.proofs.Common.{Bool, [], ◌++◌, append-nil, refl, sym, ◌∙◌, ap}
use Rattle.nd_addr.specs.declared.mac.Mac.{Mac}
use Rattle.nd_addr.specs.Number.{addr_at}
use Rattle.nd_slaac.specs.PrefixOption.{link_local_of}
use Rattle.nd_steps.specs.DueRows.{advertised_by}
use Rattle.nd_steps.specs.Outputs.{at_moment, happenings}
use Rattle.nd_node.proofs.RouterCommands.{ceases, told_end}
use Rattle.nd_node.proofs.node.Node.cease.Goals as goal

pub returns-then-stopped-clause-adds : goal.returns-then-stopped-clause-adds
returns-then-stopped-clause-adds g c =
    rw c.advance_to.ensures (ceases g.R.Rng.stream c.args.self.now _ c.args.now c.requires.settled c.in-Router.is (record c.args.self.now.router { advertiser = c.stop-stopped.new.self }) refl c.args.outs.now.items c.tell_advertisement.new.outs.items
    c.link_local-own.result (λ start m. c.link_local-own.ensures ∙ ap (λ (mac : Mac). addr_at (link_local_of mac)) m) c.in_ok-last.last c.in_ok-last.ensures c.stop-stopped.result c.stop-stopped.ensures.by_history c.stop-stopped.ensures.stands c.stop-stopped.ensures.limit refl
    (advertised_by c.in_ok-last.last) (sym (ap (λ (b : Bool). told_end b c.in_ok-last.last) c.if-stopped.true))
    (c.tell_advertisement.ensures ∙ ap (λ l. happenings l ++ at_moment c.args.now (advertised_by c.in_ok-last.last)) c.in_ok-reserve.ensures.items))

pub returns-else-stopped-clause-adds : goal.returns-else-stopped-clause-adds
returns-else-stopped-clause-adds g c =
    rw c.advance_to.ensures (ceases g.R.Rng.stream c.args.self.now _ c.args.now c.requires.settled c.in-Router.is (record c.args.self.now.router { advertiser = c.stop-stopped.new.self }) refl c.args.outs.now.items c.reserve.new.self.items
    c.link_local-own.result (λ start m. c.link_local-own.ensures ∙ ap (λ (mac : Mac). addr_at (link_local_of mac)) m) c.in_ok-last.last c.in_ok-last.ensures c.stop-stopped.result c.stop-stopped.ensures.by_history c.stop-stopped.ensures.stands c.stop-stopped.ensures.limit refl
    [] (sym (ap (λ (b : Bool). told_end b c.in_ok-last.last) c.if-stopped.false))
    (ap happenings c.in_ok-reserve.ensures.items ∙ sym (append-nil _)))
