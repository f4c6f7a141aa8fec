use Rattle.std.proofs.Common.{◌∙◌, ap}
use Rattle.nd_slaac.specs.PrefixOption.{link_local_of}
use Rattle.nd_chronicle.specs.Hearing.{conflicts_with}
use Rattle.nd_chronicle.specs.Histories.{address_history}
use Rattle.nd_steps.proofs.Ours.{awake, if_own, if_not_own}
use Rattle.nd_steps.proofs.own_addresses.is_awake.Goals as goal

pub returns-then-counts-2 : goal.returns-then-counts-2
returns-then-counts-2 g c = λ start c' s m.
    let own = c.link_local-own.result in
    c.conflicts_with.ensures ∙ (if_own c.counts-2.result (conflicts_with own.0 c.args.source c.args.body.now) c.if-counts-2.true
    ∙ awake start c' own c.args.source c.args.body.now c.counts.result c.counts-2.result (c.link_local-own.ensures ∙ ap link_local_of m) (c.addresses_are_told_by_numbers.ensures.addr own c.as_bytes-bytes.ensures.bytes)
    (c.counts.ensures.by_history (address_history c') s) c.if-counts.false (c.counts-2.ensures.by_history (address_history c') s))

pub returns-else-counts-2 : goal.returns-else-counts-2
returns-else-counts-2 g c = λ start c' s m.
    let own = c.link_local-own.result in
    if_not_own c.counts-2.result (conflicts_with own.0 c.args.source c.args.body.now) c.if-counts-2.false
    ∙ awake start c' own c.args.source c.args.body.now c.counts.result c.counts-2.result (c.link_local-own.ensures ∙ ap link_local_of m) (c.addresses_are_told_by_numbers.ensures.addr own c.as_bytes-bytes.ensures.bytes)
    (c.counts.ensures.by_history (address_history c') s) c.if-counts.false (c.counts-2.ensures.by_history (address_history c') s)
