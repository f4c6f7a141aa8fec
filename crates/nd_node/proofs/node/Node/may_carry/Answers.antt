use Rattle.std.proofs.Common.{◌≡◌, ◌∙◌, Bool, false, sym, ap}
use Rattle.std.specs.Prelude.{◌||◌}
use Rattle.nd_chronicle.specs.Event.{is_of_others}
use Rattle.nd_chronicle.specs.Histories.{address_history}
use Rattle.nd_chronicle.specs.OwnAddress.{is_assigned}
use Rattle.nd_node.proofs.node.Node.may_carry.Goals as goal

pub returns-else-counts : goal.returns-else-counts
returns-else-counts g c = λ start now c' payload s.
    let header = c.args.header.now in
    let strange : is_assigned c' header.source.0 ≡ false = sym (c.counts.ensures.by_history (address_history c') s.addresses) ∙ c.if-counts.false in
    c.is_of_others.ensures start now c' payload s ∙ sym (ap (λ (b : Bool). b || is_of_others start now (record { header = header; payload = payload }) c') strange)
