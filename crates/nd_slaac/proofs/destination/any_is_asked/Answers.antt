use Rattle.std.proofs.Common.{◌≡◌, ◌∙◌, sym}
use Rattle.std.specs.Cmp.Lexicographic.{bytes_decides}
use Rattle.std.proofs.lemmas.Bool.{true≢false}
use Rattle.nd_addr.specs.Kind.{solicited_node_of}
use Rattle.nd_slaac.proofs.Destinations.{none_asked}
use Rattle.nd_slaac.proofs.destination.any_is_asked.Goals as goal

pub any_ends_alike-requires : goal.any_ends_alike-requires
any_ends_alike-requires c =
    (bytes_decides c.args.destination.0 c.solicited_node.result.0).0 (sym c.eq.ensures ∙ c.if-eq.true) ∙ c.solicited_node.ensures

pub returns-else-eq : goal.returns-else-eq
returns-else-eq c =
    let differ : c.args.destination.0 ≡ solicited_node_of c.args.destination.0 → ⊥ =
    λ same. true≢false (sym ((bytes_decides c.args.destination.0 c.solicited_node.result.0).1 (same ∙ sym c.solicited_node.ensures)) ∙ (sym c.eq.ensures ∙ c.if-eq.false)) in
    c.if-eq.false ∙ sym (none_asked c.args.counted c.args.destination c.args.entries.now differ)
