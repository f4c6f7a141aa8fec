use Rattle.std.proofs.Common.{◌≡◌, ◌∙◌, refl, inl}
use Rattle.nd_addr.specs.Kind.{all_nodes_address, all_routers_address}
use Rattle.nd_addr.specs.declared.role.Role.TheVariants.{Router}
use Rattle.nd_chronicle.specs.Histories.{address_history}
use Rattle.nd_steps.proofs.Ours.{ours}
use Rattle.nd_node.proofs.node.Node.is_ours.Goals as goal

pub returns : goal.returns
returns g c = λ start c' s.
    let law = c.addresses_are_told_by_numbers.ensures in
    let entries : c.args.destination.0 ≡ all_nodes_address → ⊥ = λ e. let both = c.is_to_nodes.ensures.1 e in let never : ⊥ = cc in never in
    let routers : (start.role ≡ Router) × (c.args.destination.0 ≡ all_routers_address) → ⊥ = λ r. let both = c.is_to_routers.ensures.1 (s.role ∙ r.0, r.1) in let never : ⊥ = cc in never in
    ours start c' c.args.counted c.args.destination c.is_to.result law.addr law.addr_bytes (c.is_to.ensures (address_history c') s.addresses) entries routers

pub returns-then-is_to_nodes : goal.returns-then-is_to_nodes
returns-then-is_to_nodes g c = λ start c' s. (λ e. inl (c.is_to_nodes.ensures.0 c.if-is_to_nodes.true), λ o. refl)
