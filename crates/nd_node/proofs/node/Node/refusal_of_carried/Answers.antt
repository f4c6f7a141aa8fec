use Rattle.std.proofs.Common.{◌≡◌, ◌+◌, ◌∙◌, ℕ, Bool, None, Some, cond, length, nat_lt, sym, ap}
use Rattle.std.specs.Prelude.{◌||◌}
use Rattle.nd_addr.specs.Ip6.{ipv6_header_length, packet_parts}
use Rattle.nd_chronicle.specs.Event.{is_of_others}
use Rattle.nd_chronicle.specs.Happening.{Chronicle, NotOurs, TooLong}
use Rattle.nd_chronicle.specs.InForce.{link_mtu}
use Rattle.nd_chronicle.specs.OwnAddress.{is_assigned, is_disabled, is_up}
use Rattle.nd_chronicle.specs.Start.{Start}
use Rattle.nd_node.proofs.OutgoingPackets.{up_refuses}
use Rattle.nd_node.proofs.node.Node.refusal_of_carried.Goals as goal

pub returns-then-not-may_carry-clause-says : goal.returns-then-not-may_carry-clause-says
returns-then-not-may_carry-clause-says g c = λ start now c' s.
    let packet = packet_parts c.args.packet.now in
    let source = packet.header.source in
    let long : Bool = nat_lt (link_mtu c') (ipv6_header_length + length packet.payload) in
    let may : Bool = is_assigned c' source.0 || is_of_others start now packet c' in
    let not : may ≡ _ = sym (c.may_carry.ensures start now c' packet.payload s) ∙ c.if-not-may_carry.true in
    sym (up_refuses source (is_disabled start c') (is_up start c') may long (c.in_default.ensures start c' s) ∙ ap (λ (m : Bool). cond m (cond long (Some TooLong) None) (Some (NotOurs source))) not)

pub returns-then-is_too_long-clause-says : goal.returns-then-is_too_long-clause-says
returns-then-is_too_long-clause-says g c = λ start now c' s.
    let packet = packet_parts c.args.packet.now in
    let source = packet.header.source in
    let long : Bool = nat_lt (link_mtu c') (ipv6_header_length + length packet.payload) in
    let may : Bool = is_assigned c' source.0 || is_of_others start now packet c' in
    let is : may ≡ _ = sym (c.may_carry.ensures start now c' packet.payload s) ∙ c.if-not-may_carry.false in
    let mtu : c.mtu-mtu.result ≡ link_mtu c' = c.mtu-mtu.ensures.value ∙ s.params.mtu in
    let yes : long ≡ _ = ap (λ (m : ℕ). nat_lt m (ipv6_header_length + length packet.payload)) (sym mtu) ∙ sym c.if-is_too_long.ensures in
    sym (up_refuses source (is_disabled start c') (is_up start c') may long (c.in_default.ensures start c' s) ∙ (ap (λ (m : Bool). cond m (cond long (Some TooLong) None) (Some (NotOurs source))) is
    ∙ ap (λ (l : Bool). cond l (Some TooLong) None) yes))

pub returns-clause-says : goal.returns-clause-says
returns-clause-says g c = λ start now c' s.
    let packet = packet_parts c.args.packet.now in
    let source = packet.header.source in
    let long : Bool = nat_lt (link_mtu c') (ipv6_header_length + length packet.payload) in
    let may : Bool = is_assigned c' source.0 || is_of_others start now packet c' in
    let is : may ≡ _ = sym (c.may_carry.ensures start now c' packet.payload s) ∙ c.if-not-may_carry.false in
    let mtu : c.mtu-mtu.result ≡ link_mtu c' = c.mtu-mtu.ensures.value ∙ s.params.mtu in
    let no : long ≡ _ = ap (λ (m : ℕ). nat_lt m (ipv6_header_length + length packet.payload)) (sym mtu) ∙ sym c.if-is_too_long.ensures in
    sym (up_refuses source (is_disabled start c') (is_up start c') may long (c.in_default.ensures start c' s) ∙ (ap (λ (m : Bool). cond m (cond long (Some TooLong) None) (Some (NotOurs source))) is
    ∙ ap (λ (l : Bool). cond l (Some TooLong) None) no))
