use Rattle.std.proofs.lemmas.Result.{IfOk-weaker}
use Rattle.nd_addr.specs.Ip6.{packet_parts}
use Rattle.nd_steps.proofs.InTransit.{better_hop}
use Rattle.nd_steps.proofs.transit.better_hop_frame.Goals as goal

pub returns-clause-by_history : goal.returns-clause-by_history
returns-clause-by_history g c =
    IfOk-weaker c.redirect_frame.result _ _
    (λ frame is start moment c' s mac own. better_hop start moment c' c.args.neighbours.now.entries c.args.mac c.args.own c.args.target c.known_mac-target_mac.result (packet_parts c.args.packet.now) c.args.bytes.now frame c.known_mac-target_mac.ensures is s mac own)
    c.redirect_frame.ensures
