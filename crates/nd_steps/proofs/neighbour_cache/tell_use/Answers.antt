use Rattle.std.proofs.Common.{◌≡◌, Bool, ◌++◌, ◌∙◌, sym, ap, subst}
use Rattle.nd_addr.specs.declared.addr.Addr.{Addr}
use Rattle.nd_addr.specs.declared.mac.Mac.{Mac}
use Rattle.nd_addr.specs.Frame.{addressed}
use Rattle.nd_addr.specs.Number.{number_of}
use Rattle.nd_neighbour.specs.Sending.{Queues}
use Rattle.nd_compose.specs.Frames.{resolution_frame}
use Rattle.nd_chronicle.specs.Happening.{Sent}
use Rattle.nd_steps.specs.NeighbourCache.{told_of_packet}
use Rattle.nd_steps.specs.Outputs.{at_moment, happenings}
use Rattle.nd_steps.proofs.Telling.{one_told}
use Rattle.nd_steps.proofs.neighbour_cache.tell_use.Goals as goal

pub returns-in-Send-clause-told : goal.returns-in-Send-clause-told
returns-in-Send-clause-told g c =
    rw c.in-Send.is (one_told c.args.outs.now.items _ c.args.at _ _ c.push_reserved.ensures.items
    (ap Sent (c.addressed.ensures ∙ sym (ap (λ (m : Mac). addressed m c.in-Send.packet) (c.addresses_are_told_by_numbers.ensures.mac c.in-Send.destination c.as_bytes-bytes.ensures.bytes)))))

pub returns-in-Some-clause-told : goal.returns-in-Some-clause-told
returns-in-Some-clause-told g c =
    let q = c.in-Queued-true-default in
    let new = c.push_reserved-in-Some.new.self.items in
    rw q.is (subst
    (λ (b : Bool). happenings new ≡ happenings c.args.outs.now.items ++ at_moment c.args.at (told_of_packet c.args.mac c.args.own (number_of c.args.to.0) (Queues b q.replaced)))
    (sym q.solicit-test)
    (one_told c.args.outs.now.items new c.args.at _ _ c.push_reserved-in-Some.ensures.items
    (ap Sent (c.resolution.ensures ∙ sym (ap (λ (a : Addr). resolution_frame c.args.mac c.args.own a) (c.addresses_are_told_by_numbers.ensures.addr c.args.to c.as_bytes-bytes-in-Some.ensures.bytes))))))
