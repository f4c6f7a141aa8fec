use Rattle.std.proofs.Common.{◌≡◌, ◌≤◌, ◌<◌, ◌++◌, ◌∙◌, ℕ, Bool, true, false, cond, sym, ap, subst, arith}
use Rattle.std.specs.Prelude.{is_some}
use Rattle.nd_addr.specs.declared.addr.Addr.{Addr}
use Rattle.nd_addr.specs.Number.{number_of}
use Rattle.nd_compose.specs.Frames.{resolution_frame}
use Rattle.nd_neighbour.specs.Wanting.{Awaits}
use Rattle.nd_chronicle.specs.Happening.{Sent}
use Rattle.nd_steps.specs.NeighbourCache.{told_of_wish}
use Rattle.nd_steps.specs.Outputs.{at_moment, happenings}
use Rattle.nd_steps.proofs.Telling.{one_told}
use Rattle.nd_steps.proofs.neighbour_cache.tell_wish.Goals as goal

-- where there is room for one row or for two, there is room for one
one_fits : (both : Bool) (room : ℕ) → cond both 2 1 ≤ room → 0 < room
one_fits true room h = omega (arith, h)
one_fits false room h = omega (arith, h)

pub returns-in-Some-clause-told : goal.returns-in-Some-clause-told
returns-in-Some-clause-told g c =
    let q = c.in-Waits-true in
    let new = c.push_reserved.new.self.items in
    rw q.is (subst
    (λ (b : Bool). happenings new ≡ happenings c.args.outs.now.items ++ at_moment c.args.at (told_of_wish c.args.mac c.args.own (number_of c.args.to.0) (Awaits b)))
    (sym q.solicit-test)
    (one_told c.args.outs.now.items new c.args.at _ _ c.push_reserved.ensures.items
    (ap Sent (c.resolution.ensures ∙ sym (ap (λ (a : Addr). resolution_frame c.args.mac c.args.own a) (c.addresses_are_told_by_numbers.ensures.addr c.args.to c.as_bytes-bytes.ensures.bytes))))))

pub returns-in-Waits-false-clause-left : goal.returns-in-Waits-false-clause-left
returns-in-Waits-false-clause-left g c = one_fits (is_some c.args.room) c.args.outs.now.free c.requires.room

pub returns-in-Known-clause-left : goal.returns-in-Known-clause-left
returns-in-Known-clause-left g c = one_fits (is_some c.args.room) c.args.outs.now.free c.requires.room
