use Rattle.std.proofs.Common.{refl, sym, subst}
use Rattle.std.specs.Prelude.{Bool}
use Rattle.nd_addr.specs.Number.{number_of}
use Rattle.nd_steps.specs.DefaultRouterList.{Leaves}
use Rattle.nd_steps.proofs.Advertisements.{leaves_now}
use Rattle.nd_steps.proofs.default_router_list.end_router.Goals as goal

pub returns-clause-leaves : goal.returns-clause-leaves
returns-clause-leaves g c =
    let key = number_of c.args.addr.0 in
    subst (λ (b : Bool). Leaves c.args.now key b c.args.routers.now c.ended.new.self c.args.choice.now c.target_gone.new.self c.args.outs.now.items c.push_reserved.new.self.items) (sym c.if-not-ends.false)
    (leaves_now c.args.now key c.args.routers.now c.ended.new.self c.args.choice.now c.target_gone.new.self c.args.outs.now.items c.push_reserved.new.self.items _
    (c.ended.ensures.stands c.args.now) (c.target_gone.ensures.stands c.args.now) c.target_gone.ensures.memory c.push_reserved.ensures.items refl)
