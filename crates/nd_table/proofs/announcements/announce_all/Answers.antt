use Rattle.std.proofs.Common.{◌∙◌, ap, sym, arith, rules}
use Rattle.std.specs.Prelude.{◌&&◌}
use Rattle.nd_table.proofs.WithRoom.{few_after, leads_on, refreshes_on}
use Rattle.nd_table.proofs.announcements.announce_all.Goals as goal

pub loop-key-preserved : goal.loop-key-preserved
loop-key-preserved g c =
    let same = g.K.NamesKey.same in
    let es = c.loop-key.entries.items in
    let room = sym c.has_room.ensures ∙ c.if-not-has_room.false in
    let items = c.announce.ensures.items in
    let seen = c.deref.ensures.value in (
      ap (λ r. c.loop-key.refreshes && r) (refreshes_on same c.args.limit c.args.now _ _ _ _ _ es _ c.in-Some.ensures seen room items (sym c.announce.ensures.refreshes ∙ c.if-not-announce.false)) ∙ c.loop-key.invariant.0,
      leads_on same c.args.limit c.args.now _ _ _ _ _ es _ c.in-Some.ensures seen room items ∙ c.loop-key.invariant.1,
      omega (arith, few_after same c.args.limit c.args.now _ _ _ _ _ es _ c.in-Some.ensures seen room items),
      search rules,
    )
