use Rattle.std.proofs.Common.{◌≡◌, length, ap, ◌∙◌, subst, sym, arith}
use Rattle.nd_table.specs.Date.{Date}
use Rattle.nd_table.specs.Keyed.{at_key, Rises}
use Rattle.nd_table.specs.Dates.{rank}
use Rattle.nd_table.specs.Blocks.{Blocked, all_of}
use Rattle.nd_table.proofs.Dates.{Rises-without, absent_without, shorter}
use Rattle.nd_table.proofs.Belonging.{block_order, block_addresses, block_absent, block_there, changed_dates, changed_kept}
use Rattle.nd_table.proofs.blocks.Blocks.change.Goals as goal

pub change-requires-clause-order : goal.change-requires-clause-order
change-requires-clause-order g c =
    let same : c.self.inside.used.items ≡ c.args.self.now.blocks = ap (λ (b : Blocked). b.blocks) c.self.view_is in
    block_order c.find-at.result c.args.self.now.blocks c.self.inside.used.items c.index_mut-block.result.now c.find-at.ensures.within same c.index_mut-block.ensures.value c.requires.order

pub change-requires-clause-addresses : goal.change-requires-clause-addresses
change-requires-clause-addresses g c =
    let same : c.self.inside.used.items ≡ c.args.self.now.blocks = ap (λ (b : Blocked). b.blocks) c.self.view_is in
    block_addresses c.find-at.result c.args.self.now.blocks c.self.inside.used.items c.index_mut-block.result.now c.find-at.ensures.within same c.index_mut-block.ensures.value c.requires.addresses

pub change-requires-clause-there : goal.change-requires-clause-there
change-requires-clause-there g c =
    let same : c.self.inside.used.items ≡ c.args.self.now.blocks = ap (λ (b : Blocked). b.blocks) c.self.view_is in
    block_there c.find-at.result c.args.self.now.blocks c.self.inside.used.items c.index_mut-block.result.now c.find-at.ensures.within same c.index_mut-block.ensures.value
    c.args.old.moment c.args.old.number c.find-at.ensures.here c.requires.there

pub change-requires-clause-absent : goal.change-requires-clause-absent
change-requires-clause-absent g c =
    let same : c.self.inside.used.items ≡ c.args.self.now.blocks = ap (λ (b : Blocked). b.blocks) c.self.view_is in
    block_absent c.find-at.result c.args.self.now.blocks c.self.inside.used.items c.index_mut-block.result.now c.find-at.ensures.within same c.index_mut-block.ensures.value (rank c.args.new) c.requires.absent

pub put-requires-clause-order : goal.put-requires-clause-order
put-requires-clause-order g c =
    subst (Rises rank) (sym c.take_at.ensures.dates) (Rises-without c.args.old.moment c.args.old.number (all_of c.args.self.now.blocks) c.requires.order)

pub put-requires-clause-absent : goal.put-requires-clause-absent
put-requires-clause-absent g c =
    ap (at_key rank (rank c.args.new)) c.take_at.ensures.dates ∙ absent_without (rank c.args.new) c.args.old.moment c.args.old.number (all_of c.args.self.now.blocks) c.requires.absent

pub put-requires-clause-room : goal.put-requires-clause-room
put-requires-clause-room g c =
    omega (arith, c.requires.room, c.take_at.ensures.number, ap (length {A = Date}) c.take_at.ensures.dates, shorter c.args.old.moment c.args.old.number (all_of c.args.self.now.blocks) c.requires.there)

pub returns-then-belongs-clause-dates : goal.returns-then-belongs-clause-dates
returns-then-belongs-clause-dates g c =
    let same : c.self.inside.used.items ≡ c.args.self.now.blocks = ap (λ (b : Blocked). b.blocks) c.self.view_is in
    changed_dates c.find-at.result c.args.self.now.blocks c.self.inside.used.items c.index_mut-block.result.now c.find-at.ensures.within same c.index_mut-block.ensures.value c.change.new.self
    c.args.old.moment c.args.old.number c.args.new c.change.ensures c.find-at.ensures.here
    (c.belongs.ensures c.if-belongs.true)

pub returns-then-belongs-clause-kept : goal.returns-then-belongs-clause-kept
returns-then-belongs-clause-kept g c =
    let same : c.self.inside.used.items ≡ c.args.self.now.blocks = ap (λ (b : Blocked). b.blocks) c.self.view_is in
    changed_kept c.find-at.result c.args.self.now.blocks c.self.inside.used.items c.index_mut-block.result.now c.find-at.ensures.within same c.index_mut-block.ensures.value c.change.new.self
    c.args.old.moment c.args.old.number c.args.new c.change.ensures
    (block_there c.find-at.result c.args.self.now.blocks c.self.inside.used.items c.index_mut-block.result.now c.find-at.ensures.within same c.index_mut-block.ensures.value c.args.old.moment c.args.old.number c.find-at.ensures.here c.requires.there)
    c.requires.kept
