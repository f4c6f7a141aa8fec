use Rattle.std.proofs.Common.{◌≡◌, ◌+◌, ap, ◌∙◌, sym, subst, arith}
use Rattle.nd_table.specs.Dates.{rank}
use Rattle.nd_table.specs.Blocks.{Blocked, Filled}
use Rattle.nd_table.proofs.Belonging.{block_order, block_absent, block_short, short_before, short_behind, filled_before, filled_behind, longer, put_dates, put_spare, put_kept}
use Rattle.nd_table.proofs.blocks.Blocks.put.Goals as goal

pub put-place-requires-clause-order : goal.put-place-requires-clause-order
put-place-requires-clause-order g c =
    let same : c.self.inside.used.items ≡ c.args.self.now.blocks = ap (λ (b : Blocked). b.blocks) c.self.view_is in
    block_order c.find_from_last-at.result c.args.self.now.blocks c.self.inside.used.items c.index_mut-block.result.now c.find_from_last-at.ensures.within same c.index_mut-block.ensures.value c.requires.order

pub put-place-requires-clause-absent : goal.put-place-requires-clause-absent
put-place-requires-clause-absent g c =
    let same : c.self.inside.used.items ≡ c.args.self.now.blocks = ap (λ (b : Blocked). b.blocks) c.self.view_is in
    block_absent c.find_from_last-at.result c.args.self.now.blocks c.self.inside.used.items c.index_mut-block.result.now c.find_from_last-at.ensures.within same c.index_mut-block.ensures.value (rank c.args.date) c.requires.absent

pub put-place-requires-clause-room : goal.put-place-requires-clause-room
put-place-requires-clause-room g c =
    let same : c.self.inside.used.items ≡ c.args.self.now.blocks = ap (λ (b : Blocked). b.blocks) c.self.view_is in
    block_short c.find_from_last-at.result c.args.self.now.blocks c.self.inside.used.items c.index_mut-block.result.now c.find_from_last-at.ensures.within same c.index_mut-block.ensures.value c.requires.kept.short

pub split-requires-clause-spare : goal.split-requires-clause-spare
split-requires-clause-spare g c =
    let same : c.self.inside.used.items ≡ c.args.self.now.blocks = ap (λ (b : Blocked). b.blocks) c.self.view_is in
    put_spare c.find_from_last-at.result c.args.self.now.blocks c.self.inside.used.items c.index_mut-block.result.now c.find_from_last-at.ensures.within same c.index_mut-block.ensures.value c.put-place.new.self c.args.date c.put-place.ensures.dates
    c.self.inside.spare.len c.find_from_last-at.ensures.here c.requires.kept.filled (omega (arith, c.len.ensures, c.if-len-eq-BLOCK.true)) (omega (arith, c.requires.room, ap (λ (b : Blocked). b.spare) c.self.view_is))

pub split-requires-clause-short_before : goal.split-requires-clause-short_before
split-requires-clause-short_before g c =
    let same : c.self.inside.used.items ≡ c.args.self.now.blocks = ap (λ (b : Blocked). b.blocks) c.self.view_is in
    short_before c.find_from_last-at.result c.args.self.now.blocks c.self.inside.used.items c.index_mut-block.result.now c.find_from_last-at.ensures.within same c.index_mut-block.ensures.value c.put-place.new.self c.requires.kept.short

pub split-requires-clause-short_behind : goal.split-requires-clause-short_behind
split-requires-clause-short_behind g c =
    let same : c.self.inside.used.items ≡ c.args.self.now.blocks = ap (λ (b : Blocked). b.blocks) c.self.view_is in
    short_behind c.find_from_last-at.result c.args.self.now.blocks c.self.inside.used.items c.index_mut-block.result.now c.find_from_last-at.ensures.within same c.index_mut-block.ensures.value c.put-place.new.self c.requires.kept.short

pub settle_split-requires-clause-before : goal.settle_split-requires-clause-before
settle_split-requires-clause-before g c =
    let same : c.self.inside.used.items ≡ c.args.self.now.blocks = ap (λ (b : Blocked). b.blocks) c.self.view_is in
    subst Filled (sym c.split.ensures.before)
    (filled_before c.find_from_last-at.result c.args.self.now.blocks c.self.inside.used.items c.index_mut-block.result.now c.find_from_last-at.ensures.within same c.index_mut-block.ensures.value c.put-place.new.self c.requires.kept.filled)

pub settle_split-requires-clause-behind : goal.settle_split-requires-clause-behind
settle_split-requires-clause-behind g c =
    let same : c.self.inside.used.items ≡ c.args.self.now.blocks = ap (λ (b : Blocked). b.blocks) c.self.view_is in
    subst Filled (sym c.split.ensures.behind)
    (filled_behind c.find_from_last-at.result c.args.self.now.blocks c.self.inside.used.items c.index_mut-block.result.now c.find_from_last-at.ensures.within same c.index_mut-block.ensures.value c.put-place.new.self (c.find_from_last-at.result + 1) (omega arith) c.requires.kept.filled)

pub returns-then-len-eq-BLOCK-clause-dates : goal.returns-then-len-eq-BLOCK-clause-dates
returns-then-len-eq-BLOCK-clause-dates g c =
    let same : c.self.inside.used.items ≡ c.args.self.now.blocks = ap (λ (b : Blocked). b.blocks) c.self.view_is in
    c.settle_split.ensures.dates
    ∙ (c.split.ensures.dates ∙ put_dates c.find_from_last-at.result c.args.self.now.blocks c.self.inside.used.items c.index_mut-block.result.now c.find_from_last-at.ensures.within same c.index_mut-block.ensures.value c.put-place.new.self c.args.date c.put-place.ensures.dates c.find_from_last-at.ensures.here)

pub returns-else-len-eq-BLOCK-clause-dates : goal.returns-else-len-eq-BLOCK-clause-dates
returns-else-len-eq-BLOCK-clause-dates g c =
    let same : c.self.inside.used.items ≡ c.args.self.now.blocks = ap (λ (b : Blocked). b.blocks) c.self.view_is in
    put_dates c.find_from_last-at.result c.args.self.now.blocks c.self.inside.used.items c.index_mut-block.result.now c.find_from_last-at.ensures.within same c.index_mut-block.ensures.value c.put-place.new.self c.args.date c.put-place.ensures.dates c.find_from_last-at.ensures.here

pub returns-else-len-eq-BLOCK-clause-kept : goal.returns-else-len-eq-BLOCK-clause-kept
returns-else-len-eq-BLOCK-clause-kept g c =
    let same : c.self.inside.used.items ≡ c.args.self.now.blocks = ap (λ (b : Blocked). b.blocks) c.self.view_is in
    let b = c.index_mut-block.result.now in
    put_kept c.find_from_last-at.result c.args.self.now.blocks c.self.inside.used.items b c.find_from_last-at.ensures.within same c.index_mut-block.ensures.value c.put-place.new.self c.args.date c.put-place.ensures.dates
    (omega (
      arith,
      longer c.find_from_last-at.result c.args.self.now.blocks c.self.inside.used.items b c.find_from_last-at.ensures.within same c.index_mut-block.ensures.value c.put-place.new.self c.args.date c.put-place.ensures.dates,
      block_short c.find_from_last-at.result c.args.self.now.blocks c.self.inside.used.items b c.find_from_last-at.ensures.within same c.index_mut-block.ensures.value c.requires.kept.short,
      c.len.ensures,
      c.if-len-eq-BLOCK.false,
    ))
    c.requires.kept
