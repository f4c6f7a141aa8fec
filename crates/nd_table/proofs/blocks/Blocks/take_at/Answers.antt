use Rattle.std.proofs.Common.{◌≡◌, ◌+◌, ap, ◌∙◌, arith}
use Rattle.nd_table.specs.Blocks.{Blocked}
use Rattle.nd_table.proofs.Belonging.{block_order, block_addresses, filled_before, filled_behind, taken_dates, taken_short}
use Rattle.nd_table.proofs.blocks.Blocks.take_at.Goals as goal

pub take-requires-clause-order : goal.take-requires-clause-order
take-requires-clause-order g c =
    let same : c.self.inside.used.items ≡ c.args.self.now.blocks = ap (λ (b : Blocked). b.blocks) c.self.view_is in
    block_order c.args.at c.args.self.now.blocks c.self.inside.used.items c.index_mut-block.result.now c.requires.within same c.index_mut-block.ensures.value c.requires.order

pub take-requires-clause-addresses : goal.take-requires-clause-addresses
take-requires-clause-addresses g c =
    let same : c.self.inside.used.items ≡ c.args.self.now.blocks = ap (λ (b : Blocked). b.blocks) c.self.view_is in
    block_addresses c.args.at c.args.self.now.blocks c.self.inside.used.items c.index_mut-block.result.now c.requires.within same c.index_mut-block.ensures.value c.requires.addresses

pub settle-requires-clause-short : goal.settle-requires-clause-short
settle-requires-clause-short g c =
    let same : c.self.inside.used.items ≡ c.args.self.now.blocks = ap (λ (b : Blocked). b.blocks) c.self.view_is in
    taken_short c.args.at c.args.self.now.blocks c.self.inside.used.items c.index_mut-block.result.now c.requires.within same c.index_mut-block.ensures.value c.take.new.self c.args.date.moment c.args.date.number c.take.ensures c.requires.kept.short

pub settle-requires-clause-before : goal.settle-requires-clause-before
settle-requires-clause-before g c =
    let same : c.self.inside.used.items ≡ c.args.self.now.blocks = ap (λ (b : Blocked). b.blocks) c.self.view_is in
    filled_before c.args.at c.args.self.now.blocks c.self.inside.used.items c.index_mut-block.result.now c.requires.within same c.index_mut-block.ensures.value c.take.new.self c.requires.kept.filled

pub settle-requires-clause-behind : goal.settle-requires-clause-behind
settle-requires-clause-behind g c =
    let same : c.self.inside.used.items ≡ c.args.self.now.blocks = ap (λ (b : Blocked). b.blocks) c.self.view_is in
    filled_behind c.args.at c.args.self.now.blocks c.self.inside.used.items c.index_mut-block.result.now c.requires.within same c.index_mut-block.ensures.value c.take.new.self (c.args.at + 1) (omega arith) c.requires.kept.filled

pub returns-clause-dates : goal.returns-clause-dates
returns-clause-dates g c =
    let same : c.self.inside.used.items ≡ c.args.self.now.blocks = ap (λ (b : Blocked). b.blocks) c.self.view_is in
    c.settle.ensures.dates
    ∙ taken_dates c.args.at c.args.self.now.blocks c.self.inside.used.items c.index_mut-block.result.now c.requires.within same c.index_mut-block.ensures.value c.take.new.self c.args.date.moment c.args.date.number c.take.ensures c.requires.here
