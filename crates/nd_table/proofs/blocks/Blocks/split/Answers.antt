use Rattle.std.proofs.Common.{◌≡◌, ap, arith}
use Rattle.nd_table.specs.Blocks.{Blocked}
use Rattle.nd_table.proofs.Joining.{split_dates, split_short, split_before, split_behind}
use Rattle.nd_table.proofs.blocks.Blocks.split.Goals as goal

pub returns-clause-dates : goal.returns-clause-dates
returns-clause-dates g c =
    let same : c.self.inside.used.items ≡ c.args.self.now.blocks = ap (λ (b : Blocked). b.blocks) c.self.view_is in
    split_dates c.args.at c.args.self.now.blocks c.self.inside.used.items c.insert.new.self.items c.index_mut-block.result.now c.split_into.new.self c.split_into.new.upper c.requires.within same
    c.index_mut-block.ensures.value c.split_into.ensures.dates c.in-Ok.ensures.items

pub returns-clause-short : goal.returns-clause-short
returns-clause-short g c =
    let same : c.self.inside.used.items ≡ c.args.self.now.blocks = ap (λ (b : Blocked). b.blocks) c.self.view_is in
    split_short c.args.at c.args.self.now.blocks c.self.inside.used.items c.insert.new.self.items c.index_mut-block.result.now c.split_into.new.self c.split_into.new.upper c.requires.within same
    c.index_mut-block.ensures.value c.split_into.ensures.dates c.in-Ok.ensures.items (omega (arith, c.split_into.ensures.lower)) (omega (arith, c.split_into.ensures.upper)) c.requires.short_before c.requires.short_behind

pub returns-clause-before : goal.returns-clause-before
returns-clause-before g c =
    let same : c.self.inside.used.items ≡ c.args.self.now.blocks = ap (λ (b : Blocked). b.blocks) c.self.view_is in
    split_before c.args.at c.args.self.now.blocks c.self.inside.used.items c.insert.new.self.items c.index_mut-block.result.now c.split_into.new.self c.split_into.new.upper c.requires.within same
    c.index_mut-block.ensures.value c.split_into.ensures.dates c.in-Ok.ensures.items

pub returns-clause-behind : goal.returns-clause-behind
returns-clause-behind g c =
    let same : c.self.inside.used.items ≡ c.args.self.now.blocks = ap (λ (b : Blocked). b.blocks) c.self.view_is in
    split_behind c.args.at c.args.self.now.blocks c.self.inside.used.items c.insert.new.self.items c.index_mut-block.result.now c.split_into.new.self c.split_into.new.upper c.requires.within same
    c.index_mut-block.ensures.value c.split_into.ensures.dates c.in-Ok.ensures.items
