use Rattle.std.proofs.Common.{◌≡◌, ◌-◌, ◌<◌, ℕ, List, length, drop, subst, ap, arith, suc}
use Rattle.nd_table.specs.Date.{Date}
use Rattle.nd_table.specs.Blocks.{Blocked, Filled}
use Rattle.nd_table.proofs.Joining.{filled_last, sizes, dates_same, short_still, filled_now, filled_before}
use Rattle.nd_table.proofs.blocks.Blocks.join.Goals as goal
use Rattle.nd_table.proofs.blocks.Blocks.join.Goals.{then-next-eq0-via-then-next-eq0, then-next-eq0-via-else-next-eq0+then-next-len}

pub returns-then-next-eq0-clause-filled : goal.returns-then-next-eq0-clause-filled
returns-then-next-eq0-clause-filled g c =
    let same : c.self.inside.used.items ≡ c.args.self.now.blocks = ap (λ (b : Blocked). b.blocks) c.self.view_is in
    elim c.then-next-eq0.branch [
      | then-next-eq0-via-then-next-eq0 w ↦ subst (λ (n : ℕ). Filled (drop n c.args.self.now.blocks)) (omega (arith, w.if-next-eq0.true)) c.requires.behind
      | then-next-eq0-via-else-next-eq0+then-next-len w ↦
          filled_last (c.args.next - 1) c.args.self.now.blocks (omega (arith, w.if-next-eq0.false, w.if-next-len.true, w.len.ensures, c.self.inside.used.ok.0, ap (length {A = List Date}) same))
    ]

pub overflow_add-len : goal.overflow_add-len
overflow_add-len g c =
    let same : c.self.inside.used.items ≡ c.args.self.now.blocks = ap (λ (b : Blocked). b.blocks) c.self.view_is in
    let is : c.args.next ≡ suc (c.args.next - 1) = omega arith in
    let lt : c.args.next < length c.args.self.now.blocks = omega (arith, c.self.inside.used.ok.0, ap (length {A = List Date}) same) in
    let small = sizes (c.args.next - 1) c.args.next c.args.self.now.blocks c.self.inside.used.items c.index.result.now c.index-2.result.now is lt same c.index.ensures c.index-2.ensures c.requires.short in
    omega (arith, small.0, small.1)

pub returns-clause-dates : goal.returns-clause-dates
returns-clause-dates g c =
    let same : c.self.inside.used.items ≡ c.args.self.now.blocks = ap (λ (b : Blocked). b.blocks) c.self.view_is in
    let is : c.args.next ≡ suc (c.args.next - 1) = omega arith in
    let lt : c.args.next < length c.args.self.now.blocks = omega (arith, c.self.inside.used.ok.0, ap (length {A = List Date}) same) in
    dates_same (c.args.next - 1) c.args.next c.args.self.now.blocks c.self.inside.used.items c.index.result.now c.index-2.result.now is lt same c.index.ensures c.index-2.ensures
    c.remove-behind.new.self.items c.index_mut-block.result.now c.remove-behind.result c.join.new.self c.remove-behind.ensures.items c.index_mut-block.ensures.value c.remove-behind.ensures.value c.join.ensures

pub returns-clause-short : goal.returns-clause-short
returns-clause-short g c =
    let same : c.self.inside.used.items ≡ c.args.self.now.blocks = ap (λ (b : Blocked). b.blocks) c.self.view_is in
    let is : c.args.next ≡ suc (c.args.next - 1) = omega arith in
    let lt : c.args.next < length c.args.self.now.blocks = omega (arith, c.self.inside.used.ok.0, ap (length {A = List Date}) same) in
    short_still (c.args.next - 1) c.args.next c.args.self.now.blocks c.self.inside.used.items c.index.result.now c.index-2.result.now is lt same c.index.ensures c.index-2.ensures
    c.remove-behind.new.self.items c.index_mut-block.result.now c.remove-behind.result c.join.new.self c.remove-behind.ensures.items c.index_mut-block.ensures.value c.remove-behind.ensures.value c.join.ensures
    (omega arith) c.requires.short

pub returns-clause-filled : goal.returns-clause-filled
returns-clause-filled g c =
    let same : c.self.inside.used.items ≡ c.args.self.now.blocks = ap (λ (b : Blocked). b.blocks) c.self.view_is in
    let is : c.args.next ≡ suc (c.args.next - 1) = omega arith in
    let lt : c.args.next < length c.args.self.now.blocks = omega (arith, c.self.inside.used.ok.0, ap (length {A = List Date}) same) in
    filled_now (c.args.next - 1) c.args.next c.args.self.now.blocks c.self.inside.used.items c.index.result.now c.index-2.result.now is lt same c.index.ensures c.index-2.ensures
    c.remove-behind.new.self.items c.index_mut-block.result.now c.remove-behind.result c.join.new.self c.remove-behind.ensures.items c.index_mut-block.ensures.value c.remove-behind.ensures.value c.join.ensures
    c.requires.behind

pub returns-clause-before : goal.returns-clause-before
returns-clause-before g c =
    let same : c.self.inside.used.items ≡ c.args.self.now.blocks = ap (λ (b : Blocked). b.blocks) c.self.view_is in
    let is : c.args.next ≡ suc (c.args.next - 1) = omega arith in
    let lt : c.args.next < length c.args.self.now.blocks = omega (arith, c.self.inside.used.ok.0, ap (length {A = List Date}) same) in
    filled_before (c.args.next - 1) c.args.next c.args.self.now.blocks c.self.inside.used.items c.index.result.now c.index-2.result.now is lt same c.index.ensures c.index-2.ensures
    c.remove-behind.new.self.items c.index_mut-block.result.now c.remove-behind.result c.join.new.self c.remove-behind.ensures.items c.index_mut-block.ensures.value c.remove-behind.ensures.value c.join.ensures
