use Rattle.std.proofs.Common.{arith, ap, ◌∙◌, ◌≡◌, ◌≤◌, ◌+◌, ◌++◌, take, ℕ, List}
use Rattle.nd_lines.specs.Ahead.{in_hand}
use Rattle.nd_lines.proofs.AheadLemmas.{Keeps-read, in_hand-read}
use Rattle.nd_lines.proofs.ahead.Ahead.fill.Goals as goal

pub returns-clause-bytes : goal.returns-clause-bytes
returns-clause-bytes g c =
    let front = c.move_to_front.new.self in
    let read = c.in_ok-count.ensures in
    let count = c.in_ok-count.count in
    let fits : front.end + count ≤ front.buffer.len = omega (arith, front.room, front.within, c.deref_mut.ensures.len, read.bound.0, c.read.auto.buffer) in
    let old : in_hand c.deref_mut.result.now front.start front.end ≡ in_hand c.args.self.now.buffer.items c.args.self.now.start c.args.self.now.end =
    ap (λ (items : List ℕ). in_hand items front.start front.end) c.deref_mut.ensures.value ∙ c.move_to_front.ensures.bytes in
    Keeps-read _ _ _ _ _ read.bytes.0 (in_hand-read c.deref_mut.result.now c.read.new.buffer _ _ _ front.end count _ c.move_to_front.ensures.start (omega (arith, front.room, front.within, c.deref_mut.ensures.len)) read.bound.0 fits ∙ ap (λ (l : List ℕ). l ++ take count c.read.new.buffer) old)
