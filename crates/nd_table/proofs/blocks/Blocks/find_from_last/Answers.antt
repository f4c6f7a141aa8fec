use Rattle.std.proofs.Common.{◌≡◌, ◌≤◌, ◌-◌, suc, [], List, length, get_or, sym, ap, ◌∙◌, arith}
use Rattle.std.specs.Ordering.{is_le}
use Rattle.std.proofs.lemmas.List.{get_or_default}
use Rattle.std.proofs.lemmas.Map.Keys.{le_from_is_le}
use Rattle.nd_table.specs.Date.{Date}
use Rattle.nd_table.specs.Dates.{rank}
use Rattle.nd_table.specs.Blocks.{Blocked, first_rank}
use Rattle.nd_table.proofs.Belonging.{belongs_last}
use Rattle.nd_table.proofs.blocks.Blocks.find_from_last.Goals as goal
use Rattle.nd_table.proofs.blocks.Blocks.find_from_last.Goals.{then-last-eq0-via-then-last-eq0, then-last-eq0-via-else-last-eq0+then-is_le}

pub returns-then-last-eq0-clause-here : goal.returns-then-last-eq0-clause-here
returns-then-last-eq0-clause-here g c =
    let bs = c.args.self.now.blocks in
    let same : c.self.inside.used.items ≡ bs = ap (λ (b : Blocked). b.blocks) c.self.view_is in
    let n = c.len-last.result - 1 in
    let last : suc n ≡ length bs = omega (arith, c.len-last.ensures, c.self.inside.used.ok.0, ap (length {A = List Date}) same, c.requires.kept.some) in
    elim c.then-last-eq0.branch [
      | then-last-eq0-via-then-last-eq0 w ↦ belongs_last (rank c.args.date) n bs c.requires.kept c.requires.order last (λ some. absurd (omega (arith, some, w.if-last-eq0.true)))
      | then-last-eq0-via-else-last-eq0+then-is_le w ↦
          let is : w.index.result.now ≡ get_or bs n w.index.result.now = w.index.ensures ∙ ap (λ (l : List (List Date)). get_or l n w.index.result.now) same in
          let first : first_rank (get_or bs n []) ≡ first_rank w.index.result.now = ap first_rank (get_or_default bs n [] w.index.result.now (omega (arith, last)) ∙ sym is) in
          let le : first_rank w.index.result.now ≤ rank c.args.date = le_from_is_le (first_rank w.index.result.now) (rank c.args.date) (ap is_le (sym w.compare.ensures) ∙ (sym w.is_le.ensures ∙ w.if-is_le.true)) in
          belongs_last (rank c.args.date) n bs c.requires.kept c.requires.order last (λ _. omega (arith, first, le))
    ]
