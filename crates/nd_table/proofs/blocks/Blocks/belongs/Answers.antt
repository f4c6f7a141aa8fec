use Rattle.std.proofs.Common.{◌≡◌, ◌<◌, ◌≤◌, ◌+◌, suc, [], List, length, get_or, sym, ap, ◌∙◌, arith}
use Rattle.std.specs.Ordering.{is_gt}
use Rattle.std.proofs.lemmas.List.{get_or_default}
use Rattle.std.proofs.lemmas.Map.Keys.{le_from_not_gt}
use Rattle.nd_table.specs.Date.{Date}
use Rattle.nd_table.specs.Dates.{rank}
use Rattle.nd_table.specs.Blocks.{Blocked, first_rank}
use Rattle.nd_table.proofs.Searching.{greater}
use Rattle.nd_table.proofs.Belonging.{belongs_at, belongs_last}
use Rattle.nd_table.proofs.blocks.Blocks.belongs.Goals as goal
use Rattle.nd_table.proofs.blocks.Blocks.belongs.Goals.{else-at-gt0-via-then-at-gt0+else-is_gt, else-at-gt0-via-else-at-gt0}

pub returns-then-at-len : goal.returns-then-at-len
returns-then-at-len g c = λ _.
    let bs = c.args.self.now.blocks in
    let n = c.args.at in
    let same : c.self.inside.used.items ≡ bs = ap (λ (b : Blocked). b.blocks) c.self.view_is in
    let last : suc n ≡ length bs = omega (arith, c.len.ensures, c.if-at-len.true, c.self.inside.used.ok.0, ap (length {A = List Date}) same) in
    elim c.else-at-gt0.branch [
      | else-at-gt0-via-then-at-gt0+else-is_gt w ↦
          let is : w.index.result.now ≡ get_or bs n w.index.result.now = w.index.ensures ∙ ap (λ (l : List (List Date)). get_or l n w.index.result.now) same in
          let first : first_rank (get_or bs n []) ≡ first_rank w.index.result.now = ap first_rank (get_or_default bs n [] w.index.result.now c.requires.within ∙ sym is) in
          let le : first_rank w.index.result.now ≤ rank c.args.date = le_from_not_gt (first_rank w.index.result.now) (rank c.args.date) (ap is_gt (sym w.compare.ensures) ∙ (sym w.is_gt.ensures ∙ w.if-is_gt.false)) in
          belongs_last (rank c.args.date) n bs c.requires.kept c.requires.order last (λ _. omega (arith, first, le))
      | else-at-gt0-via-else-at-gt0 w ↦ belongs_last (rank c.args.date) n bs c.requires.kept c.requires.order last (λ some. absurd (omega (arith, some, w.if-at-gt0.false)))
    ]

pub returns-else-at-len : goal.returns-else-at-len
returns-else-at-len g c = λ yes.
    let bs = c.args.self.now.blocks in
    let n = c.args.at in
    let next = c.index-else-at-len.result.now in
    let same : c.self.inside.used.items ≡ bs = ap (λ (b : Blocked). b.blocks) c.self.view_is in
    let on : n + 1 ≡ suc n = omega arith in
    let above : rank c.args.date < first_rank next = greater (first_rank next) (rank c.args.date) c.compare-else-at-len.result c.is_gt-else-at-len.result c.compare-else-at-len.ensures c.is_gt-else-at-len.ensures yes in
    let there : next ≡ get_or bs (suc n) next = c.index-else-at-len.ensures ∙ (ap (λ (l : List (List Date)). get_or l (n + 1) next) same ∙ ap (λ k. get_or bs k next) on) in
    elim c.else-at-gt0.branch [
      | else-at-gt0-via-then-at-gt0+else-is_gt w ↦
          let is : w.index.result.now ≡ get_or bs n w.index.result.now = w.index.ensures ∙ ap (λ (l : List (List Date)). get_or l n w.index.result.now) same in
          let first : first_rank (get_or bs n []) ≡ first_rank w.index.result.now = ap first_rank (get_or_default bs n [] w.index.result.now c.requires.within ∙ sym is) in
          let le : first_rank w.index.result.now ≤ rank c.args.date = le_from_not_gt (first_rank w.index.result.now) (rank c.args.date) (ap is_gt (sym w.compare.ensures) ∙ (sym w.is_gt.ensures ∙ w.if-is_gt.false)) in
          belongs_at (rank c.args.date) n bs c.requires.kept c.requires.order c.requires.within (λ _. omega (arith, first, le)) (λ within. omega (arith, above, ap first_rank (there ∙ sym (get_or_default bs (suc n) [] next within))))
      | else-at-gt0-via-else-at-gt0 w ↦
          belongs_at (rank c.args.date) n bs c.requires.kept c.requires.order c.requires.within (λ some. absurd (omega (arith, some, w.if-at-gt0.false))) (λ within. omega (arith, above, ap first_rank (there ∙ sym (get_or_default bs (suc n) [] next within))))
    ]
