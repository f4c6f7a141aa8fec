use Rattle.std.proofs.Common.{◌≡◌, List, get_or, ap, ◌∙◌}
use Rattle.std.specs.Prelude.{slice_get}
use Rattle.nd_table.specs.Date.{Date}
use Rattle.nd_table.specs.Dates.{first_moment}
use Rattle.nd_table.specs.Blocks.{Blocked}
use Rattle.nd_table.proofs.Belonging.{front_moment, front_first}
use Rattle.nd_table.proofs.blocks.Blocks.front.Goals as goal

pub returns-clause-moment : goal.returns-clause-moment
returns-clause-moment g c =
    let is : c.index.result.now ≡ get_or c.args.self.now.blocks 0 c.index.result.now = c.index.ensures ∙ ap (λ (b : Blocked). get_or b.blocks 0 c.index.result.now) c.self.view_is in
    ap first_moment c.dates.ensures ∙ front_moment c.args.self.now.blocks c.index.result.now c.requires is

pub returns-clause-first : goal.returns-clause-first
returns-clause-first g c =
    let is : c.index.result.now ≡ get_or c.args.self.now.blocks 0 c.index.result.now = c.index.ensures ∙ ap (λ (b : Blocked). get_or b.blocks 0 c.index.result.now) c.self.view_is in
    ap (λ (l : List Date). slice_get l 0) c.dates.ensures ∙ front_first c.args.self.now.blocks c.index.result.now c.requires is
