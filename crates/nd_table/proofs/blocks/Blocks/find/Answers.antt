use Rattle.std.proofs.Common.{◌≡◌, ◌<◌, ◌-◌, List, length, None, subst, sym, ap, ◌∙◌, arith}
use Rattle.std.specs.Prelude.{slice_get}
use Rattle.nd_table.specs.Date.{Date}
use Rattle.nd_table.specs.Keyed.{at_key, Rises}
use Rattle.nd_table.specs.KeyedKept.{place_of}
use Rattle.nd_table.specs.Dates.{rank}
use Rattle.nd_table.specs.Blocks.{Blocked, first_rank}
use Rattle.nd_table.proofs.Belonging.{rises_blocks, belongs_alone, belongs_found, belongs_before}
use Rattle.nd_table.proofs.blocks.Blocks.find.Goals as goal

pub search-requires : goal.search-requires
search-requires g c =
    let seen : c.deref.result.now ≡ c.args.self.now.blocks = c.deref.ensures.value ∙ ap (λ (b : Blocked). b.blocks) c.self.view_is in
    subst (Rises first_rank) (sym seen) (rises_blocks c.args.self.now.blocks c.requires.kept c.requires.order)

pub returns-then-len-eq1-clause-here : goal.returns-then-len-eq1-clause-here
returns-then-len-eq1-clause-here g c =
    let same : c.self.inside.used.items ≡ c.args.self.now.blocks = ap (λ (b : Blocked). b.blocks) c.self.view_is in
    belongs_alone (rank c.args.date) c.args.self.now.blocks (omega (arith, c.len.ensures, c.if-len-eq1.true, c.self.inside.used.ok.0, ap (length {A = List Date}) same))

pub returns-in-Ok-clause-here : goal.returns-in-Ok-clause-here
returns-in-Ok-clause-here g c =
    let seen : c.deref.result.now ≡ c.args.self.now.blocks = c.deref.ensures.value ∙ ap (λ (b : Blocked). b.blocks) c.self.view_is in
    belongs_found (rank c.args.date) c.in-Ok.at c.args.self.now.blocks c.requires.kept c.requires.order
    (subst (λ (l : List (List Date)). c.in-Ok.at < length l) seen c.in-Ok.ensures.within)
    (subst (λ (l : List (List Date)). at_key first_rank (rank c.args.date) l ≡ slice_get l c.in-Ok.at) seen c.in-Ok.ensures.found)

pub returns-in-Err-eq0-clause-here : goal.returns-in-Err-eq0-clause-here
returns-in-Err-eq0-clause-here g c =
    let seen : c.deref.result.now ≡ c.args.self.now.blocks = c.deref.ensures.value ∙ ap (λ (b : Blocked). b.blocks) c.self.view_is in
    let at = c.in-Err-eq0.field-0 in
    belongs_before (rank c.args.date) 0 at c.args.self.now.blocks c.requires.kept c.requires.order
    (subst (λ (l : List (List Date)). at ≡ place_of first_rank (rank c.args.date) l) seen c.in-Err-eq0.ensures.place)
    (subst (λ (l : List (List Date)). at_key first_rank (rank c.args.date) l ≡ None) seen c.in-Err-eq0.ensures.absent)
    (omega (arith, c.in-Err-eq0.field-0-test))

pub returns-in-Err-clause-here : goal.returns-in-Err-clause-here
returns-in-Err-clause-here g c =
    let seen : c.deref.result.now ≡ c.args.self.now.blocks = c.deref.ensures.value ∙ ap (λ (b : Blocked). b.blocks) c.self.view_is in
    let at = c.in-Err.at in
    belongs_before (rank c.args.date) (at - 1) at c.args.self.now.blocks c.requires.kept c.requires.order
    (subst (λ (l : List (List Date)). at ≡ place_of first_rank (rank c.args.date) l) seen c.in-Err.ensures.place)
    (subst (λ (l : List (List Date)). at_key first_rank (rank c.args.date) l ≡ None) seen c.in-Err.ensures.absent)
    (omega arith)
