use Rattle.std.proofs.Common.{◌≡◌, ◌<◌, ◌∙◌, List, None, length, subst, sym, ap}
use Rattle.std.specs.Prelude.{slice_get}
use Rattle.nd_table.specs.Date.{Date}
use Rattle.nd_table.specs.Keyed.{at_key, Rises}
use Rattle.nd_table.specs.Dates.{rank, AllAddresses, without}
use Rattle.nd_table.proofs.Dates.{remove_found, without_none}
use Rattle.nd_table.proofs.block.Block.take.Goals as goal

pub returns-in-Ok : goal.returns-in-Ok
returns-in-Ok g c =
    let ds = c.self.inside.dates.items in
    let same : ds ≡ c.args.self.now = c.self.view_is in
    c.remove.ensures.items
    ∙ (remove_found c.args.date ds c.in-Ok.at (subst (Rises rank) (sym same) c.requires.order) (subst AllAddresses (sym same) c.requires.addresses) c.requires.address
    (subst (λ (l : List Date). c.in-Ok.at < length l) c.deref.ensures.value c.in-Ok.ensures.within)
    (subst (λ (l : List Date). at_key rank (rank c.args.date) l ≡ slice_get l c.in-Ok.at) c.deref.ensures.value c.in-Ok.ensures.found)
    ∙ ap (without c.args.date.moment c.args.date.number) same)

pub returns-in_default : goal.returns-in_default
returns-in_default g c =
    let same : c.self.inside.dates.items ≡ c.args.self.now = c.self.view_is in
    sym (without_none c.args.date.moment c.args.date.number c.args.self.now
    (subst (λ (l : List Date). at_key rank (rank c.args.date) l ≡ None) (c.deref.ensures.value ∙ same) c.in_default.ensures.absent))
