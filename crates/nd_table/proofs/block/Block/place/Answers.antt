use Rattle.std.proofs.Common.{◌≡◌, ◌<◌, ◌-◌, List, length, Some, None, get_or, subst, sym, ap, ◌∙◌, arith}
use Rattle.std.specs.Prelude.{slice_get}
use Rattle.std.proofs.lemmas.Option.{slice_get-get_or}
use Rattle.nd_table.specs.Date.{Date}
use Rattle.nd_table.specs.Keyed.{at_key}
use Rattle.nd_table.specs.Dates.{rank}
use Rattle.nd_table.proofs.Searching.{lower, last_low}
use Rattle.nd_table.proofs.block.Block.place.Goals as goal

pub returns-clause-place : goal.returns-clause-place
returns-clause-place g c =
    let ds = c.args.self.now in
    let k = rank c.args.date.now in
    let seen : c.deref.result.now ≡ ds = c.deref.ensures.value ∙ c.self.view_is in
    let got : Some c.in-Some.last.now ≡ slice_get ds (length ds - 1) = c.in-Some.ensures.value ∙ ap (λ (l : List Date). slice_get l (length l - 1)) seen in
    let low = lower (rank c.in-Some.last.now) k c.compare.result c.is_lt.result c.compare.ensures c.is_lt.ensures c.if-is_lt.true in
    let is = last_low rank k ds c.in-Some.last.now got c.requires.order low in
    omega (arith, is, c.len.ensures, c.self.inside.dates.ok.0, ap (length {A = Date}) c.self.view_is)

pub unreachable-requires : goal.unreachable-requires
unreachable-requires g c =
    let ds = c.args.self.now in
    let at = c.in_default-2.field-0 in
    let seen : c.deref-2.result.now ≡ ds = c.deref-2.ensures.value ∙ c.self.view_is in
    let lt : at < length ds = subst (λ (l : List Date). at < length l) seen c.in_default-2.ensures.within in
    let found : at_key rank (rank c.args.date.now) ds ≡ slice_get ds at = subst (λ (l : List Date). at_key rank (rank c.args.date.now) l ≡ slice_get l at) seen c.in_default-2.ensures.found in
    let some = slice_get-get_or ds at c.args.date.now lt in
    let no : Some (get_or ds at c.args.date.now) ≡ None = sym some ∙ (sym found ∙ c.requires.absent) in
    absurd (cc)
