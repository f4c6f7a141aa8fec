use Rattle.std.proofs.Common.{◌≡◌, length, sym, ◌∙◌, arith}
use Rattle.std.proofs.lemmas.List.{nil_from_length}
use Rattle.std.proofs.lemmas.Bool.Decides.{Decides-eqb}
use Rattle.nd_link.proofs.Telling.{none_told}
use Rattle.nd_link.proofs.told.tell.Goals as goal

pub returns-then-is_empty-clause-tells : goal.returns-then-is_empty-clause-tells
returns-then-is_empty-clause-tells g c =
    let len : c.args.outs.len ≡ 0 = (Decides-eqb c.args.outs.len 0).0 (sym c.is_empty.ensures ∙ c.if-is_empty.true) in
    let ok = c.args.outs.ok.0 in
    let none : length c.args.outs.items ≡ 0 = omega (arith, len, ok) in
    none_told c.args.told.now.items c.args.node c.args.outs.items (nil_from_length c.args.outs.items none)
