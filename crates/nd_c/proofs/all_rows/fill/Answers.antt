use Rattle.std.proofs.Common.{◌≡◌, ◌++◌, ◌+◌, drop, length, map, [], ◌∷◌, refl, sym, ◌∙◌, ap, inr, arith, slice_set}
use Rattle.std.proofs.lemmas.List.{length-append}
use Rattle.nd_c.proofs.Filling.{yields_more, row_more}
use Rattle.nd_c.proofs.all_rows.fill.Goals as goal

pub loop-row-preserved : goal.loop-row-preserved
loop-row-preserved g c =
    let inv = c.loop-row.invariant in
    let xs = inv.0 in
    let e : length xs ≡ c.loop-row.row-index = inv.1 in (
      xs ++ c.in-Some.item ∷ [],
      length-append xs (c.in-Some.item ∷ []) ∙ omega (arith, e),
      yields_more g.I.Iterator.next_gives c.args.items c.loop-row.items c.next.new.self xs c.in-Some.item inv.2 c.in-Some.ensures.steps,
      c.in-Some.ensures.goes.keeps,
      ap (λ l. slice_set l c.loop-row.row-index c.of_item.result) inv.4 ∙ ap (λ n. slice_set (map g.R.RowOf.row_of xs ++ drop (length xs) c.args.rows.now) n c.of_item.result) (sym e)
          ∙ row_more g.R.RowOf.row_of xs c.in-Some.item c.args.rows.now c.of_item.result (omega (arith, e, c.loop-row-test.true)) c.of_item.ensures,
      ap (λ n. n + 1) inv.5,
    )

pub returns-in-Some-next : goal.returns-in-Some-next
returns-in-Some-next g c =
    let inv = c.loop-row.invariant in
    let full : length inv.0 ≡ length c.args.rows.now = omega (arith, inv.1, c.loop-row-test.false, c.loop-row.auto.row-index-end) in
    (inv.0, c.loop-row.items, c.next-2.new.self, inv.2, inv.5 ∙ sym inv.1, inv.4, inr (refl, full, c.in-Some-next.field-0, c.in-Some-next.ensures.steps))
