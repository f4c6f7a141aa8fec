use Rattle.std.proofs.Common.{◌≡◌, ◌∙◌, ◌∷◌, ◌+◌, ap, sym, set, drop, arith, Bool, true, false, List}
use Rattle.std.specs.Prelude.{◌||◌, is_some}
use Rattle.std.proofs.lemmas.Bool.{true≢false}
use Rattle.std.proofs.lemmas.List.{drop_more, drop-set-lt}
use Rattle.std.proofs.lemmas.List.Edits.{map_over_more}
use Rattle.nd_table.specs.declared.lasting.Lasting.{Lasting}
use Rattle.nd_table.specs.Listing.{end_in, renewed}
use Rattle.nd_table.proofs.Finding.{there_more}
use Rattle.nd_table.proofs.lasting_entries.renew_each.Goals as goal
use Rattle.nd_table.proofs.lasting_entries.renew_each.Goals.{then-renew_one, else-renew_one}

-- the key is among those so far or among the rest, with one more that is the key's or isn't
there_then : (before named rest all : Bool) → (before || (named || rest)) ≡ all → named ≡ true → (true || rest) ≡ all
there_then true named rest all h n = h
there_then false true rest all h n = h
there_then false false rest all h n = absurd (true≢false (sym n))

there_else : (before named rest all : Bool) → (before || (named || rest)) ≡ all → named ≡ false → (before || rest) ≡ all
there_else before false rest all h n = h
there_else before true rest all h n = absurd (true≢false n)

pub loop-entry-preserved : goal.loop-entry-preserved
loop-entry-preserved g c =
    let same = g.Q.NamesKey.same in
    let key = g.Q.NamesKey.named c.args.name.now in
    let f = renewed same key c.args.end in
    let es = c.loop-entry.entries in
    let i = c.loop-entry.entry-index in
    let e = c.entry-item.result in
    let left : drop i es ≡ e ∷ drop (i + 1) es = drop_more es i e (omega (arith, c.loop-entry-test.true, c.loop-entry.auto.entries)) ∙ ap (λ (x : Lasting g.row.K.Denot). x ∷ drop (i + 1) es) (sym c.entry-item.is) in
    let before = sym (ap (λ (b : Bool). c.loop-entry.there || b) (ap (λ (l : List (Lasting g.row.K.Denot)). is_some (end_in same key l)) left ∙ there_more same key e (drop (i + 1) es))) ∙ c.loop-entry.invariant.1 in
    let named : c.renew_one.result ≡ same e.key key = c.renew_one.ensures.named ∙ ap (λ (x : Lasting g.row.K.Denot). same x.key key) (sym c.entry-item.is) in
    let rest = drop-set-lt (i + 1) es i c.renew_one.new.entry (omega arith) in (
      ap (λ e. set es i e) (c.renew_one.ensures.renews ∙ ap f (sym c.entry-item.is)) ∙ map_over_more f c.args.entries.now es i e c.loop-entry-test.true c.loop-entry.invariant.0 c.entry-item.is,
      ap (λ (l : List (Lasting g.row.K.Denot)). c.if-renew_one.there || is_some (end_in same key l)) rest ∙ elim c.if-renew_one.branch [
        | then-renew_one w ↦ ap (λ (b : Bool). b || is_some (end_in same key (drop (i + 1) es))) w.there-is ∙ there_then c.loop-entry.there (same e.key key) _ _ before (sym named ∙ w.if-renew_one.true)
        | else-renew_one w ↦ ap (λ (b : Bool). b || is_some (end_in same key (drop (i + 1) es))) w.there-is ∙ there_else c.loop-entry.there (same e.key key) _ _ before (sym named ∙ w.if-renew_one.false)
      ],
    )
