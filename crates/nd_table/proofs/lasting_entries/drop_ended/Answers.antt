use Rattle.std.proofs.Common.{◌∙◌, ap, sym, rules}
use Rattle.std.proofs.lemmas.Fn.{filter_same}
use Rattle.nd_table.specs.Listing.{open_at}
use Rattle.nd_table.proofs.Finding.{filter_all}
use Rattle.nd_table.proofs.lasting_entries.drop_ended.Goals as goal

pub returns-then-none_ended-clause-items : goal.returns-then-none_ended-clause-items
returns-then-none_ended-clause-items g c =
    sym c.deref.ensures.value ∙ sym (filter_all _ _ (sym c.none_ended.ensures ∙ c.if-none_ended.true)) ∙ ap (λ es. open_at c.args.now es) c.deref.ensures.value

pub returns-clause-items : goal.returns-clause-items
returns-clause-items g c = filter_same _ _ _ (λ x b f' k. search rules) _ _ c.retain.ensures.filtered
