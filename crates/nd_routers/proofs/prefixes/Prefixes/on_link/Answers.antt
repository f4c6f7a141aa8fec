use Rattle.std.proofs.Common.{◌∙◌, sym, ap, Bool, List}
use Rattle.std.specs.Prelude.{◌||◌}
use Rattle.std.specs.List.{list_any}
use Rattle.nd_addr.specs.Number.{holds}
use Rattle.nd_addr.specs.Prefix.{PrefixValue}
use Rattle.nd_addr.specs.Same.{same_prefix, prefixes_tell}
use Rattle.nd_table.specs.declared.lasting.Lasting.{Lasting}
use Rattle.nd_table.specs.Listing.{open_at}
use Rattle.nd_table.proofs.UniqueKeys.{one_listing}
use Rattle.nd_routers.specs.PrefixesKept.{Prefixes}
use Rattle.nd_routers.proofs.prefixes.Prefixes.on_link.Goals as goal

pub returns-else-is_link_local-clause-by_history : goal.returns-else-is_link_local-clause-by_history
returns-else-is_link_local-clause-by_history g c = λ history es s le l.
    let any : List (Lasting PrefixValue) → Bool = λ xs. list_any (λ e. holds e.key c.args.address.0) xs in
    c.is_held.ensures
    ∙ (ap (λ xs. any (open_at c.args.now xs)) (c.deref.ensures.value ∙ ap (λ (h : Prefixes). h.entries) c.self.view_is)
    ∙ (ap any (one_listing same_prefix prefixes_tell history c.args.now _ _ (s.lists c.args.now le) l)
    ∙ ap (λ b. b || any es) (sym (sym c.is_link_local.ensures ∙ c.if-is_link_local.false))))
