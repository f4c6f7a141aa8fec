use Rattle.std.proofs.Common.{◌∙◌, ap}
use Rattle.nd_addr.specs.Same.{same_prefix, prefixes_tell}
use Rattle.nd_table.specs.Listing.{open_at}
use Rattle.nd_table.proofs.UniqueKeys.{one_listing}
use Rattle.nd_routers.specs.OnLinkKept.{least_end}
use Rattle.nd_routers.specs.PrefixesKept.{Prefixes}
use Rattle.nd_routers.proofs.prefixes.Prefixes.least_end.Goals as goal

pub returns-clause-by_history : goal.returns-clause-by_history
returns-clause-by_history g c = λ history es s le l.
    c.least_end.ensures
    ∙ (ap (λ xs. least_end (open_at c.args.now xs)) (c.deref.ensures.value ∙ ap (λ (h : Prefixes). h.entries) c.self.view_is)
    ∙ ap least_end (one_listing same_prefix prefixes_tell history c.args.now _ _ (s.lists c.args.now le) l))
