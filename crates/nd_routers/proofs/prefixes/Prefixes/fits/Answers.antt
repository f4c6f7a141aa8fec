use Rattle.std.proofs.Common.{◌∙◌, sym, ap}
use Rattle.nd_addr.specs.Same.{same_prefix, prefixes_tell}
use Rattle.nd_decode.specs.Pieces.{options_left}
use Rattle.nd_table.specs.Listing.{fits}
use Rattle.nd_table.proofs.Behind.{fits_open}
use Rattle.nd_table.proofs.UniqueKeys.{one_listing}
use Rattle.nd_routers.specs.OnLinkPrefixes.{prefixes_in}
use Rattle.nd_routers.specs.PrefixesKept.{Prefixes}
use Rattle.nd_routers.proofs.prefixes.Prefixes.fits.Goals as goal

pub returns-clause-by_history : goal.returns-clause-by_history
returns-clause-by_history g c = λ history es s le l.
    let now = c.args.now in
    let announced = prefixes_in (options_left c.args.options) in
    let limit = c.args.self.now.limit in
    c.fits.ensures
    ∙ (ap (λ xs. fits same_prefix c.self.inside.limit now announced xs) c.deref.ensures.value
    ∙ (ap (λ (h : Prefixes). fits same_prefix h.limit now announced h.entries) c.self.view_is
    ∙ (sym (fits_open same_prefix prefixes_tell limit now announced c.args.self.now.entries)
    ∙ ap (λ xs. fits same_prefix limit now announced xs) (one_listing same_prefix prefixes_tell history now _ _ (s.lists now le) l))))
