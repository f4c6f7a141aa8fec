use Rattle.std.proofs.Common.{◌≤◌, ◌∙◌, sym, ap, arith, length, List, ℕ}
use Rattle.nd_addr.specs.Same.{bytes_tell}
use Rattle.nd_decode.specs.Pieces.{options_left}
use Rattle.nd_table.specs.Listing.{fits}
use Rattle.nd_table.proofs.Behind.{fits_open}
use Rattle.nd_table.proofs.UniqueKeys.{one_listing}
use Rattle.nd_dns.specs.DnsKept.{Table}
use Rattle.nd_dns.specs.AnnouncedNames.{same_name, names_told}
use Rattle.nd_dns.proofs.Adding.{fits_unentered}
use Rattle.nd_dns.proofs.dns.Dns.fits_names.Goals as goal

pub returns-clause-by_history : goal.returns-clause-by_history
returns-clause-by_history g c = λ servers history es s le l.
    let now = c.args.now in
    let told = names_told (options_left c.args.options) in
    let limit = c.args.self.now.name_limit in
    c.fits_all.ensures
    ∙ (ap (λ (t : List (List ℕ × ℕ)). fits same_name c.self.inside.name_limit now t c.deref.result.now) c.new-told.ensures
    ∙ (ap (λ xs. fits same_name c.self.inside.name_limit now told xs) (c.deref.ensures.value ∙ ap (λ (h : Table). h.names) c.self.view_is)
    ∙ (ap (λ (h : Table). fits same_name h.name_limit now told c.args.self.now.names) c.self.view_is
    ∙ (sym (fits_open same_name bytes_tell limit now told c.args.self.now.names)
    ∙ ap (λ xs. fits same_name limit now told xs) (one_listing same_name bytes_tell history now _ _ (s.names_stand.lists now le) l)))))

pub returns-clause-quiet : goal.returns-clause-quiet
returns-clause-quiet g c = λ none.
    let now = c.args.now in
    let told = names_told (options_left c.args.options) in
    let items = ap (λ (h : Table). length h.names) c.self.view_is in
    let limit = c.self.inside.name_limit in
    let few : length c.args.self.now.names ≤ limit = omega (arith, items, ap length c.deref.ensures.value, c.deref.ensures.len, c.self.invariant.3) in
    c.fits_all.ensures
    ∙ (ap (λ (t : List (List ℕ × ℕ)). fits same_name limit now t c.deref.result.now) c.new-told.ensures
    ∙ (ap (λ xs. fits same_name limit now told xs) (c.deref.ensures.value ∙ ap (λ (h : Table). h.names) c.self.view_is)
    ∙ fits_unentered limit now told c.args.self.now.names few none))
