use Rattle.std.proofs.Common.{◌≤◌, ◌∙◌, sym, ap, arith, length}
use Rattle.nd_table.specs.Refreshing.{only_refreshes}
use Rattle.nd_table.proofs.Refreshing.{refreshed_enters}
use Rattle.nd_dns.specs.DnsKept.{Table}
use Rattle.nd_dns.specs.AnnouncedNames.{same_name}
use Rattle.nd_dns.specs.AnnouncedNamesKept.{names_to_come}
use Rattle.nd_dns.proofs.Adding.{fits_unentered, none_added}
use Rattle.nd_dns.proofs.dns.Dns.only_refreshes_names.Goals as goal

pub returns-clause-none : goal.returns-clause-none
returns-clause-none g c = λ refreshes.
    let now = c.args.now in
    let told = names_to_come c.args.announced in
    let names_are = c.deref.ensures.value ∙ ap (λ (h : Table). h.names) c.self.view_is in
    let items = ap (λ (h : Table). length h.names) c.self.view_is in
    let limit = c.args.self.now.name_limit in
    let few : length c.args.self.now.names ≤ limit = omega (arith, items, ap length c.deref.ensures.value, c.deref.ensures.len, c.self.invariant.3, ap (λ (h : Table). h.name_limit) c.self.view_is) in
    let only = sym (ap (λ xs. only_refreshes same_name now told xs) names_are) ∙ (sym c.only_refreshes.ensures ∙ refreshes) in
    none_added limit now told c.args.self.now.names few (refreshed_enters same_name now told c.args.self.now.names only)

pub returns-clause-fits : goal.returns-clause-fits
returns-clause-fits g c = λ refreshes.
    let now = c.args.now in
    let told = names_to_come c.args.announced in
    let names_are = c.deref.ensures.value ∙ ap (λ (h : Table). h.names) c.self.view_is in
    let items = ap (λ (h : Table). length h.names) c.self.view_is in
    let limit = c.args.self.now.name_limit in
    let few : length c.args.self.now.names ≤ limit = omega (arith, items, ap length c.deref.ensures.value, c.deref.ensures.len, c.self.invariant.3, ap (λ (h : Table). h.name_limit) c.self.view_is) in
    let only = sym (ap (λ xs. only_refreshes same_name now told xs) names_are) ∙ (sym c.only_refreshes.ensures ∙ refreshes) in
    fits_unentered limit now told c.args.self.now.names few (refreshed_enters same_name now told c.args.self.now.names only)
