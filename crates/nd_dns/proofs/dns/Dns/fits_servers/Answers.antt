use Rattle.std.proofs.Common.{◌∙◌, sym, ap}
use Rattle.nd_addr.specs.Same.{same_addr, addrs_tell}
use Rattle.nd_decode.specs.Pieces.{options_left}
use Rattle.nd_table.specs.Listing.{fits}
use Rattle.nd_table.proofs.Behind.{fits_open}
use Rattle.nd_table.proofs.UniqueKeys.{one_listing}
use Rattle.nd_dns.specs.DnsKept.{Table}
use Rattle.nd_dns.specs.AnnouncedServers.{servers_told}
use Rattle.nd_dns.proofs.dns.Dns.fits_servers.Goals as goal

pub returns-clause-by_history : goal.returns-clause-by_history
returns-clause-by_history g c = λ history names es s le l.
    let now = c.args.now in
    let told = servers_told (options_left c.args.options) in
    let limit = c.args.self.now.server_limit in
    c.servers_fit.ensures
    ∙ (ap (λ xs. fits same_addr c.self.inside.server_limit now told xs) (c.deref.ensures.value ∙ ap (λ (h : Table). h.servers) c.self.view_is)
    ∙ (ap (λ (h : Table). fits same_addr h.server_limit now told c.args.self.now.servers) c.self.view_is
    ∙ (sym (fits_open same_addr addrs_tell limit now told c.args.self.now.servers)
    ∙ ap (λ xs. fits same_addr limit now told xs) (one_listing same_addr addrs_tell history now _ _ (s.servers_stand.lists now le) l))))
