use Rattle.std.proofs.Common.{◌≡◌, ◌∙◌, sym, subst, List, ℕ}
use Rattle.nd_addr.specs.declared.addr.Addr.{Addr}
use Rattle.nd_addr.specs.Same.{same_addr}
use Rattle.nd_decode.specs.Pieces.{options_left}
use Rattle.nd_table.specs.Listing.{then_announced}
use Rattle.nd_table.proofs.WithRoom.{all_have_room}
use Rattle.nd_dns.specs.AnnouncedServers.{servers_told}
use Rattle.nd_dns.specs.AnnouncedNames.{same_name, names_told}
use Rattle.nd_dns.specs.DnsKept.{Stands, servers_taken, names_taken}
use Rattle.nd_dns.proofs.dns.Dns.heard_ra.Goals as goal

pub returns-clause-stands : goal.returns-clause-stands
returns-clause-stands g c = λ servers names le le' s.
    let now = c.args.now in
    let old = c.args.self.now in
    let new = c.take_ra.new.self in
    let options = options_left c.args.options in
    let all_servers : servers_taken now options old ≡ servers_told options =
    all_have_room same_addr old.server_limit now (servers_told options) old.servers (sym c.fits_servers.ensures.value ∙ c.if-not-fits_servers.false) in
    let all_names : names_taken now options old ≡ names_told options =
    all_have_room same_name old.name_limit now (names_told options) old.names (sym c.fits_names.ensures.value ∙ c.if-not-fits_names.false) in
    subst (λ (told : List (Addr × ℕ)). Stands new (then_announced now told servers) (then_announced now (names_told options) names)) all_servers
    (subst (λ (told : List (List ℕ × ℕ)). Stands new (then_announced now (servers_taken now options old) servers) (then_announced now told names)) all_names
    (c.take_ra.ensures.stands servers names le le' s))
