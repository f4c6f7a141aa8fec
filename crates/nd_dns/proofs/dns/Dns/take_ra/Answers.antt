use Rattle.std.proofs.Common.{◌≡◌, ◌∙◌, sym, ap, subst, arith, List, ℕ}
use Rattle.nd_addr.specs.declared.addr.Addr.{Addr}
use Rattle.nd_addr.specs.Same.{same_addr, addrs_tell, bytes_tell}
use Rattle.nd_decode.specs.Pieces.{options_left}
use Rattle.nd_table.specs.declared.lasting.Lasting.{Lasting}
use Rattle.nd_table.specs.Listing.{then_announced, with_room}
use Rattle.nd_table.specs.ListingKept.{Distinct, Stands, announced_all}
use Rattle.nd_table.proofs.Behind.{Distinct-all}
use Rattle.nd_table.proofs.Steps.{gains_all}
use Rattle.nd_dns.specs.DnsKept.{Table, servers_taken, names_taken}
use Rattle.nd_dns.specs.AnnouncedServersKept.{servers_to_come}
use Rattle.nd_dns.specs.AnnouncedNames.{same_name}
use Rattle.nd_dns.specs.AnnouncedNamesKept.{names_to_come}
use Rattle.nd_dns.proofs.dns.Dns.take_ra.Goals as goal

pub invariant_of-self : goal.invariant_of-self
invariant_of-self g c = (
  c.announce_all.ensures.few,
  omega (arith, c.announce_all.ensures.capacity, c.self.invariant.1),
  subst (λ (es : List (Lasting Addr)). Distinct same_addr es) (sym c.announce_all.ensures.items) (Distinct-all same_addr addrs_tell c.args.now (with_room same_addr c.self.inside.server_limit c.args.now (servers_to_come c.new-told_servers.result) c.self.inside.servers.items) c.self.inside.servers.items c.self.invariant.2),
  c.announce_names.ensures.few,
  omega (arith, c.announce_names.ensures.capacity, c.self.invariant.4),
  subst (λ (es : List (Lasting (List ℕ))). Distinct same_name es) (sym c.announce_names.ensures.items) (Distinct-all same_name bytes_tell c.args.now (with_room same_name c.self.inside.name_limit c.args.now (names_to_come c.args.announced) c.self.inside.names.items) c.self.inside.names.items c.self.invariant.5),
  c.self.invariant.6,
  c.self.invariant.7,
)

pub returns-clause-stands : goal.returns-clause-stands
returns-clause-stands g c = λ servers names le le' s.
    let now = c.args.now in
    let old = c.args.self.now in
    let options = options_left c.args.options in
    let servers_are : c.announce_all.new.entries.items ≡ announced_all same_addr now (servers_taken now options old) old.servers =
    c.announce_all.ensures.items
    ∙ (ap (λ (t : List (Addr × ℕ)). announced_all same_addr now (with_room same_addr c.self.inside.server_limit now t c.self.inside.servers.items) c.self.inside.servers.items) c.new-told_servers.ensures
    ∙ ap (λ (h : Table). announced_all same_addr now (servers_taken now options h) h.servers) c.self.view_is) in
    let names_are : c.announce_names.new.entries.items ≡ announced_all same_name now (names_taken now options old) old.names =
    c.announce_names.ensures.items
    ∙ (ap (λ (t : List (List ℕ × ℕ)). announced_all same_name now (with_room same_name c.self.inside.name_limit now t c.self.inside.names.items) c.self.inside.names.items) c.requires.announced
    ∙ ap (λ (h : Table). announced_all same_name now (names_taken now options h) h.names) c.self.view_is) in
    record {
      servers_stand = subst (λ (es : List (Lasting Addr)). Stands same_addr es (then_announced now (servers_taken now options old) servers)) (sym servers_are)
          (gains_all same_addr addrs_tell now (servers_taken now options old) old.servers servers le s.servers_stand);
      names_stand = subst (λ (es : List (Lasting (List ℕ))). Stands same_name es (then_announced now (names_taken now options old) names)) (sym names_are)
          (gains_all same_name bytes_tell now (names_taken now options old) old.names names le' s.names_stand);
    }
