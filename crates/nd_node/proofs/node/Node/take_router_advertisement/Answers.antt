use Rattle.std.proofs.Common.{refl, sym, subst, ◌∙◌}
use Rattle.std.specs.Prelude.{List, Option, ℕ}
use Rattle.nd_addr.specs.Prefix.{PrefixValue}
use Rattle.nd_addr.specs.Same.{same_prefix}
use Rattle.nd_table.specs.Listing.{then_announced}
use Rattle.nd_table.specs.ListingKept as lists
use Rattle.nd_dns.specs.AnnouncedNames.{names_told}
use Rattle.nd_dns.specs.DnsKept as known
use Rattle.nd_dns.specs.DnsKept.{servers_taken}
use Rattle.nd_chronicle.specs.Happening.{Chronicle}
use Rattle.nd_steps.specs.OwnAddresses.{Forms}
use Rattle.nd_neighbour.specs.History.{RowKind}
use Rattle.nd_decode.specs.Pieces.{options_left}
use Rattle.std.specs.Option.{option_map}
use Rattle.nd_addr.specs.Number.{number_of}
use Rattle.nd_addr.specs.declared.addr.Addr.{Addr}
use Rattle.nd_steps.specs.GivingWay.{HearsGiver}
use Rattle.nd_node.proofs.AsRead.{hears_as_read}
use Rattle.nd_node.proofs.Recalling.{may_redirects, redirects_stand, room_kept, room_then}
use Rattle.nd_node.proofs.Advertised.{takes_advertisement}
use Rattle.nd_node.proofs.node.Node.take_router_advertisement.Goals as goal

pub returns-clause-takes : goal.returns-clause-takes
returns-clause-takes g c = λ taken is news.
    let said = options_left c.args.heard.now.message.options in
    let policies = c.args.self.now.policies in
    let stream = g.R.Rng.stream in
    let gone = option_map (λ (a : Addr). number_of a.0) c.hear_giver-gone.result in
    rw c.advance_to.ensures (takes_advertisement g.R.Rng.stream c.args.self.now _ c.args.outs.now.items _ c.args.now c.args.heard.now.source c.args.heard.now.destination c.args.ra.now taken c.args.listed
    (record {
      one_goes = c.one_is_pushed_out.ensures;
      neighbours_overdue = c.none_overdue.ensures.table;
      neighbours_still = c.none_overdue.ensures.still;
      once = c.an_end_ends_once.ensures;
      addresses_overdue = c.none_overdue-2.ensures.table;
      addresses_still = c.none_overdue-2.ensures.still;
    })
    c.requires.settled
    (record {
      role = refl;
      mac = refl;
      chosen = refl;
      policies = refl;
      last = refl;
      left = _;
      params = hears_as_read c.args.self.now.params c.hear_parameters.new.params (stream c.args.self.now.generator) (stream c.hear_parameters.new.generator) c.args.now c.args.ra.now said taken is.mtu c.hear_parameters.ensures;
      router = refl;
      solicitations = c.heard_router.ensures;
      between = _;
      gone = gone;
      neighbours = subst (λ (said : Option (ℕ × RowKind)). HearsGiver policies.speakers c.args.self.now.neighbours.limit c.args.now said c.args.self.now.neighbours.entries c.hear_giver-gone.new.neighbours.entries c.args.outs.now.items c.hear_giver-gone.new.outs.items gone) (news _)
          (rw c.speakers.ensures at c.hear_giver-gone.ensures.hears);
      neighbour_limit = c.hear_giver-gone.ensures.limit;
      waiting = c.hear_giver-gone.ensures.waiting;
      left_list = _;
      times_out = c.hear_router-times_out.ensures.times_out;
      routers = c.hear_router-times_out.ensures.routers;
      redirects = λ history s.
          redirects_stand c.hear_router-times_out.new.choice c.keep_until_a_prefix_ends.new.choice _ (c.keep_until_a_prefix_ends.ensures.redirects ∙ c.hear_prefixes.ensures.redirects) (c.hear_router-times_out.ensures.redirects history
          (redirects_stand c.args.self.now.choice c.hear_giver-gone.new.choice history (may_redirects c.args.self.now.choice c.hear_giver-gone.new.choice c.args.self.now.neighbours.entries c.hear_giver-gone.new.neighbours.entries c.hear_giver-gone.ensures.remembers) s));
      first = c.hear_giver-gone.new.choice;
      second = c.hear_router-times_out.new.choice;
      third = c.hear_prefixes.new.choice;
      may = c.hear_giver-gone.ensures.remembers;
      among = c.hear_router-times_out.ensures.recollects;
      linked = c.hear_prefixes.ensures.recollects;
      redirects_third = c.hear_prefixes.ensures.redirects;
      redirects_then = c.keep_until_a_prefix_ends.ensures.redirects;
      own = c.hear_prefix_options-none_formed.result;
      own_is = c.hear_prefix_options-none_formed.ensures.none ∙ sym is.none;
      hops = c.keep_until_a_prefix_ends.ensures.hops;
      until = c.keep_until_a_prefix_ends.ensures.until;
      routers_settled = c.hear_router-times_out.ensures.settled;
      router_limit = c.hear_router-times_out.ensures.limit;
      prefix_limit = c.hear_prefixes.ensures.limit;
      server_limit = c.hear_dns.ensures.server_limit;
      name_limit = c.hear_dns.ensures.name_limit;
      room = room_then _ _ _ (room_kept _ _ (may_redirects c.args.self.now.choice c.hear_giver-gone.new.choice c.args.self.now.neighbours.entries c.hear_giver-gone.new.neighbours.entries c.hear_giver-gone.ensures.remembers))
          (room_then _ _ _ c.hear_router-times_out.ensures.limits (room_kept c.hear_router-times_out.new.choice c.keep_until_a_prefix_ends.new.choice (c.keep_until_a_prefix_ends.ensures.redirects ∙ c.hear_prefixes.ensures.redirects)));
      left_is_told = c.tell_left.ensures.told;
      prefixes = λ history le s. subst (λ (told : List (PrefixValue × ℕ)). lists.Stands same_prefix c.hear_prefixes.new.prefixes.entries (then_announced c.args.now told history)) (sym is.prefixes)
          (c.hear_prefixes.ensures.stands history le s);
      retrans = _;
      in_force = c.retrans_timer-retrans.ensures.value;
      to_all = _;
      goes_to_all = c.is_multicast.ensures.exactly;
      forms = λ start c' f. subst (λ (d : Chronicle). Forms start c.hear_prefix_options-none_formed.new.addresses (stream c.hear_prefix_options-none_formed.new.generator) c.retrans_timer-retrans.result d) (sym (is.forms start _ c'))
          (c.hear_prefix_options-none_formed.ensures.forms start c' f);
      dns = λ servers names le le' s.
          subst (λ (told : List (Addr × ℕ)). known.Stands c.hear_dns.new.dns (then_announced c.args.now told servers) (then_announced c.args.now (names_told taken) names)) (sym is.servers)
          (subst (λ (told : List (List ℕ × ℕ)). known.Stands c.hear_dns.new.dns (then_announced c.args.now (servers_taken c.args.now said c.args.self.now.dns) servers) (then_announced c.args.now told names)) (sym is.names)
          (c.hear_dns.ensures.stands servers names le le' s));
    }))
