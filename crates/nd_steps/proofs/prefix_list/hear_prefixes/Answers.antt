use Rattle.std.proofs.Common.{ap}
use Rattle.nd_addr.specs.Same.{same_prefix}
use Rattle.nd_decode.specs.Pieces.{options_left}
use Rattle.nd_table.specs.Listing.{with_room}
use Rattle.nd_routers.specs.OnLinkPrefixes.{prefixes_in}
use Rattle.nd_routers.specs.PrefixesKept.{Prefixes}
use Rattle.nd_steps.proofs.Refreshed.{kept_redirects, linked}
use Rattle.nd_steps.proofs.prefix_list.hear_prefixes.Goals as goal

pub returns-clause-recollects : goal.returns-clause-recollects
returns-clause-recollects g c =
    linked c.take_ra-refreshes.result c.args.now (with_room same_prefix c.args.prefixes.now.limit c.args.now (prefixes_in (options_left c.args.options)) c.args.prefixes.now.entries) c.args.choice.now c.keep_if.new.choice c.args.prefixes.now.entries c.take_ra-refreshes.new.self.entries c.take_ra-refreshes.ensures.refreshes c.keep_if.ensures (ap (λ (p : Prefixes). p.entries) c.take_ra-refreshes.ensures.value)

pub returns-clause-redirects : goal.returns-clause-redirects
returns-clause-redirects g c = kept_redirects c.take_ra-refreshes.result c.args.choice.now c.keep_if.new.choice c.keep_if.ensures
