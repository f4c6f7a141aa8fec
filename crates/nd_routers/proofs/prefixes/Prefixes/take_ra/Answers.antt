use Rattle.std.proofs.Common.{◌∙◌, sym, ap, subst, arith, List}
use Rattle.nd_addr.specs.Prefix.{PrefixValue}
use Rattle.nd_addr.specs.Same.{same_prefix, prefixes_tell}
use Rattle.nd_decode.specs.Pieces.{options_left}
use Rattle.nd_table.specs.declared.lasting.Lasting.{Lasting}
use Rattle.nd_table.specs.Listing.{then_announced, with_room}
use Rattle.nd_table.specs.ListingKept.{Distinct, Stands, announced_all}
use Rattle.nd_table.proofs.Behind.{Distinct-all}
use Rattle.nd_table.proofs.Steps.{gains_all}
use Rattle.nd_routers.specs.OnLinkPrefixes.{prefixes_in}
use Rattle.nd_routers.specs.PrefixesKept.{Prefixes}
use Rattle.nd_routers.proofs.prefixes.Prefixes.take_ra.Goals as goal

pub invariant_of-self : goal.invariant_of-self
invariant_of-self g c = (
  c.announce_all.ensures.few,
  omega (arith, c.announce_all.ensures.capacity, c.self.invariant.1),
  subst (λ (es : List (Lasting PrefixValue)). Distinct same_prefix es) (sym c.announce_all.ensures.items)
      (Distinct-all same_prefix prefixes_tell c.args.now (with_room same_prefix c.self.inside.limit c.args.now (prefixes_in (options_left c.args.options)) c.self.inside.entries.items) c.self.inside.entries.items c.self.invariant.2),
  c.self.invariant.3,
)

pub returns-clause-stands : goal.returns-clause-stands
returns-clause-stands g c = λ history le s.
    let old = c.args.self.now in
    let all = prefixes_in (options_left c.args.options) in
    let told = with_room same_prefix old.limit c.args.now all old.entries in
    subst (λ (es : List (Lasting PrefixValue)). Stands same_prefix es (then_announced c.args.now told history))
    (sym (c.announce_all.ensures.items ∙ ap (λ (h : Prefixes). announced_all same_prefix c.args.now (with_room same_prefix h.limit c.args.now all h.entries) h.entries) c.self.view_is))
    (gains_all same_prefix prefixes_tell c.args.now told old.entries history le s)
