use Rattle.std.proofs.Common.{◌∙◌, sym, ap, subst, List, ℕ}
use Rattle.nd_addr.specs.Prefix.{PrefixValue}
use Rattle.nd_addr.specs.Same.{same_prefix}
use Rattle.nd_decode.specs.Pieces.{options_left}
use Rattle.nd_table.specs.Listing.{then_announced}
use Rattle.nd_table.specs.ListingKept.{announced_all, Stands}
use Rattle.nd_table.proofs.WithRoom.{all_have_room}
use Rattle.nd_routers.specs.OnLinkPrefixes.{prefixes_in}
use Rattle.nd_routers.proofs.prefixes.Prefixes.heard_ra.Goals as goal

pub returns-clause-stands : goal.returns-clause-stands
returns-clause-stands g c = λ history le s.
    let old = c.args.self.now in
    let told = prefixes_in (options_left c.args.options) in
    subst (λ (all : List (PrefixValue × ℕ)). Stands same_prefix c.take_ra.new.self.entries (then_announced c.args.now all history))
    (all_have_room same_prefix old.limit c.args.now told old.entries (sym c.fits.ensures.value ∙ c.if-not-fits.false))
    (c.take_ra.ensures.stands history le s)

pub returns-clause-value : goal.returns-clause-value
returns-clause-value g c =
    let old = c.args.self.now in
    let told = prefixes_in (options_left c.args.options) in
    c.take_ra.ensures.value
    ∙ ap (λ (all : List (PrefixValue × ℕ)). record { limit = old.limit; entries = announced_all same_prefix c.args.now all old.entries })
    (all_have_room same_prefix old.limit c.args.now told old.entries (sym c.fits.ensures.value ∙ c.if-not-fits.false))
