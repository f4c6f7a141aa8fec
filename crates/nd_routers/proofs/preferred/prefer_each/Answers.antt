use Rattle.std.proofs.Common.{◌∙◌, ap, sym, set}
use Rattle.std.proofs.lemmas.List.Edits.{map_over_more}
use Rattle.nd_addr.specs.Number.{number_of}
use Rattle.nd_routers.specs.Preferences.{preferred_anew}
use Rattle.nd_routers.proofs.preferred.prefer_each.Goals as goal

pub loop-preferred-preserved : goal.loop-preferred-preserved
loop-preferred-preserved c =
    let f = preferred_anew (number_of c.args.addr.0) c.args.preference in
    ap (λ e. set c.loop-preferred.preferences c.loop-preferred.preferred-index e) (c.prefer_one.ensures ∙ ap f (sym c.preferred-item.is))
    ∙ map_over_more f c.args.preferences.now c.loop-preferred.preferences c.loop-preferred.preferred-index c.preferred-item.result c.loop-preferred-test.true c.loop-preferred.invariant c.preferred-item.is
