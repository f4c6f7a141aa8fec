use Rattle.std.proofs.Common.{subst}
use Rattle.nd_message.specs.WellFormed.{IsMediumAtZero}
use Rattle.nd_advertiser.specs.Config.{Settings}
use Rattle.nd_advertiser.proofs.Medium.{medium_at_zero}
use Rattle.nd_advertiser.proofs.config.Config.fields.Goals as goal

pub returns-clause-medium : goal.returns-clause-medium
returns-clause-medium c =
    let inside : Settings = record { min_interval = c.self.inside.min_interval; max_interval = c.self.inside.max_interval; fields = c.self.inside.fields; mtu = c.self.inside.mtu } in
    subst (λ (s : Settings). IsMediumAtZero s.fields) c.self.view_is (medium_at_zero inside c.self.invariant)
