use Rattle.std.proofs.Common.{refl, ap}
use Rattle.nd_forwarding.proofs.Steps.{gains_made}
use Rattle.nd_forwarding.proofs.routes.Routes.redirected.Goals as goal

pub returns-clause-stands : goal.returns-clause-stands
returns-clause-stands g c = gains_made c.args.self.now _ c.args.now (ap (λ t. t.entries) c.self.view_is) refl
