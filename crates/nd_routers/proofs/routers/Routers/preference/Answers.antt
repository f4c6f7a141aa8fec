use Rattle.std.proofs.Common.{◌∙◌, ap}
use Rattle.std.specs.Prelude.{is_some}
use Rattle.nd_addr.specs.Number.{number_of}
use Rattle.nd_routers.specs.History.{preference_of}
use Rattle.nd_routers.specs.Preferences.{preference_among}
use Rattle.nd_routers.proofs.Preferring.{found_among}
use Rattle.nd_routers.proofs.routers.Routers.preference.Goals as goal

pub returns-clause-by_history : goal.returns-clause-by_history
returns-clause-by_history g c = λ history s listed.
    let key = number_of c.args.source.0 in
    c.preference_among.ensures
    ∙ (ap (λ ps. preference_among key ps) (c.deref.ensures.value ∙ (ap (λ t. t.preferences) c.self.view_is ∙ s.preferred))
    ∙ found_among (λ k. preference_of k history) key c.args.self.now.entries (ap is_some (s.routers.ends key) ∙ listed))
