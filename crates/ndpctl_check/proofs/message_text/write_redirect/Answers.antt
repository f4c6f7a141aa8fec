use Rattle.std.proofs.Common.{◌++◌, ℕ, List, ap, ◌∙◌, append_assoc}
use Rattle.std.specs.Prelude.{codes, string_bytes}
use Rattle.ndpctl_check.specs.MessageText.{labelled}
use Rattle.ndpctl_check.proofs.message_text.write_redirect.Goals as goal

pub returns : goal.returns
returns g c =
    c.in_ok-write_address-2.ensures
    ∙ ap (λ (t : List ℕ). t ++ labelled (codes " destination ") c.args.redirect.now.destination) c.in_ok-write_address.ensures
    ∙ append_assoc (string_bytes c.args.text.now) (labelled (codes " target ") c.args.redirect.now.target) (labelled (codes " destination ") c.args.redirect.now.destination)
