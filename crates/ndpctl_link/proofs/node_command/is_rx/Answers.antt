use Rattle.std.proofs.Common.{rules, ◌≡◌, ◌↔◌}
use Rattle.std.specs.Prelude.{IsTrue, codes}
use Rattle.ndpctl_link.proofs.NodeCommandWords.{no_space_hears_none, rx_told}
use Rattle.ndpctl_link.proofs.node_command.is_rx.Goals as goal

pub returns-in-Some : goal.returns-in-Some
returns-in-Some c =
    let tells : IsTrue c.eq.result ↔ (c.in-Some.word.now ≡ codes "rx") = search rules in
    rx_told c.args.command.now c.in-Some.word.now _ c.eq.result c.in-Some.ensures tells

pub returns-in-None : goal.returns-in-None
returns-in-None c = no_space_hears_none c.args.command.now c.in-None.ensures
