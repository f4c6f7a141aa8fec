use Rattle.std.proofs.Common.{◌≡◌, Bool, None, true, ◌∙◌, ap}
use Rattle.std.specs.Prelude.{if◌then◌else◌}
use Rattle.std.specs.Option.{option_map}
use Rattle.nd_addr.specs.Number.{mac_at, number_of}
use Rattle.nd_neighbour.specs.History.{story}
use Rattle.nd_neighbour.specs.Story.{mac_of}
use Rattle.nd_chronicle.specs.Histories.{neighbour_history}
use Rattle.nd_chronicle.specs.Start.{Policies}
use Rattle.nd_steps.proofs.InTransit.{mac_by_history}
use Rattle.nd_node.proofs.node.Node.sent_alone_to.Goals as goal

pub returns : goal.returns
returns g c = λ start at c' s.
    let known = mac_of (story (number_of c.args.to.0) (neighbour_history c')) in
    let speakers : true ≡ start.policies.speakers = c.if-not-speakers.ensures ∙ ap (λ (p : Policies). p.speakers) s.policies in
    c.known_mac.ensures ∙ (mac_by_history c.args.self.now.neighbours.entries c' c.args.to s.neighbours ∙ ap (λ (b : Bool). option_map mac_at (if b then known else None)) speakers)
