-- What is reported of the limits of which a part was passed over, and what a message leads to that is taken in part.
use Rattle.std.proofs.Common.{◌≡◌, ℕ, ◌≤◌, Bool, true, false, List, [], ◌∷◌, ◌++◌, append-nil, append_assoc, map, Some, refl, sym, ◌∙◌, ap}
use Rattle.std.specs.Prelude.{MatchBool}
use Rattle.std.proofs.lemmas.Bool.{true≢false}
use Rattle.std.specs.List.{flat_map}
use Rattle.rand_core.specs.Stream.{Stream}
use Rattle.nd_addr.specs.declared.addr.Addr.{Addr}
use Rattle.nd_chronicle.specs.Start.{Policies, Start}
use Rattle.nd_chronicle.specs.Happening.{Chronicle, Ignored, Limit, Passed, last_moment}
use Rattle.nd_chronicle.specs.Parts.{ignoring}
use Rattle.nd_chronicle.specs.Told.{items, items_at}
use Rattle.nd_chronicle.specs.Answer.{Done}
use Rattle.nd_chronicle.proofs.Answering.{in_part_done}
use Rattle.nd_decode.specs.Message.{Parts}
use Rattle.nd_out.specs.declared.out.Out.{Out}
use Rattle.nd_chronicle.specs.Full.{Fills}
use Rattle.nd_steps.proofs.RouterSide.{side_stands}
use Rattle.nd_steps.specs.Outputs.{at_moment, happenings, Tells}
use Rattle.nd_node.specs.declared.node.Node.{Node}
use Rattle.nd_node.specs.Hearing.{AddsMessage}
use Rattle.nd_node.specs.NodeKept.{Stands}
use Rattle.nd_node.specs.Parts.{AddsInPart}
use Rattle.nd_node.proofs.RouterRows.{IgnoresPart, aside, stands_aside}
use Rattle.nd_node.proofs.Turns.{advertisement_before}

-- ---- what is reported of the limits

told_of_limits : (now : ℕ) (limits : List Limit) (c : Chronicle) → items (ignoring now limits c) ≡ items c ++ flat_map items_at (at_moment now (map (λ l. Ignored l) limits))
told_of_limits now [] c = sym (append-nil (items c))
told_of_limits now (limit ∷ limits) c = told_of_limits now limits ((now, Ignored limit) ∷ c) ∙ append_assoc (items c) (items_at (now, Ignored limit)) (flat_map items_at (at_moment now (map (λ l. Ignored l) limits)))

pub tells_limits : {A : Type 0} (now : ℕ) (limits : List Limit) (c : Chronicle) (before after : List (ℕ × Out A)) → happenings after ≡ happenings before ++ at_moment now (map (λ l. Ignored l) limits)
    → Tells c (ignoring now limits c) before after
tells_limits now limits c before after is = record { newer = at_moment now (map (λ l. Ignored l) limits); told = told_of_limits now limits c; outs = is }

-- ---- the chronicle with what is passed over

module _ {R A : Type 0} (stream : R → Stream) (start : Start) (node : Node R A) (now : ℕ) where
  pub stands_limits : (limits : List Limit) (c : Chronicle) → last_moment start.at c ≡ now → Stands stream start node c → Stands stream start node (ignoring now limits c)
  stands_limits [] c at s = s
  stands_limits (limit ∷ limits) c at s = stands_limits limits ((now, Ignored limit) ∷ c) refl
      (stands_aside stream start node c ((now, Ignored limit) ∷ c) (aside (IgnoresPart limit) now start.at c at) s node.router node.generator (side_stands start node.router c ((now, Ignored limit) ∷ c) refl s.router) s.generator
      (advertisement_before node (last_moment start.at c) s.in_time))

-- ---- a message that a table has no room for all of

by_parts : {X : Type 0} (b : Bool) (Y : Type 0) → b ≡ true → X → MatchBool b X Y
by_parts true Y is x = x
by_parts false Y is x = absurd (true≢false (sym is))

pub in_part_adds : {R A : Type 0} (stream : R → Stream) (old new : Node R A) (x z : List (ℕ × Out A)) (now : ℕ) (source destination : Addr) (message : Parts) (limit : Limit) → old.policies.parts ≡ true
    → ((start : Start) (c : Chronicle) → Stands stream start old c → last_moment start.at c ≤ now → Fills start ((now, Passed) ∷ c) now source message message.body (Some limit))
    → AddsInPart stream old new x z now source destination message → AddsMessage stream old new x z now source destination message Done
in_part_adds stream old new x z now source destination message limit parts fills adds = record {
  each = λ start c s le target.
      let a = adds.each start c s le target in (
        a.0,
        (Some limit, fills start c s le, by_parts start.policies.parts _ (ap (λ (p : Policies). p.parts) (sym s.policies) ∙ parts) a.1),
        a.2,
        a.3,
        sym (in_part_done start now source destination message ((now, Passed) ∷ c) a.0 refl a.1),
      );
}
