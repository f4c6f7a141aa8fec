-- An asker for which there is no room is answered without an entry.
use Rattle.std.proofs.Common.{◌≡◌, ℕ, ◌<◌, Bool, true, false, List, [], ◌∷◌, ◌++◌, append-nil, map, Option, Some, None, refl, sym, ◌∙◌, ap, subst}
use Rattle.std.specs.Prelude.{bytes_eq, if◌then◌else◌}
use Rattle.std.specs.Option.{option_map, option_to_list}
use Rattle.rand_core.specs.Stream.{Stream}
use Rattle.nd_addr.specs.declared.addr.Addr.{Addr}
use Rattle.nd_addr.specs.declared.mac.Mac.{Mac}
use Rattle.nd_addr.specs.Kind.{unspecified_address}
use Rattle.nd_addr.specs.Frame.{addressed}
use Rattle.nd_addr.specs.Number.{number_of}
use Rattle.nd_decode.specs.Message.{Parts}
use Rattle.nd_decode.specs.Option.{Said}
use Rattle.nd_decode.specs.declared.body.Body.TheVariants as bodies
use Rattle.nd_decode.specs.declared.neighbor_solicitation.NeighborSolicitation.{NeighborSolicitation}
use Rattle.nd_compose.specs.Frames.{answer_frame}
use Rattle.nd_chronicle.specs.Start.{Start}
use Rattle.nd_chronicle.specs.Happening.{Chronicle, Passed, Heard, Ignored, Neighbours, Sent, last_moment}
use Rattle.nd_chronicle.specs.Histories.{given_or_marked, neighbour_history, then_neighbour}
use Rattle.nd_chronicle.specs.LinkLayerAddress.{first_slla}
use Rattle.nd_chronicle.specs.Message.{said, makes_way}
use Rattle.nd_chronicle.specs.NeighborSolicitation.{answer_address, answered_at, is_router}
use Rattle.nd_chronicle.specs.Full.{Placed}
use Rattle.nd_chronicle.specs.Parts.{as_placed, ignoring}
use Rattle.nd_chronicle.specs.Told.{items, items_at}
use Rattle.nd_chronicle.specs.Answer.{Done}
use Rattle.nd_chronicle.proofs.Reading.{no_slla_placed}
use Rattle.nd_out.specs.declared.out.Out.{Out}
use Rattle.nd_out.specs.Out.{happening}
use Rattle.nd_steps.specs.Outputs.{at_moment, happenings, Tells}
use Rattle.nd_steps.proofs.Quiet.{Quiet, quiet_same, sent_is_quiet}
use Rattle.nd_steps.proofs.Telling.{one, Tells-then}
use Rattle.nd_node.specs.declared.node.Node.{Node}
use Rattle.nd_node.specs.Hearing.{AddsMessage}
use Rattle.nd_node.specs.NodeKept.{Stands, next_of}
use Rattle.nd_node.proofs.Asking.{asked}
use Rattle.nd_node.specs.Asker.{solicitation}
use Rattle.nd_node.proofs.Ignoring.{in_part_adds, stands_limits, tells_limits}
use Rattle.nd_node.proofs.Quiet.{stands_quiet}
use Rattle.nd_node.proofs.Steps.{passed}
use Rattle.nd_node.proofs.TakenOrRefused.{tells_one}

-- the solicitation says nothing of its sender without the link-layer address
heard_is_quiet : (at : ℕ) (source destination : Addr) (ns : NeighborSolicitation) (options : List Said) (c : Chronicle)
    → bytes_eq source.0 unspecified_address ≡ false → ((start : ℕ) → last_moment start c ≡ at) → Quiet c ((at, Heard source destination (solicitation ns (as_placed false options))) ∷ c)
heard_is_quiet at source destination ns options c from now = record {
  parameters = refl;
  neighbours =
      ap (λ (b : Bool). then_neighbour at (if b then None else given_or_marked (number_of source.0) (first_slla (as_placed false options)) None) (neighbour_history c)) from
      ∙ ap (λ (mac : Option Mac). then_neighbour at (given_or_marked (number_of source.0) mac None) (neighbour_history c)) (no_slla_placed options);
  routers = refl;
  prefixes = refl;
  addresses = refl;
  servers = refl;
  names = refl;
  redirects = refl;
  solicited = refl;
  router = λ start. refl;
  stream = λ start. refl;
  last = λ start. sym (now start);
}

module _ (start : Start) (now : ℕ) (packet : List ℕ) where
  answered_is_quiet : (mac : Option Mac) (c : Chronicle) → ((at : ℕ) → last_moment at c ≡ now) → Quiet c (answered_at start now mac packet c)
  answered_is_quiet None c at = quiet_same c
  answered_is_quiet (Some mac) c at = sent_is_quiet now (addressed mac packet) c at

  answered_last : (mac : Option Mac) (c : Chronicle) → ((at : ℕ) → last_moment at c ≡ now) → (at : ℕ) → last_moment at (answered_at start now mac packet c) ≡ now
  answered_last None c at = at
  answered_last (Some mac) c at = λ a. refl

  tells_answer : {A : Type 0} (mac : Option Mac) (c : Chronicle) (x y : List (ℕ × Out A)) → happenings y ≡ happenings x ++ at_moment now (map (λ frame. Sent frame) (option_to_list (option_map (λ to. addressed to packet) mac)))
      → Tells c (answered_at start now mac packet c) x y
  tells_answer None c x y is = record { newer = []; told = sym (append-nil (items c)); outs = is }
  tells_answer (Some mac) c x y is = record { newer = (now, Sent (addressed mac packet)) ∷ []; told = one (items c) (items_at (now, Sent (addressed mac packet))); outs = is }

module _ {R A : Type 0} (stream : R → Stream) (old : Node R A) (now : ℕ) (source destination : Addr) (ns : NeighborSolicitation) (options : List Said)
    (from : bytes_eq source.0 unspecified_address ≡ false) (settled : now < next_of old) (parts : old.policies.parts ≡ true)
    (placed : (start : Start) (c : Chronicle) → Stands stream start old c
    → Placed start ((now, Passed) ∷ c) now (makes_way start (said ((now, Passed) ∷ c) source (solicitation ns options))) (Some (number_of source.0, true)) false) where
  pub answers_without_entry : (new : Node R A) (x room y z w : List (ℕ × Out A)) (out : Out A) → happening out ≡ Heard source destination (record { body = bodies.Ns ns; options = [] }) → new ≡ record old { last = now }
      → room ≡ x → y ≡ room ++ (now, out) ∷ []
      → (router : Bool) → router ≡ is_router old.role
      → happenings z ≡ happenings y ++ at_moment now (map (λ frame. Sent frame) (option_to_list (option_map (λ to. addressed to (answer_frame router old.mac ns.target source)) (answer_address (first_slla options)))))
      → happenings w ≡ happenings z ++ at_moment now (map (λ l. Ignored l) (Neighbours ∷ []))
      → AddsMessage stream old new x w now source destination (solicitation ns options) Done
  answers_without_entry new x room y z w out out_is new_is same told_is router router_is answer ignored =
      in_part_adds stream old new x w now source destination (solicitation ns options) Neighbours parts
      (λ start c s le. record { neighbours = false; placed = asked start now source destination ns options ((now, Passed) ∷ c) [] from false (placed start c s); first = refl })
      (record {
        each = λ start c s le target.
            let later : Chronicle = (now, Passed) ∷ c in
            let message : Parts = solicitation ns (as_placed false options) in
            let mac : Option Mac = answer_address (first_slla options) in
            let packet : List ℕ = answer_frame (is_router start.role) start.mac ns.target source in
            let packet_is : answer_frame router old.mac ns.target source ≡ packet =
            ap (λ (b : Bool). answer_frame b old.mac ns.target source) (router_is ∙ ap is_router s.role) ∙ ap (λ (m : Mac). answer_frame (is_router start.role) m ns.target source) s.mac in
            let heard : Chronicle = (now, Heard source destination message) ∷ later in
            let told : Chronicle = answered_at start now mac packet heard in
            let stands = stands_quiet stream start new heard told (answered_is_quiet start now packet mac heard (λ a. refl))
            (stands_quiet stream start new later heard (heard_is_quiet now source destination ns options later from (λ a. refl)) (passed stream start old new c now s le settled new_is)) in (
              ignoring now (Neighbours ∷ []) told,
              record {
                taken = record { place = false; message = message; listed = true; ignored = Neighbours ∷ [] };
                is_taken = record { placed = asked start now source destination ns options later [] from false (placed start c s); message_is = refl; listed_is = refl; ignored_is = refl };
                told = told;
                adds = refl;
                all = refl;
              },
              stands_limits stream start new now (Neighbours ∷ []) told (answered_last start now packet mac heard (λ a. refl) start.at) stands,
              Tells-then c told (ignoring now (Neighbours ∷ []) told) x z w
                  (Tells-then c heard told x y z
                  (tells_one c now (Heard source destination (record { body = bodies.Ns ns; options = [] })) (Heard source destination message) x y out out_is refl (told_is ∙ ap (λ (l : List (ℕ × Out A)). l ++ (now, out) ∷ []) same))
                  (tells_answer start now packet mac heard y z
                  (subst (λ (p : List ℕ). happenings z ≡ happenings y ++ at_moment now (map (λ frame. Sent frame) (option_to_list (option_map (λ to. addressed to p) mac)))) packet_is answer)))
                  (tells_limits now (Neighbours ∷ []) told z w ignored),
            );
      })
