-- A solicitation from :: for one of the node's addresses, and the chronicle that a node stands for.
use Rattle.std.proofs.Common.{◌≡◌, ℕ, ◌<◌, ◌≤◌, Bool, true, false, ◌&&◌, ◌||◌, List, [], ◌∷◌, ◌++◌, append-nil, append_assoc, Some, None, refl, sym, ◌∙◌, ap, subst, arith}
use Rattle.std.specs.Prelude.{◌↔◌, bytes_eq, if◌then◌else◌, MatchBool, not}
use Rattle.rand_core.specs.Stream.{Stream}
use Rattle.nd_addr.specs.declared.addr.Addr.{Addr}
use Rattle.nd_addr.specs.Kind.{unspecified_address}
use Rattle.nd_addr.specs.Number.{number_of}
use Rattle.nd_decode.specs.Option.{Said}
use Rattle.nd_decode.specs.declared.body.Body.TheVariants as bodies
use Rattle.nd_decode.specs.declared.neighbor_solicitation.NeighborSolicitation.{NeighborSolicitation}
use Rattle.nd_slaac.specs.AddressKept as own
use Rattle.nd_slaac.specs.History as rows
use Rattle.nd_slaac.specs.History.{story}
use Rattle.nd_slaac.specs.State as states
use Rattle.nd_slaac.specs.TableKept as addresses
use Rattle.nd_slaac.specs.Due.{NoneOverdue}
use Rattle.nd_slaac.specs.Dates.{NoneBefore}
use Rattle.nd_compose.specs.Frames.{defence_frame}
use Rattle.nd_chronicle.specs.Start.{Start}
use Rattle.nd_chronicle.specs.Happening.{Chronicle, Happening, Passed, Heard, Address, Sent, last_moment}
use Rattle.nd_chronicle.specs.Histories.{address_history, neighbour_history, then_neighbour, given_or_marked}
use Rattle.nd_chronicle.specs.LinkLayerAddress.{first_slla}
use Rattle.nd_chronicle.specs.OwnAddress.{is_assigned, is_tentative}
use Rattle.nd_chronicle.specs.NeighborSolicitation.{is_router, then_tried, Answers}
use Rattle.nd_chronicle.specs.Full.{Placed}
use Rattle.nd_chronicle.specs.Message.{makes_way, said}
use Rattle.nd_chronicle.specs.Event.{VerdictAdds}
use Rattle.nd_chronicle.specs.Hearing.{hears}
use Rattle.nd_chronicle.specs.Told.{items_at, items}
use Rattle.nd_out.specs.declared.out.Out.{Out}
use Rattle.nd_out.specs.Out.{happening}
use Rattle.nd_steps.specs.Outputs.{happenings, Tells}
use Rattle.nd_steps.proofs.Quiet.{Quiet, sent_is_quiet}
use Rattle.nd_steps.proofs.Telling.{handed_out}
use Rattle.nd_chronicle.specs.Answer.{Done}
use Rattle.nd_node.specs.declared.node.Node.{Node}
use Rattle.nd_node.specs.Asker.{solicitation}
use Rattle.nd_node.specs.NodeKept.{Stands, next_of}
use Rattle.nd_node.specs.Hearing.{AddsMessage}
use Rattle.nd_nexthop.specs.Memo.{forgotten}
use Rattle.nd_node.proofs.Beside.{Beside, Same, stands_addresses}
use Rattle.nd_node.proofs.Quiet.{stands_quiet}
use Rattle.nd_node.proofs.Steps.{passed}
use Rattle.nd_node.proofs.Turns.{addresses_before}

-- ---- what the addresses' laws say

abbrev pub Still : Type 0
Still = (transmits : ℕ) (history : List rows.Row) (now key : ℕ) (kind : rows.RowKind) → NoneOverdue transmits history now → NoneOverdue transmits ((now, key, kind) ∷ history) now

abbrev pub ByTable : Type 0
ByTable = (transmits : ℕ) (those : List own.Address) (history : List rows.Row) (now : ℕ) → addresses.Stands those history → NoneBefore those now ↔ NoneOverdue transmits history now

-- ---- the rows

-- one from :: says nothing of a neighbour
heard_is_quiet : (at : ℕ) (source destination : Addr) (ns : NeighborSolicitation) (options : List Said) (c : Chronicle)
    → bytes_eq source.0 unspecified_address ≡ true → ((start : ℕ) → last_moment start c ≡ at) → Quiet c ((at, Heard source destination (solicitation ns options)) ∷ c)
heard_is_quiet at source destination ns options c from now = record {
  parameters = refl;
  neighbours = ap (λ (b : Bool). then_neighbour at (if b then None else given_or_marked (number_of source.0) (first_slla options) None) (neighbour_history c)) from;
  routers = refl;
  prefixes = refl;
  addresses = refl;
  servers = refl;
  names = refl;
  redirects = refl;
  solicited = refl;
  router = λ start. refl;
  stream = λ start. refl;
  last = λ start. sym (now start);
}

conflict_beside : (at key : ℕ) (c : Chronicle) → Beside c ((at, Address key rows.Conflict) ∷ c)
conflict_beside at key c = record { parameters = refl; routers = refl; prefixes = refl; servers = refl; names = refl; redirects = refl; assigned = λ k. refl; solicited = refl; router = λ start'. refl; stream = λ start. refl }

-- ---- the address

-- one that is tentative isn't assigned, and of the two it is one
not_both : (known assigned : Bool) → (known && not assigned) ≡ true → (known && assigned) ≡ false
not_both true false e = refl
not_both true true e = let no : ⊥ = cc in absurd no
not_both false assigned e = let no : ⊥ = cc in absurd no

the_other : (assigned tentative tried : Bool) → (assigned || (tentative && tried)) ≡ true → tentative ≡ false → assigned ≡ true
the_other true tentative tried e not_tentative = refl
the_other false false tried e not_tentative = let no : ⊥ = cc in absurd no
the_other false true tried e not_tentative = let no : ⊥ = cc in absurd no

-- ---- what it adds, and what is reported

adds_by : (start : Start) (now : ℕ) (source destination : Addr) (ns : NeighborSolicitation) (options : List Said) (c d : Chronicle) → bytes_eq source.0 unspecified_address ≡ true
    → d ≡ then_tried start now ns.target ((now, Heard source destination (solicitation ns options)) ∷ c)
    → VerdictAdds start now [] (hears source destination (solicitation ns options)) c d
adds_by start now source destination ns options c d from is = (
  None,
  record { neighbours = true; placed = placed_alone; first = refl },
  subst (λ (b : Bool). MatchBool b (d ≡ then_tried start now ns.target ((now, Heard source destination (solicitation ns options)) ∷ c)) (Answers start now source destination ns.target (solicitation ns options) c d)) (sym from) is,
)
  where
    way : Bool
    way = makes_way start (said c source (solicitation ns options))

    placed_alone : Placed start c now way (if bytes_eq source.0 unspecified_address then None else Some (number_of source.0, true)) true
    placed_alone = subst (λ (b : Bool). Placed start c now way (if b then None else Some (number_of source.0, true)) true) (sym from) refl

-- a row that isn't reported, and two that are
two : {A : Type 0} (before first second : List A) → ((before ++ []) ++ first) ++ second ≡ before ++ (first ++ (second ++ []))
two before first second =
    ap (λ b. (b ++ first) ++ second) (append-nil before) ∙ (append_assoc before first second ∙ ap (λ l. before ++ (first ++ l)) (sym (append-nil second)))

-- two are reported
two_more : {A : Type 0} (x room y z : List (ℕ × Out A)) (at : ℕ) (first second : Out A) → room ≡ x → y ≡ room ++ (at, first) ∷ [] → z ≡ y ++ (at, second) ∷ []
    → happenings z ≡ happenings x ++ (at, happening first) ∷ (at, happening second) ∷ []
two_more x room y z at first second same f s =
    ap happenings s ∙ (sym (append-nil _) ∙ (handed_out y at second [] ∙ (ap (λ l. happenings l ++ (at, happening second) ∷ []) f
    ∙ (handed_out room at first ((at, happening second) ∷ []) ∙ ap (λ l. happenings l ++ (at, happening first) ∷ (at, happening second) ∷ []) same))))

module _ {R A : Type 0} (stream : R → Stream) (old new : Node R A) (x room y z : List (ℕ × Out A)) (now : ℕ) (source destination : Addr) (ns : NeighborSolicitation) (options : List Said)
    (from : bytes_eq source.0 unspecified_address ≡ true) (settled : now < next_of old) (first second : Out A)
    (heard : happening first ≡ Heard source destination (record { body = bodies.Ns ns; options = [] })) (reserved : room ≡ x) (told_first : y ≡ room ++ (now, first) ∷ []) (told_second : z ≡ y ++ (now, second) ∷ []) where
  -- up to the row of the solicitation
  heard_at : (start : Start) (c : Chronicle) (node : Node R A) → node ≡ record old { last = now } → Stands stream start old c → last_moment start.at c ≤ now
      → Stands stream start node ((now, Heard source destination (solicitation ns options)) ∷ (now, Passed) ∷ c)
  heard_at start c node is s le =
      stands_quiet stream start node _ _ (heard_is_quiet now source destination ns options ((now, Passed) ∷ c) from (λ a. refl)) (passed stream start old node c now s le settled is)

  tells : (start : Start) (c : Chronicle) (what : Happening) → happening second ≡ what
      → Tells c ((now, what) ∷ (now, Heard source destination (solicitation ns options)) ∷ (now, Passed) ∷ c) x z
  tells start c what is = record {
    newer = (now, Heard source destination (record { body = bodies.Ns ns; options = [] })) ∷ (now, what) ∷ [];
    told = two (items c) (items_at (now, Heard source destination (solicitation ns options))) (items_at (now, what));
    outs = two_more x room y z now first second reserved told_first told_second ∙ (ap (λ (h : Happening). happenings x ++ (now, h) ∷ (now, happening second) ∷ []) heard
        ∙ ap (λ (h : Happening). happenings x ++ (now, Heard source destination (record { body = bodies.Ns ns; options = [] })) ∷ (now, h) ∷ []) is);
  }

  -- a tentative address is a duplicate
  pub duplicates : Still → ByTable → happening second ≡ Address (number_of ns.target.0) rows.Conflict
      → Same (record old { last = now }) new → new.choice ≡ record old.choice { memory = forgotten old.choice.memory } → new.neighbours ≡ old.neighbours
      → ((history : List rows.Row) → addresses.Stands old.addresses.addresses history → true ≡ states.is_tentative (story (number_of ns.target.0) history))
      → addresses.GainsRow old.addresses.addresses new.addresses.addresses (now, number_of ns.target.0, rows.Conflict)
      → AddsMessage stream old new x z now source destination (solicitation ns options) Done
  duplicates still table second_is same forgot others tentative gains = record {
    each = λ start c s le takes.
        let key : ℕ = number_of ns.target.0 in
        let history : List rows.Row = address_history c in
        let mid : Node R A = record old { last = now } in
        let before : Chronicle = (now, Heard source destination (solicitation ns options)) ∷ (now, Passed) ∷ c in
        let d : Chronicle = (now, Address key rows.Conflict) ∷ before in
        let here = story key history in
        let not_assigned : is_assigned before ns.target.0 ≡ false =
        not_both (states.is_known here && not (states.has_conflict here)) (states.was_assigned here) (sym (tentative history s.addresses)) in
        let not_past : now ≤ next_of old = omega (arith, settled) in
        let stands' = gains.stands history s.addresses in
        let later = (table start.transmits new.addresses.addresses ((now, key, rows.Conflict) ∷ history) now stands').1
        (still start.transmits history now key rows.Conflict ((table start.transmits old.addresses.addresses history now s.addresses).0 (addresses_before old now not_past))) in (
          d,
          adds_by start now source destination ns options ((now, Passed) ∷ c) d from
              (sym (ap (λ (b : Bool). if b then (now, Sent (defence_frame (is_router start.role) start.mac ns.target)) ∷ before else d) not_assigned)),
          stands_addresses stream start mid new before d now same (conflict_beside now key before) (heard_at start c mid refl s le) refl refl others refl stands' later forgot,
          tells start c (Address key rows.Conflict) second_is,
          refl,
        );
  }

  -- an assigned one is defended
  pub defends : (router : Bool) → router ≡ is_router old.role → happening second ≡ Sent (defence_frame router old.mac ns.target)
      → new ≡ record old { last = now }
      → ((history : List rows.Row) → addresses.Stands old.addresses.addresses history → false ≡ states.is_tentative (story (number_of ns.target.0) history))
      → AddsMessage stream old new x z now source destination (solicitation ns options) Done
  defends router router_is second_is is tentative = record {
    each = λ start c s le takes.
        let key : ℕ = number_of ns.target.0 in
        let before : Chronicle = (now, Heard source destination (solicitation ns options)) ∷ (now, Passed) ∷ c in
        let frame : List ℕ = defence_frame (is_router start.role) start.mac ns.target in
        let d : Chronicle = (now, Sent frame) ∷ before in
        let assigned : is_assigned before ns.target.0 ≡ true =
        the_other (is_assigned c ns.target.0) (is_tentative c ns.target.0) (bytes_eq source.0 unspecified_address) takes (sym (tentative (address_history c) s.addresses)) in
        let frame_is : defence_frame router old.mac ns.target ≡ frame =
        ap (λ (b : Bool). defence_frame b old.mac ns.target) (router_is ∙ ap is_router s.role) ∙ ap (λ m. defence_frame (is_router start.role) m ns.target) s.mac in (
          d,
          adds_by start now source destination ns options ((now, Passed) ∷ c) d from
              (sym (ap (λ (b : Bool). if b then d else (now, Address key rows.Conflict) ∷ before) assigned)),
          stands_quiet stream start new before d (sent_is_quiet now frame before (λ a. refl)) (heard_at start c new is s le),
          tells start c (Sent frame) (second_is ∙ ap Sent frame_is),
          refl,
        );
  }
