-- What a Neighbor Solicitation for one of the node's own addresses adds (RFC 4861, sections 7.2.3 and 7.2.4; RFC 4862, section 5.4.3).
use Rattle.std.specs.Prelude.{◌≡◌, ℕ, Bool, true, false, if◌then◌else◌, bytes_eq, MatchBool, MatchOption, List, ◌∷◌, Option, Some, None}
use Rattle.nd_addr.specs.declared.addr.Addr.{Addr}
use Rattle.nd_addr.specs.declared.mac.Mac.{Mac}
use Rattle.nd_addr.specs.declared.role.Role.{Role}
use Rattle.nd_addr.specs.declared.role.Role.TheVariants.{Host, Router}
use Rattle.nd_addr.specs.Kind.{unspecified_address}
use Rattle.nd_addr.specs.Frame.{addressed}
use Rattle.nd_addr.specs.Number.{mac_at, number_of}
use Rattle.nd_decode.specs.Message.{Parts}
use Rattle.nd_neighbour.specs.History.{story}
use Rattle.nd_neighbour.specs.Story.{mac_of}
use Rattle.nd_slaac.specs.History as addresses
use Rattle.nd_chronicle.specs.Start.{Start}
use Rattle.nd_chronicle.specs.Happening.{Chronicle, Heard, Address, Sent}
use Rattle.nd_chronicle.specs.Histories.{neighbour_history}
use Rattle.nd_chronicle.specs.LinkLayerAddress.{first_slla}
use Rattle.nd_chronicle.specs.OwnAddress.{is_assigned}
use Rattle.nd_chronicle.specs.Reading.{is_group}
use Rattle.nd_compose.specs.Frames.{defence_frame, answer_frame}
use Rattle.nd_chronicle.specs.Packet.{Goes}
use Rattle.nd_chronicle.specs.Message.{said, RoomFor, failing_for, releasing}

-- the flag R of what it sends: "If the node is a router, it MUST set the Router flag to one; otherwise, it MUST set the flag to zero."
abbrev pub is_router : Role → Bool
is_router Router = true
is_router Host = false

-- An asker that gets no entry, with the policy `parts`, is answered at the link-layer address that it gives, unless that is a group's, and not otherwise (our
-- choice).
abbrev pub answer_address : Option Mac → Option Mac
answer_address None = None
answer_address (Some mac) = if is_group mac then None else Some mac

module _ (start : Start) (at : ℕ) where
  -- From ::, another node tries the address: if it is assigned here, an advertisement to all nodes says so; if it is tentative, it is a duplicate.
  abbrev pub then_tried : Addr → Chronicle → Chronicle
  then_tried target c =
      if is_assigned c target.0 then (at, Sent (defence_frame (is_router start.role) start.mac target)) ∷ c
      else (at, Address (number_of target.0) addresses.Conflict) ∷ c

  -- with the policy `speakers` an answer is no use of the asker: this is the link-layer address to which it is sent alone
  abbrev pub sent_alone_to : ℕ → Chronicle → Option ℕ
  sent_alone_to key c = if start.policies.speakers then mac_of (story key (neighbour_history c)) else None

  -- it goes to the asker as any packet goes there, unless it is sent alone
  abbrev pub Replies : ℕ → List ℕ → Chronicle → Chronicle → Type 0
  Replies key packet c d = MatchOption (sent_alone_to key c) (Goes start c at key packet d) (λ mac. d ≡ (at, Sent (addressed (mac_at mac) packet)) ∷ c)

  -- From an address, it is answered to the asker, behind what the solicitation says of the asker.
  pub record Answers (source destination target : Addr) (message : Parts) (c d : Chronicle) : Type 0 where
    pub gone : Option ℕ
    pub placed : Chronicle
    pub room : RoomFor start c at (said c source message) gone placed
    pub answer : Replies (number_of source.0) (answer_frame (is_router start.role) start.mac target source)
        (releasing at (said c source message) (neighbour_history placed)
        (failing_for at gone (neighbour_history c) ((at, Heard source destination message) ∷ placed))) d

  abbrev pub ThenSolicited : Addr → Addr → Addr → Parts → Chronicle → Chronicle → Type 0
  ThenSolicited source destination target message c d =
      MatchBool (bytes_eq source.0 unspecified_address)
      (d ≡ then_tried target ((at, Heard source destination message) ∷ c))
      (Answers source destination target message c d)

  -- ---- the policy `parts`

  abbrev pub answered_at : Option Mac → List ℕ → Chronicle → Chronicle
  answered_at None packet c = c
  answered_at (Some mac) packet c = (at, Sent (addressed mac packet)) ∷ c

  -- nothing is used then; the address is the one that is said, which isn't among what is taken
  abbrev pub then_answered : Addr → Addr → Addr → Parts → Parts → Chronicle → Chronicle
  then_answered source destination target message taken c =
      answered_at (answer_address (first_slla message.options)) (answer_frame (is_router start.role) start.mac target source) ((at, Heard source destination taken) ∷ c)
