-- What an event adds to a log, seen by its parts.
use Rattle.std.proofs.Common.{◌≡◌, ℕ, ◌<◌, List, ◌∷◌, ◌++◌, Some, refl}
use Rattle.std.specs.Prelude.{◌==◌, nat_lt}
use Rattle.nd_addr.specs.Bytes.{AreBytes}
use Rattle.nd_table.proofs.Tests.{by_either}
use Rattle.nd_chronicle.specs.Start.{Limits, Start, no_policies}
use Rattle.nd_chronicle.specs.Happening.{Chronicle}
use Rattle.nd_chronicle.specs.History.{beginning}
use Rattle.nd_chronicle.specs.Event as nodes
use Rattle.nd_chronicle.specs.Event.{ComesAsBytes, EventAdds}
use Rattle.nd_link_log.specs.Log.{Log, Refusal, NoNode, NoFrame, Own, Full, Begins, Carries, Refuses, IsFrame, adding, chronicle_of, last_moment, nodes, sent, start_of}
use Rattle.nd_link_log.specs.Event.{Event, Passes, Starts, Comes, Delivers, AddsRows, AddsDelivery, EventHappens, max_nodes}
use Rattle.nd_link_log.specs.Bytes.{IsOfBytes}

-- what is passed in may be bytes
pub data Seen (Bytes : Type 0) (now : ℕ) (before d : Log) : Type 0 where
  -- nothing
  Nothing : d ≡ before → Seen Bytes now before d
  -- it is refused
  Refused : (why : Refusal) → last_moment (Refuses now why ∷ before) ≡ now → d ≡ Refuses now why ∷ before → Seen Bytes now before d
  -- a node starts
  Started : (start : Start) → start.at ≡ now → start.policies ≡ no_policies → (Bytes → AreBytes 6 start.mac.0 × (0 < start.transmits)) → d ≡ adding (nodes before) (beginning start) (Begins (nodes before) start ∷ before)
      → Seen Bytes now before d
  -- an event comes to a node
  Came : (node : ℕ) (start : Start) (event : nodes.Event) (rows : Chronicle) → (Bytes → ComesAsBytes event) → start_of node before ≡ Some start
      → EventAdds start now event (chronicle_of node before) (rows ++ chronicle_of node before) → d ≡ adding node rows before → Seen Bytes now before d
  -- a frame is carried to a node
  Carried : (node number sender at : ℕ) (frame : List ℕ) (start : Start) (rows : Chronicle) → IsFrame before number sender at frame → start_of node before ≡ Some start
      → EventAdds start now (nodes.Receives frame) (chronicle_of node before) (rows ++ chronicle_of node before) → d ≡ adding node rows (Carries node now number ∷ before)
      → Seen Bytes now before d

module _ (Bytes : Type 0) (limits : Limits) (now : ℕ) (before d : Log) where
  came : (node : ℕ) (event : nodes.Event) → (Bytes → ComesAsBytes event) → AddsRows limits now node event before d → Seen Bytes now before d
  came node event bytes r = Came node r.start event r.rows bytes r.starts r.adds r.all

  carried : (node number : ℕ) → AddsDelivery limits now node number before d → Seen Bytes now before d
  carried node number r = by_either (r.sender == node)
      (λ own. Refused Own refl own)
      (λ a. Carried node number r.sender r.at r.frame a.start a.rows r.is_frame a.starts a.adds a.all) r.adds

  pub seen : (event : Event) → (Bytes → IsOfBytes event) → EventHappens limits now event before d → Seen Bytes now before d
  seen Passes bytes h = Nothing h
  seen (Starts role mac transmits stream) bytes h = by_either (nat_lt (nodes before) max_nodes)
      (λ more. Started (record { at = now; role = role; mac = mac; transmits = transmits; stream = stream; limits = limits; policies = no_policies }) refl refl bytes more)
      (λ full. Refused Full refl full) h
  seen (Comes node event) bytes h = by_either (nat_lt node (nodes before)) (came node event bytes) (λ none. Refused NoNode refl none) h
  seen (Delivers node number) bytes h = by_either (nat_lt node (nodes before))
      (λ there. by_either (nat_lt number (sent before)) (carried node number) (λ none. Refused NoFrame refl none) there)
      (λ none. Refused NoNode refl none) h
