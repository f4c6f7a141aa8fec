-- What an event adds to what happened on a link. The milliseconds up to it have passed.
use Rattle.std.specs.Prelude.{◌≡◌, ℕ, zero, suc, nat_lt, ◌==◌, MatchBool, List, ◌∷◌, ◌++◌, Some}
use Rattle.rand_core.specs.Stream.{Stream}
use Rattle.nd_addr.specs.declared.mac.Mac.{Mac}
use Rattle.nd_addr.specs.declared.role.Role.{Role}
use Rattle.nd_chronicle.specs.Start.{Limits, Start, no_policies}
use Rattle.nd_chronicle.specs.Happening.{Chronicle, Passed}
use Rattle.nd_chronicle.specs.History.{beginning}
use Rattle.nd_chronicle.specs.Event as nodes
use Rattle.nd_chronicle.specs.Event.{EventAdds}
use Rattle.nd_link_log.specs.Log.{Log, NoNode, NoFrame, Own, Full, Begins, Adds, Carries, Refuses, nodes, start_of, chronicle_of, adding, sent, IsFrame}

-- how many nodes there may be (our choice)
abbrev pub max_nodes : ℕ
max_nodes = 16

-- time passes; another node starts; a node, by its number, receives an event; a frame is carried to a node, by the numbers of both
pub data Event : Type 0 where
  Passes : Event
  Starts : (role : Role) (mac : Mac) (transmits : ℕ) (stream : Stream) → Event
  Comes : (node : ℕ) (event : nodes.Event) → Event
  Delivers : (node frame : ℕ) → Event

-- time has passed at each of so many nodes
abbrev pub passing : ℕ → ℕ → Log → Log
passing now zero log = log
passing now (suc i) log = Adds i now Passed ∷ passing now i log

module _ (limits : Limits) (now : ℕ) where
  -- an existing node receives an event, and adds its rows, which are of that node alone
  pub record AddsRows (node : ℕ) (event : nodes.Event) (log d : Log) : Type 0 where
    pub start : Start
    pub starts : start_of node log ≡ Some start
    pub rows : Chronicle
    pub adds : EventAdds start now event (chronicle_of node log) (rows ++ chronicle_of node log)
    pub all : d ≡ adding node rows log

  -- a frame is carried to a node, which hears it
  pub record AddsDelivery (node number : ℕ) (log d : Log) : Type 0 where
    pub sender : ℕ
    pub at : ℕ
    pub frame : List ℕ
    pub is_frame : IsFrame log number sender at frame
    pub adds : MatchBool (sender == node) (d ≡ Refuses now Own ∷ log) (AddsRows node (nodes.Receives frame) (Carries node now number ∷ log) d)

  -- what is for a node that doesn't exist is refused
  abbrev pub IfThere : ℕ → (Log → Log → Type 0) → Log → Log → Type 0
  IfThere node Adds' log d = MatchBool (nat_lt node (nodes log)) (Adds' log d) (d ≡ Refuses now NoNode ∷ log)

  abbrev pub EventHappens : Event → Log → Log → Type 0
  EventHappens Passes log d = d ≡ log
  EventHappens (Starts role mac transmits stream) log d =
      MatchBool (nat_lt (nodes log) max_nodes)
      (let start : Start = record { at = now; role = role; mac = mac; transmits = transmits; stream = stream; limits = limits; policies = no_policies } in d ≡ adding (nodes log) (beginning start) (Begins (nodes log) start ∷ log))
      (d ≡ Refuses now Full ∷ log)
  EventHappens (Comes node event) log d = IfThere node (AddsRows node event) log d
  EventHappens (Delivers node number) log d =
      IfThere node (λ before after. MatchBool (nat_lt number (sent before)) (AddsDelivery node number before after) (after ≡ Refuses now NoFrame ∷ before)) log d
