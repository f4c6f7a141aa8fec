-- A message is heard at a node.
use Rattle.std.specs.Prelude.{◌≡◌, ℕ, true, false, List, [], ◌∷◌, ◌≤◌}
use Rattle.rand_core.specs.Stream.{Stream}
use Rattle.nd_addr.specs.declared.addr.Addr.{Addr}
use Rattle.nd_decode.specs.Message.{Parts}
use Rattle.nd_decode.specs.Option.{Said}
use Rattle.nd_decode.specs.Pieces.{options_left}
use Rattle.nd_decode.specs.declared.message_ref.MessageRef.{MessageRef}
use Rattle.nd_decode.specs.declared.options.Options.{Options}
use Rattle.nd_chronicle.specs.Start.{Start}
use Rattle.nd_chronicle.specs.Happening.{Chronicle, Passed, last_moment}
use Rattle.nd_chronicle.specs.Reading.{read_options}
use Rattle.nd_chronicle.specs.Hearing.{Verdict, drops, goes_on, goes_up, hears, takes_target}
use Rattle.nd_chronicle.specs.Event.{VerdictAdds}
use Rattle.nd_chronicle.specs.Answer.{Answer, answer_after}
use Rattle.nd_out.specs.declared.out.Out.{Out}
use Rattle.nd_steps.specs.Outputs.{Tells}
use Rattle.nd_node.specs.declared.node.Node.{Node}
use Rattle.nd_node.specs.NodeKept.{Stands}

-- the options of a message, as the node reads them by its policies
abbrev pub options_read : {R A : Type 0} → Node R A → Options → List Said
options_read node options = read_options node.policies node.mac (options_left options)

-- a message whose body has been read, with its options as the node reads them
abbrev pub parts_read : {R A : Type 0} → Node R A → MessageRef → Parts
parts_read node message = record { body = message.body; options = options_read node message.options }

-- From each chronicle of earlier moments that the node stood for, a message that is for it leads to one with what it adds, or with its
-- refusal where a table would be full, that is reported, and it is answered.
pub record AddsMessage {R A : Type 0} (stream : R → Stream) (old new : Node R A) (before after : List (ℕ × Out A)) (now : ℕ) (source destination : Addr) (message : Parts) (answer : Answer) : Type 0 where
  pub each : (start : Start) (c : Chronicle) → Stands stream start old c → last_moment start.at c ≤ now → takes_target c source message.body ≡ true
      → (d : Chronicle) × VerdictAdds start now [] (hears source destination message) ((now, Passed) ∷ c) d × Stands stream start new d × Tells c d before after
      × (answer ≡ answer_after d false)

-- What is made of a frame changes no table: it is dropped, or its packet goes to the upper layer.
abbrev pub LeavesTables : Verdict → Type 0
LeavesTables (drops why) = Unit {0}
LeavesTables (goes_up packet) = Unit {0}
LeavesTables (goes_on packet) = ⊥
LeavesTables (hears source destination message) = ⊥

-- all is as before, except rings that may be in reserve
pub record Keeps {R A : Type 0} (old new : Node R A) : Type 0 where
  pub role : new.role ≡ old.role
  pub mac : new.mac ≡ old.mac
  pub chosen : new.limits ≡ old.limits
  pub policies : new.policies ≡ old.policies
  pub generator : new.generator ≡ old.generator
  pub last : new.last ≡ old.last
  pub params : new.params ≡ old.params
  pub routers : new.routers ≡ old.routers
  pub prefixes : new.prefixes ≡ old.prefixes
  pub addresses : new.addresses ≡ old.addresses
  pub entries : new.neighbours.entries ≡ old.neighbours.entries
  pub limit : new.neighbours.limit ≡ old.neighbours.limit
  pub waiting : new.neighbours.waiting ≡ old.neighbours.waiting
  pub dns : new.dns ≡ old.dns
  pub choice : new.choice ≡ old.choice
  pub solicitations : new.solicitations ≡ old.solicitations
  pub router : new.router ≡ old.router
