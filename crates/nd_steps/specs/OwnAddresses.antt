-- What happens to the node's own addresses (RFC 4862, section 5), and which of them count for a frame.
use Rattle.std.specs.Prelude.{◌≡◌, ℕ, Bool, true, false, List, [], ◌∷◌, ◌++◌}
use Rattle.nd_slaac.specs.AddressKept.{Address}
use Rattle.nd_slaac.specs.History.{Row, Conflict, story}
use Rattle.nd_slaac.specs.State.{is_tentative}
use Rattle.nd_chronicle.specs.Happening.{Happening, Chronicle}
use Rattle.nd_out.specs.declared.out.Out.{Out}
use Rattle.nd_steps.specs.Outputs.{happenings}
use Rattle.nd_slaac.specs.declared.destination.Counted.{Counted}
use Rattle.nd_slaac.specs.declared.destination.Counted.TheVariants.{Own, Assigned}
use Rattle.nd_chronicle.specs.OwnAddress.{is_own, is_assigned}
use Rattle.rand_core.specs.Stream.{Stream, next_u32}
use Rattle.nd_slaac.specs.TableKept.{Table}
use Rattle.nd_chronicle.specs.Start.{Start}
use Rattle.nd_chronicle.specs.Histories.{address_history}
use Rattle.nd_chronicle.specs.InForce.{retrans_timer}
use Rattle.nd_chronicle.specs.Generator.{stream_left, delay_drawn}
use Rattle.nd_slaac.specs.TableKept as addresses
use Rattle.nd_chronicle.specs.Happening as happening

-- ---- another node has an address (RFC 4862, section 5.4.4)

-- an address that is a duplicate from now on, or isn't
abbrev pub with_conflict : ℕ → Bool → ℕ → List Row → List Row
with_conflict now true key history = (now, key, Conflict) ∷ history
with_conflict now false key history = history

abbrev pub told_conflict : ℕ → Bool → ℕ → List (ℕ × Happening)
told_conflict now true key = (now, happening.Address key Conflict) ∷ []
told_conflict now false key = []

-- Another node has the address: for each history that was stood for, it is a duplicate from now on where it is tentative, and that is reported.
pub record Conflicts {A : Type 0} (now key : ℕ) (old new : List Address) (before after : List (ℕ × Out A)) (tentative : Bool) : Type 0 where
  pub stands : (history : List Row) → addresses.Stands old history → (tentative ≡ is_tentative (story key history)) × addresses.Stands new (with_conflict now tentative key history)
  pub told : happenings after ≡ happenings before ++ told_conflict now tentative key

-- ---- a frame is received

-- the addresses that count at a place of a chronicle: for a message the tentative and the assigned ones, for another packet the assigned ones
abbrev pub counting : Counted → Chronicle → List ℕ → Bool
counting Own c address = is_own c address
counting Assigned c address = is_assigned c address

-- ---- a prefix option may form one (RFC 4862, section 5.5.3)

-- the delay of a first solicitation, and what the generator will answer then: where none is drawn it is 0
abbrev pub delay_from : Bool → Stream → ℕ × Stream
delay_from true stream = (delay_drawn stream, (next_u32 stream).1)
delay_from false stream = (0, stream)

-- The addresses are those of the chronicle, the generator is that of the start after as many words as were drawn, and the RetransTimer is
-- the one in force.
pub record Forms (start : Start) (table : Table) (stream : Stream) (retrans : ℕ) (c : Chronicle) : Type 0 where
  pub addresses : addresses.Stands table.addresses (address_history c)
  pub mac : table.mac ≡ start.mac
  pub limit : table.limit ≡ start.limits.addresses
  pub transmits : table.transmits ≡ start.transmits
  pub generator : stream ≡ stream_left start c
  pub in_force : retrans ≡ retrans_timer c
