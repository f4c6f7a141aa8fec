-- A sign that packets to a destination arrive (RFC 4861, section 7.3.1), and the status that is returned.
use Rattle.std.specs.Prelude.{◌≡◌, ℕ, ◌<◌, ◌≤◌, ◌^◌, ◌⊎◌, ℤ, Option, None, Some, IsSomeAnd}
use Rattle.nd_addr.specs.declared.addr.Addr.{Addr}
use Rattle.nd_node.specs.Node.{last_of}
use Rattle.nd_node.specs.Time.{Onward}
use Rattle.nd_session.specs.Confirmation.{TakenAs}
use Rattle.nd_session.specs.Advancing.{AdvancesIfReady}
use Rattle.nd_session.specs.Event.{LedBy}
use Rattle.nd_session.specs.Leases.{KeepsLeases}
use Rattle.nd_session.specs.Ready.{KeepsReady}
use Rattle.nd_session.specs.declared.confirmation.Confirmation.{Confirmation}
use Rattle.nd_session.specs.declared.confirmation.Confirmation.TheVariants.{Past, Taken, Unneeded}
use Rattle.nd_session.specs.declared.session.Session.{Session}
use Rattle.nd_c.specs.Status.{done, nothing, no_memory, closed, invalid, past}

-- the status of a sign
abbrev pub status_of_sign : Confirmation → ℤ
status_of_sign (Past last) = past
status_of_sign Taken = done
status_of_sign Unneeded = nothing

-- A session takes a sign. If its moment is past, nothing changes. Else what is due up to it is done, then the neighbour is confirmed, or none, and the status
-- says which. When out of memory a part of what is due is done, and the sign adds nothing.
pub record Signs (now : ℕ) (destination : Addr) (least : ℕ) (status : ℤ) (old new : Session) : Type 0 where
  pub early : now < last_of old.node → (status ≡ past) × (new ≡ old)
  pub leases : KeepsLeases old new
  pub ready : KeepsReady old new
  pub taken : last_of old.node ≤ now
      → ((status ≡ no_memory) × LedBy old new (Onward now) × AdvancesIfReady now old new)
      ⊎ ((confirmation : Confirmation) × TakenAs now destination least confirmation old new × (status ≡ status_of_sign confirmation))

-- A slot takes a sign.
pub record SignTaken (now : ℕ) (destination : Addr) (least : ℕ) (status : ℤ) (before after : Option Session) : Type 0 where
  pub bad_moment : 2 ^ 62 ≤ now → (status ≡ invalid) × (after ≡ before)
  pub no_node : now < 2 ^ 62 → before ≡ None → (status ≡ closed) × (after ≡ None)
  pub node : now < 2 ^ 62 → (s : Session) → before ≡ Some s → IsSomeAnd after (λ t. Signs now destination least status s t)
