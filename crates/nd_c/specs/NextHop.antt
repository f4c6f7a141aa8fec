-- Where a packet would be sent, once what is due is done.
use Rattle.std.specs.Prelude.{◌≡◌, ℕ, ◌<◌, ◌≤◌, ◌^◌, ◌⊎◌, ℤ, Option, None, Some, IsSomeAnd}
use Rattle.nd_addr.specs.declared.addr.Addr.{Addr}
use Rattle.nd_node.specs.Node.{last_of}
use Rattle.nd_node.specs.Time.{Onward, Passes}
use Rattle.nd_session.specs.Advancing.{AdvancesIfReady}
use Rattle.nd_session.specs.Leases.{KeepsLeases}
use Rattle.nd_session.specs.Ready.{KeepsReady}
use Rattle.nd_session.specs.declared.session.Session.{Session}
use Rattle.nd_c_types.specs.declared.next_hop.NextHopRow.{NextHopRow}
use Rattle.nd_c.specs.Status.{no_memory, closed, invalid, past}
use Rattle.nd_session.specs.Event.{LedBy}
use Rattle.nd_c.specs.Question.{Writes}
use Rattle.nd_c.specs.Rows.{HopTo}

-- A session is asked. What is due up to the moment is done, and nothing else has changed.
pub record Hops (now : ℕ) (destination : Addr) (status : ℤ) (old new : Session) (row_old row_new : NextHopRow) : Type 0 where
  pub early : now < last_of old.node → (status ≡ past) × (new ≡ old) × (row_new ≡ row_old)
  pub leases : KeepsLeases old new
  pub ready : KeepsReady old new
  pub hop : last_of old.node ≤ now
      → ((status ≡ no_memory) × LedBy old new (Onward now) × AdvancesIfReady now old new × (row_new ≡ row_old))
      ⊎ (LedBy old new (Passes now) × ((found : Option NextHopRow) × HopTo now destination new found × Writes found status row_old row_new))

-- A slot is asked.
pub record HopAnswer (now : ℕ) (destination : Addr) (status : ℤ) (before after : Option Session) (row_old row_new : NextHopRow) : Type 0 where
  pub bad_moment : 2 ^ 62 ≤ now → (status ≡ invalid) × (after ≡ before) × (row_new ≡ row_old)
  pub no_node : now < 2 ^ 62 → before ≡ None → (status ≡ closed) × (after ≡ None) × (row_new ≡ row_old)
  pub node : now < 2 ^ 62 → (s : Session) → before ≡ Some s → IsSomeAnd after (λ t. Hops now destination status s t row_old row_new)
