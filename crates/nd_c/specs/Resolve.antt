-- Where packets to a destination go, for a caller that keeps them (RFC 4861, sections 5.2, 7.2.2 and 7.3.3).
use Rattle.std.specs.Prelude.{◌≡◌, ℕ, ◌<◌, ◌≤◌, ◌^◌, ◌⊎◌, ℤ, Option, None, Some, IsSomeAnd}
use Rattle.nd_addr.specs.declared.addr.Addr.{Addr}
use Rattle.nd_out.specs.Out.{refusal_of}
use Rattle.nd_out.specs.declared.out.Way.{Way}
use Rattle.nd_out.specs.declared.out.Way.TheVariants.{NoRoute, To}
use Rattle.nd_node.specs.Node.{last_of}
use Rattle.nd_node.specs.Time.{Onward}
use Rattle.nd_session.specs.Advancing.{AdvancesIfReady}
use Rattle.nd_session.specs.Event.{LedBy}
use Rattle.nd_session.specs.Leases.{KeepsLeases}
use Rattle.nd_session.specs.Ready.{KeepsReady}
use Rattle.nd_session.specs.Resolve.{AnsweredBy}
use Rattle.nd_session.specs.declared.resolve.PathAnswer.{PathAnswer}
use Rattle.nd_session.specs.declared.resolve.PathAnswer.TheVariants.{Past, Refused, Path}
use Rattle.nd_session.specs.declared.session.Session.{Session}
use Rattle.nd_c_types.specs.Path.{no_path, path_row}
use Rattle.nd_c_types.specs.Refusal.{refused}
use Rattle.nd_c_types.specs.declared.path.PathRow.{PathRow}
use Rattle.nd_c.specs.Status.{done, nothing, waiting, no_memory, closed, invalid, past}

-- packets can be sent, there is no next hop, or they wait for its link-layer address
abbrev pub status_of_way : Way → ℤ
status_of_way NoRoute = nothing
status_of_way (To neighbour None) = waiting
status_of_way (To neighbour (Some mac)) = done

-- the status and the row of an answer, at this version of all leases
abbrev pub Says : ℕ → Addr → ℕ → PathAnswer → ℤ → PathRow → PathRow → Type 0
Says now destination version (Past last) status old new = (status ≡ past) × (new ≡ old)
Says now destination version (Refused refusal) status old new = (status ≡ refused (refusal_of refusal)) × (new ≡ no_path now)
Says now destination version (Path way state until) status old new = (status ≡ status_of_way way) × (new ≡ path_row destination way state until version)

-- A session is asked. If its moment is past, nothing changes. Else what is due up to it is done, then the question adds what it adds, and status and row
-- say how it was answered. When out of memory a part of what is due is done, and the question adds nothing.
pub record Finds (now : ℕ) (destination : Addr) (status : ℤ) (old new : Session) (row_old row_new : PathRow) : Type 0 where
  pub early : now < last_of old.node → (status ≡ past) × (new ≡ old) × (row_new ≡ row_old)
  pub leases : KeepsLeases old new
  pub ready : KeepsReady old new
  pub path : last_of old.node ≤ now
      → ((status ≡ no_memory) × LedBy old new (Onward now) × AdvancesIfReady now old new × (row_new ≡ row_old))
      ⊎ ((answer : PathAnswer) × AnsweredBy now destination answer old new × Says now destination new.paths.leases answer status row_old row_new)

-- A slot is asked.
pub record PathAnswers (now : ℕ) (destination : Addr) (status : ℤ) (before after : Option Session) (row_old row_new : PathRow) : Type 0 where
  pub bad_moment : 2 ^ 62 ≤ now → (status ≡ invalid) × (after ≡ before) × (row_new ≡ row_old)
  pub no_node : now < 2 ^ 62 → before ≡ None → (status ≡ closed) × (after ≡ None) × (row_new ≡ row_old)
  pub node : now < 2 ^ 62 → (s : Session) → before ≡ Some s → IsSomeAnd after (λ t. Finds now destination status s t row_old row_new)
