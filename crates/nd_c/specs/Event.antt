-- What an event does to the node in a slot, and the status that is returned.
use Rattle.std.specs.Prelude.{◌≡◌, ℕ, ◌<◌, ◌≤◌, ◌^◌, ◌⊎◌, ℤ, Option, None, Some, IsSomeAnd}
use Rattle.nd_chronicle.specs.Answer.{Answer, Done, NoRoute, Refused, Past}
use Rattle.nd_chronicle.specs.Event.{Event}
use Rattle.nd_node.specs.Event.{FollowsBy}
use Rattle.nd_node.specs.Node.{last_of}
use Rattle.nd_node.specs.Time.{Onward}
use Rattle.nd_session.specs.Advancing.{AdvancesIfReady}
use Rattle.nd_session.specs.Event.{LedBy}
use Rattle.nd_session.specs.Leases.{KeepsLeases}
use Rattle.nd_session.specs.Ready.{KeepsReady}
use Rattle.nd_session.specs.declared.session.Session.{Session}
use Rattle.nd_c_types.specs.Refusal.{refused}
use Rattle.nd_c.specs.Status.{done, nothing, no_memory, closed, invalid, past}

-- the status that says how the node took an event
abbrev pub status_of : Answer → ℤ
status_of Done = done
status_of NoRoute = nothing
status_of (Refused refusal) = refused refusal
status_of (Past last) = past

-- A session receives an event. If its moment is past, nothing changes. Else what is due up to it is done, and then it adds what it adds, and the
-- status says how it was answered. When out of memory a part of what is due is done, and the event adds nothing: if no report was left to take, the first
-- thing that is due is done at least. The session is ready for the next thing then if it was.
pub record Comes (now : ℕ) (event : Event) (status : ℤ) (old new : Session) : Type 0 where
  pub early : now < last_of old.node → (status ≡ past) × (new ≡ old)
  pub leases : KeepsLeases old new
  pub ready : KeepsReady old new
  pub comes : last_of old.node ≤ now
      → ((status ≡ no_memory) × LedBy old new (Onward now) × AdvancesIfReady now old new)
      ⊎ ((answer : Answer) × (status ≡ status_of answer) × LedBy old new (FollowsBy now event answer))

-- A slot receives an event, with a session in it or without one.
pub record Answers (now : ℕ) (event : Event) (status : ℤ) (old new : Option Session) : Type 0 where
  pub bad_moment : 2 ^ 62 ≤ now → (status ≡ invalid) × (new ≡ old)
  pub no_node : now < 2 ^ 62 → old ≡ None → (status ≡ closed) × (new ≡ None)
  pub node : now < 2 ^ 62 → (s : Session) → old ≡ Some s → IsSomeAnd new (λ t. Comes now event status s t)
