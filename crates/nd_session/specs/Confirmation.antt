-- How a session takes a sign that packets to a destination arrive (RFC 4861, section 7.3.1).
use Rattle.std.specs.Prelude.{◌≡◌, ℕ, ◌<◌, ◌≤◌, ◌∷◌, Option, Some, None, Result, Ok, MatchResult}
use Rattle.std.specs.Option.{option_map}
use Rattle.std.specs.declared.alloc.AllocError.{AllocError}
use Rattle.nd_addr.specs.declared.addr.Addr.{Addr}
use Rattle.nd_addr.specs.Number.{number_of}
use Rattle.nd_chronicle.specs.Event as events
use Rattle.nd_chronicle.specs.Event.{EventAdds}
use Rattle.nd_chronicle.specs.Happening.{Chronicle, Passed}
use Rattle.nd_chronicle.specs.Start.{Start}
use Rattle.nd_node.specs.Node.{last_of}
use Rattle.nd_node.specs.ReachabilityConfirmation.{IsConfirmed}
use Rattle.nd_node.specs.Time.{Onward, Passes}
use Rattle.nd_session.specs.Event.{LedBy}
use Rattle.nd_session.specs.declared.confirmation.Confirmation.{Confirmation}
use Rattle.nd_session.specs.declared.confirmation.Confirmation.TheVariants.{Past, Taken, Unneeded}
use Rattle.nd_session.specs.declared.session.Session.{Session}

-- the event: the neighbour is confirmed, or time passes alone
abbrev pub event_of : Option Addr → events.Event
event_of None = events.Passes
event_of (Some neighbour) = events.Confirms neighbour

-- What is due is done, and this neighbour is confirmed then, or none.
pub record ConfirmsTo (now : ℕ) (destination : Addr) (least : ℕ) (neighbour : Option Addr) (start : Start) (c d : Chronicle) : Type 0 where
  pub between : Chronicle
  pub passes : Passes now start c between
  pub confirmed : IsConfirmed start between now destination least (option_map (λ addr. number_of addr.0) neighbour)
  pub adds : EventAdds start now (event_of neighbour) ((now, Passed) ∷ between) d

-- how it was taken
abbrev pub TakenAs : ℕ → Addr → ℕ → Confirmation → Session → Session → Type 0
TakenAs now destination least (Past last) old new = ⊥
TakenAs now destination least Taken old new = (neighbour : Addr) × LedBy old new (ConfirmsTo now destination least (Some neighbour))
TakenAs now destination least Unneeded old new = LedBy old new (ConfirmsTo now destination least None)

-- A sign of a past moment changes nothing. Before another one what is due up to it is done. When out of memory a part of what is due is done, and the sign
-- adds nothing.
pub record Confirms (now : ℕ) (destination : Addr) (least : ℕ) (result : Result Confirmation AllocError) (old new : Session) : Type 0 where
  pub past : now < last_of old.node → (result ≡ Ok (Past (last_of old.node))) × (new ≡ old)
  pub taken : last_of old.node ≤ now
      → MatchResult result (λ confirmation. TakenAs now destination least confirmation old new) (λ error. LedBy old new (Onward now))
