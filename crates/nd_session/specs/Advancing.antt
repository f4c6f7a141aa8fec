-- How far time has passed when memory ran out.
use Rattle.std.specs.Prelude.{◌≡◌, ◌⊎◌, ℕ, [], Result, OnErr}
use Rattle.std.specs.declared.alloc.AllocError.{AllocError}
use Rattle.nd_node.specs.Time.{Advances, Passes}
use Rattle.nd_session.specs.Event.{LedBy}
use Rattle.nd_session.specs.Ready.{IsReady}
use Rattle.nd_session.specs.declared.session.Session.{Session}

-- all that is due up to the moment is done, or the first thing at least
abbrev pub HasAdvanced : ℕ → Session → Session → Type 0
HasAdvanced now old new = LedBy old new (Passes now) ⊎ LedBy old new (Advances now)

-- so it is at a session that was ready, if no report was left to take
abbrev pub AdvancesIfReady : ℕ → Session → Session → Type 0
AdvancesIfReady now old new = IsReady old → old.reports.items ≡ [] → HasAdvanced now old new

-- so it is after an error
abbrev pub AdvancesOnErr : {X : Type 0} → ℕ → Result X AllocError → Session → Session → Type 0
AdvancesOnErr now result old new = OnErr result (AdvancesIfReady now old new)
