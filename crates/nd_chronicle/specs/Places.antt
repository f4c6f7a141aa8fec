-- Places of a chronicle: what it was at some time.
use Rattle.std.specs.Prelude.{◌≡◌, ℕ, ◌+◌, ◌*◌, ◌<◌, ◌≤◌, true, false, List, ◌∷◌, Option}
use Rattle.nd_table.specs.History.{Past}
use Rattle.nd_addr.specs.declared.addr.Addr.{Addr}
use Rattle.nd_addr.specs.Number.{addr_at, number_of}
use Rattle.nd_decode.specs.Message.{Parts}
use Rattle.nd_compose.specs.Frames.{detection_frame}
use Rattle.nd_slaac.specs.History.{Row, RowKind, Lifetimes, Formed, Solicited, Assigned}
use Rattle.nd_slaac.specs.State.{is_assigned, is_tentative}
use Rattle.nd_chronicle.specs.Start.{Start}
use Rattle.nd_chronicle.specs.Happening.{Chronicle, Address, Heard, Sent}
use Rattle.nd_chronicle.specs.Histories.{address_history}
use Rattle.nd_chronicle.specs.InForce.{retrans_timer}
use Rattle.nd_chronicle.specs.Hearing.{conflicts_with}
use Rattle.nd_chronicle.specs.OwnAddress.{story_of}

-- the place of a row of one of the node's own addresses, with this history of the own addresses below it
pub record PlaceOf (at key : ℕ) (kind : RowKind) (below : List Row) (c : Chronicle) : Type 0 where
  pub before : Chronicle
  pub there : Past ((at, Address key kind) ∷ before) c
  pub history : address_history before ≡ below

-- a solicitation for one of the node's own addresses, and the frame that is sent with it
abbrev pub solicited_with : Start → ℕ → ℕ → Chronicle → Chronicle
solicited_with start at key c = (at, Sent (detection_frame start.mac (addr_at key))) ∷ (at, Address key Solicited) ∷ c

-- one of the node's own addresses is formed
abbrev pub formed_with : ℕ → ℕ → ℕ → ℕ → Option Lifetimes → Chronicle → Chronicle
formed_with at key delay retrans lifetimes c = (at, Address key (Formed delay retrans lifetimes)) ∷ c

-- how the node got one of its own addresses, in rows of the chronicle: it was formed, was tried from then on until it was assigned, and is
-- held since; each solicitation for it was sent a RetransTimer before the next one, and the last one a RetransTimer before it was assigned;
-- RetransTimer is the one that was in force when it was formed, and until it was assigned no other node was heard to have it or to try it (RFC
-- 4862, section 5.4)
pub record HeldInRows (start : Start) (key : ℕ) (c : Chronicle) : Type 0 where
  pub formed : ℕ
  pub delay : ℕ
  pub retrans : ℕ
  pub lifetimes : Option Lifetimes
  pub below : Chronicle
  pub assigned : ℕ
  pub over : Chronicle
  pub formed_at : Past (formed_with formed key delay retrans lifetimes below) over
  pub assigned_at : Past ((assigned, Address key Assigned) ∷ over) c
  -- the solicitations, counted back from the assignment
  pub solicited : (back : ℕ) → 0 < back → back ≤ start.transmits → (sent : ℕ) × (earlier : Chronicle) × (assigned ≡ sent + back * retrans)
      × Past (solicited_with start sent key earlier) over × Past (formed_with formed key delay retrans lifetimes below) earlier
  -- each solicitation since it was formed was sent RetransTimer or more before the assignment
  pub each : (sent : ℕ) (earlier : Chronicle) → Past ((sent, Address key Solicited) ∷ earlier) over → Past (formed_with formed key delay retrans lifetimes below) earlier
      → sent + retrans ≤ assigned
  pub trying : (d : Chronicle) → Past d over → Past (formed_with formed key delay retrans lifetimes below) d → is_tentative (story_of d key) ≡ true
  pub since : (d : Chronicle) → Past d c → Past ((assigned, Address key Assigned) ∷ over) d → is_assigned (story_of d key) ≡ true
  pub in_force : retrans ≡ retrans_timer below
  -- neither a solicitation from :: for it nor an advertisement for it was heard (sections 5.4.3 and 5.4.4)
  pub unrivalled : (heard : ℕ) (source destination : Addr) (message : Parts) (earlier : Chronicle) (address : List ℕ)
      → Past ((heard, Heard source destination message) ∷ earlier) over → Past (formed_with formed key delay retrans lifetimes below) earlier
      → number_of address ≡ key → conflicts_with address source message.body ≡ false

-- the same of the row at which it was assigned
pub record AssignedInRows (start : Start) (at key : ℕ) (over : Chronicle) : Type 0 where
  pub held : HeldInRows start key ((at, Address key Assigned) ∷ over)
  pub moment : held.assigned ≡ at
  pub place : held.over ≡ over
