-- An attempt of a node for an address, which ended in its assignment (RFC 4862, section 5.4).
use Rattle.std.specs.Prelude.{◌≡◌, ℕ, List, ◌∷◌, Option}
use Rattle.nd_addr.specs.declared.addr.Addr.{Addr}
use Rattle.nd_addr.specs.Number.{number_of}
use Rattle.nd_table.specs.History.{Past}
use Rattle.nd_compose.specs.Meaning.{IsDefence, IsDetection}
use Rattle.nd_slaac.specs.History.{Assigned, Formed, Lifetimes, Solicited}
use Rattle.nd_chronicle.specs.Happening.{Address, Chronicle, Sent}
use Rattle.nd_link_log.specs.Log.{Entry, Log, Adds, chronicle_of}
use Rattle.nd_link_log.specs.Holding.{IsTrying}

-- the frame solicits for the address of this number, or advertises it to all nodes (RFC 4862, section 5.4.2; RFC 4861, section 7.2.4)
abbrev pub Tries : ℕ → List ℕ → Type 0
Tries key frame = (address : Addr) × (number_of address.0 ≡ key) × IsDetection frame address

abbrev pub Claims : ℕ → List ℕ → Type 0
Claims key frame = (address : Addr) × (number_of address.0 ≡ key) × IsDefence frame address

abbrev pub formed_entry : ℕ → ℕ → ℕ → ℕ → ℕ → Option Lifetimes → Entry
formed_entry node key at delay retrans lifetimes = Adds node at (Address key (Formed delay retrans lifetimes))

-- the address was formed, was tentative at each place from then on, and was assigned
pub record Attempt (node key : ℕ) : Type 0 where
  pub formed : ℕ
  pub delay : ℕ
  pub retrans : ℕ
  pub lifetimes : Option Lifetimes
  pub below : Log
  pub assigned : ℕ
  pub over : Log
  pub formed_at : Past (formed_entry node key formed delay retrans lifetimes ∷ below) over
  pub trying : (d : Log) → Past d over → Past (formed_entry node key formed delay retrans lifetimes ∷ below) d → IsTrying node key d

-- the log when the address was formed, and when it was assigned
abbrev pub beginning_of : {node key : ℕ} → Attempt node key → Log
beginning_of {node} {key} a = formed_entry node key a.formed a.delay a.retrans a.lifetimes ∷ a.below

abbrev pub ending_of : {node key : ℕ} → Attempt node key → Log
ending_of {node} {key} a = Adds node a.assigned (Address key Assigned) ∷ a.over

-- a solicitation of the attempt: the frame that the node sent between the two, right after the row that says so
pub record Solicitation {node key : ℕ} (attempt : Attempt node key) (at : ℕ) (frame : List ℕ) (earlier : Log) : Type 0 where
  pub rest : Chronicle
  pub row : chronicle_of node earlier ≡ (at, Address key Solicited) ∷ rest
  pub sends : Past (Adds node at (Sent frame) ∷ earlier) attempt.over
  pub since : Past (beginning_of attempt) earlier
