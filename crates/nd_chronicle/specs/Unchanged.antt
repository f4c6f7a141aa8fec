-- What leaves a node unchanged: time that passes up to an event, a frame that is dropped, an event that is refused or too late.
use Rattle.std.specs.Prelude.{◌≡◌, ◌↔◌, ℕ, Bool, true, false, List, Option}
use Rattle.nd_addr.specs.declared.addr.Addr.{Addr}
use Rattle.nd_nexthop.specs.NextHop.{NextHop}
use Rattle.nd_chronicle.specs.Start.{Start}
use Rattle.nd_addr.specs.declared.why.Why.{Why}
use Rattle.nd_chronicle.specs.Answer as answers
use Rattle.nd_chronicle.specs.Answer.{answer_after, is_packet}
use Rattle.nd_chronicle.specs.Event.{Event, Receives}
use Rattle.nd_chronicle.specs.Happening.{Chronicle, Happening, Passed, Dropped, Refused, Refusal, TooLate}
use Rattle.nd_chronicle.specs.Hearing.{IsHeard, drops}
use Rattle.nd_chronicle.specs.Histories.{parameter_history, neighbour_history, router_history, prefix_history, address_history, server_history, name_history, redirect_history, advertising_history, route_history}
use Rattle.nd_chronicle.specs.Generator.{stream_left}
use Rattle.nd_chronicle.specs.Due.{What, Due}
use Rattle.nd_chronicle.specs.NextHop.{IsHopOf}
use Rattle.nd_chronicle.specs.Shown.{Table, AreRows}

abbrev pub changes_nothing : Happening → Bool
changes_nothing Passed = true
changes_nothing (Dropped why) = true
changes_nothing (Refused refusal) = true
changes_nothing (TooLate last) = true
changes_nothing _ = false

-- The node takes nothing of the event: it drops its frame, for the first reason that holds, or refuses the event, as the answer says.
pub data IsTurnedAway (start : Start) (now : ℕ) (event : Event) (c d : Chronicle) : Type 0 where
  IsDropped : (frame : List ℕ) (why : Why) → event ≡ Receives frame → IsHeard start c now frame (drops why) → IsTurnedAway start now event c d
  IsRefused : (refusal : Refusal) → answer_after d (is_packet event) ≡ answers.Refused refusal → IsTurnedAway start now event c d

-- the one is to every question what the other was: the history of each table, the packets that wait among the neighbours', the words of the
-- generator, what is due and when, the next hop of each packet, and what is shown of each table
pub record IsUnchanged (start : Start) (c d : Chronicle) : Type 0 where
  pub parameters : parameter_history d ≡ parameter_history c
  pub neighbours : neighbour_history d ≡ neighbour_history c
  pub routers : router_history d ≡ router_history c
  pub prefixes : prefix_history d ≡ prefix_history c
  pub addresses : address_history d ≡ address_history c
  pub servers : server_history d ≡ server_history c
  pub names : name_history d ≡ name_history c
  pub redirects : redirect_history d ≡ redirect_history c
  pub advertising : advertising_history start d ≡ advertising_history start c
  pub routes : route_history d ≡ route_history c
  pub words : stream_left start d ≡ stream_left start c
  pub due : (moment : ℕ) (what : Option What) → Due start d moment what ↔ Due start c moment what
  pub hops : (now : ℕ) (destination : Addr) (next : NextHop) → IsHopOf start start.role d now destination next ↔ IsHopOf start start.role c now destination next
  pub rows : (now : ℕ) (table : Table) (rows : List (List ℕ)) → AreRows start d now table rows ↔ AreRows start c now table rows
