-- Only what is kept, in the code's terms: what is due for the entries, and what a turn makes of them.
use Rattle.std.specs.Prelude.{ℕ, List, nat_lt, if◌then◌else◌, [], Some, None, Bool, true, false, ◌+◌, ◌≡◌, Option, ◌-◌, ◌∷◌, length, slice_index_or, slice_set, ◌<◌}
use Rattle.std.specs.List.{remove}
use Rattle.nd_table.specs.DueKept.{least_date, first_at, NotBefore}
use Rattle.nd_neighbour.specs.EntryKept.{Stage, Resolving, Known, NeighbourEntry}
use Rattle.nd_neighbour.specs.AddressResolution.{max_more}
use Rattle.nd_neighbour.specs.UnreachabilityDetection.{max_unicast_solicit}
use Rattle.nd_neighbour.specs.Due.{Falls, Multicasts, Unicasts, Fails, Ages}

-- the same of what is kept
abbrev pub falls_to : ℕ → Stage → Falls
falls_to key (Resolving retrans sent wanted waiting) = if nat_lt sent max_more then Multicasts key else Fails key waiting.packets
falls_to key (Known mac confirmed since None) = Ages key
falls_to key (Known mac confirmed since (Some probing)) = if nat_lt probing.sent max_unicast_solicit then Unicasts key mac else Fails key []

-- what is due for the neighbour at its moment
abbrev pub falls : NeighbourEntry → Falls
falls n = falls_to n.key n.stage

-- it is a solicitation, and the entry stays
abbrev pub stays : Falls → Bool
stays (Multicasts key) = true
stays (Unicasts key mac) = true
stays (Fails key packets) = false
stays (Ages key) = false

-- a solicitation that was due is sent: one more was, and the next is due a RetransTimer later
abbrev pub solicited_to : Stage → ℕ → NeighbourEntry → NeighbourEntry
solicited_to (Resolving retrans sent wanted waiting) at n =
    record { key = n.key; router = n.router; due = at + retrans; stage = Resolving retrans (sent + 1) wanted waiting }
solicited_to (Known mac confirmed since None) at n = n
solicited_to (Known mac confirmed since (Some probing)) at n =
    record {
      key = n.key;
      router = n.router;
      due = at + probing.retrans;
      stage = Known mac confirmed since (Some (record { from = probing.from; retrans = probing.retrans; sent = probing.sent + 1 }));
    }

-- the same of a neighbour
abbrev pub solicited : ℕ → NeighbourEntry → NeighbourEntry
solicited at n = solicited_to n.stage at n

-- the moment at which something is due for it
abbrev pub date_of : NeighbourEntry → Option ℕ
date_of n = Some n.due

-- the least moment of a list
abbrev pub next_in : List NeighbourEntry → Option ℕ
next_in entries = least_date date_of entries

-- the first of a list for which something is due at the moment
abbrev pub due_in : ℕ → List NeighbourEntry → Option NeighbourEntry
due_in now entries = first_at date_of now entries

-- nothing was due before the moment
abbrev pub NoneBefore : List NeighbourEntry → ℕ → Type 0
NoneBefore entries now = NotBefore now (next_in entries)

-- how many turns a neighbour can still take, where nothing else happens
abbrev pub turns_to : Stage → ℕ
turns_to (Resolving retrans sent wanted waiting) = max_more - sent + 1
turns_to (Known mac confirmed since None) = 1
turns_to (Known mac confirmed since (Some probing)) = max_unicast_solicit - probing.sent + 1

abbrev pub turns_left : List NeighbourEntry → ℕ
turns_left [] = 0
turns_left (n ∷ entries) = turns_to n.stage + turns_left entries

-- the first neighbour of a list for which something is due takes a turn: it stays with one more solicitation, or goes
pub record Turns (now : ℕ) (old new : List NeighbourEntry) (what : Falls) : Type 0 where
  pub at : ℕ
  pub entry : NeighbourEntry
  pub within : at < length old
  pub is : entry ≡ slice_index_or old at entry
  pub first : due_in now old ≡ Some entry
  pub falls_is : what ≡ falls entry
  pub new_is : new ≡ (if stays (falls entry) then slice_set old at (solicited now entry) else remove old at)
