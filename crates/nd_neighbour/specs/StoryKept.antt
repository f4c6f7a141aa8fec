-- Only what is kept, in the code's terms: the entry that a story gives.
use Rattle.std.specs.Prelude.{ℕ, if◌then◌else◌, Option, Some, None, List}
use Rattle.nd_neighbour.specs.History.{Story}
use Rattle.nd_neighbour.specs.EntryKept.{Stage, Resolving, Known, NeighbourEntry}
use Rattle.nd_neighbour.specs.ReachabilityConfirmation.{Evidence, is_confirmed, since_in}
use Rattle.nd_neighbour.specs.AddressResolution.{waiting_of, Resolution, retrans_in, room_in, more_in, wanted_in, resolution_of}
use Rattle.nd_neighbour.specs.UnreachabilityDetection.{Use, probing_of}
use Rattle.nd_neighbour.specs.Story.{is_present, mac_of, is_router, evidence_of, use_of, due_of}

-- what is kept: of the resolution without an address, of reachability with one
abbrev pub stage_by : Option ℕ → Option Evidence → Option Use → Option Resolution → List (List ℕ) → Stage
stage_by None evidence use' resolution waiting =
    Resolving (retrans_in resolution) (more_in resolution) (wanted_in resolution) (record { room = room_in resolution; packets = waiting })
stage_by (Some mac) evidence use' resolution waiting = Known mac (is_confirmed evidence) (since_in evidence) (probing_of use')

-- what the story says of a neighbour that is present
abbrev pub the_entry : ℕ → Story → NeighbourEntry
the_entry key s = record {
  key = key;
  router = is_router s;
  due = due_of s;
  stage = stage_by (mac_of s) (evidence_of s) (use_of s) (resolution_of s) (waiting_of s);
}

-- and of one that may not be
abbrev pub entry_of : ℕ → Story → Option NeighbourEntry
entry_of key s = if is_present s then Some (the_entry key s) else None
