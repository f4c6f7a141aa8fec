use Rattle.std.proofs.Common.{◌≡◌, ◌+◌, ◌≤◌, length, take}
use Rattle.nd_decode.specs.Pieces.{options_left}
use Rattle.nd_slaac.specs.PrefixOption.{prefixes_in}
use Rattle.nd_slaac.specs.Room.{fits_in}
use Rattle.nd_slaac.specs.Calls.{keys_in}
use Rattle.nd_slaac.proofs.Counting.{Comes}
use Rattle.nd_slaac.proofs.room.fit_in_order.Given as goal

-- the addresses formed so far decide of the rest
abbrev pub invariant-loop-info : goal.invariant-loop-info
invariant-loop-info l = record {
  comes : Comes l.limit l.mac (keys_in l.entries) (take l.count l.formed) (prefixes_in (options_left l.rest)) (fits_in l.limit l.mac (keys_in l.entries) (prefixes_in (options_left l.initial.rest)));
  few : length l.entries + l.count ≤ l.limit;
  long : length l.formed ≡ 64;
}

abbrev pub decreases-loop-info : goal.decreases-loop-info
decreases-loop-info l = length (options_left l.rest)
