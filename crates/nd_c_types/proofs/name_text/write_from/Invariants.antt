use Rattle.std.proofs.Common.{length, ◌-◌, ◌≡◌, ◌++◌, ◌≤◌, ◌<◌, drop, take}
use Rattle.nd_search_list.specs.Name.{lowered}
use Rattle.nd_search_list.specs.Text.{text_from}
use Rattle.nd_c_types.proofs.name_text.write_from.Given as goal

-- what is written, and what is still to come, are the whole text; what is behind is as it was
abbrev pub invariant-loop-i : goal.invariant-loop-i
invariant-loop-i l = record {
  written : take l.i l.text ++ text_from l.left (lowered (drop l.i l.bytes)) ≡ text_from l.first (lowered l.bytes);
  kept : drop l.i l.text ≡ drop l.i l.fn.text;
  same_length : length l.text ≡ length l.fn.text;
  within : l.i ≤ length l.bytes;
  byte : l.left < 256;
}

abbrev pub decreases-loop-i : goal.decreases-loop-i
decreases-loop-i l = length l.bytes - l.i
