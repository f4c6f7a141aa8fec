use Rattle.std.proofs.Common.{◌≡◌, ◌+◌, ◌≤◌, ◌<◌, vec_len, vec_capacity}
use Rattle.nd_table.proofs.blocks.Blocks.clear.Given as goal

-- no block is lost
abbrev pub invariant-loop-self : goal.invariant-loop-self
invariant-loop-self g l =
    let used = l.self-inside.used in
    let spare = l.self-inside.spare in
    record {
      some : 0 < vec_len used;
      number : vec_len used + vec_len spare ≡ vec_len l.initial.self-inside.used + vec_len l.initial.self-inside.spare;
      used_room : vec_len used + vec_len spare ≤ vec_capacity used;
      spare_room : vec_len used + vec_len spare ≤ vec_capacity spare + 1;
    }

abbrev pub decreases-loop-self : goal.decreases-loop-self
decreases-loop-self g l = vec_len l.self-inside.used
