use Rattle.std.proofs.Common.{◌≡◌, ◌+◌, ◌++◌, ◌≤◌, length, drop}
use Rattle.nd_steps.specs.Outputs.{happenings}
use Rattle.nd_steps.proofs.Telling.{left_at, numbers}
use Rattle.nd_steps.proofs.default_router_list.tell_routers.Given as goal

-- what was reported and what is left is all that is to be reported
abbrev pub invariant-loop-router : goal.invariant-loop-router
invariant-loop-router g l = record {
  room : length (drop l.router-index l.routers) ≤ l.outs.free;
  told : happenings l.outs.items ++ left_at l.at (numbers (drop l.router-index l.routers)) ≡ happenings l.fn.outs.items ++ left_at l.at (numbers l.routers);
}
