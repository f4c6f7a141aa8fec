use Rattle.std.proofs.Common.{◌≡◌, ℕ, ◌+◌, ◌<◌, get_or, length}
use Rattle.nd_out.proofs.lost.address_at.Given as goal

-- those so far are the bytes
abbrev pub invariant-loop-i : goal.invariant-loop-i
invariant-loop-i l = record {
  len : length l.address ≡ 16;
  bytes : (k : ℕ) → k < l.i → get_or l.address k 0 ≡ get_or l.bytes (l.place + k) 0;
}
