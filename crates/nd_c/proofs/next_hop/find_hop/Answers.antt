use Rattle.std.proofs.Common.{arith, inl, inr, refl}
use Rattle.nd_c.proofs.next_hop.find_hop.Goals as goal

pub returns-in-Err : goal.returns-in-Err
returns-in-Err c = record {
  early = λ lt. absurd (omega (arith, lt, c.if-is_past.ensures));
  leases = c.in-Err.ensures.leases;
  ready = λ start history s ready. c.in-Err.ensures.ready ready;
  hop = λ le. inl (refl, c.in-Err.ensures.onward, λ ready empty. inr (c.in-Err.ensures.advances ready empty), refl);
}
