-- What was heard gives one value of each parameter.
use Rattle.std.proofs.Common.{◌≡◌, ℕ, Bool, List}
use Rattle.nd_params.specs.History.{Row}
use Rattle.nd_params.specs.ParamsKept.{Values, Stands}

made : (hop_limit mtu base reachable retrans : ℕ) (managed o : Bool) (drawn : ℕ) → Values
made hop_limit mtu base reachable retrans managed o drawn = record {
  hop_limit = hop_limit;
  mtu = mtu;
  base_reachable_time = base;
  reachable_time = reachable;
  retrans_timer = retrans;
  managed = managed;
  other = o;
  drawn_at = drawn;
}

pub one_values : (history : List Row) (a b : Values) → Stands a history → Stands b history → a ≡ b
unfolding made
one_values history a b s t =
    let same : made a.hop_limit a.mtu a.base_reachable_time a.reachable_time a.retrans_timer a.managed a.other a.drawn_at ≡ made b.hop_limit b.mtu b.base_reachable_time b.reachable_time b.retrans_timer b.managed b.other b.drawn_at = cc (s.hop_limit, t.hop_limit, s.mtu, t.mtu, s.base_reachable_time, t.base_reachable_time, s.reachable_time, t.reachable_time, s.retrans_timer, t.retrans_timer, s.managed, t.managed, s.other, t.other, s.drawn_at, t.drawn_at) in same
