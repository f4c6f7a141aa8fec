use Rattle.std.proofs.Common.{◌≡◌, ◌<◌, ◌≤◌, ◌+◌, ◌-◌, length, ap, None, drop, arith, subst}
use Rattle.std.proofs.Math.Seq.{drop-length}
use Rattle.nd_table.specs.Keyed.{at_key}
use Rattle.nd_table.specs.KeyedKept.{place_of}
use Rattle.nd_table.proofs.Keyed.{place_of-le}
use Rattle.nd_table.proofs.Searching.{lower, not_lower, same, other, seen_low, seen_high, seen_other, none_at_place, found_at, enough_first, enough_half, enough_none}
use Rattle.nd_table.proofs.binary_search.search.Goals.{else-low-entries-via-then-low-entries+else-is_eq, else-low-entries-via-else-low-entries}
use Rattle.nd_table.proofs.binary_search.search.Goals as goal

pub loop-low-init : goal.loop-low-init
loop-low-init g c = record {
  low = omega arith;
  high = place_of-le g.E.Ranked.key (g.E.Ranked.number c.args.sought.now) c.args.entries.now;
  within = omega arith;
  counts = omega arith;
  looks = enough_first (g.C.Counter.count c.args.probes.now) (length c.args.entries.now);
}

pub loop-low-preserved-then-is_lt : goal.loop-low-preserved-then-is_lt
loop-low-preserved-then-is_lt g c =
    let was = c.loop-low.invariant in
    let ns = c.args.entries.now in
    let k = g.E.Ranked.number c.args.sought.now in
    let below : g.E.Ranked.key c.index-entries-middle.result < k = lower _ k c.compare.result _ c.compare.ensures c.is_lt.ensures c.if-is_lt.true in
    let more : g.C.Counter.count c.look.new.self ≤ g.C.Counter.count c.loop-low.probes + 1 = c.look.ensures.more in
    let here = seen_low g.E.Ranked.key k ns _ c.index-entries-middle.result c.index-entries-middle.is (omega arith) c.requires below in
    record {
      low = omega (arith, here);
      high = was.high;
      within = was.within;
      counts = omega (arith, was.counts, c.look.ensures.kept);
      looks = enough_half (g.C.Counter.count c.args.probes.now) (length ns) (g.C.Counter.count c.loop-low.probes) (c.loop-low.high - c.loop-low.low) _ _ was.looks (omega arith) more (omega arith);
    }

pub loop-low-preserved : goal.loop-low-preserved
loop-low-preserved g c =
    let was = c.loop-low.invariant in
    let ns = c.args.entries.now in
    let k = g.E.Ranked.number c.args.sought.now in
    let above : k ≤ g.E.Ranked.key c.index-entries-middle.result = not_lower _ k c.compare.result _ c.compare.ensures c.is_lt.ensures c.if-is_lt.false in
    let more : g.C.Counter.count c.look.new.self ≤ g.C.Counter.count c.loop-low.probes + 1 = c.look.ensures.more in
    record {
      low = was.low;
      high = seen_high g.E.Ranked.key k ns _ c.index-entries-middle.result c.index-entries-middle.is (omega arith) above;
      within = omega arith;
      counts = omega (arith, was.counts, c.look.ensures.kept);
      looks = enough_half (g.C.Counter.count c.args.probes.now) (length ns) (g.C.Counter.count c.loop-low.probes) (c.loop-low.high - c.loop-low.low) _ _ was.looks (omega arith) more (omega arith);
    }

pub returns-then-is_eq-clause-found : goal.returns-then-is_eq-clause-found
returns-then-is_eq-clause-found g c =
    let k = g.E.Ranked.number c.args.sought.now in
    found_at g.E.Ranked.key k c.args.entries.now _ c.index-entries-low.result c.requires (omega arith) c.index-entries-low.is
    (same _ k c.compare-then-low-entries.result _ c.compare-then-low-entries.ensures c.is_eq.ensures c.if-is_eq.true)

pub returns-then-is_eq-clause-looks : goal.returns-then-is_eq-clause-looks
returns-then-is_eq-clause-looks g c = enough_none (g.C.Counter.count c.args.probes.now) (length c.args.entries.now) (g.C.Counter.count c.loop-low.probes) (c.loop-low.high - c.loop-low.low) c.loop-low.invariant.looks

pub returns-clause-absent : goal.returns-clause-absent
returns-clause-absent g c =
    let k = g.E.Ranked.number c.args.sought.now in
    let ns = c.args.entries.now in
    let was = c.loop-low.invariant in
    let at : c.loop-low.low ≡ place_of g.E.Ranked.key k ns = omega (arith, was.low, was.high) in
    elim c.else-low-entries.branch [
      | else-low-entries-via-then-low-entries+else-is_eq w ↦
          seen_other g.E.Ranked.key k ns _ w.index-entries-low.result w.index-entries-low.is (omega arith) c.requires at
          (other _ k w.compare-then-low-entries.result _ w.compare-then-low-entries.ensures w.is_eq.ensures w.if-is_eq.false)
      | else-low-entries-via-else-low-entries w ↦
          none_at_place g.E.Ranked.key k ns (subst (λ i. at_key g.E.Ranked.key k (drop i ns) ≡ None) (omega (arith, at, w.if-low-entries.false)) (ap (at_key g.E.Ranked.key k) (drop-length ns)))
    ]

pub returns-clause-looks : goal.returns-clause-looks
returns-clause-looks g c = enough_none (g.C.Counter.count c.args.probes.now) (length c.args.entries.now) (g.C.Counter.count c.loop-low.probes) (c.loop-low.high - c.loop-low.low) c.loop-low.invariant.looks
