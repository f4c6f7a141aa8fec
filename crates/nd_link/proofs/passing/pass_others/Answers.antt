use Rattle.std.proofs.Common.{◌<◌, ◌+◌, get_or, length, sym, subst, arith}
use Rattle.std.proofs.lemmas.Option.{slice_get-get_or}
use Rattle.nd_link.proofs.Passage.{PassedUpTo, all_passed, one_left, one_passed, settled_still}
use Rattle.nd_link.proofs.passing.pass_others.Goals as goal
use Rattle.nd_link.proofs.passing.pass_others.Goals.{then-i-but, else-i-but}

pub pass-requires : goal.pass-requires
pass-requires g c =
    let p = c.loop-i.invariant in
    let within : c.loop-i.i < length c.loop-i.nodes = let n = p.count in let lt = c.loop-i-test.true in omega (arith, n, lt) in
    record {
      settled = settled_still g.R.Rng.stream c.args.now c.args.but c.loop-i.i c.args.nodes.now c.loop-i.nodes p c.requires.settled (get_or c.loop-i.nodes c.loop-i.i c.index-nodes-i.result)
          (slice_get-get_or c.loop-i.nodes c.loop-i.i c.index-nodes-i.result within);
    }

pub loop-i-preserved : goal.loop-i-preserved
loop-i-preserved g c =
    let p = c.loop-i.invariant in
    let within : c.loop-i.i < length c.loop-i.nodes = let n = p.count in let lt = c.loop-i-test.true in omega (arith, n, lt) in
    elim c.if-i-but.branch [
      | then-i-but w ↦
          subst (PassedUpTo g.R.Rng.stream c.args.now c.args.but (c.loop-i.i + 1) c.args.nodes.now) (sym w.nodes-is)
          (one_passed g.R.Rng.stream c.args.now c.args.but c.args.nodes.now c.loop-i.i c.loop-i.nodes p _ _ (slice_get-get_or c.loop-i.nodes c.loop-i.i w.index-nodes-i.result within) (record { each = w.pass.ensures.passes }) w.if-i-but.true)
      | else-i-but w ↦
          subst (PassedUpTo g.R.Rng.stream c.args.now c.args.but (c.loop-i.i + 1) c.args.nodes.now) (sym w.nodes-is)
          (one_left g.R.Rng.stream c.args.now c.args.but c.args.nodes.now c.loop-i.i c.loop-i.nodes p w.if-i-but.false)
    ]

pub returns : goal.returns
returns g c =
    let p = c.loop-i.invariant in
    all_passed g.R.Rng.stream c.args.now c.args.but c.args.nodes.now c.loop-i.i c.loop-i.nodes (let n = p.count in let no = c.loop-i-test.false in omega (arith, n, no)) p
