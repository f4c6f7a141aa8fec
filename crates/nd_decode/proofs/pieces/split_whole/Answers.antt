use Rattle.std.proofs.Common.{◌≤◌, length, arith}
use Rattle.std.proofs.lemmas.Bool.Decides.{nat_tests}
use Rattle.nd_decode.proofs.Walk.{begins, whole_front, whole_behind}
use Rattle.nd_decode.proofs.pieces.split_whole.Goals as goal

pub bounds-bytes-1 : goal.bounds-bytes-1
bounds-bytes-1 c =
    let some : 1 ≤ length c.args.bytes.now = grind (arith, nat_tests, c.is_empty.ensures, c.if-is_empty.false) in
    omega (arith, (whole_front c.args.bytes.now c.requires some).two)

pub split_at-requires : goal.split_at-requires
split_at-requires c =
    let some : 1 ≤ length c.args.bytes.now = grind (arith, nat_tests, c.is_empty.ensures, c.if-is_empty.false) in
    omega (arith, (whole_front c.args.bytes.now c.requires some).fits)

pub returns-clause-split : goal.returns-clause-split
returns-clause-split c =
    let some : 1 ≤ length c.args.bytes.now = grind (arith, nat_tests, c.is_empty.ensures, c.if-is_empty.false) in
    (begins c.args.bytes.now (whole_front c.args.bytes.now c.requires some), c.split_at.ensures.front, c.split_at.ensures.back)

pub returns-clause-whole : goal.returns-clause-whole
returns-clause-whole c =
    let some : 1 ≤ length c.args.bytes.now = grind (arith, nat_tests, c.is_empty.ensures, c.if-is_empty.false) in
    whole_behind c.args.bytes.now _ c.requires (begins c.args.bytes.now (whole_front c.args.bytes.now c.requires some)) c.split_at.ensures.back
