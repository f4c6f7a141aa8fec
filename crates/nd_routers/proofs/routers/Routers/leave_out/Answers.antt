use Rattle.std.proofs.Common.{◌≤◌, length, arith}
use Rattle.nd_addr.specs.Number.{number_of}
use Rattle.nd_routers.proofs.Unlisted.{left_out, no_trace}
use Rattle.nd_routers.proofs.routers.Routers.leave_out.Goals as goal

pub returns-clause-stands : goal.returns-clause-stands
returns-clause-stands g c = λ history s.
    let table = c.args.self.now in
    let key = number_of c.args.source.0 in
    let few : length table.entries ≤ table.limit = omega (arith, c.len-len.ensures.value, c.len-len.ensures.few) in
    no_trace c.args.now key c.args.lifetime c.args.preference history table (left_out c.args.now key c.args.lifetime table.limit table.entries few c.requires.settled c.requires.full).1 s

pub returns-clause-lasting : goal.returns-clause-lasting
returns-clause-lasting g c =
    let table = c.args.self.now in
    let few : length table.entries ≤ table.limit = omega (arith, c.len-len.ensures.value, c.len-len.ensures.few) in
    (left_out c.args.now (number_of c.args.source.0) c.args.lifetime table.limit table.entries few c.requires.settled c.requires.full).0
