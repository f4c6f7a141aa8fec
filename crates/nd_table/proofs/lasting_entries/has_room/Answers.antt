use Rattle.std.proofs.Common.{arith}
use Rattle.std.proofs.lemmas.Bool.Decides.{nat_tests}
use Rattle.nd_table.specs.Ends.{is_before}
use Rattle.nd_table.proofs.Finding.{fewer_filtered}
use Rattle.nd_table.proofs.Steps.{announced_length}
use Rattle.nd_table.proofs.lasting_entries.has_room.Goals as goal

pub returns-then-entries-limit : goal.returns-then-entries-limit
returns-then-entries-limit g c =
    grind (arith, nat_tests, c.if-entries-limit.true, fewer_filtered (λ e. is_before c.args.now e.end) c.args.entries.now, announced_length g.Q.NamesKey.same g.met.Q.NamesKey.tells c.args.now (g.Q.NamesKey.named c.args.name.now) c.args.lifetime c.args.limit c.args.entries.now c.requires)

pub returns-then-not-enters : goal.returns-then-not-enters
returns-then-not-enters g c =
    grind (arith, nat_tests, c.if-not-enters.true, announced_length g.Q.NamesKey.same g.met.Q.NamesKey.tells c.args.now (g.Q.NamesKey.named c.args.name.now) c.args.lifetime c.args.limit c.args.entries.now c.requires)

pub returns : goal.returns
returns g c =
    grind (arith, nat_tests, c.if-not-enters.false, announced_length g.Q.NamesKey.same g.met.Q.NamesKey.tells c.args.now (g.Q.NamesKey.named c.args.name.now) c.args.lifetime c.args.limit c.args.entries.now c.requires)
