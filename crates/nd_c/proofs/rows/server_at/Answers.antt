use Rattle.std.proofs.Common.{Some, None}
use Rattle.nd_table.specs.Left.{seen_in, lifetimes_left}
use Rattle.nd_c.proofs.Nth.{nth_is}
use Rattle.nd_c.proofs.rows.server_at.Goals as goal

pub returns-in-Some : goal.returns-in-Some
returns-in-Some c = record {
  each = λ start chronicle stands reached. (lifetimes_left c.servers.result, c.servers.ensures start chronicle stands reached, (c.in-Some.server, nth_is seen_in lifetimes_left c.args.index c.servers.result c.nth.new.self (Some c.in-Some.server) c.in-Some.ensures.ran, c.of.ensures));
}

pub returns-in-None : goal.returns-in-None
returns-in-None c = record {
  each = λ start chronicle stands reached. (lifetimes_left c.servers.result, c.servers.ensures start chronicle stands reached, nth_is seen_in lifetimes_left c.args.index c.servers.result c.nth.new.self None c.in-None.ensures.ran);
}
