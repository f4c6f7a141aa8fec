use Rattle.std.proofs.Common.{Some, None}
use Rattle.nd_table.specs.Left.{seen_in, lifetimes_left}
use Rattle.nd_c.proofs.Nth.{nth_is}
use Rattle.nd_c.proofs.rows.name_at.Goals as goal

pub returns-in-Some : goal.returns-in-Some
returns-in-Some c = record {
  each = λ start chronicle stands reached. (lifetimes_left c.search_names.result, c.search_names.ensures start chronicle stands reached, (c.in-Some.name, nth_is seen_in lifetimes_left c.args.index c.search_names.result c.nth.new.self (Some c.in-Some.name) c.in-Some.ensures.ran, c.of.ensures.value));
}

pub returns-in-None : goal.returns-in-None
returns-in-None c = record {
  each = λ start chronicle stands reached. (lifetimes_left c.search_names.result, c.search_names.ensures start chronicle stands reached, nth_is seen_in lifetimes_left c.args.index c.search_names.result c.nth.new.self None c.in-None.ensures.ran);
}
