use Rattle.std.proofs.Common.{Some, None}
use Rattle.nd_slaac.specs.View.{seen_in}
use Rattle.nd_slaac.specs.Left.{addresses_left}
use Rattle.nd_c.proofs.Nth.{nth_is}
use Rattle.nd_c.proofs.rows.address_at.Goals as goal

pub returns-in-Some : goal.returns-in-Some
returns-in-Some c = record {
  each = λ start chronicle stands. (addresses_left c.addresses.result, c.addresses.ensures start chronicle stands, (c.in-Some.address, nth_is seen_in addresses_left c.args.index c.addresses.result c.nth.new.self (Some c.in-Some.address) c.in-Some.ensures.ran, c.of.ensures));
}

pub returns-in-None : goal.returns-in-None
returns-in-None c = record {
  each = λ start chronicle stands. (addresses_left c.addresses.result, c.addresses.ensures start chronicle stands, nth_is seen_in addresses_left c.args.index c.addresses.result c.nth.new.self None c.in-None.ensures.ran);
}
