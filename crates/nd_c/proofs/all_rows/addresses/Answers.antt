use Rattle.std.proofs.Common.{arith}
use Rattle.nd_slaac.specs.View.{seen_in}
use Rattle.nd_slaac.specs.Left.{addresses_left}
use Rattle.nd_c_types.specs.Address.{address_row}
use Rattle.nd_c.specs.Rows.{AddressAt}
use Rattle.nd_c.proofs.Filled.{filled}
use Rattle.nd_c.proofs.all_rows.addresses.Goals as goal

pub returns : goal.returns
returns c =
    let f = c.fill.ensures in
    record {
      early = λ early. absurd (omega (arith, early, c.if-is_past.ensures));
      rows = λ late. filled seen_in addresses_left address_row (λ index row. AddressAt c.args.now index c.args.session.now row) c.addresses.result f.1 f.2
          (λ index row is. record { each = λ start chronicle stands. (addresses_left c.addresses.result, c.addresses.ensures start chronicle stands, is) }) f.0 _ _ _ _ f.3 f.4 f.5 f.6;
    }
