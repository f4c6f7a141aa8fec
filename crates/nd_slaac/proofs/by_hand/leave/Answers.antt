use Rattle.nd_addr.specs.Number.{number_of}
use Rattle.nd_table.proofs.Keyed.{key_is, found_is}
use Rattle.nd_slaac.specs.TableKept.{key_of}
use Rattle.nd_slaac.proofs.by_hand.leave.Goals as goal

pub returns-clause-leaves : goal.returns-clause-leaves
returns-clause-leaves g c = λ yes.
    let key = number_of c.args.addr.0 in
    let old = c.args.entries.now.items in
    let l = c.remove_at.ensures.leaves in (
      c.in-Some.i,
      record {
        address = l.address;
        within = l.within;
        is = l.is;
        key_is = key_is key_of key old l.address (found_is key_of key old c.deref.result.now c.in-Some.i l.address c.deref.ensures.value c.in-Some.ensures.within c.in-Some.ensures.found l.is);
        new_is = l.new_is;
      },
    )
