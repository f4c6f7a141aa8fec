use Rattle.std.proofs.Common.{◌<◌, ◌∙◌, length, Some, ap, sym, subst, arith}
use Rattle.nd_addr.specs.Number.{number_of}
use Rattle.nd_table.specs.Date.{Date}
use Rattle.nd_table.specs.Keyed.{Rises}
use Rattle.nd_table.specs.Dates.{Planned, rank}
use Rattle.nd_table.specs.Blocks.{all_of}
use Rattle.nd_table.proofs.Dates.{Rises-without, no_longer, length-put}
use Rattle.nd_table.proofs.Redating.{put_absent, put_rises, put_redated, take_redated, moved_there, moved_absent, moved_rises, moved_addresses, moved_length, moved_redated, put_addresses, taken_addresses, has_room}
use Rattle.nd_table.proofs.schedule.Schedule.change_to.Goals as goal

pub put-requires-clause-absent : goal.put-requires-clause-absent
put-requires-clause-absent g c =
    let ds = all_of c.self.inside.blocks.blocks in
    put_absent ds _ (number_of c.args.addr.0) c.args.was c.args.date (ap (λ (p : Planned). p.dates) c.self.view_is) c.requires.was c.self.invariant.order c.self.invariant.addresses
    c.new.result c.in-None-Some.moment c.new.ensures.number c.new.ensures.address ds c.in-None-Some.is-0

pub invariant_of-self : goal.invariant_of-self
invariant_of-self g c =
    let ds = all_of c.self.inside.blocks.blocks in
    let new = all_of c.put.new.self.blocks in
    let space : length c.args.self.now.dates < c.args.self.now.room = has_room c.args.was c.args.date c.in-None-Some.moment _ c.in-None-Some.is-0 c.in-None-Some.is-1 c.requires.room (subst (λ (p : Planned). Rises rank p.dates) c.self.view_is c.self.invariant.order) in
    record {
      order = put_rises ds _ (number_of c.args.addr.0) c.args.was c.args.date (ap (λ (p : Planned). p.dates) c.self.view_is) c.requires.was c.self.invariant.order c.self.invariant.addresses
          c.new.result c.in-None-Some.moment c.new.ensures.number c.new.ensures.address new c.in-None-Some.is-0 c.put.ensures.dates;
      addresses = put_addresses c.new.result ds new c.new.ensures.address c.self.invariant.addresses c.put.ensures.dates;
      fits = omega (arith, space, ap (λ (p : Planned). length p.dates) c.self.view_is, ap (λ (p : Planned). p.room) c.self.view_is, ap (length {A = Date}) c.put.ensures.dates, length-put c.new.result ds);
      kept = c.put.ensures.kept;
      enough = omega (arith, c.self.invariant.enough, c.put.ensures.number);
    }

pub returns-in-None-Some-clause-dates : goal.returns-in-None-Some-clause-dates
returns-in-None-Some-clause-dates g c =
    put_redated (all_of c.self.inside.blocks.blocks) _ (number_of c.args.addr.0) c.args.was c.args.date (ap (λ (p : Planned). p.dates) c.self.view_is) c.requires.was c.self.invariant.order c.self.invariant.addresses
    c.new.result c.in-None-Some.moment c.new.ensures.number c.new.ensures.address (all_of c.put.new.self.blocks) c.in-None-Some.is-0 c.in-None-Some.is-1 c.new.ensures.moment c.put.ensures.dates

pub invariant_of-self-in-Some-None : goal.invariant_of-self-in-Some-None
invariant_of-self-in-Some-None g c =
    let d = c.new-in-Some-None.result in
    let ds = all_of c.self.inside.blocks.blocks in
    record {
      order = subst (Rises rank) (sym c.take.ensures.dates) (Rises-without d.moment d.number ds c.self.invariant.order);
      addresses = taken_addresses d.moment d.number ds (all_of c.take.new.self.blocks) c.self.invariant.addresses c.take.ensures.dates;
      fits = omega (arith, c.self.invariant.fits, ap (length {A = Date}) c.take.ensures.dates, no_longer d.moment d.number ds);
      kept = c.take.ensures.kept;
      enough = omega (arith, c.self.invariant.enough, c.take.ensures.number);
    }

pub returns-in-Some-None-clause-dates : goal.returns-in-Some-None-clause-dates
returns-in-Some-None-clause-dates g c =
    take_redated (all_of c.self.inside.blocks.blocks) _ (number_of c.args.addr.0) c.args.was c.args.date (ap (λ (p : Planned). p.dates) c.self.view_is) c.requires.was c.self.invariant.order c.self.invariant.addresses
    c.new-in-Some-None.result c.in-Some-None.moment c.new-in-Some-None.ensures.number c.new-in-Some-None.ensures.address (all_of c.take.new.self.blocks) c.in-Some-None.is-0 c.in-Some-None.is-1 c.new-in-Some-None.ensures.moment c.take.ensures.dates

pub change-requires-clause-there : goal.change-requires-clause-there
change-requires-clause-there g c =
    moved_there (all_of c.self.inside.blocks.blocks) _ (number_of c.args.addr.0) c.args.was c.args.date (ap (λ (p : Planned). p.dates) c.self.view_is) c.requires.was c.self.invariant.order c.self.invariant.addresses
    c.new-old.result c.new-new.result c.in-Some-Some.before c.in-Some-Some.moment c.new-old.ensures.number c.new-new.ensures.number c.new-old.ensures.address c.new-new.ensures.address c.in-Some-Some.is-0 c.in-Some-Some.is-1 c.new-old.ensures.moment c.new-new.ensures.moment

pub change-requires-clause-absent : goal.change-requires-clause-absent
change-requires-clause-absent g c =
    moved_absent (all_of c.self.inside.blocks.blocks) _ (number_of c.args.addr.0) c.args.was c.args.date (ap (λ (p : Planned). p.dates) c.self.view_is) c.requires.was c.self.invariant.order c.self.invariant.addresses
    c.new-old.result c.new-new.result c.in-Some-Some.before c.in-Some-Some.moment c.new-old.ensures.number c.new-new.ensures.number c.new-old.ensures.address c.new-new.ensures.address c.in-Some-Some.is-0 c.in-Some-Some.is-1 c.new-old.ensures.moment c.new-new.ensures.moment
    (λ same. c.requires.differs (c.in-Some-Some.is-0 ∙ (ap Some same ∙ sym c.in-Some-Some.is-1)))

pub invariant_of-self-in-Some-Some : goal.invariant_of-self-in-Some-Some
invariant_of-self-in-Some-Some g c = record {
  order = moved_rises (all_of c.self.inside.blocks.blocks) _ (number_of c.args.addr.0) c.args.was c.args.date (ap (λ (p : Planned). p.dates) c.self.view_is) c.requires.was c.self.invariant.order c.self.invariant.addresses
      c.new-old.result c.new-new.result c.in-Some-Some.before c.in-Some-Some.moment c.new-old.ensures.number c.new-new.ensures.number c.new-old.ensures.address c.new-new.ensures.address c.in-Some-Some.is-0 c.in-Some-Some.is-1 c.new-old.ensures.moment c.new-new.ensures.moment
      (all_of c.change.new.self.blocks) c.change.ensures.dates;
  addresses = moved_addresses (all_of c.self.inside.blocks.blocks) _ (number_of c.args.addr.0) c.args.was c.args.date (ap (λ (p : Planned). p.dates) c.self.view_is) c.requires.was c.self.invariant.order c.self.invariant.addresses
      c.new-old.result c.new-new.result c.in-Some-Some.before c.in-Some-Some.moment c.new-old.ensures.number c.new-new.ensures.number c.new-old.ensures.address c.new-new.ensures.address c.in-Some-Some.is-0 c.in-Some-Some.is-1 c.new-old.ensures.moment c.new-new.ensures.moment
      (all_of c.change.new.self.blocks) c.change.ensures.dates;
  fits = omega (
    arith,
    c.self.invariant.fits,
    moved_length (all_of c.self.inside.blocks.blocks) _ (number_of c.args.addr.0) c.args.was c.args.date (ap (λ (p : Planned). p.dates) c.self.view_is) c.requires.was c.self.invariant.order c.self.invariant.addresses
        c.new-old.result c.new-new.result c.in-Some-Some.before c.in-Some-Some.moment c.new-old.ensures.number c.new-new.ensures.number c.new-old.ensures.address c.new-new.ensures.address c.in-Some-Some.is-0 c.in-Some-Some.is-1 c.new-old.ensures.moment c.new-new.ensures.moment
        (all_of c.change.new.self.blocks) c.change.ensures.dates,
  );
  kept = c.change.ensures.kept;
  enough = omega (arith, c.self.invariant.enough, c.change.ensures.number);
}

pub returns-in-Some-Some-clause-dates : goal.returns-in-Some-Some-clause-dates
returns-in-Some-Some-clause-dates g c =
    moved_redated (all_of c.self.inside.blocks.blocks) _ (number_of c.args.addr.0) c.args.was c.args.date (ap (λ (p : Planned). p.dates) c.self.view_is) c.requires.was c.self.invariant.order c.self.invariant.addresses
    c.new-old.result c.new-new.result c.in-Some-Some.before c.in-Some-Some.moment c.new-old.ensures.number c.new-new.ensures.number c.new-old.ensures.address c.new-new.ensures.address c.in-Some-Some.is-0 c.in-Some-Some.is-1 c.new-old.ensures.moment c.new-new.ensures.moment
    (all_of c.change.new.self.blocks) c.change.ensures.dates
