use Rattle.nd_addr.specs.Number.{number_of}
use Rattle.nd_neighbour.specs.ReachabilityConfirmationKept.{confirmed}
use Rattle.nd_neighbour.proofs.NewsCalls.{confirmed_key}
use Rattle.nd_neighbour.proofs.Finds.{alters}
use Rattle.nd_neighbour.proofs.Planning.{had_date, changed_planned, no_room}
use Rattle.nd_neighbour.proofs.reachability_confirmation.confirm.Goals as goal

pub returns-in-Some-clause-alters : goal.returns-in-Some-clause-alters
returns-in-Some-clause-alters g c =
    alters (number_of c.args.addr.0) (λ n. confirmed c.args.now c.args.reachable n) c.args.entries.now.items c.deref.result.now c.in-Some.i c.index_mut-entry.result.now c.confirm.new.self c.deref.ensures.value c.in-Some.ensures.within c.in-Some.ensures.found c.index_mut-entry.ensures.value c.confirm.ensures

pub change-requires-clause-was : goal.change-requires-clause-was
change-requires-clause-was g c =
    had_date (number_of c.args.addr.0) (λ n. confirmed c.args.now c.args.reachable n) (λ n. confirmed_key c.args.now c.args.reachable n n.stage) c.args.entries.now.items c.deref.result.now c.in-Some.i c.index_mut-entry.result.now c.confirm.new.self c.deref.ensures.value c.in-Some.ensures.within c.in-Some.ensures.found c.index_mut-entry.ensures.value c.confirm.ensures
    c.args.dates.now c.date-was.result c.requires.planned c.date-was.ensures

pub change-requires-clause-room : goal.change-requires-clause-room
change-requires-clause-room g c = no_room _ c.date-was.result _ c.date-was.ensures

pub returns-in-Some-clause-planned : goal.returns-in-Some-clause-planned
returns-in-Some-clause-planned g c =
    changed_planned (number_of c.args.addr.0) (λ n. confirmed c.args.now c.args.reachable n) (λ n. confirmed_key c.args.now c.args.reachable n n.stage) c.args.entries.now.items c.deref.result.now c.in-Some.i c.index_mut-entry.result.now c.confirm.new.self c.deref.ensures.value c.in-Some.ensures.within c.in-Some.ensures.found c.index_mut-entry.ensures.value c.confirm.ensures
    c.args.dates.now c.change.new.self c.date.result c.requires.planned c.date.ensures c.change.ensures.dates c.change.ensures.room
