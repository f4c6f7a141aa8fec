use Rattle.std.proofs.Common.{ℕ, List, ◌∷◌, ◌++◌, map, Some, ◌∙◌, ap}
use Rattle.nd_addr.specs.Number.{number_of}
use Rattle.nd_neighbour.specs.History.{Failed, Forgot, PushedOut}
use Rattle.nd_chronicle.specs.Happening.{Lost, Neighbour, Unreachable}
use Rattle.nd_steps.specs.Outputs.{at_moment, happenings}
use Rattle.nd_steps.proofs.GivingWay.{way_given}
use Rattle.nd_steps.proofs.giving_way.make_way.Goals as goal

pub returns-in_ok-gone-in-Given-clause-ways : goal.returns-in_ok-gone-in-Given-clause-ways
returns-in_ok-gone-in-Given-clause-ways g c = λ times.
    let here = c.in_ok-gone-in-Given in
    let key = number_of here.gone.0 in
    rw (c.in_ok-addr.was, c.if-not-speakers.false) (record {
      each = λ history s. (
        way_given c.args.neighbours.now.limit c.args.now c.in-Given.addr c.in-Given.mac c.in-Given.mark c.in_ok-addr.field-0 times c.in-Given.is history (Some key) (here.ensures.way history s),
        (here.ensures.gains c.args.now PushedOut).stands history s,
        c.tell_failure.ensures.told
            ∙ ap (λ (packets : List (List ℕ)). happenings c.args.outs.now.items ++ at_moment c.args.now (Neighbour key (Forgot Failed) ∷ map (λ packet. Lost Unreachable packet) packets)) (here.ensures.packets history s),
      );
    })
