use Rattle.std.proofs.Common.{◌≡◌, ◌<◌, get_or, Some, sym, ◌∙◌, subst, arith}
use Rattle.std.specs.Prelude.{slice_get}
use Rattle.nd_link.specs.Delivery.{IsKept}
use Rattle.std.proofs.lemmas.Option.{slice_get-get_or}
use Rattle.nd_link.proofs.delivery.way.Goals as goal

pub returns-then-frames-sent : goal.returns-then-frames-sent
returns-then-frames-sent g c =
    let frame = get_or c.args.frames.now c.in-Some-place_of.sent c.index-frames-sent.result in
    let place = c.in-Some.ensures.some in
    let sent = c.in-Some-place_of.ensures.some in
    let at = place.0 in
    let within = place.1 in
    let there : c.args.node < c.args.nodes = omega (arith, at, within) in
    let kept : IsKept c.args.frames.now c.args.number = record { sent = frame; is = subst (λ k. slice_get c.args.frames.now k ≡ Some frame) sent.0 (slice_get-get_or c.args.frames.now c.in-Some-place_of.sent c.index-frames-sent.result sent.1) } in
    (there, kept, c.if-frames-sent.true ∙ at)

pub returns : goal.returns
returns g c =
    let frame = get_or c.args.frames.now c.in-Some-place_of.sent c.index-frames-sent.result in
    let place = c.in-Some.ensures.some in
    let sent = c.in-Some-place_of.ensures.some in
    let at = place.0 in
    let within = place.1 in
    record {
      place = at;
      there = omega (arith, at, within);
      number_is = sent.0;
      frame = record { sent = frame; is = subst (λ k. slice_get c.args.frames.now k ≡ Some frame) sent.0 (slice_get-get_or c.args.frames.now c.in-Some-place_of.sent c.index-frames-sent.result sent.1) };
      other = λ own. c.if-frames-sent.false (own ∙ sym at);
    }
