use Rattle.std.proofs.Common.{◌∙◌, Some, ap, sym}
use Rattle.nd_decode.specs.declared.prefix_info.PrefixInfo.{PrefixInfo}
use Rattle.nd_decode.specs.Pieces.{options_in, options_left}
use Rattle.nd_decode.specs.Reading.{info_read, options_read}
use Rattle.nd_decode.proofs.OfType.{first_prefix_step, first_prefix_none, first_prefix_fewer}
use Rattle.nd_decode.proofs.options.Options.next_prefix.Goals as goal

pub returns-in-Some-prefix_in-clause-value : goal.returns-in-Some-prefix_in-clause-value
returns-in-Some-prefix_in-clause-value c =
    sym c.loop-piece.invariant
    ∙ first_prefix_step c.loop-piece.self.reading c.loop-piece.self.rest.now c.in-Some.piece.now c.in-Some.rest.now _ c.in-Some.ensures.split c.in-Some-prefix_in.ensures
    ∙ ap (λ (i : PrefixInfo). Some (i, options_read c.loop-piece.self.reading (options_in c.in-Some.rest.now))) (sym c.info.ensures)

pub returns-in-Some-prefix_in-clause-fewer : goal.returns-in-Some-prefix_in-clause-fewer
returns-in-Some-prefix_in-clause-fewer c =
    let reading = c.loop-piece.self.reading in
    first_prefix_fewer (options_left c.args.self.now) (options_read reading (options_in c.in-Some.rest.now)) (info_read reading c.in-Some-prefix_in.info)
    (sym c.loop-piece.invariant ∙ first_prefix_step reading c.loop-piece.self.rest.now c.in-Some.piece.now c.in-Some.rest.now _ c.in-Some.ensures.split c.in-Some-prefix_in.ensures)

pub loop-piece-preserved : goal.loop-piece-preserved
loop-piece-preserved c =
    sym (first_prefix_step c.loop-piece.self.reading c.loop-piece.self.rest.now c.in-Some.piece.now c.in-Some.rest.now _ c.in-Some.ensures.split c.in_default-prefix_in.ensures)
    ∙ c.loop-piece.invariant

pub returns-clause-value : goal.returns-clause-value
returns-clause-value c = sym c.loop-piece.invariant ∙ first_prefix_none c.loop-piece.self.reading c.loop-piece.self.rest.now c.in_default.ensures.split
