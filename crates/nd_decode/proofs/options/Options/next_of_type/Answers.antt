use Rattle.std.proofs.Common.{◌∷◌, ◌∙◌, sym, ap}
use Rattle.nd_decode.specs.Option.{Said, option_of}
use Rattle.nd_decode.specs.Pieces.{options_in, options_left}
use Rattle.nd_decode.specs.Reading.{option_read, options_read}
use Rattle.nd_decode.proofs.OfType.{from_kind_here, from_kind_behind, from_kind_none, fewer_left}
use Rattle.nd_decode.proofs.options.Options.next_of_type.Goals as goal

pub returns-then-piece-kind-clause-value : goal.returns-then-piece-kind-clause-value
returns-then-piece-kind-clause-value c =
    let reading = c.loop-piece.self.reading in
    sym c.loop-piece.invariant ∙ from_kind_here reading c.args.kind c.loop-piece.self.rest.now c.in-Some.piece.now c.in-Some.rest.now c.in-Some.ensures.split c.if-piece-kind.true
    ∙ ap (λ (o : Said). o ∷ options_read reading (options_in c.in-Some.rest.now)) (sym c.read.ensures)

pub loop-piece-preserved : goal.loop-piece-preserved
loop-piece-preserved c =
    sym (from_kind_behind c.loop-piece.self.reading c.args.kind c.loop-piece.self.rest.now c.in-Some.piece.now c.in-Some.rest.now c.in-Some.ensures.split c.if-piece-kind.false)
    ∙ c.loop-piece.invariant

pub returns-then-piece-kind-clause-fewer : goal.returns-then-piece-kind-clause-fewer
returns-then-piece-kind-clause-fewer c =
    let reading = c.loop-piece.self.reading in
    fewer_left c.args.kind (options_left c.args.self.now) (options_read reading (options_in c.in-Some.rest.now)) (option_read reading (option_of c.in-Some.piece.now))
    (sym c.loop-piece.invariant ∙ from_kind_here reading c.args.kind c.loop-piece.self.rest.now c.in-Some.piece.now c.in-Some.rest.now c.in-Some.ensures.split c.if-piece-kind.true)

pub returns-clause-value : goal.returns-clause-value
returns-clause-value c = sym c.loop-piece.invariant ∙ from_kind_none c.loop-piece.self.reading c.args.kind c.loop-piece.self.rest.now c.in_default.ensures.split
