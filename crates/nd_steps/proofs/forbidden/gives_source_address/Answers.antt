use Rattle.std.proofs.Common.{◌∙◌, Bool, true, sym, ap}
use Rattle.std.specs.Prelude.{if◌then◌else◌}
use Rattle.std.specs.List.{list_any}
use Rattle.nd_decode.specs.OptionKept.{view}
use Rattle.nd_decode.specs.Pieces.{options_left}
use Rattle.nd_chronicle.specs.Hearing.{is_source_address}
use Rattle.nd_chronicle.specs.Reading.{without}
use Rattle.nd_steps.proofs.OfType.{any_first, none_counts}
use Rattle.nd_steps.proofs.forbidden.gives_source_address.Goals as goal

pub returns-then-not-passes_over : goal.returns-then-not-passes_over
returns-then-not-passes_over c =
    let left = list_any is_source_address (without c.args.own (options_left c.next_of_type.new.self)) in
    let first = any_first c.args.own (options_left c.loop-option.rest) (options_left c.next_of_type.new.self) (view c.in-Some.option) c.in-Some.ensures.value in
    sym (sym c.loop-option.invariant ∙ first ∙ ap (λ (b : Bool). if b then left else true) (sym c.passes_over.ensures ∙ c.if-not-passes_over.true))

pub loop-option-preserved : goal.loop-option-preserved
loop-option-preserved c =
    let left = list_any is_source_address (without c.args.own (options_left c.next_of_type.new.self)) in
    let first = any_first c.args.own (options_left c.loop-option.rest) (options_left c.next_of_type.new.self) (view c.in-Some.option) c.in-Some.ensures.value in
    sym (first ∙ ap (λ (b : Bool). if b then left else true) (sym c.passes_over.ensures ∙ c.if-not-passes_over.false)) ∙ c.loop-option.invariant

pub returns : goal.returns
returns c = sym (sym c.loop-option.invariant ∙ none_counts c.args.own (options_left c.loop-option.rest) c.in_default.ensures.value)
