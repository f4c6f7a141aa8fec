use Rattle.std.proofs.Common.{◌∙◌, arith}
use Rattle.nd_search_list.proofs.Walk.{first_is, zero_ends}
use Rattle.nd_search_list.proofs.reading.known_length.Goals as goal

pub returns-clause-value : goal.returns-clause-value
returns-clause-value c = c.end_of_labels.ensures ∙ zero_ends c.args.bytes.now c.requires

pub returns-clause-within : goal.returns-clause-within
returns-clause-within c = λ some.
    let is = c.end_of_labels.ensures ∙ zero_ends c.args.bytes.now c.requires in
    let f = first_is c.args.bytes.now (omega (arith, is, some)) in
    omega (arith, is, f.within)
