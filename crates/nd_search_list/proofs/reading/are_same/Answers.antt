use Rattle.std.proofs.Common.{◌∙◌, sym, ap}
use Rattle.std.proofs.lemmas.Bool.Decides.{Decides-eqb}
use Rattle.std.proofs.lemmas.Slice.Eq.{slice_eq-Decides}
use Rattle.nd_search_list.specs.Name.{lowered}
use Rattle.nd_search_list.proofs.Lowering.{same_tests}
use Rattle.nd_search_list.proofs.reading.are_same.Goals as goal

pub returns-then-eq : goal.returns-then-eq
returns-then-eq c =
    let same = (slice_eq-Decides Decides-eqb _ _ _ c.eq.ensures).0 c.if-eq.true in
    c.if-eq.true ∙ sym (same_tests c.args.bytes.now (lowered c.args.others.now) (ap lowered same))
