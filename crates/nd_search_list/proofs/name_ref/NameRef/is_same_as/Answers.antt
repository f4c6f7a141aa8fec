use Rattle.std.proofs.Common.{◌∙◌, List, ℕ, sym, ap}
use Rattle.nd_search_list.specs.Name.{lowered}
use Rattle.nd_search_list.specs.Reading.{lowers_to}
use Rattle.nd_search_list.proofs.Lowering.{same_says, same_tests}
use Rattle.nd_search_list.proofs.name_ref.NameRef.is_same_as.Goals as goal

pub returns : goal.returns
returns c =
    let bytes = c.args.self.now.bytes.now in
    let others = c.args.other.now.bytes.now in
    let test = c.are_same.ensures
    ∙ (ap (λ (b : List ℕ). lowers_to b (lowered c.as_bytes-others.result.now)) c.as_bytes-bytes.ensures.value
    ∙ ap (λ (b : List ℕ). lowers_to bytes (lowered b)) c.as_bytes-others.ensures.value) in
    (λ t. same_says bytes (lowered others) (sym test ∙ t), λ e. test ∙ same_tests bytes (lowered others) e)
