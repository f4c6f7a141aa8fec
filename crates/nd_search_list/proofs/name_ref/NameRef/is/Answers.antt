use Rattle.std.proofs.Common.{◌∙◌, List, ℕ, sym, ap}
use Rattle.nd_search_list.specs.Reading.{lowers_to}
use Rattle.nd_search_list.proofs.Lowering.{same_says, same_tests}
use Rattle.nd_search_list.proofs.name_ref.NameRef.is.Goals as goal

pub returns : goal.returns
returns c =
    let test = c.lowers_to.ensures ∙ ap (λ (b : List ℕ). lowers_to b c.args.name.now) c.as_bytes.ensures.value in
    (λ t. same_says c.args.self.now.bytes.now c.args.name.now (sym test ∙ t), λ e. test ∙ same_tests c.args.self.now.bytes.now c.args.name.now e)
