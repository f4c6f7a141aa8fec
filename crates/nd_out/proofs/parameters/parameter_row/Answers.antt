use Rattle.std.proofs.Common.{rules, arith, ◌≡◌, ℕ, List, [], ◌∷◌, map, ap, ◌∙◌}
use Rattle.std.specs.Prelude.{string_bytes}
use Rattle.std.proofs.lemmas.Grind.{common_steps}
use Rattle.nd_out.specs.Parameters.{parameters_in}
use Rattle.nd_out.proofs.Rows.{parameters_are}
use Rattle.nd_out.proofs.parameters.parameter_row.Goals as goal

pub returns-clause-rows : goal.returns-clause-rows
returns-clause-rows g c =
    let row : map string_bytes c.add_row.new.rows.items ≡ parameters_in c.args.params.now ∷ [] = first_of (search rules, grind (arith, common_steps)) in
    λ start ch now s. row ∙ ap (λ (row : List ℕ). row ∷ []) (parameters_are c.args.params.now ch s)
