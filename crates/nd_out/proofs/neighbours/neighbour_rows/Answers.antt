use Rattle.std.proofs.Common.{◌≡◌, ◌++◌, ◌∷◌, [], ℕ, List, map, sym, ap, ◌∙◌, append_assoc}
use Rattle.std.specs.Prelude.{string_bytes}
use Rattle.nd_neighbour.specs.Left.{neighbours_left}
use Rattle.nd_neighbour.specs.Shown.{Seen}
use Rattle.nd_neighbour.specs.View.{seen_in}
use Rattle.nd_chronicle.specs.Shown.{neighbour_row}
use Rattle.nd_out.proofs.neighbours.neighbour_rows.Goals as goal

pub loop-neighbour-preserved : goal.loop-neighbour-preserved
loop-neighbour-preserved g c =
    let rows = map string_bytes c.loop-neighbour.rows.items in
    let rest = map neighbour_row (neighbours_left c.next.new.self) in
    let row : List ℕ = neighbour_row (seen_in c.in-Some.neighbour) in
    let put : map string_bytes c.add_row.new.rows.items ≡ rows ++ row ∷ [] = c.in_ok-add_row.ensures in
    let more : neighbours_left c.loop-neighbour.neighbour-iterator ≡ seen_in c.in-Some.neighbour ∷ neighbours_left c.next.new.self = c.in-Some.ensures.steps in
    ap (λ (l : List (List ℕ)). l ++ rest) put ∙ append_assoc rows (row ∷ []) rest
    ∙ ap (λ (l : List Seen). rows ++ map neighbour_row l) (sym more) ∙ c.loop-neighbour.invariant
