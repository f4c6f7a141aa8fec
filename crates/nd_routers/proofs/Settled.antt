-- Routers none of which has ended.
use Rattle.std.proofs.Common.{◌≡◌, ℕ, List, [], ◌∷◌, Option, Some, None, refl, sym, ◌∙◌, arith}
use Rattle.std.specs.Prelude.{◌&&◌}
use Rattle.std.proofs.lemmas.Bool.Decides.{nat_tests, eqb_tells}
use Rattle.std.proofs.lemmas.Bool.{and_parts, and_from}
use Rattle.nd_table.specs.declared.lasting.Lasting.{Lasting}
use Rattle.nd_table.specs.Ends.{is_before}
use Rattle.nd_table.proofs.Steps.{AllOpen}
use Rattle.nd_routers.specs.Routers.{same}
use Rattle.nd_routers.specs.RoutersKept.{IsSettled, next_end}
use Rattle.nd_table.specs.Due.{lesser}

lesser-open : (now : ℕ) (a b : Option ℕ) → is_before now (lesser a b) ≡ (is_before now a && is_before now b)
lesser-open now None b = refl
lesser-open now (Some x) None = grind (arith, nat_tests)
lesser-open now (Some x) (Some y) = grind (arith, nat_tests)

pub open_each : (es : List (Lasting ℕ)) (now : ℕ) → IsSettled es now → AllOpen same eqb_tells es now
open_each [] now h = tt
open_each (e ∷ es) now h =
    let parts = and_parts _ _ (sym (lesser-open now e.end (next_end es)) ∙ h) in (parts.0, open_each es now parts.1)

pub settled_from : (es : List (Lasting ℕ)) (now : ℕ) → AllOpen same eqb_tells es now → IsSettled es now
settled_from [] now h = refl
settled_from (e ∷ es) now h = lesser-open now e.end (next_end es) ∙ and_from _ _ h.0 (settled_from es now h.1)
