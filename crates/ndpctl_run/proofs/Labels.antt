-- Numbers behind a label.
use Rattle.std.proofs.Common.{◌≡◌, ◌∙◌, ℕ, List, ◌++◌, Some, None, ap}
use Rattle.std.specs.Prelude.{Option, IfSome}
use Rattle.std.specs.Fmt.{decimal}

pub labelled : (read : Option ℕ) (text label digits : List ℕ) → text ≡ label ++ digits → IfSome read (λ n. digits ≡ decimal n) → IfSome read (λ n. text ≡ label ++ decimal n)
labelled None text label digits e found = tt
labelled (Some n) text label digits e found = e ∙ ap (λ (t : List ℕ). label ++ t) found
