-- What is left where all routers leave.
use Rattle.std.proofs.Common.{◌≡◌, ℕ, false, List, [], ◌∷◌, refl, sym, ◌∙◌, ap, subst, arith}
use Rattle.std.specs.Prelude.{is_some, ◌&&◌}
use Rattle.std.proofs.lemmas.Bool.Decides.{nat_tests, eqb_tells}
use Rattle.std.proofs.lemmas.Bool.{true≢false}
use Rattle.nd_table.specs.declared.lasting.Lasting.{Lasting}
use Rattle.nd_table.specs.Listing.{without}
use Rattle.nd_table.proofs.Finding.{without_absent}
use Rattle.nd_table.proofs.LastingOrder.{distinct_of}
use Rattle.nd_routers.specs.History.{RouterRow, LeftList, failure_of}
use Rattle.nd_routers.specs.declared.preferred.Preferred.{Preferred}
use Rattle.nd_routers.specs.Preferences.{without_preference}
use Rattle.nd_routers.specs.RouterFailures.{has_failed}
use Rattle.nd_routers.specs.RouterFailuresKept.{others}
use Rattle.nd_routers.specs.Routers.{same}
use Rattle.nd_routers.specs.RoutersKept.{Table, Stands, then_left, keys}
use Rattle.nd_routers.proofs.Failing.{head_has}
use Rattle.nd_routers.proofs.Steps.{gains_left}

no_failures : (ks : List ℕ) → ((k : ℕ) → has_failed k ks ≡ false) → ks ≡ []
no_failures [] h = refl
no_failures (k ∷ ks) h = absurd (true≢false (sym (head_has k ks) ∙ h k))

abbrev pub tabled : ℕ → List (Lasting ℕ) → List Preferred → List ℕ → Table
tabled limit es ps ks = record { limit = limit; entries = es; preferences = ps; failed = ks }

pub all_leave : (limit at : ℕ) (es : List (Lasting ℕ)) (ps : List Preferred) (ks : List ℕ) (history : List RouterRow) → Stands (tabled limit es ps ks) history → Stands (tabled limit [] [] []) (then_left at (keys es) history)
all_leave limit at [] ps ks history s =
    let none = no_failures ks (λ k. s.failures.each k ∙ ap (λ o. is_some o && is_some (failure_of k history)) (sym (s.routers.ends k))) in
    subst (λ (l : List ℕ). Stands (tabled limit [] [] l) history) none (subst (λ (l : List Preferred). Stands (tabled limit [] l ks) history) s.preferred s)
all_leave limit at (e ∷ es) ps ks history s =
    let distinct = distinct_of same eqb_tells _ (e ∷ es) s.routers.order in
    let left : without same e.key (e ∷ es) ≡ es = grind (arith, nat_tests, without_absent same eqb_tells e.key es distinct.0) in
    let rest = without_preference e.key ps in
    all_leave limit at es rest (others e.key ks) (LeftList at e.key ∷ history)
    ((gains_left (tabled limit (e ∷ es) ps ks) (tabled limit es rest (others e.key ks)) at e.key (sym left) refl refl).stands history s)
