-- The steps of a Neighbor Advertisement: an address that another node has, and a router that is no longer one.
use Rattle.std.proofs.Common.{◌≡◌, ℕ, Bool, true, List, [], ◌∷◌, ◌++◌, sym, ◌∙◌, ap}
use Rattle.nd_routers.specs.History as router_rows
use Rattle.nd_routers.specs.RoutersKept as routers
use Rattle.nd_nexthop.specs.History as redirect_rows
use Rattle.nd_nexthop.specs.Choice as choice
use Rattle.nd_nexthop.specs.Memo.{forgotten}
use Rattle.nd_slaac.specs.AddressKept as own
use Rattle.nd_slaac.specs.History as address_rows
use Rattle.nd_slaac.specs.State as states
use Rattle.nd_slaac.specs.TableKept as addresses
use Rattle.nd_chronicle.specs.Happening.{Address, LeftRouter}
use Rattle.nd_out.specs.declared.out.Out.{Out}
use Rattle.nd_out.specs.Out.{happening}
use Rattle.nd_steps.specs.OwnAddresses.{Conflicts}
use Rattle.nd_steps.specs.DefaultRouterList.{Leaves}
use Rattle.nd_steps.specs.Outputs.{happenings}
use Rattle.nd_steps.proofs.Telling.{one_more}

pub conflicts_now : {A : Type 0} (now key : ℕ) (old new : List own.Address) (x y : List (ℕ × Out A)) (out : Out A) (result : Bool) → result ≡ true
    → ((history : List address_rows.Row) → addresses.Stands old history → result ≡ states.is_tentative (address_rows.story key history))
    → addresses.GainsRow old new (now, key, address_rows.Conflict) → y ≡ x ++ (now, out) ∷ [] → happening out ≡ Address key address_rows.Conflict
    → Conflicts now key old new x y true
conflicts_now now key old new x y out result is tentative gains told out_is = record {
  stands = λ history h. (sym is ∙ tentative history h, gains.stands history h);
  told = one_more x y now out told ∙ ap (λ w. happenings x ++ (now, w) ∷ []) out_is;
}

pub leaves_now : {A : Type 0} (now key : ℕ) (old new : routers.Table) (old_choice new_choice : choice.Table) (x y : List (ℕ × Out A)) (out : Out A)
    → routers.GainsRow old new (router_rows.LeftList now key) → choice.GainsRow old_choice new_choice (redirect_rows.TargetGone now key) → new_choice.memory ≡ forgotten old_choice.memory
    → y ≡ x ++ (now, out) ∷ [] → happening out ≡ LeftRouter key → Leaves now key true old new old_choice new_choice x y
leaves_now now key old new old_choice new_choice x y out gains gone forgets told out_is = record {
  remembers = forgets;
  routers = λ history s. gains.stands history s;
  redirects = λ history s. gone.stands history s;
  told = one_more x y now out told ∙ ap (λ w. happenings x ++ (now, w) ∷ []) out_is;
}
