-- What happens to the Default Router List, and to the redirects to a router that leaves it (RFC 4861, sections 6.3.4, 6.3.6, 7.2.5 and 7.3.3).
use Rattle.std.specs.Prelude.{ℕ, Bool, true, false, List, ◌∷◌, [], ◌≡◌, MatchBool, ◌++◌}
use Rattle.nd_addr.specs.declared.preference.Preference.{Preference}
use Rattle.nd_routers.specs.History.{RouterRow, Heard, LeftList, Failed}
use Rattle.nd_nexthop.specs.History.{RedirectRow, TargetGone}
use Rattle.nd_neighbour.specs.Due.{Falls, Fails}
use Rattle.nd_chronicle.specs.Happening.{Happening, LeftRouter}
use Rattle.nd_nexthop.specs.Memo.{forgotten}
use Rattle.nd_out.specs.declared.out.Out.{Out}
use Rattle.nd_steps.specs.Outputs.{happenings}
use Rattle.nd_routers.specs.RoutersKept as routers
use Rattle.nd_nexthop.specs.Choice as choice

-- ---- a Router Advertisement (section 6.3.4)

-- a router announces itself, and is listed, or left out for want of room
abbrev pub with_heard : ℕ → Bool → ℕ → ℕ → Preference → List RouterRow → List RouterRow
with_heard at true key lifetime preference history = Heard at key lifetime preference ∷ history
with_heard at false key lifetime preference history = LeftList at key ∷ Heard at key lifetime preference ∷ history

-- a router leaves the list, or doesn't
abbrev pub with_left : ℕ → Bool → ℕ → List RouterRow → List RouterRow
with_left at true key history = LeftList at key ∷ history
with_left at false key history = history

-- the same for the redirects to it
abbrev pub with_gone : ℕ → Bool → ℕ → List RedirectRow → List RedirectRow
with_gone at true key history = TargetGone at key ∷ history
with_gone at false key history = history

-- a router that left the list is reported
abbrev pub left_told : Bool → ℕ → List Happening
left_told true key = LeftRouter key ∷ []
left_told false key = []

-- ---- a neighbour that fails (sections 6.3.6 and 7.3.3)

abbrev pub with_failure : ℕ → Falls → List RouterRow → List RouterRow
with_failure at (Fails key packets) history = Failed at key ∷ history
with_failure at _ history = history

abbrev pub with_lost_target : ℕ → Falls → List RedirectRow → List RedirectRow
with_lost_target at (Fails key packets) history = TargetGone at key ∷ history
with_lost_target at _ history = history

-- for each history that they stood for, they stand for it with the failure, if it is one
pub record Notes (at : ℕ) (falls : Falls) (old_routers new_routers : routers.Table) (old_choice new_choice : choice.Table) : Type 0 where
  pub routers : (history : List RouterRow) → routers.Stands old_routers history → routers.Stands new_routers (with_failure at falls history)
  pub redirects : (history : List RedirectRow) → choice.Stands old_choice history → choice.Stands new_choice (with_lost_target at falls history)

-- ---- a Neighbor Advertisement (section 7.2.5)

abbrev pub told_left : ℕ → Bool → ℕ → List (ℕ × Happening)
told_left now true key = (now, LeftRouter key) ∷ []
told_left now false key = []

-- A neighbour that may no longer be a router: for each history that was stood for, it leaves the list if it ends, the redirects to it end with it, and that
-- is reported.
pub record Leaves {A : Type 0} (now key : ℕ) (left : Bool) (old new : routers.Table) (old_choice new_choice : choice.Table) (before after : List (ℕ × Out A)) : Type 0 where
  pub routers : (history : List RouterRow) → routers.Stands old history → routers.Stands new (with_left now left key history)
  pub redirects : (history : List RedirectRow) → choice.Stands old_choice history → choice.Stands new_choice (with_gone now left key history)
  pub told : happenings after ≡ happenings before ++ told_left now left key
  -- nothing is remembered where it leaves, and else nothing changes
  pub remembers : MatchBool left (new_choice.memory ≡ forgotten old_choice.memory) ((new_choice ≡ old_choice) × (new ≡ old))
