-- Which default router is chosen (RFC 4861, section 6.3.6; RFC 4191, section 3.2).
use Rattle.std.specs.Prelude.{◌≡◌, ℕ, Bool, true, false, nat_lt, if◌then◌else◌, List, [], ◌∷◌, Option, Some, None, option_map}
use Rattle.nd_addr.specs.Preference.{is_preferred}
use Rattle.nd_addr.specs.declared.preference.Preference.{Preference}

-- What the choice knows of a default router: its address as a number; whether it is reachable or probably reachable, so in any state
-- other than INCOMPLETE; how it is preferred; and if it failed since it came into the list, its place among those that did, the oldest
-- failure first.
pub record DefaultRouter : Type 0 where
  pub key : ℕ
  pub usable : Bool
  pub preference : Preference
  pub failed : Option ℕ

-- the first failed before the second; one that never failed stands before all that did
abbrev pub failed_before : Option ℕ → Option ℕ → Bool
failed_before None None = false
failed_before None (Some b) = true
failed_before (Some a) None = false
failed_before (Some a) (Some b) = nat_lt a b

-- Of two routers that aren't usable the first comes before the second: "When no routers on the list are known to be reachable or probably
-- reachable, routers SHOULD be selected in a round-robin fashion", so the one that failed least recently comes first, and of those that never
-- failed the preferred one.
abbrev pub is_less_recent : DefaultRouter → DefaultRouter → Bool
is_less_recent a b =
    if failed_before a.failed b.failed then true else if failed_before b.failed a.failed then false else is_preferred a.preference b.preference

-- The first comes before the second. "Routers that are reachable or probably reachable (i.e., in any state other than INCOMPLETE) SHOULD be
-- preferred over routers whose reachability is unknown or suspect", whatever their preference; of two of these the preferred one comes first.
abbrev pub comes_before : DefaultRouter → DefaultRouter → Bool
comes_before a b =
    if a.usable then (if b.usable then is_preferred a.preference b.preference else true) else if b.usable then false else is_less_recent a b

-- of the first router and another one behind it in the list, the one that comes before; the first where neither does
abbrev pub better : DefaultRouter → Option DefaultRouter → DefaultRouter
better r None = r
better r (Some s) = if comes_before s r then s else r

-- of a list the router that comes before all others, the first of the list where several do
abbrev pub best : List DefaultRouter → Option DefaultRouter
best [] = None
best (r ∷ rs) = Some (better r (best rs))

-- the default router that is chosen, of a list of them
abbrev pub chosen_router : List DefaultRouter → Option ℕ
chosen_router rs = option_map (λ r. r.key) (best rs)

-- each of them that is usable is less preferred than this one
abbrev pub AllLessPreferred : DefaultRouter → List DefaultRouter → Type 0
AllLessPreferred r [] = Unit {0}
AllLessPreferred r (s ∷ ss) = (s.usable ≡ true → is_preferred r.preference s.preference ≡ true) × AllLessPreferred r ss

-- none of them that is usable is preferred to this one
abbrev pub NonePreferred : DefaultRouter → List DefaultRouter → Type 0
NonePreferred r [] = Unit {0}
NonePreferred r (s ∷ ss) = (s.usable ≡ true → is_preferred s.preference r.preference ≡ false) × NonePreferred r ss

-- none of them is usable
abbrev pub NoneUsable : List DefaultRouter → Type 0
NoneUsable [] = Unit {0}
NoneUsable (s ∷ ss) = (s.usable ≡ false) × NoneUsable ss

-- each of them failed later than this one, or neither failed and it is less preferred
abbrev pub AllLater : DefaultRouter → List DefaultRouter → Type 0
AllLater r [] = Unit {0}
AllLater r (s ∷ ss) = (is_less_recent r s ≡ true) × AllLater r ss

-- none of them failed before this one, or is preferred where neither failed
abbrev pub NoneBefore : DefaultRouter → List DefaultRouter → Type 0
NoneBefore r [] = Unit {0}
NoneBefore r (s ∷ ss) = (is_less_recent s r ≡ false) × NoneBefore r ss
