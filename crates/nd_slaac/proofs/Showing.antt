-- What is shown of the addresses.
use Rattle.std.proofs.Common.{◌≡◌, ℕ, Bool, true, false, cond, List, Option, Some, None, refl, ◌∙◌, ap}
use Rattle.std.specs.Prelude.{map, is_some}
use Rattle.std.specs.Option.{option_map}
use Rattle.nd_table.proofs.Mapped.{at_key-map, Rises-map}
use Rattle.nd_slaac.specs.History.{Row, story}
use Rattle.nd_slaac.specs.Ends.{preferred_end, valid_end}
use Rattle.nd_slaac.specs.State.{Forming, forming_of, has_conflict, is_by_hand, was_assigned, sent_of, state_by}
use Rattle.nd_slaac.specs.AddressKept.{Address, stage_by, address_by, state_in}
use Rattle.nd_slaac.specs.TableKept.{key_of, address_in, Stands}
use Rattle.nd_table.specs.Ends.{time_left}
use Rattle.nd_slaac.specs.Shown.{Seen, seen_of, seen_key, Lists}
use Rattle.nd_slaac.specs.ShownKept.{seen}

state_is : (f : Forming) (c w : Bool) (sent t : ℕ) (end : Option ℕ) → state_in (stage_by f c w sent) end t ≡ state_by c w end t
state_is f true w sent t end = refl
state_is f false true sent t end = refl
state_is f false false sent t end = refl

seen_by : (key t : ℕ) (o : Option Forming) (c w : Bool) (sent : ℕ) (p v : Option ℕ) (b : Bool) → let shown : Seen = record { key = key; state = state_by c w p t; preferred_left = time_left t p; valid_left = time_left t v; by_hand = b } in let none : Option Seen = None in option_map (seen t) (address_by key o c w sent p v b) ≡ cond (is_some o) (Some shown) none
seen_by key t None c w sent p v b = refl
seen_by key t (Some f) c w sent p v b = rw (state_is f c w sent t p) refl

seen_by_history : (key t : ℕ) (xs : List Address) (history : List Row) → Stands xs history → option_map (seen t) (address_in key xs) ≡ seen_of key (story key history) t
seen_by_history key t xs history s =
    let st = story key history in
    ap (option_map (seen t)) (s.each key) ∙ seen_by key t (forming_of st) (has_conflict st) (was_assigned st) (sent_of st) (preferred_end st) (valid_end st) (is_by_hand st)

pub lists_all : (t : ℕ) (xs : List Address) (history : List Row) (shown : List Seen) → shown ≡ map (seen t) xs → Stands xs history → Lists history t shown
lists_all t xs history shown is s = rw is (record {
  each = λ key. at_key-map key_of seen_key (seen t) (λ a. refl) key xs ∙ seen_by_history key t xs history s;
  order = Rises-map key_of seen_key (seen t) (λ a. refl) xs s.order;
})
