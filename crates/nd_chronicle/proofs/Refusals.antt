-- An event that is refused adds its refusal alone.
use Rattle.std.proofs.Common.{◌≡◌, ℕ, Bool, true, false, [], ◌∷◌, Option, Some, None, refl, sym, ap, inl, inr}
use Rattle.std.specs.Prelude.{MatchBool}
use Rattle.std.proofs.lemmas.Bool.{true≢false}
use Rattle.nd_addr.specs.declared.addr.Addr.{Addr}
use Rattle.nd_addr.specs.Number.{number_of}
use Rattle.nd_decode.specs.Message.{Parts}
use Rattle.nd_slaac.specs.History as addresses
use Rattle.nd_chronicle.specs.Start.{Start}
use Rattle.nd_chronicle.specs.Happening.{Chronicle, Happening, Limit, Address, Configured, Full, Heard, Refused}
use Rattle.nd_chronicle.specs.InForce.{retrans_timer}
use Rattle.nd_chronicle.specs.Event.{Event, EventAdds, HeardAdds, InPart, MessageAdds}
use Rattle.nd_chronicle.specs.Refused.{GrowsUnrefused, RefusedOrNot, is_refusal}
use Rattle.nd_chronicle.proofs.Keeping.{is_plain, event_keeps, in_part_keeps, message_keeps}

plain_is_none : (what : Happening) → is_plain what ≡ true → is_refusal what ≡ false
plain_is_none (Refused refusal) is = absurd (let never : ⊥ = cc in never)
plain_is_none what is = refl

stays : (c : Chronicle) → GrowsUnrefused c c
stays c = record { newer = []; all = refl; none = tt }

grows_by : (at : ℕ) {c d : Chronicle} (what : Happening) → is_refusal what ≡ false → GrowsUnrefused c d → GrowsUnrefused c ((at, what) ∷ d)
grows_by at what none g = record { newer = (at, what) ∷ g.newer; all = ap (λ (x : Chronicle). (at, what) ∷ x) g.all; none = (none, g.none) }

pub refused_or_not : (start : Start) (now : ℕ) (event : Event) (c d : Chronicle) → EventAdds start now event c d → RefusedOrNot now c d
refused_or_not start now event c d h = event_keeps start now (GrowsUnrefused c) (λ what e is g. grows_by now what (plain_is_none what is) g)
    (λ key delay lifetimes e g. grows_by now (Address key (addresses.Formed delay (retrans_timer e) (Some lifetimes))) refl g)
    (λ key lifetimes e g. grows_by now (Address key (addresses.Announced lifetimes)) refl g)
    (λ source destination message e none g. grows_by now (Heard source destination message) refl g)
    (λ source destination target message e targets g. grows_by now (Address (number_of target.0) addresses.Conflict) refl (grows_by now (Heard source destination message) refl g))
    c (RefusedOrNot now c) (λ e g. inr g) (λ refusal. inl (refusal, refl))
    (λ key lifetimes e g. grows_by now (Address key (addresses.SetByHand lifetimes)) refl g)
    (λ key e g. grows_by now (Address key addresses.Ended) refl g)
    event d (λ settings is. grows_by now (Configured settings) refl (stays c)) h (stays c)

-- ---- a message, with the policy `parts`

module _ (start : Start) (now : ℕ) (source destination : Addr) (message : Parts) (c d : Chronicle) where
  heard_whole : MessageAdds start now source destination message message.body c d → GrowsUnrefused c d
  heard_whole h = message_keeps start now (GrowsUnrefused c) (λ what e is g. grows_by now what (plain_is_none what is) g)
      (λ key delay lifetimes e g. grows_by now (Address key (addresses.Formed delay (retrans_timer e) (Some lifetimes))) refl g)
      (λ key lifetimes e g. grows_by now (Address key (addresses.Announced lifetimes)) refl g)
      (λ from to said e none g. grows_by now (Heard from to said) refl g)
      (λ from to target said e targets g. grows_by now (Address (number_of target.0) addresses.Conflict) refl (grows_by now (Heard from to said) refl g))
      source destination message message.body refl c d h (stays c)

  heard_in_part : InPart start now source destination message c d → GrowsUnrefused c d
  heard_in_part h = in_part_keeps start now (GrowsUnrefused c) (λ what e is g. grows_by now what (plain_is_none what is) g)
      (λ key delay lifetimes e g. grows_by now (Address key (addresses.Formed delay (retrans_timer e) (Some lifetimes))) refl g)
      (λ key lifetimes e g. grows_by now (Address key (addresses.Announced lifetimes)) refl g)
      (λ from to said e none g. grows_by now (Heard from to said) refl g)
      (λ from to target said e targets g. grows_by now (Address (number_of target.0) addresses.Conflict) refl (grows_by now (Heard from to said) refl g))
      source destination message c d h (stays c)

  part_taken : (limit : Limit) (parts : Bool) → parts ≡ true → MatchBool parts (InPart start now source destination message c d) (d ≡ (now, Refused (Full limit)) ∷ c) → GrowsUnrefused c d
  part_taken limit true is h = heard_in_part h
  part_taken limit false is h = absurd (true≢false (sym is))

  pub heard_unrefused : (full : Option Limit) → start.policies.parts ≡ true → HeardAdds start now full source destination message c d → GrowsUnrefused c d
  heard_unrefused None is h = heard_whole h
  heard_unrefused (Some limit) is h = part_taken limit start.policies.parts is h
