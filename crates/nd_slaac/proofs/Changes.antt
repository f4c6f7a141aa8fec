-- What one more row makes of an address.
use Rattle.std.proofs.Common.{◌≡◌, ℕ, ◌+◌, ◌*◌, Bool, true, false, ltb, ◌∷◌, Option, Some, None, refl, sym, ◌∙◌, ap, subst, arith, inl, inr}
use Rattle.std.specs.Prelude.{is_some}
use Rattle.std.proofs.lemmas.Bool.{cases_Bool}
use Rattle.nd_slaac.specs.declared.stage.Stage.TheVariants.{Detecting}
use Rattle.nd_slaac.specs.History as kinds
use Rattle.nd_slaac.specs.History.{Story, Lifetimes}
use Rattle.nd_table.specs.Ends.{end_time}
use Rattle.nd_slaac.specs.Ends.{preferred_end, valid_end}
use Rattle.nd_slaac.specs.TwoHours.{renewed}
use Rattle.nd_slaac.specs.State.{Forming, forming_of, has_conflict, is_by_hand, was_assigned, sent_of, step_at}
use Rattle.nd_slaac.specs.AddressKept.{Address, stage_by, address_by, address_of}
use Rattle.nd_slaac.specs.Due.{happens}
use Rattle.nd_slaac.specs.Dates.{next_step, falls_by, stepped}
use Rattle.nd_slaac.specs.Calls.{formed, announced, failed, set_by_hand}
use Rattle.nd_slaac.proofs.Stories.{made, was_formed, steps}

-- an address is formed
pub when_formed : (key at delay retrans : ℕ) (lifetimes : Option Lifetimes) (s : Story) → address_of key ((at, kinds.Formed delay retrans lifetimes) ∷ s) ≡ Some (formed key at delay retrans lifetimes)
when_formed key at delay retrans None s = let e : at + delay + 0 * retrans ≡ at + delay = omega arith in rw e refl
when_formed key at delay retrans (Some lifetimes) s = let e : at + delay + 0 * retrans ≡ at + delay = omega arith in rw e refl

detecting_by : (key : ℕ) (f : Forming) (c w : Bool) (sent : ℕ) (p v : Option ℕ) (b : Bool) → c ≡ false → w ≡ false → let a : Address = record { key = key; preferred_end = p; valid_end = v; stage = stage_by f c w sent; by_hand = b } in a ≡ record { key = key; preferred_end = p; valid_end = v; stage = Detecting sent f.retrans (step_at f sent); by_hand = b }
detecting_by key f c w sent p v b not_c not_w = rw (not_c, not_w) refl

detecting : (key : ℕ) (f : Forming) (s : Story) → has_conflict s ≡ false → was_assigned s ≡ false → made key f s ≡ record { key = key; preferred_end = preferred_end s; valid_end = valid_end s; stage = Detecting (sent_of s) f.retrans (step_at f (sent_of s)); by_hand = is_by_hand s }
detecting key f s c w = detecting_by key f (has_conflict s) (was_assigned s) (sent_of s) (preferred_end s) (valid_end s) (is_by_hand s) c w

module _ (key at : ℕ) (s : Story) (a : Address) (there : address_of key s ≡ Some a) where
  pub when_announced : (lifetimes : Lifetimes) → address_of key ((at, kinds.Announced lifetimes) ∷ s) ≡ Some (announced at lifetimes a)
  when_announced lifetimes =
      let was = was_formed key s a there in
      ap (λ o. address_by key o (has_conflict s) (was_assigned s) (sent_of s) (end_time at lifetimes.preferred) (renewed at (valid_end s) lifetimes.valid) (is_by_hand s)) was.1
      ∙ ap (λ (m : Address). Some (announced at lifetimes m)) (sym was.2)

  pub when_set : (lifetimes : Lifetimes) → address_of key ((at, kinds.SetByHand lifetimes) ∷ s) ≡ Some (set_by_hand at lifetimes a)
  when_set lifetimes =
      let was = was_formed key s a there in
      ap (λ o. address_by key o (has_conflict s) (was_assigned s) (sent_of s) (end_time at lifetimes.preferred) (end_time at lifetimes.valid) (is_some o)) was.1
      ∙ ap (λ (m : Address). Some (set_by_hand at lifetimes m)) (sym was.2)

  pub when_conflict : address_of key ((at, kinds.Conflict) ∷ s) ≡ Some (failed a)
  when_conflict =
      let was = was_formed key s a there in
      ap (λ o. address_by key o true (was_assigned s) (sent_of s) (preferred_end s) (valid_end s) (is_by_hand s)) was.1 ∙ ap (λ (m : Address). Some (failed m)) (sym was.2)

-- a step of a detection that goes on
stepping : (transmits key at : ℕ) (s : Story) (f : Forming) → forming_of s ≡ Some f → has_conflict s ≡ false → was_assigned s ≡ false → step_at f (sent_of s) ≡ at → let a : Address = record { key = key; preferred_end = preferred_end s; valid_end = valid_end s; stage = Detecting (sent_of s) f.retrans (step_at f (sent_of s)); by_hand = is_by_hand s } in address_of key ((at, happens (falls_by transmits key a.stage)) ∷ s) ≡ Some (stepped transmits at a)
stepping transmits key at s f is c w d = elim (cases_Bool (ltb (sent_of s) transmits)) [
  | inl more ↦
      let e : step_at f (sent_of s + 1) ≡ at + f.retrans = omega (arith, d) in
      rw more (rw (is, c, w, e) refl)
  | inr last ↦ rw last (rw (is, c) refl)
]

module _ (transmits key at : ℕ) (s : Story) (a : Address) (there : address_of key s ≡ Some a) where
  pub when_stepped : next_step a ≡ Some at → address_of key ((at, happens (falls_by transmits a.key a.stage)) ∷ s) ≡ Some (stepped transmits at a)
  when_stepped now =
      let was = was_formed key s a there in
      let step = steps key s a was.0 at was.2 now in
      let is : a ≡ record { key = key; preferred_end = preferred_end s; valid_end = valid_end s; stage = Detecting (sent_of s) was.0.retrans (step_at was.0 (sent_of s)); by_hand = is_by_hand s } =
      was.2 ∙ detecting key was.0 s step.0 step.1 in
      subst (λ (m : Address). address_of key ((at, happens (falls_by transmits m.key m.stage)) ∷ s) ≡ Some (stepped transmits at m)) (sym is) (stepping transmits key at s was.0 was.1 step.0 step.1 step.2)
