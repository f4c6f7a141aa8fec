-- A packet of the upper layer and the whole packet that the node builds of it.
use Rattle.std.proofs.Common.{◌≡◌, ℕ, Bool, true, false, cond, List, Option, Some, None, refl, sym, ◌∙◌, ap, subst}
use Rattle.std.specs.Prelude.{◌↔◌, ◌+◌, ◌==◌, ◌||◌, length, nat_lt}
use Rattle.std.proofs.lemmas.Bool.{eqb-true, eqb-false, true≢false}
use Rattle.nd_addr.specs.declared.addr.Addr.{Addr}
use Rattle.nd_addr.specs.Ip6.{ipv6_header_length}
use Rattle.nd_addr.specs.Number.{number_of}
use Rattle.nd_slaac.specs.State as states
use Rattle.nd_table.specs.History.{Past}
use Rattle.nd_chronicle.specs.Start.{Start, link_local_key}
use Rattle.nd_chronicle.specs.Happening.{Chronicle, Disabled, NotOurs, Refusal, Tentative, TooLong}
use Rattle.nd_chronicle.specs.InForce.{link_mtu}
use Rattle.nd_chronicle.specs.OwnAddress.{is_assigned, is_disabled, is_own, is_tentative, is_up, story_of}
use Rattle.nd_chronicle.specs.Event.{CarryAdds, ComeAsBytes, Event, HopAdds, SendAdds, is_of_others, packet_sent, refusal_of_carried, refusal_of_packet}
use Rattle.nd_chronicle.specs.History.{IsChronicle}
use Rattle.nd_chronicle.specs.Refused.{UnlessRefused}
use Rattle.nd_chronicle.proofs.Grounded.{own_behind}

module _ (source : Addr) where
  -- what isn't refused to a send isn't refused to a carry
  none_refused : (disabled up assigned others long : Bool) → (assigned ≡ true → up ≡ true)
      → cond disabled (Some Disabled) (cond assigned (cond long (Some TooLong) None) (Some (NotOurs source))) ≡ None
      → cond disabled (Some Disabled) (cond up (cond (assigned || others) (cond long (Some TooLong) None) (Some (NotOurs source))) (Some Tentative)) ≡ None
  none_refused true up assigned others long first none = absurd (let no : ⊥ = cc in no)
  none_refused false up false others long first none = absurd (let no : ⊥ = cc in no)
  none_refused false up true others true first none = absurd (let no : ⊥ = cc in no)
  none_refused false true true others false first none = refl
  none_refused false false true others false first none = absurd (true≢false (sym (first refl)))

-- an address is the node's own where it is assigned
own_by : (tentative assigned : Bool) → assigned ≡ true → (tentative || assigned) ≡ true
own_by true assigned is = refl
own_by false assigned is = is

module _ (start : Start) (events : List (ℕ × Event)) (c d : Chronicle) (bytes : ComeAsBytes events) (runs : IsChronicle start events c) (past : Past d c) where
  -- where an address is assigned, the link-local one is
  up_where_assigned : (source : Addr) → is_assigned d source.0 ≡ true → is_up start d ≡ true
  up_where_assigned source assigned = by (number_of source.0 == link_local_key start) refl
    where
      by : (itself : Bool) → (number_of source.0 == link_local_key start) ≡ itself → is_up start d ≡ true
      by true is = subst (λ (key : ℕ). states.is_assigned (story_of d key) ≡ true) (eqb-true _ _ is) assigned
      by false is = own_behind start events c bytes runs d source.0 past (eqb-false _ _ is) (own_by (is_tentative d source.0) (is_assigned d source.0) assigned)

  module _ (now : ℕ) (source destination : Addr) (next_header : ℕ) (payload : List ℕ) (none : refusal_of_packet start now source payload d ≡ None) (e : Chronicle) where
    carried : refusal_of_carried start now (packet_sent start now source destination next_header payload d) d ≡ None
    carried =
        let packet = packet_sent start now source destination next_header payload d in
        let long : Bool = nat_lt (link_mtu d) (ipv6_header_length + length payload) in
        none_refused source (is_disabled start d) (is_up start d) (is_assigned d source.0) (is_of_others start now packet d) long (up_where_assigned source) none

    pub same_adds : SendAdds start now source destination next_header payload d e ↔ CarryAdds start now (packet_sent start now source destination next_header payload d) d e
    same_adds =
        let packet = packet_sent start now source destination next_header payload d in (
          λ h. subst (λ (o : Option Refusal). UnlessRefused now o (HopAdds start now packet d) d e) (sym carried)
              (subst (λ (o : Option Refusal). UnlessRefused now o (HopAdds start now packet d) d e) none h),
          λ h. subst (λ (o : Option Refusal). UnlessRefused now o (HopAdds start now packet d) d e) (sym none)
              (subst (λ (o : Option Refusal). UnlessRefused now o (HopAdds start now packet d) d e) carried h),
        )
