-- One neighbour gives way, and a packet goes one way, as does what is reported to a caller.
use Rattle.std.proofs.Common.{◌≡◌, ℕ, Bool, true, false, List, [], ◌∷◌, length, Option, Some, None, refl, sym, ◌∙◌, ap, arith}
use Rattle.std.specs.Prelude.{MatchBool, ◌&&◌, not}
use Rattle.nd_addr.specs.declared.addr.Addr.{Addr}
use Rattle.nd_neighbour.specs.History.{Row, story}
use Rattle.nd_neighbour.specs.Place.{MakesPlace, HadPlace, Pushed, pushing}
use Rattle.nd_neighbour.specs.Sending.{sending_of_story}
use Rattle.nd_neighbour.specs.Story.{is_present}
use Rattle.nd_neighbour.specs.Wanting.{mac_in}
use Rattle.nd_neighbour.proofs.Unique as neighbours
use Rattle.nd_chronicle.specs.Start.{Start}
use Rattle.nd_chronicle.specs.Happening.{Chronicle, Path, WayTo}
use Rattle.nd_chronicle.specs.Histories.{neighbour_history}
use Rattle.nd_chronicle.specs.InForce.{retrans_timer}
use Rattle.nd_chronicle.specs.Packet as packets
use Rattle.nd_chronicle.specs.Packet.{HasPlace, HavePlace, Goes, with_pushed, then_packet}
use Rattle.nd_chronicle.specs.Resolve.{Wants, then_wanted, wanting_of}

longer : (x : Row) (h : List Row) → x ∷ h ≡ h → ⊥
longer x h e = let l = ap length e in omega (arith, l)

abbrev key_at_front : List Row → ℕ
key_at_front [] = 0
key_at_front (row ∷ h) = row.1

module _ (at : ℕ) where
  none_pushed : (p : Option ℕ) (h : List Row) → pushing at p h ≡ h → p ≡ None
  none_pushed None h e = refl
  none_pushed (Some k) h e = absurd (longer _ h e)

  this_pushed : (p : Option ℕ) (key : ℕ) (h : List Row) → pushing at p h ≡ pushing at (Some key) h → p ≡ Some key
  this_pushed None key h e = absurd (longer _ h (sym e))
  this_pushed (Some k) key h e = ap (λ (rows : List Row). Some (key_at_front rows)) e

  module _ (limit : ℕ) (h : List Row) (p q : Option ℕ) where
    one_made : MakesPlace limit at h (pushing at p h) → MakesPlace limit at h (pushing at q h) → p ≡ q
    one_made (HadPlace ns s lt e) (HadPlace ms t lt' f) = none_pushed p h e ∙ sym (none_pushed q h f)
    one_made (HadPlace ns s lt e) (Pushed ms k t le l f) = absurd (let same = ap length (neighbours.one_table h ns ms s t) in omega (arith, lt, le, same))
    one_made (Pushed ns k s le l e) (HadPlace ms t lt f) = absurd (let same = ap length (neighbours.one_table h ns ms s t) in omega (arith, lt, le, same))
    one_made (Pushed ns k s le l e) (Pushed ms j t le' m f) =
        this_pushed p k h e ∙ ap Some (neighbours.one_longest h at k j l m) ∙ sym (this_pushed q j h f)

    one_pushed_by : (b : Bool) → MatchBool b (MakesPlace limit at h (pushing at p h)) (pushing at p h ≡ h)
        → MatchBool b (MakesPlace limit at h (pushing at q h)) (pushing at q h ≡ h) → p ≡ q
    one_pushed_by true a b = one_made a b
    one_pushed_by false a b = none_pushed p h a ∙ sym (none_pushed q h b)

module _ (start : Start) (c : Chronicle) (at key : ℕ) where
  pub one_place : (enters : Bool) (d e : Chronicle) → packets.MakesPlace start c at key enters d → packets.MakesPlace start c at key enters e → d ≡ e
  one_place enters d e m n =
      m.with_it
      ∙ ap (λ (p : Option ℕ). with_pushed at p c) (one_pushed_by at start.limits.neighbours (neighbour_history c) m.pushed n.pushed (enters && not (is_present (story key (neighbour_history c)))) m.place n.place)
      ∙ sym n.with_it

  pub one_has_place : (enters : Bool) (a b : Bool) → HasPlace start c at key enters a → HasPlace start c at key enters b → a ≡ b
  one_has_place enters true true h k = refl
  one_has_place enters true false h k = absurd (h k.0 k.1)
  one_has_place enters false true h k = absurd (k h.0 h.1)
  one_has_place enters false false h k = refl

  pub have_one_place : (second : ℕ) (a b : Bool) → HavePlace start c at key second a → HavePlace start c at key second b → a ≡ b
  have_one_place second true true h k = refl
  have_one_place second true false h k = absurd (k h)
  have_one_place second false true h k = absurd (h k)
  have_one_place second false false h k = refl

  pub one_goes : (packet : List ℕ) (d e : Chronicle) → Goes start c at key packet d → Goes start c at key packet e → d ≡ e
  one_goes packet d e g h =
      g.goes
      ∙ ap (λ (x : Chronicle). then_packet start at key (retrans_timer c) packet (sending_of_story (story key (neighbour_history c)) packet) x) (one_place true g.placed h.placed g.place h.place)
      ∙ sym h.goes

  pub one_wants : (destination : Addr) (d e : Chronicle) → Wants start destination c at key d → Wants start destination c at key e → d ≡ e
  one_wants destination d e g h =
      g.wants
      ∙ ap (λ (x : Chronicle). (at, Path destination (WayTo key (mac_in (wanting_of (story key (neighbour_history c))))))
      ∷ then_wanted start at key (retrans_timer c) (wanting_of (story key (neighbour_history c))) x) (one_place true g.placed h.placed g.place h.place)
      ∙ sym h.wants
