-- The moments of a log don't fall.
use Rattle.std.proofs.Common.{◌≡◌, ℕ, ◌<◌, ◌≤◌, [], ◌∷◌, ◌++◌, refl, sym, ◌∙◌, ap, subst, arith, ⊎_elim}
use Rattle.std.proofs.lemmas.List.{append_cancel_right}
use Rattle.nd_table.specs.History.{Past}
use Rattle.nd_table.proofs.Pasts.{past_linear}
use Rattle.nd_advertiser.specs.Advertising.{advertised_by}
use Rattle.nd_slaac.specs.Due as addresses_due
use Rattle.nd_chronicle.specs.Start.{Start}
use Rattle.nd_chronicle.specs.Happening as chronicle
use Rattle.nd_chronicle.specs.Happening.{Chronicle, TooLate}
use Rattle.nd_chronicle.specs.Histories.{advertising_history}
use Rattle.nd_chronicle.specs.Due.{What, RouterEnds, AddressFalls, NeighbourFalls, RoutersSolicited, RouterAdvertises, Redraws, comes}
use Rattle.nd_chronicle.proofs.Growth.{AllAt, GrowsAt, advertising_grows, grows_by, neighbour_grows, stays}
use Rattle.nd_link_log.specs.Log.{Entry, Log, Begins, Adds, Carries, Reaches, Refuses, adding, last_moment}
use Rattle.nd_link_log.specs.Sound.{IsAt}

-- ---- of two entries that of the earlier moment is below

abbrev pub Rising : Log → Type 0
Rising [] = Unit {0}
Rising (entry ∷ log) = (last_moment log ≤ last_moment (entry ∷ log)) × Rising log

rising_past : (a log : Log) → Past a log → Rising log → (last_moment a ≤ last_moment log) × Rising a
rising_past a [] p rising = subst (λ (x : Log). (last_moment x ≤ 0) × Rising x) (sym p) (omega arith, tt)
rising_past a (entry ∷ log) p rising = ⊎_elim
    (λ same. subst (λ (x : Log). (last_moment x ≤ last_moment (entry ∷ log)) × Rising x) (sym same) (omega arith, rising))
    (λ below. let more = rising_past a log below rising.1 in let le = more.0 in let here = rising.0 in (omega (arith, le, here), more.1)) p

moment_is : (entry : Entry) (log : Log) (at : ℕ) → IsAt entry at → last_moment (entry ∷ log) ≡ at
moment_is (Adds node when what) log at e = e
moment_is (Carries node when number) log at e = e
moment_is (Begins node start) log at e = absurd e
moment_is (Reaches when) log at e = absurd e
moment_is (Refuses when why) log at e = absurd e

pub by_then : (log : Log) → Rising log → (entry : Entry) (a : Log) (at : ℕ) → Past (entry ∷ a) log → IsAt entry at → at ≤ last_moment log
by_then log rising entry a at p is = subst (λ (n : ℕ). n ≤ last_moment log) (moment_is entry a at is) (rising_past (entry ∷ a) log p rising).0

pub in_order : (log : Log) → Rising log → (entry other : Entry) (a b : Log) (at when : ℕ) → Past (entry ∷ a) log → Past (other ∷ b) log → IsAt entry at → IsAt other when → at < when
    → Past (entry ∷ a) b
in_order log rising entry other a b at when p q is then less =
    let first = moment_is entry a at is in
    let second = moment_is other b when then in
    ⊎_elim
    (λ under. ⊎_elim (λ same. absurd (let e = ap last_moment same in omega (arith, e, first, second, less))) (λ below. below) under)
    (λ above. ⊎_elim (λ same. absurd (let e = ap last_moment same in omega (arith, e, first, second, less)))
    (λ below.
    let r = (rising_past (entry ∷ a) log p rising).1 in
    let le = (rising_past (other ∷ b) a below r.1).0 in
    let more = r.0 in absurd (omega (arith, le, more, first, second, less))) above)
    (past_linear (entry ∷ a) (other ∷ b) log p q)

-- ---- rows of one moment

abbrev pub EachAt : ℕ → Chronicle → Type 0
EachAt at [] = Unit {0}
EachAt at (row ∷ rows) = (row.0 ≡ at) × EachAt at rows

-- what is added up to a moment
pub record RisesTo (at : ℕ) (log : Log) : Type 0 where
  pub rising : Rising log
  pub by : last_moment log ≤ at

pub rises_with : (at node : ℕ) (rows : Chronicle) (log : Log) → EachAt at rows → RisesTo at log → RisesTo at (adding node rows log)
rises_with at node [] log each r = r
rises_with at node (row ∷ rows) log each r =
    let more = rises_with at node rows log each.1 r in
    let le = more.by in
    let is = each.0 in record { rising = (omega (arith, le, is), more.rising); by = omega (arith, is) }

pub moment_with : (at node : ℕ) (rows : Chronicle) (log : Log) → EachAt at rows → last_moment log ≡ at → last_moment (adding node rows log) ≡ at
moment_with at node [] log each e = e
moment_with at node (row ∷ rows) log each e = each.0

-- ---- the rows that a chronicle gains

pub each_in : (at : ℕ) (rows : Chronicle) → AllAt at rows → EachAt at rows
each_in at [] all = tt
each_in at (row ∷ rows) all = (all.0, each_in at rows all.2)

pub gained_at : (at : ℕ) (rows c d : Chronicle) → GrowsAt at c d → d ≡ rows ++ c → EachAt at rows
gained_at at rows c d g e = subst (EachAt at) (append_cancel_right g.newer rows c (sym g.all ∙ e)) (each_in at g.newer g.each)

module _ (start : Start) (at : ℕ) (c : Chronicle) where
  -- what is due is of its moment
  pub due_at : (what : What) (rows : Chronicle) → comes start at what c ≡ rows ++ c → EachAt at rows
  due_at (RouterEnds key) rows e = gained_at at rows c _ (grows_by {at = at} _ refl (stays at c)) e
  due_at (AddressFalls (addresses_due.Ends key)) rows e = gained_at at rows c _ (grows_by {at = at} _ refl (stays at c)) e
  due_at (AddressFalls (addresses_due.Solicits key)) rows e = subst (EachAt at) (append_cancel_right (_ ∷ _ ∷ []) rows c e) (refl, (refl, tt))
  due_at (AddressFalls (addresses_due.Assigns key)) rows e = gained_at at rows c _ (grows_by {at = at} _ refl (stays at c)) e
  due_at (NeighbourFalls falls) rows e = gained_at at rows c _ (neighbour_grows at start falls c (stays at c)) e
  due_at RoutersSolicited rows e = gained_at at rows c _ (grows_by {at = at} _ refl (grows_by _ refl (stays at c))) e
  due_at RouterAdvertises rows e = gained_at at rows c _ (advertising_grows at start (advertised_by (advertising_history start c)) c (stays at c)) e
  due_at Redraws rows e = gained_at at rows c _ (grows_by {at = at} _ refl (stays at c)) e

-- time has passed at a node up to the moment of its newest row
pub newest_moment : (first at : ℕ) (rows c : Chronicle) → EachAt at rows → chronicle.last_moment first c ≡ at → chronicle.last_moment first (rows ++ c) ≡ at
newest_moment first at [] c each e = e
newest_moment first at ((when, TooLate last) ∷ rows) c each e = newest_moment first at rows c each.1 e
newest_moment first at ((when, _) ∷ rows) c each e = each.0
