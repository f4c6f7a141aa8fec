-- A chronicle only grows, and its text with it.
use Rattle.std.proofs.Common.{◌≡◌, ℕ, Bool, true, false, List, [], ◌∷◌, ◌++◌, Option, Some, refl, sym, ◌∙◌, ap, subst}
use Rattle.std.proofs.lemmas.List.{append-nil, append_assoc}
use Rattle.std.specs.Prelude.{MatchBool, nat_lt}
use Rattle.nd_addr.specs.Number.{number_of, addr_at}
use Rattle.nd_advertiser.specs.Advertising.{advertised_by}
use Rattle.nd_advertiser.specs.Config.{Settings}
use Rattle.nd_compose.specs.Frames.{detection_frame}
use Rattle.nd_neighbour.specs.Due as neighbours_due
use Rattle.nd_neighbour.specs.History as neighbours
use Rattle.nd_neighbour.specs.History.{RowKind, story}
use Rattle.nd_slaac.specs.Due as addresses_due
use Rattle.nd_slaac.specs.History as addresses
use Rattle.nd_chronicle.specs.Start.{Start}
use Rattle.nd_chronicle.specs.Happening.{Chronicle, Happening, Address, Configured, Refused, Heard, Passed, Sent, last_moment}
use Rattle.nd_chronicle.specs.Histories.{advertising_history}
use Rattle.nd_chronicle.specs.InForce.{retrans_timer}
use Rattle.nd_chronicle.specs.Advertising.{advertising_by}
use Rattle.nd_chronicle.specs.Message.{releasing, leaving}
use Rattle.nd_chronicle.specs.Event.{Event, EventAdds}
use Rattle.nd_chronicle.specs.Due.{What, RouterEnds, AddressFalls, NeighbourFalls, RoutersSolicited, RouterAdvertises, Redraws, then_neighbour, comes}
use Rattle.nd_chronicle.specs.Growth.{Grows}
use Rattle.nd_chronicle.specs.History.{Walk, over, adds, passes, Runs}
use Rattle.nd_chronicle.specs.Told.{text, lines_of}
use Rattle.nd_chronicle.proofs.Keeping.{is_plain, neighbour_keeps, releasing_keeps, leaving_keeps, advertising_keeps, event_keeps}

-- it is no solicitation for one of the node's addresses
abbrev pub solicits : Happening → Bool
solicits (Address key addresses.Solicited) = true
solicits _ = false

-- all rows are of this moment, and no solicitations for own addresses
abbrev pub AllAt : ℕ → Chronicle → Type 0
AllAt at [] = Unit {0}
AllAt at (row ∷ c) = (row.0 ≡ at) × (solicits row.1 ≡ false) × AllAt at c

all_on : (at : ℕ) (newer c : Chronicle) → AllAt at newer → AllAt at c → AllAt at (newer ++ c)
all_on at [] c a b = b
all_on at (row ∷ newer) c a b = (a.0, a.1, all_on at newer c a.2 b)

-- the chronicle grows by rows of one moment
pub record GrowsAt (at : ℕ) (c d : Chronicle) : Type 0 where
  pub newer : Chronicle
  pub all : d ≡ newer ++ c
  pub each : AllAt at newer

pub stays : (at : ℕ) (c : Chronicle) → GrowsAt at c c
stays at c = record { newer = []; all = refl; each = tt }

pub grows_by : {at : ℕ} {c d : Chronicle} (what : Happening) → solicits what ≡ false → GrowsAt at c d → GrowsAt at c ((at, what) ∷ d)
grows_by {at = at} what plain g = record { newer = (at, what) ∷ g.newer; all = ap (λ (x : Chronicle). (at, what) ∷ x) g.all; each = (refl, plain, g.each) }

grows_on : {at : ℕ} {c d e : Chronicle} → GrowsAt at c d → GrowsAt at d e → GrowsAt at c e
grows_on {at = at} {c = c} g h = record {
  newer = h.newer ++ g.newer;
  all = h.all ∙ ap (λ (x : Chronicle). h.newer ++ x) g.all ∙ sym (append_assoc h.newer g.newer c);
  each = all_on at h.newer g.newer h.each g.each;
}

grows_to : {at : ℕ} {c d e : Chronicle} → GrowsAt at c d → e ≡ d → GrowsAt at c e
grows_to {at = at} {c = c} g same = subst (λ (x : Chronicle). GrowsAt at c x) (sym same) g

-- whatever the moments are
pub grows : {at : ℕ} {c d : Chronicle} → GrowsAt at c d → Grows c d
grows g = record { newer = g.newer; all = g.all }

pub grows_further : {c d e : Chronicle} → Grows c d → Grows d e → Grows c e
grows_further {c = c} g h = record { newer = h.newer ++ g.newer; all = h.all ∙ ap (λ (x : Chronicle). h.newer ++ x) g.all ∙ sym (append_assoc h.newer g.newer c) }

-- a plain row is no solicitation for one of the node's addresses
plain_solicits_none : (what : Happening) → is_plain what ≡ true → solicits what ≡ false
plain_solicits_none (Address key kind) is = absurd (let never : ⊥ = cc in never)
plain_solicits_none what is = refl

module _ (at : ℕ) {c : Chronicle} where
  plain_grows : (what : Happening) (d : Chronicle) → is_plain what ≡ true → GrowsAt at c d → GrowsAt at c ((at, what) ∷ d)
  plain_grows what d is g = grows_by what (plain_solicits_none what is) g

  module _ (start : Start) where
    pub neighbour_grows : (falls : neighbours_due.Falls) (d : Chronicle) → GrowsAt at c d → GrowsAt at c (then_neighbour start at falls d)
    neighbour_grows falls d g = neighbour_keeps start at (GrowsAt at c) plain_grows falls d g

    pub releasing_grows : (news : Option (ℕ × RowKind)) (history : List neighbours.Row) (d : Chronicle) → GrowsAt at c d → GrowsAt at c (releasing at news history d)
    releasing_grows news history d g = releasing_keeps start at (GrowsAt at c) plain_grows news history d g

    pub leaving_grows : (leaves : Bool) (key : ℕ) (d : Chronicle) → GrowsAt at c d → GrowsAt at c (leaving at leaves key d)
    leaving_grows leaves key d g = leaving_keeps start at (GrowsAt at c) plain_grows leaves key d g

    pub advertising_grows : (settings : Option Settings) (d : Chronicle) → GrowsAt at c d → GrowsAt at c (advertising_by start at settings d)
    advertising_grows settings d g = advertising_keeps start at (GrowsAt at c) plain_grows settings d g

-- what is due adds rows of its moment
pub comes_grows : (at : ℕ) (start : Start) (what : What) (c : Chronicle) → Grows c (comes start at what c)
comes_grows at start (RouterEnds key) c = grows (grows_by {at = at} _ refl (stays at c))
comes_grows at start (AddressFalls (addresses_due.Ends key)) c = grows (grows_by {at = at} _ refl (stays at c))
comes_grows at start (AddressFalls (addresses_due.Solicits key)) c =
    record { newer = (at, Sent (detection_frame start.mac (addr_at key))) ∷ (at, Address key addresses.Solicited) ∷ []; all = refl }
comes_grows at start (AddressFalls (addresses_due.Assigns key)) c = grows (grows_by {at = at} _ refl (stays at c))
comes_grows at start (NeighbourFalls falls) c = grows (neighbour_grows at start falls c (stays at c))
comes_grows at start RoutersSolicited c = grows (grows_by {at = at} _ refl (grows_by _ refl (stays at c)))
comes_grows at start RouterAdvertises c = grows (advertising_grows at start (advertised_by (advertising_history start c)) c (stays at c))
comes_grows at start Redraws c = grows (grows_by {at = at} _ refl (stays at c))

pub event_grows : (start : Start) (now : ℕ) (c : Chronicle) (event : Event) (d : Chronicle) → EventAdds start now event c d → GrowsAt now c d
event_grows start now c event d h = event_keeps start now (GrowsAt now c) (plain_grows now)
    (λ key delay lifetimes e g. grows_by (Address key (addresses.Formed delay (retrans_timer e) (Some lifetimes))) refl g) (λ key lifetimes e g. grows_by (Address key (addresses.Announced lifetimes)) refl g)
    (λ source destination message e none g. grows_by (Heard source destination message) refl g)
    (λ source destination target message e targets g. grows_by (Address (number_of target.0) addresses.Conflict) refl (grows_by (Heard source destination message) refl g))
    c (GrowsAt now c) (λ e g. g) (λ r. grows_by (Refused r) refl (stays now c))
    (λ key lifetimes e g. grows_by (Address key (addresses.SetByHand lifetimes)) refl g) (λ key e g. grows_by (Address key addresses.Ended) refl g)
    event d (λ settings is. grows_by (Configured settings) refl (stays now c)) h (stays now c)

module _ (start : Start) where
  walk_grows : {c d : Chronicle} {m n : ℕ} → Walk start c m n d → Grows c d
  walk_grows {c = c} {m = m} (over lt) = grows (stays m c)
  walk_grows {c = c} {m = m} (adds what le due w) = grows_further (comes_grows m start what c) (walk_grows w)
  walk_grows (passes le due w) = walk_grows w

  follows_grows : (t : Bool) (c : Chronicle) (now : ℕ) (what : Happening) (event : Event) (d : Chronicle) (last : ℕ)
      → MatchBool t (d ≡ (now, what) ∷ c) ((e : Chronicle) × Walk start c last now e × EventAdds start now event ((now, Passed) ∷ e) d) → Grows c d
  follows_grows true c now what event d last h = record { newer = (now, what) ∷ []; all = h }
  follows_grows false c now what event d last h =
      grows_further (walk_grows h.1) (grows (grows_on (grows_by Passed refl (stays now h.0)) (event_grows start now ((now, Passed) ∷ h.0) event d h.2)))

  pub runs_grows : (history : List (ℕ × Event)) (c d : Chronicle) → Runs start c history d → Grows c d
  runs_grows [] c d h = grows (grows_to (stays 0 c) h)
  runs_grows (event ∷ history) c d h =
      grows_further (follows_grows (nat_lt event.0 (last_moment start.at c)) c event.0 _ event.1 h.0 (last_moment start.at c) h.1) (runs_grows history h.0 d h.2)

-- what is reported of more is reported behind
pub text_grows : (newer c : Chronicle) → text (newer ++ c) ≡ text c ++ text newer
text_grows [] c = sym (append-nil (text c))
text_grows (row ∷ newer) c = ap (λ (told : List ℕ). told ++ lines_of row) (text_grows newer c) ∙ append_assoc (text c) (text newer) (lines_of row)
