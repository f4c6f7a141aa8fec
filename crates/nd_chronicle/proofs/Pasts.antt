-- Where the rows of own addresses are in a chronicle, and what stands above a solicitation for one.
use Rattle.std.proofs.Common.{◌≡◌, ℕ, Bool, true, false, List, [], ◌∷◌, ◌++◌, refl, sym, ◌∙◌, ap, subst, inl, inr}
use Rattle.std.specs.Prelude.{MatchBool, nat_lt}
use Rattle.nd_addr.specs.Number.{addr_at}
use Rattle.nd_table.specs.History.{Past}
use Rattle.nd_table.proofs.Pasts.{past_self}
use Rattle.nd_advertiser.specs.Advertising.{advertised_by}
use Rattle.nd_compose.specs.Frames.{detection_frame}
use Rattle.nd_slaac.specs.Due as addresses_due
use Rattle.nd_slaac.specs.History as addresses
use Rattle.nd_chronicle.specs.Start.{Start}
use Rattle.nd_chronicle.specs.Happening.{Chronicle, Happening, Address, Sent, Passed, TooLate, last_moment}
use Rattle.nd_chronicle.specs.Histories.{address_history, advertising_history}
use Rattle.nd_chronicle.specs.Due.{What, RouterEnds, AddressFalls, NeighbourFalls, RoutersSolicited, RouterAdvertises, Redraws, comes}
use Rattle.nd_chronicle.specs.Event.{Event, EventAdds}
use Rattle.nd_chronicle.specs.History.{Walk, over, adds, passes, Runs, beginning}
use Rattle.nd_chronicle.specs.Places.{PlaceOf, solicited_with}
use Rattle.nd_chronicle.proofs.Growth.{AllAt, GrowsAt, solicits, stays, grows_by, neighbour_grows, advertising_grows, event_grows}

-- ---- the history of the own addresses, place by place

-- the front row of a history
abbrev front_moment : List addresses.Row → ℕ
front_moment [] = 0
front_moment (row ∷ h) = row.0

abbrev front_key : List addresses.Row → ℕ
front_key [] = 0
front_key (row ∷ h) = row.1

abbrev front_kind : List addresses.Row → addresses.RowKind
front_kind [] = addresses.Ended
front_kind (row ∷ h) = row.2

abbrev behind : List addresses.Row → List addresses.Row
behind [] = []
behind (row ∷ h) = h

module _ (m key : ℕ) (kind : addresses.RowKind) (below : List addresses.Row) where
  here : (at k : ℕ) (kd : addresses.RowKind) (c : Chronicle) → (m, key, kind) ∷ below ≡ (at, k, kd) ∷ address_history c → PlaceOf m key kind below ((at, Address k kd) ∷ c)
  here at k kd c e =
      let moment : m ≡ at = ap front_moment e in
      let keys : key ≡ k = ap front_key e in
      let kinds : kind ≡ kd = ap front_kind e in record {
        before = c;
        there = inl (ap (λ (x : ℕ). (x, Address key kind) ∷ c) moment ∙ (ap (λ (x : ℕ). (at, Address x kind) ∷ c) keys ∙ ap (λ (x : addresses.RowKind). (at, Address k x) ∷ c) kinds));
        history = sym (ap behind e);
      }

  further : (row : ℕ × Happening) (c : Chronicle) → PlaceOf m key kind below c → PlaceOf m key kind below (row ∷ c)
  further row c p = record { before = p.before; there = inr p.there; history = p.history }

  pub place_of : (c : Chronicle) → Past ((m, key, kind) ∷ below) (address_history c) → PlaceOf m key kind below c
  place_of [] e = absurd (let no : ⊥ = cc in no)
  place_of ((at, Address k kd) ∷ c) (inl e) = here at k kd c e
  place_of ((at, Address k kd) ∷ c) (inr p) = further (at, Address k kd) c (place_of c p)
  place_of ((at, what) ∷ c) p = further (at, what) c (place_of c p)

-- what a chronicle was at some time, the history of its own addresses was then
pub history_past : (d c : Chronicle) → Past d c → Past (address_history d) (address_history c)
history_past d [] e = ap address_history e
history_past d ((at, Address k kd) ∷ c) (inl e) = inl (ap address_history e)
history_past d ((at, Address k kd) ∷ c) (inr p) = inr (history_past d c p)
history_past d ((at, what) ∷ c) (inl e) = subst (λ (h : List addresses.Row). Past h (address_history c)) (sym (ap address_history e)) (past_self (address_history c))
history_past d ((at, what) ∷ c) (inr p) = history_past d c p

-- ---- each solicitation for one of the node's addresses is sent

pub record Paired (start : Start) (c : Chronicle) : Type 0 where
  pub each : (m key : ℕ) (below : Chronicle) → Past ((m, Address key addresses.Solicited) ∷ below) c → Past (solicited_with start m key below) c

-- the newest row, and what is sent with it if it is a solicitation
abbrev newest : Chronicle → Happening
newest [] = Passed
newest (row ∷ c) = row.1

module _ (start : Start) where
  abbrev frame_with : Happening → List ℕ
  frame_with (Address key kind) = detection_frame start.mac (addr_at key)
  frame_with _ = []

  abbrev with_frame : Chronicle → Chronicle
  with_frame [] = []
  with_frame ((at, what) ∷ c) = (at, Sent (frame_with what)) ∷ (at, what) ∷ c

  not_plain : (m key : ℕ) (below : Chronicle) (row : ℕ × Happening) (c : Chronicle) → solicits row.1 ≡ false → (m, Address key addresses.Solicited) ∷ below ≡ row ∷ c → ⊥
  not_plain m key below row c plain e = let no : true ≡ false = ap (λ (x : Chronicle). solicits (newest x)) e ∙ plain in cc

  paired_plain : (row : ℕ × Happening) (c : Chronicle) → solicits row.1 ≡ false → Paired start c → Paired start (row ∷ c)
  paired_plain row c plain p = record { each = by_place }
    where
      by_place : (m key : ℕ) (below : Chronicle) → Past ((m, Address key addresses.Solicited) ∷ below) (row ∷ c) → Past (solicited_with start m key below) (row ∷ c)
      by_place m key below (inl e) = absurd (not_plain m key below row c plain e)
      by_place m key below (inr q) = inr (p.each m key below q)

  paired_newer : (at : ℕ) (newer c : Chronicle) → AllAt at newer → Paired start c → Paired start (newer ++ c)
  paired_newer at [] c all p = p
  paired_newer at (row ∷ newer) c all p = paired_plain row (newer ++ c) all.1 (paired_newer at newer c all.2 p)

  paired_grows : {at : ℕ} {c d : Chronicle} → GrowsAt at c d → Paired start c → Paired start d
  paired_grows {at = at} {c = c} g p = subst (λ (x : Chronicle). Paired start x) (sym g.all) (paired_newer at g.newer c g.each p)

  paired_solicits : (at key : ℕ) (c : Chronicle) → Paired start c → Paired start (solicited_with start at key c)
  paired_solicits at key c p = record { each = by_place }
    where
      by_place : (m k : ℕ) (below : Chronicle) → Past ((m, Address k addresses.Solicited) ∷ below) (solicited_with start at key c) → Past (solicited_with start m k below) (solicited_with start at key c)
      by_place m k below (inl e) = absurd (not_plain m k below (at, Sent (detection_frame start.mac (addr_at key))) ((at, Address key addresses.Solicited) ∷ c) refl e)
      by_place m k below (inr (inl e)) = inl (ap with_frame e)
      by_place m k below (inr (inr q)) = inr (inr (p.each m k below q))

  paired_comes : (at : ℕ) (what : What) (c : Chronicle) → Paired start c → Paired start (comes start at what c)
  paired_comes at (RouterEnds key) c p = paired_grows (grows_by {at = at} _ refl (stays at c)) p
  paired_comes at (AddressFalls (addresses_due.Ends key)) c p = paired_grows (grows_by {at = at} _ refl (stays at c)) p
  paired_comes at (AddressFalls (addresses_due.Solicits key)) c p = paired_solicits at key c p
  paired_comes at (AddressFalls (addresses_due.Assigns key)) c p = paired_grows (grows_by {at = at} _ refl (stays at c)) p
  paired_comes at (NeighbourFalls falls) c p = paired_grows (neighbour_grows at start falls c (stays at c)) p
  paired_comes at RoutersSolicited c p = paired_grows (grows_by {at = at} _ refl (grows_by _ refl (stays at c))) p
  paired_comes at RouterAdvertises c p = paired_grows (advertising_grows at start (advertised_by (advertising_history start c)) c (stays at c)) p
  paired_comes at Redraws c p = paired_grows (grows_by {at = at} _ refl (stays at c)) p

  paired_walk : {c d : Chronicle} {m n : ℕ} → Walk start c m n d → Paired start c → Paired start d
  paired_walk (over lt) p = p
  paired_walk {c = c} {m = m} (adds what le due w) p = paired_walk w (paired_comes m what c p)
  paired_walk (passes le due w) p = paired_walk w p

  paired_follows : (t : Bool) (c : Chronicle) (now last : ℕ) (event : Event) (d : Chronicle) → Paired start c
      → MatchBool t (d ≡ (now, TooLate last) ∷ c) ((e : Chronicle) × Walk start c last now e × EventAdds start now event ((now, Passed) ∷ e) d) → Paired start d
  paired_follows true c now last event d p h = subst (λ (x : Chronicle). Paired start x) (sym h) (paired_plain (now, TooLate last) c refl p)
  paired_follows false c now last event d p h =
      paired_grows (event_grows start now ((now, Passed) ∷ h.0) event d h.2) (paired_plain (now, Passed) h.0 refl (paired_walk h.1 p))

  paired_runs : (history : List (ℕ × Event)) (c d : Chronicle) → Runs start c history d → Paired start c → Paired start d
  paired_runs [] c d h p = subst (λ (x : Chronicle). Paired start x) (sym h) p
  paired_runs (event ∷ history) c d h p =
      paired_runs history h.0 d h.2 (paired_follows (nat_lt event.0 (last_moment start.at c)) c event.0 (last_moment start.at c) event.1 h.0 p h.1)

  none_paired : Paired start []
  none_paired = record { each = λ m key below e. absurd (let no : ⊥ = cc in no) }

  pub all_paired : (history : List (ℕ × Event)) (c : Chronicle) → Runs start (beginning start) history c → Paired start c
  all_paired history c h = paired_runs history (beginning start) c h (paired_plain _ _ refl (paired_plain _ _ refl (paired_plain _ _ refl none_paired)))
