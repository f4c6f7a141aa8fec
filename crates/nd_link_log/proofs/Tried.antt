-- How a node came to hold an address, in the log.
use Rattle.std.proofs.Common.{◌≡◌, inr, ℕ, ◌+◌, ◌≤◌, ◌<◌, false, List, [], ◌∷◌, length, Option, refl, sym, ◌∙◌, ap, subst, arith, ⊎_elim}
use Rattle.std.proofs.lemmas.Bool.{or_right}
use Rattle.nd_addr.specs.Number.{addr_at}
use Rattle.nd_addr.proofs.Numbered.{sixteen}
use Rattle.nd_table.specs.History.{Past}
use Rattle.nd_table.proofs.Pasts.{all_before, past_linear, past_self, past_tail, past_then, past-length}
use Rattle.nd_compose.specs.Frames.{detection_frame}
use Rattle.nd_compose.proofs.Meant.{detection_sent}
use Rattle.nd_slaac.specs.History.{Assigned, Formed, Lifetimes, Solicited}
use Rattle.nd_slaac.specs.MayCome.{IsHistory}
use Rattle.nd_slaac.specs.State as states
use Rattle.nd_chronicle.specs.Start.{Start}
use Rattle.nd_chronicle.specs.Happening.{Address, Chronicle, Happening, Sent}
use Rattle.nd_chronicle.specs.Histories.{address_history}
use Rattle.nd_chronicle.specs.OwnAddress.{story_of}
use Rattle.nd_chronicle.specs.Places.{HeldInRows, formed_with, solicited_with}
use Rattle.nd_chronicle.proofs.Grounded.{own_known}
use Rattle.nd_chronicle.proofs.Holding.{tried_in_rows}
use Rattle.nd_chronicle.proofs.OwnKeys.{IsUsable, own_usable}
use Rattle.nd_chronicle.proofs.Pasts.{all_paired, history_past}
use Rattle.nd_chronicle.proofs.Tried.{rows_may_come}
use Rattle.nd_link_log.specs.Log.{Log, Adds, chronicle_of}
use Rattle.nd_link_log.specs.Holding.{Holds}
use Rattle.nd_link_log.specs.Attempt.{Attempt, Solicitation, Tries, beginning_of, formed_entry}
use Rattle.nd_link_log.specs.Sound.{Tried}
use Rattle.nd_link_log.proofs.Chronicles.{Lifted, lift, own_row, past_of, what_in_front}
use Rattle.nd_link_log.proofs.Lives.{Lives}

-- ---- places

-- of two places of one length each is the other
same_length : (a b c : Chronicle) → Past a c → Past b c → length a ≡ length b → a ≡ b
same_length a b c p q e = ⊎_elim (λ under. is_it a b under e) (λ above. sym (is_it b a above (sym e))) (past_linear a b c p q)
  where
    is_it : (x y : Chronicle) → Past x y → length x ≡ length y → x ≡ y
    is_it x [] r same = r
    is_it x (row ∷ y) r same = ⊎_elim (λ here. here) (λ below. absurd (let le = past-length x y below in omega (arith, le, same))) r

frame_in : (at : ℕ) (frame other : List ℕ) (c : Chronicle) → (at, Sent frame) ∷ c ≡ (at, Sent other) ∷ c → frame ≡ other
frame_in at frame other c e = let same : Sent frame ≡ Sent other = ap what_in_front e in cc

-- a place of the log is above another one where its chronicle is longer
above_by : (node : ℕ) (a b log : Log) → Past a log → Past b log → length (chronicle_of node a) < length (chronicle_of node b) → Past a b
above_by node a b log p q lt = ⊎_elim (λ under. under)
    (λ above. let le = past-length (chronicle_of node b) (chronicle_of node a) (past_of node b a above) in absurd (omega (arith, le, lt))) (past_linear a b log p q)

row_at : (node : ℕ) (e : Log) (at : ℕ) (what : Happening) (below : Log) (c : Chronicle) → chronicle_of node below ≡ c → Past (Adds node at what ∷ below) e
    → Past ((at, what) ∷ c) (chronicle_of node e)
row_at node e at what below c is q =
    subst (λ (x : Chronicle). Past ((at, what) ∷ x) (chronicle_of node e)) is
    (subst (λ (x : Chronicle). Past x (chronicle_of node e)) (own_row node at what below) (past_of node (Adds node at what ∷ below) e q))

module _ (Bytes : Type 0) (b : Bytes) (log : Log) (node : ℕ) (start : Start) (last : ℕ) (l : Lives Bytes start (chronicle_of node log) last) (key : ℕ) where
  module _ (d : Log) (p : Past d log) (usable : IsUsable key) (h : HeldInRows start key (chronicle_of node d)) where
    assignment : Lifted node h.assigned (Address key Assigned) h.over d
    assignment = lift node h.assigned (Address key Assigned) h.over d h.assigned_at

    abbrev formed_row : Chronicle
    formed_row = formed_with h.formed key h.delay h.retrans h.lifetimes h.below

    forming : Lifted node h.formed (Address key (Formed h.delay h.retrans h.lifetimes)) h.below assignment.below
    forming = lift node h.formed (Address key (Formed h.delay h.retrans h.lifetimes)) h.below assignment.below (subst (Past formed_row) (sym assignment.chronicle_is) h.formed_at)

    abbrev attempt : Attempt node key
    attempt = record {
      formed = h.formed;
      delay = h.delay;
      retrans = h.retrans;
      lifetimes = h.lifetimes;
      below = forming.below;
      assigned = h.assigned;
      over = assignment.below;
      formed_at = forming.there;
      trying = λ e q r. h.trying (chronicle_of node e) (subst (Past (chronicle_of node e)) assignment.chronicle_is (past_of node e assignment.below q))
          (row_at node e h.formed (Address key (Formed h.delay h.retrans h.lifetimes)) forming.below h.below forming.chronicle_is r);
    }

    abbrev det : List ℕ
    det = detection_frame start.mac (addr_at key)

    begun : chronicle_of node (beginning_of attempt) ≡ formed_row
    begun = own_row node h.formed (Address key (Formed h.delay h.retrans h.lifetimes)) forming.below ∙ ap (λ (c : Chronicle). (h.formed, Address key (Formed h.delay h.retrans h.lifetimes)) ∷ c) forming.chronicle_is

    -- its last solicitation
    last_one : (at : ℕ) × (frame : List ℕ) × (earlier : Log) × Solicitation attempt at frame earlier
    last_one =
        let some = l.transmits b in
        let s = h.solicited 1 (omega arith) (omega (arith, some)) in
        let f = lift node s.0 (Sent det) ((s.0, Address key Solicited) ∷ s.1) assignment.below (subst (Past (solicited_with start s.0 key s.1)) (sym assignment.chronicle_is) s.3) in
        let below : Past f.below assignment.below = past_then f.below (Adds node s.0 (Sent det) ∷ f.below) assignment.below (inr (past_self f.below)) f.there in
        let le = past-length formed_row s.1 s.4 in
        let first = ap length begun in
        let second = ap length f.chronicle_is in (
          s.0,
          det,
          f.below,
          record {
            rest = s.1;
            row = f.chronicle_is;
            sends = f.there;
            since = above_by node (beginning_of attempt) f.below assignment.below forming.there below (omega (arith, le, first, second));
          },
        )

    -- each tries the address, and was sent early enough
    each_one : (at : ℕ) (frame : List ℕ) (earlier : Log) → Solicitation attempt at frame earlier → Tries key frame × (at + h.retrans ≤ h.assigned)
    each_one at frame earlier s =
        let whole : Chronicle = chronicle_of node log in
        let sending : Past ((at, Sent frame) ∷ (at, Address key Solicited) ∷ s.rest) h.over =
        subst (Past ((at, Sent frame) ∷ (at, Address key Solicited) ∷ s.rest)) assignment.chronicle_is (row_at node assignment.below at (Sent frame) earlier ((at, Address key Solicited) ∷ s.rest) s.row s.sends) in
        let over_whole : Past h.over whole = past_then h.over (chronicle_of node d) whole (past_then h.over ((h.assigned, Address key Assigned) ∷ h.over) (chronicle_of node d) (inr (past_self h.over)) h.assigned_at) (past_of node d log p) in
        let row : Past ((at, Address key Solicited) ∷ s.rest) h.over = past_tail (at, Sent frame) ((at, Address key Solicited) ∷ s.rest) h.over sending in
        let paired : Past (solicited_with start at key s.rest) whole = (all_paired start l.events whole l.runs).each at key s.rest (past_then _ h.over whole row over_whole) in
        let same = same_length ((at, Sent frame) ∷ (at, Address key Solicited) ∷ s.rest) (solicited_with start at key s.rest) whole (past_then _ h.over whole sending over_whole) paired refl in
        let is : frame ≡ det = frame_in at frame det ((at, Address key Solicited) ∷ s.rest) same in
        let since : Past formed_row ((at, Address key Solicited) ∷ s.rest) =
        subst (Past formed_row) s.row (row_at node earlier h.formed (Address key (Formed h.delay h.retrans h.lifetimes)) forming.below h.below forming.chronicle_is s.since) in
        let below : Past formed_row s.rest = ⊎_elim (λ here. absurd (let same : Address key (Formed h.delay h.retrans h.lifetimes) ≡ Address key Solicited = ap what_in_front here in let no : ⊥ = cc in no)) (λ under. under) since in
        (subst (Tries key) (sym is) (addr_at key, usable.number, detection_sent start.mac (l.mac b) (addr_at key) (sixteen key)), h.each at s.rest row below)

    in_log : Tried node key d
    in_log = record {
      attempt = attempt;
      ended = assignment.there;
      solicited = last_one;
      each = each_one;
      since = λ e q r. h.since (chronicle_of node e) (past_of node e d q) (row_at node e h.assigned (Address key Assigned) assignment.below h.over assignment.chronicle_is r);
    }

  pub tried : (d : Log) → Past d log → Holds node key d → Tried node key d
  tried d p holds =
      let place = past_of node d log p in
      in_log d p
      (own_usable start (l.mac b) l.events (chronicle_of node log) (chronicle_of node d) key (l.bytes b) l.runs place (own_known (story_of (chronicle_of node d) key) (or_right _ _ holds)))
      (tried_in_rows start l.events (chronicle_of node log) l.runs (chronicle_of node d) place key holds)

-- an address is formed where it isn't known
module _ (Bytes : Type 0) (log : Log) (node : ℕ) (start : Start) (last : ℕ) (l : Lives Bytes start (chronicle_of node log) last) where
  pub formed_unknown : (key at delay retrans : ℕ) (lifetimes : Option Lifetimes) (below : Log) → Past (formed_entry node key at delay retrans lifetimes ∷ below) log
      → states.is_known (story_of (chronicle_of node below) key) ≡ false
  formed_unknown key at delay retrans lifetimes below p =
      let c : Chronicle = chronicle_of node below in
      let place = row_at node log at (Address key (Formed delay retrans lifetimes)) below c refl p in
      (all_before (IsHistory start.transmits) (λ row h all. all.1) ((at, key, Formed delay retrans lifetimes) ∷ address_history c) (address_history (chronicle_of node log))
      (history_past ((at, Address key (Formed delay retrans lifetimes)) ∷ c) (chronicle_of node log) place) (rows_may_come start l.events (chronicle_of node log) l.runs)).0.0
