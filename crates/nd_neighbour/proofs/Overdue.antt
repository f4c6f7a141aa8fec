-- Nothing that happens to a neighbour is due in the past.
use Rattle.std.proofs.Common.{◌≡◌, ℕ, ◌+◌, ◌≤◌, Bool, true, false, cond, eqb, leb, List, [], ◌∷◌, Option, Some, None, refl, sym, ◌∙◌, ap, subst, arith, inl, inr}
use Rattle.std.specs.Prelude.{is_some, not}
use Rattle.std.proofs.lemmas.Bool.{true≢false, cond_both, cases_Bool}
use Rattle.nd_table.specs.DueKept.{NotBefore}
use Rattle.nd_neighbour.specs.declared.news.Flags.{Flags}
use Rattle.nd_neighbour.specs.AddressResolution.{Resolution, resolution_due, resolution_of}
use Rattle.nd_neighbour.specs.Due.{IsDue, NextDue, NoneOverdue}
use Rattle.nd_neighbour.specs.DueKept.{NoneBefore, next_in}
use Rattle.nd_neighbour.specs.EntryKept.{NeighbourEntry}
use Rattle.nd_neighbour.specs.History.{Advertised, Asked, Confirmed, Forgot, Given, Marked, Probed, Row, RowKind, Solicited, Story, Used, Waits, Wanted, is_end, story}
use Rattle.nd_neighbour.specs.NeighborAdvertisement.{advert_says, conforms, given_changes, taken}
use Rattle.nd_neighbour.specs.ReachabilityConfirmation.{Confirms, Disturbs, Evidence, holds, since}
use Rattle.nd_neighbour.specs.Story.{due_by, due_of, is_present, mac_of, or_else, says, use_of, evidence_of}
use Rattle.nd_neighbour.specs.TableKept.{Stands}
use Rattle.nd_neighbour.specs.UnreachabilityDetection.{Use, goes_on, reach_due}
use Rattle.nd_neighbour.proofs.Stories.{absent_mac, wish_due}
use Rattle.nd_neighbour.proofs.Dues.{next_is_due}

-- what is said at a moment disturbs from then on, or confirms beyond it
abbrev SaidAt : ℕ → Option Evidence → Type 0
SaidAt now None = Unit {0}
SaidAt now (Some evidence) = now ≤ since evidence

advert_by : (now reachable : ℕ) (conforming solicited changing held : Bool) → SaidAt now (cond conforming (cond solicited (Some (Confirms now reachable)) (cond changing (Some (Disturbs now)) None)) (cond held (Some (Disturbs now)) None))
advert_by now reachable true true changing held = omega arith
advert_by now reachable true false true held = omega arith
advert_by now reachable true false false held = tt
advert_by now reachable false solicited changing true = omega arith
advert_by now reachable false solicited changing false = tt

module _ (now : ℕ) where
  -- where something is said, the dates begin anew, and else they stay
  reach_later : (said w : Option Evidence) (u v : Option Use) → SaidAt now said → v ≡ u → now ≤ reach_due w u → now ≤ reach_due (or_else said w) (cond (is_some said) None v)
  reach_later None w u v at same le = rw same le
  reach_later (Some evidence) w u v at same le = omega arith

  goes_same : (w : Option Evidence) (u : Option Use) (mac : ℕ) (mark : Option Bool) → goes_on w u now (Given mac mark) ≡ u
  goes_same w None mac mark = refl
  goes_same w (Some u) mac mark = refl

  advertised_same : (w : Option Evidence) (u : Option Use) (flags : Flags) (mac : Option ℕ) (reachable : ℕ) → goes_on w u now (Advertised flags mac reachable) ≡ u
  advertised_same w None flags mac reachable = refl
  advertised_same w (Some u) flags mac reachable = refl

  given_later : (mac : ℕ) (mark : Option Bool) (known : Option ℕ) (w : Option Evidence) (u : Option Use) (r : Option Resolution) → (is_some known ≡ true → now ≤ due_by known w u r)
      → let said = says true known w now (Given mac mark) in now ≤ due_by (Some mac) (or_else said w) (cond (is_some said) None (goes_on w u now (Given mac mark))) r
  given_later mac mark None w u r le = omega arith
  given_later mac mark (Some known) w u r le =
      reach_later (says true (Some known) w now (Given mac mark)) w u (goes_on w u now (Given mac mark)) (said (eqb mac known)) (goes_same w u mac mark) (le refl)
    where
      said : (same : Bool) → SaidAt now (cond (not same) (Some (Disturbs now)) None)
      said true = tt
      said false = omega arith

  advertised_later : (flags : Flags) (mac : Option ℕ) (reachable : ℕ) (known : Option ℕ) (w : Option Evidence) (u : Option Use) (r : Option Resolution) → now ≤ due_by known w u r
      → let said = advert_says flags mac reachable known w now in now ≤ due_by (taken flags.overrides mac known) (or_else said w) (cond (is_some said) None (goes_on w u now (Advertised flags mac reachable))) r
  advertised_later flags None reachable None w u r le = le
  advertised_later flags (Some mac) reachable None w u r le = first flags.solicited
    where
      first : (solicited : Bool) → let said : Option Evidence = cond solicited (Some (Confirms now reachable)) (Some (Disturbs now)) in now ≤ reach_due (or_else said w) (cond (is_some said) None (goes_on w u now (Advertised flags (Some mac) reachable)))
      first true = omega arith
      first false = omega arith
  advertised_later flags None reachable (Some known) w u r le =
      reach_later (advert_says flags None reachable (Some known) w now) w u _ (advert_by now reachable true flags.solicited false (holds (Some known) w now)) (advertised_same w u flags None reachable) le
  advertised_later flags (Some mac) reachable (Some known) w u r le =
      reach_later (advert_says flags (Some mac) reachable (Some known) w now) w u _ (advert_by now reachable (conforms flags.overrides (Some mac) (Some known)) flags.solicited (given_changes (Some mac) (Some known)) (holds (Some known) w now)) (advertised_same w u flags (Some mac) reachable) le

  marked_later : (router : Bool) (known : Option ℕ) (w : Option Evidence) (u : Option Use) (r : Option Resolution) → now ≤ due_by known w u r → now ≤ due_by known w (goes_on w u now (Marked router)) r
  marked_later router None w u r le = le
  marked_later router (Some known) w None r le = le
  marked_later router (Some known) w (Some u) r le = le

  asked_later : (retrans room : ℕ) (known : Option ℕ) (w : Option Evidence) (u : Option Use) (r : Option Resolution) → (is_some known ≡ true → now ≤ due_by known w u r) → now ≤ due_by known w (goes_on w u now (Asked retrans room)) (Some (record { at = now; retrans = retrans; room = room; more = 0; wanted = false }))
  asked_later retrans room None w u r le = omega arith
  asked_later retrans room (Some known) w None r le = le refl
  asked_later retrans room (Some known) w (Some u) r le = le refl

  waits_later : (packet : List ℕ) (known : Option ℕ) (w : Option Evidence) (u : Option Use) (r : Option Resolution) → now ≤ due_by known w u r → now ≤ due_by known w (goes_on w u now (Waits packet)) r
  waits_later packet None w u r le = le
  waits_later packet (Some known) w None r le = le
  waits_later packet (Some known) w (Some u) r le = le

  wanted_later : (known : Option ℕ) (w : Option Evidence) (u : Option Use) (s : Story) → now ≤ due_by known w u (resolution_of s) → now ≤ due_by known w (goes_on w u now Wanted) (resolution_of ((now, Wanted) ∷ s))
  wanted_later None w u s le = subst (λ (n : ℕ). now ≤ n) (sym (wish_due (resolution_of s))) le
  wanted_later (Some known) w None s le = le
  wanted_later (Some known) w (Some u) s le = le

  solicited_later : (known : Option ℕ) (w : Option Evidence) (u : Option Use) (s : Story) → now ≤ due_by known w u (resolution_of s) → now ≤ due_by known w (goes_on w u now Solicited) (resolution_of ((now, Solicited) ∷ s))
  solicited_later None w u s le = more (resolution_of s) le
    where
      more : (r : Option Resolution) → now ≤ resolution_due r → now ≤ resolution_due (elim r [ None ↦ None | Some x ↦ Some (record { at = x.at; retrans = x.retrans; room = x.room; more = x.more + 1; wanted = x.wanted }) ])
      more None le = le
      more (Some r) le = omega arith
  solicited_later (Some known) w None s le = le
  solicited_later (Some known) w (Some u) s le = le

  used_later : (retrans : ℕ) (known : Option ℕ) (w : Option Evidence) (u : Option Use) (r : Option Resolution) → now ≤ due_by known w u r → now ≤ due_by known w (goes_on w u now (Used retrans)) r
  used_later retrans None w u r le = le
  used_later retrans (Some known) None None r le = le
  used_later retrans (Some known) (Some evidence) None r le =
      cond_both (leb (since evidence) now) (Some (record { at = now; retrans = retrans; probes = 0 })) None (λ (v : Option Use). now ≤ reach_due (Some evidence) v) (λ _. omega arith) (λ _. le)
  used_later retrans (Some known) w (Some u) r le = le

  probed_later : (known : Option ℕ) (w : Option Evidence) (u : Option Use) (r : Option Resolution) → now ≤ due_by known w u r → now ≤ due_by known w (goes_on w u now Probed) r
  probed_later None w u r le = le
  probed_later (Some known) w None r le = le
  probed_later (Some known) w (Some u) r le = omega arith

  confirmed_later : (reachable : ℕ) (known : Option ℕ) (w : Option Evidence) (u : Option Use) (r : Option Resolution) → now ≤ due_by known w u r
      → let said = says true known w now (Confirmed reachable) in now ≤ due_by known (or_else said w) (cond (is_some said) None (goes_on w u now (Confirmed reachable))) r
  confirmed_later reachable None w u r le = le
  confirmed_later reachable (Some known) w u r le = omega arith

  -- an address is known of a neighbour that is present
  mac_present : (s : Story) → is_some (mac_of s) ≡ true → is_present s ≡ true
  mac_present s h = elim (cases_Bool (is_present s)) [
    | inl p ↦ p
    | inr absent ↦ let e : is_some (mac_of s) ≡ false = ap is_some (absent_mac s absent) in absurd (true≢false (sym h ∙ e))
  ]

  -- in all cases now, what is due for the neighbour isn't due before now
  story_later : (kind : RowKind) (s : Story) → is_end kind ≡ false → (is_present s ≡ true → now ≤ due_of s) → is_present ((now, kind) ∷ s) ≡ true → now ≤ due_of ((now, kind) ∷ s)
  story_later (Given mac mark) s e le p = given_later mac mark (mac_of s) (evidence_of s) (use_of s) (resolution_of s) (λ known. le (mac_present s known))
  story_later (Advertised flags mac reachable) s e le p = rw p (advertised_later flags mac reachable (mac_of s) (evidence_of s) (use_of s) (resolution_of s) (le p))
  story_later (Marked router) s e le p = marked_later router (mac_of s) (evidence_of s) (use_of s) (resolution_of s) (le p)
  story_later (Asked retrans room) s e le p = asked_later retrans room (mac_of s) (evidence_of s) (use_of s) (resolution_of s) (λ known. le (mac_present s known))
  story_later Solicited s e le p = solicited_later (mac_of s) (evidence_of s) (use_of s) s (le p)
  story_later (Waits packet) s e le p = waits_later packet (mac_of s) (evidence_of s) (use_of s) (resolution_of s) (le p)
  story_later Wanted s e le p = wanted_later (mac_of s) (evidence_of s) (use_of s) s (le p)
  story_later (Used retrans) s e le p = used_later retrans (mac_of s) (evidence_of s) (use_of s) (resolution_of s) (le p)
  story_later Probed s e le p = probed_later (mac_of s) (evidence_of s) (use_of s) (resolution_of s) (le p)
  story_later (Confirmed reachable) s e le p = confirmed_later reachable (mac_of s) (evidence_of s) (use_of s) (resolution_of s) (le p)
  story_later (Forgot why) s e le p = absurd (true≢false e)

-- what happens now makes nothing due in the past
pub still_none : (history : List Row) (now key : ℕ) (kind : RowKind) → NoneOverdue history now → NoneOverdue ((now, key, kind) ∷ history) now
still_none history now key kind none = record {
  none = λ moment k. cond_both (eqb key k) (cond (is_end kind) [] ((now, kind) ∷ story k history)) (story k history)
      (λ (s : Story). (is_present s ≡ true) × (due_of s ≡ moment) → now ≤ moment) (λ _. mine moment k) (λ _ due. none.none moment k due);
}
  where
    later : (moment k : ℕ) → is_end kind ≡ false → (is_present ((now, kind) ∷ story k history) ≡ true) × (due_of ((now, kind) ∷ story k history) ≡ moment) → now ≤ moment
    later moment k e due = subst (λ (m : ℕ). now ≤ m) due.1 (story_later now kind (story k history) e (λ p. none.none (due_of (story k history)) k (p, refl)) due.0)

    mine : (moment k : ℕ) → (is_present (cond (is_end kind) [] ((now, kind) ∷ story k history)) ≡ true) × (due_of (cond (is_end kind) [] ((now, kind) ∷ story k history)) ≡ moment) → now ≤ moment
    mine moment k = cond_both (is_end kind) [] ((now, kind) ∷ story k history) (λ (s : Story). (is_present s ≡ true) × (due_of s ≡ moment) → now ≤ moment)
        (λ _ due. absurd (true≢false (sym due.0))) (λ e. later moment k e)

-- and the table says so
pub by_table : (entries : List NeighbourEntry) (history : List Row) → Stands entries history → (now : ℕ) → NoneBefore entries now → NoneOverdue history now
by_table entries history s now h = record { none = least (next_in entries) (next_is_due entries history s (next_in entries) refl) h }
  where
    least : (next : Option ℕ) → NextDue history next → NotBefore now next → (moment key : ℕ) → IsDue history moment key → now ≤ moment
    least None due h moment key is = absurd (due moment key is)
    least (Some next) due h moment key is = omega (arith, due.1 moment key is)

pub to_table : (entries : List NeighbourEntry) (history : List Row) → Stands entries history → (now : ℕ) → NoneOverdue history now → NoneBefore entries now
to_table entries history s now none = least (next_in entries) (next_is_due entries history s (next_in entries) refl)
  where
    least : (next : Option ℕ) → NextDue history next → NotBefore now next
    least None due = tt
    least (Some next) due = none.none next due.0.0 due.0.1
