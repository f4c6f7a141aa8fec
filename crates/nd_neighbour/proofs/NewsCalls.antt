-- What news do to the table that stands for the history, and what is reported of them.
use Rattle.std.proofs.Common.{◌≡◌, ℕ, Bool, true, false, cond, eqb, ltb, List, [], ◌∷◌, Option, Some, None, refl, sym, ◌∙◌, ap, ◌≤◌, length, arith}
use Rattle.std.specs.Prelude.{◌&&◌, not, is_some}
use Rattle.std.proofs.lemmas.Bool.{cond-true, cond-false}
use Rattle.nd_neighbour.specs.declared.news.Flags.{Flags}
use Rattle.nd_neighbour.specs.History.{RowKind, Given, Advertised, Marked, Confirmed, Row, Story, story}
use Rattle.nd_neighbour.specs.EntryKept.{NeighbourEntry, Stage, Resolving, Known, with_mark, stale_entry, is_wanted, known_mac, waiting_in}
use Rattle.nd_neighbour.specs.LinkLayerAddressKept.{given, given_to, mark_or}
use Rattle.nd_neighbour.specs.ReachabilityConfirmation.{Evidence}
use Rattle.nd_neighbour.specs.ReachabilityConfirmationKept.{confirmed, confirmed_to}
use Rattle.nd_neighbour.specs.NeighborAdvertisementKept.{advertised, advertised_to, conforming}
use Rattle.nd_neighbour.specs.AddressResolution.{Resolution, resolution_of, wanted_in, waiting_of}
use Rattle.nd_neighbour.specs.UnreachabilityDetection.{Use}
use Rattle.nd_neighbour.specs.Story.{awaited_by, is_awaited, is_present, mac_of, is_router, evidence_of, use_of, waits_by, waits_of}
use Rattle.nd_neighbour.specs.StoryKept.{stage_by, the_entry, entry_of}
use Rattle.nd_neighbour.specs.TableKept.{address, entry_in, Stands, GainsRow, Alters, NotThere, There}
use Rattle.nd_neighbour.specs.Place.{Prepares, MakesPlace}
use Rattle.nd_neighbour.specs.PlaceKept.{Gives, Was, Came}
use Rattle.nd_neighbour.specs.News.{released_by, ends_router}
use Rattle.nd_neighbour.specs.NewsKept.{Tells, told_released, told_turned, was_wanted}
use Rattle.nd_neighbour.specs.Removal.{waiting_at}
use Rattle.nd_neighbour.proofs.Stories.{absent_router}
use Rattle.nd_neighbour.proofs.Changes.{when_given, when_advertised, when_marked, when_confirmed, first_given}
use Rattle.nd_neighbour.proofs.Steps.{changing, entering, entry_present, entry_absent}
use Rattle.nd_table.proofs.Keyed.{key_is}
use Rattle.nd_neighbour.proofs.Dues.{known_by}
use Rattle.nd_neighbour.proofs.Entering.{altered_gains, place_made}

pub keys_of : (b : Bool) (m o n : NeighbourEntry) → m.key ≡ n.key → o.key ≡ n.key → (cond b m o).key ≡ n.key
keys_of true m o n h k = h
keys_of false m o n h k = k

pub given_key : (at mac : ℕ) (mark : Option Bool) (n : NeighbourEntry) (k : Stage) → (given_to k n at mac (mark_or mark n.router)).key ≡ n.key
given_key at mac mark n (Resolving r t b ws) = refl
given_key at mac mark n (Known known c since p) = keys_of (eqb mac known) _ _ n refl refl

conforming_key : (flags : Flags) (at reachable mac : ℕ) (changed : Bool) (n : NeighbourEntry) → (conforming flags at reachable mac changed n).key ≡ n.key
conforming_key flags at reachable mac changed n = keys_of flags.solicited _ _ n refl (keys_of changed _ _ n refl refl)

pub advertised_key : (flags : Flags) (mac : Option ℕ) (at reachable : ℕ) (n : NeighbourEntry) (k : Stage) → (advertised_to k flags mac at reachable n).key ≡ n.key
advertised_key flags None at reachable n (Resolving r t b ws) = refl
advertised_key flags (Some mac) at reachable n (Resolving r t b ws) = conforming_key flags at reachable mac true n
advertised_key flags None at reachable n (Known known c since p) = conforming_key flags at reachable known false n
advertised_key flags (Some mac) at reachable n (Known known c since p) =
    keys_of (eqb mac known) _ _ n (conforming_key flags at reachable known false n)
    (keys_of flags.overrides _ _ n (conforming_key flags at reachable mac true n) (keys_of (c && ltb at since) _ _ n refl refl))

pub confirmed_key : (at reachable : ℕ) (n : NeighbourEntry) (k : Stage) → (confirmed_to k at reachable n).key ≡ n.key
confirmed_key at reachable n (Resolving r t b ws) = refl
confirmed_key at reachable n (Known mac c since p) = refl

pub advertised_gains : (key at : ℕ) (flags : Flags) (mac : Option ℕ) (reachable : ℕ) (old new : List NeighbourEntry) → Alters key (λ n. advertised at flags mac reachable n) old new → GainsRow old new (at, key, Advertised flags mac reachable)
advertised_gains key at flags mac reachable old new a =
    altered_gains key at (Advertised flags mac reachable) (λ n. advertised at flags mac reachable n) old new refl
    (λ n. advertised_key flags mac at reachable n n.stage) (λ s p. when_advertised key at s p flags mac reachable) (λ s p. p) a

pub marked_gains : (key at : ℕ) (router : Bool) (old new : List NeighbourEntry) → Alters key (λ n. with_mark router n) old new → GainsRow old new (at, key, Marked router)
marked_gains key at router old new a =
    altered_gains key at (Marked router) (λ n. with_mark router n) old new refl (λ n. refl) (λ s p. when_marked key at s p router) (λ s p. p) a

pub confirmed_gains : (key at reachable : ℕ) (old new : List NeighbourEntry) → Alters key (λ n. confirmed at reachable n) old new → GainsRow old new (at, key, Confirmed reachable)
confirmed_gains key at reachable old new a =
    altered_gains key at (Confirmed reachable) (λ n. confirmed at reachable n) old new refl
    (λ n. confirmed_key at reachable n n.stage) (λ s p. when_confirmed key at s p reachable) (λ s p. p) a

altered_there : (key at mac : ℕ) (mark : Option Bool) (old new : List NeighbourEntry) (n : NeighbourEntry) → entry_in key old ≡ Some n → Alters key (λ n. given at mac mark n) old new → GainsRow old new (at, key, Given mac mark)
altered_there key at mac mark old new n found (There i m lt is there new_is) =
    let m_key : m.key ≡ key = key_is address key old m there in
    changing old new key at (Given mac mark) i m (given at mac mark m) refl lt is there (given_key at mac mark m m.stage ∙ m_key) m_key new_is
    (λ s p known. when_given key at s p mac mark ∙ ap (λ (x : NeighbourEntry). Some (given at mac mark x)) (sym known))
altered_there key at mac mark old new n found (NotThere none new_is) = let e : Some n ≡ None = sym found ∙ none in absurd (cc)

-- nothing has to make room for a neighbour that is there
pub no_place_needed : (limit now key : ℕ) (enters : Bool) (history : List Row) → is_present (story key history) ≡ true → Prepares limit now enters key history history
no_place_needed limit now key true history p = rw p refl
no_place_needed limit now key false history p = refl

-- one that isn't gets its place
pub place_needed : (limit now key : ℕ) (history made : List Row) → is_present (story key history) ≡ false → MakesPlace limit now history made → Prepares limit now true key history made
place_needed limit now key history made p m = rw p m

-- whatever history old stands for, new stands for it with an address that is given
pub given_hears : (limit now key mac : ℕ) (mark : Option Bool) (old new : List NeighbourEntry) → Gives limit now key (λ n. given now mac mark n) (stale_entry key (mark_or mark false) now mac) old new → (history : List Row) → Stands old history → (made : List Row) × Prepares limit now true key history made × Stands new ((now, key, Given mac mark) ∷ made)
given_hears limit now key mac mark old new (Was n found a) history s =
    let known = entry_present key (story key history) n (sym (s.each key) ∙ found) in
    let gains : GainsRow old new (now, key, Given mac mark) =
    altered_there key now mac mark old new n found a in
    (history, no_place_needed limit now key true history known.0, gains.stands history s)
given_hears limit now key mac mark old new (Came mid none places is) history s =
    let gone = entry_absent key (story key history) (sym (s.each key) ∙ none) in
    let place = place_made limit now key old mid history s none places in
    let gains : GainsRow mid new (now, key, Given mac mark) =
    entering mid new key now (Given mac mark) (stale_entry key (mark_or mark false) now mac) refl place.3 refl is (λ story' absent. first_given key now story' absent mac mark) in
    (place.0, place_needed limit now key history place.0 gone place.1, gains.stands place.0 place.2)

waiting_by : (mac : Option ℕ) (w : Option Evidence) (u : Option Use) (r : Option Resolution) (ws : List (List ℕ)) → waiting_in (stage_by mac w u r ws) ≡ waits_by mac ws
waiting_by None w u r ws = refl
waiting_by (Some mac) w u r ws = refl

-- what waits at an entry is what waits by its story
pub entry_waits : (key : ℕ) (s : Story) (n : NeighbourEntry) → is_present s ≡ true → n ≡ the_entry key s → waiting_in n.stage ≡ waits_of s
entry_waits key s n p is =
    ap (λ (m : NeighbourEntry). waiting_in m.stage) is ∙ (waiting_by (mac_of s) (evidence_of s) (use_of s) (resolution_of s) (waiting_of s)
    ∙ sym (cond-true (is_present s) (waits_by (mac_of s) (waiting_of s)) [] p))

pub none_waits : (s : Story) → is_present s ≡ false → waits_of s ≡ []
none_waits s p = cond-false (is_present s) (waits_by (mac_of s) (waiting_of s)) [] p

awaited_by_stage : (mac : Option ℕ) (w : Option Evidence) (u : Option Use) (r : Option Resolution) (ws : List (List ℕ)) → is_wanted (stage_by mac w u r ws) ≡ awaited_by mac (wanted_in r)
awaited_by_stage None w u r ws = refl
awaited_by_stage (Some mac) w u r ws = refl

-- whether a caller waits is what the history says
awaits_by : (key : ℕ) (s : Story) (o : Option NeighbourEntry) → o ≡ entry_of key s → was_wanted o ≡ is_awaited s
awaits_by key s None is = sym (ap (λ b. b && awaited_by (mac_of s) (wanted_in (resolution_of s))) (entry_absent key s (sym is)))
awaits_by key s (Some n) is =
    let known = entry_present key s n (sym is) in
    ap (λ (m : NeighbourEntry). is_wanted m.stage) known.1
    ∙ (awaited_by_stage (mac_of s) (evidence_of s) (use_of s) (resolution_of s) (waiting_of s)
    ∙ sym (ap (λ b. b && awaited_by (mac_of s) (wanted_in (resolution_of s))) known.0))

cond_same : {X : Type 0} (b : Bool) (x : X) → cond b x x ≡ x
cond_same true x = refl
cond_same false x = refl

-- what is reported of a change is what the history says
module _ (key at : ℕ) (h : RowKind) (change : NeighbourEntry → NeighbourEntry) (old : List NeighbourEntry) (makes : (s : Story) → is_present s ≡ true → entry_of key ((at, h) ∷ s) ≡ Some (change (the_entry key s))) where
  changed_entry : (s : Story) → is_present s ≡ true → change (the_entry key s) ≡ the_entry key ((at, h) ∷ s)
  changed_entry s p = (entry_present key ((at, h) ∷ s) (change (the_entry key s)) (makes s p)).1

  releases_by : (s : Story) (o : Option NeighbourEntry) → o ≡ entry_of key s → told_released change o ≡ released_by at h s
  releases_by s None is =
      sym (ap (λ (l : List (List ℕ)). cond (is_some (mac_of ((at, h) ∷ s))) l []) (none_waits s (entry_absent key s (sym is))) ∙ cond_same (is_some (mac_of ((at, h) ∷ s))) [])
  releases_by s (Some n) is =
      let known = entry_present key s n (sym is) in
      let after : change n ≡ the_entry key ((at, h) ∷ s) = ap change known.1 ∙ changed_entry s known.0 in
      let mac : known_mac (change n).stage ≡ mac_of ((at, h) ∷ s) =
      ap (λ (m : NeighbourEntry). known_mac m.stage) after ∙ known_by (mac_of ((at, h) ∷ s)) (evidence_of ((at, h) ∷ s)) (use_of ((at, h) ∷ s)) (resolution_of ((at, h) ∷ s)) (waiting_of ((at, h) ∷ s)) in
      ap (λ (m : Option ℕ). cond (is_some m) (waiting_in n.stage) []) mac
      ∙ ap (λ (l : List (List ℕ)). cond (is_some (mac_of ((at, h) ∷ s))) l []) (entry_waits key s n known.0 known.1)

  turns_by : (s : Story) (o : Option NeighbourEntry) → o ≡ entry_of key s → told_turned change o ≡ ends_router at h s
  turns_by s None is = sym (ap (λ b. b && not (is_router ((at, h) ∷ s))) (absent_router s (entry_absent key s (sym is))))
  turns_by s (Some n) is =
      let known = entry_present key s n (sym is) in
      let after : change n ≡ the_entry key ((at, h) ∷ s) = ap change known.1 ∙ changed_entry s known.0 in
      ap (λ (m : NeighbourEntry). m.router && not (change n).router) known.1 ∙ ap (λ (m : NeighbourEntry). is_router s && not m.router) after

  pub tells_by : (packets : List (List ℕ)) (turned awaited : Bool) → packets ≡ told_released change (entry_in key old) → turned ≡ told_turned change (entry_in key old) → awaited ≡ was_wanted (entry_in key old) → Tells at key h old packets turned awaited
  tells_by packets turned awaited p t a = record {
    released = λ history s. p ∙ releases_by (story key history) (entry_in key old) (s.each key);
    awaited_is = λ history s. a ∙ awaits_by key (story key history) (entry_in key old) (s.each key);
    turned_is = λ history s. t ∙ turns_by (story key history) (entry_in key old) (s.each key);
  }

pub given_tells : (key at mac : ℕ) (mark : Option Bool) (old : List NeighbourEntry) (packets : List (List ℕ)) (turned awaited : Bool) → packets ≡ told_released (λ n. given at mac mark n) (entry_in key old) → turned ≡ told_turned (λ n. given at mac mark n) (entry_in key old) → awaited ≡ was_wanted (entry_in key old) → Tells at key (Given mac mark) old packets turned awaited
given_tells key at mac mark old packets turned awaited = tells_by key at (Given mac mark) (λ n. given at mac mark n) old (λ s p. when_given key at s p mac mark) packets turned awaited

pub advertised_tells : (key at : ℕ) (flags : Flags) (mac : Option ℕ) (reachable : ℕ) (old : List NeighbourEntry) (packets : List (List ℕ)) (turned awaited : Bool) → packets ≡ told_released (λ n. advertised at flags mac reachable n) (entry_in key old) → turned ≡ told_turned (λ n. advertised at flags mac reachable n) (entry_in key old) → awaited ≡ was_wanted (entry_in key old) → Tells at key (Advertised flags mac reachable) old packets turned awaited
advertised_tells key at flags mac reachable old packets turned awaited = tells_by key at (Advertised flags mac reachable) (λ n. advertised at flags mac reachable n) old (λ s p. when_advertised key at s p flags mac reachable) packets turned awaited

pub marked_tells : (key at : ℕ) (router : Bool) (old : List NeighbourEntry) (packets : List (List ℕ)) (turned awaited : Bool) → packets ≡ told_released (λ n. with_mark router n) (entry_in key old) → turned ≡ told_turned (λ n. with_mark router n) (entry_in key old) → awaited ≡ was_wanted (entry_in key old) → Tells at key (Marked router) old packets turned awaited
marked_tells key at router old packets turned awaited = tells_by key at (Marked router) (λ n. with_mark router n) old (λ s p. when_marked key at s p router) packets turned awaited

few_by : (known : Bool) (waiting packets : List (List ℕ)) → packets ≡ cond known waiting [] → length packets ≤ length waiting
few_by true waiting packets is = let e = ap length is in omega (arith, e)
few_by false waiting packets is = let e = ap length is in omega (arith, e)

-- no more is released than waited
pub few_released : (change : NeighbourEntry → NeighbourEntry) (o : Option NeighbourEntry) (packets : List (List ℕ)) → packets ≡ told_released change o → length packets ≤ length (waiting_at o)
few_released change None packets is = let e = ap length is in omega (arith, e)
few_released change (Some n) packets is = few_by (is_some (known_mac (change n).stage)) (waiting_in n.stage) packets is
