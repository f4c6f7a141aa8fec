-- Which neighbours are resolved is a matter of their link-layer addresses alone, by what happened.
use Rattle.std.proofs.Common.{◌≡◌, ℕ, Bool, true, false, List, [], ◌∷◌, Option, Some, None, refl, sym, ◌∙◌, ap, subst}
use Rattle.std.specs.Prelude.{◌&&◌, not, is_some, ◌==◌, if◌then◌else◌, MatchBool}
use Rattle.std.proofs.lemmas.Bool.{cond-true, cond-false, eqb-true}
use Rattle.nd_neighbour.specs.declared.news.News.{News}
use Rattle.nd_neighbour.specs.declared.news.News.TheVariants as news
use Rattle.nd_neighbour.specs.declared.news.Times.{Times}
use Rattle.nd_neighbour.specs.EntryKept.{NeighbourEntry, Stage, Known, Resolving}
use Rattle.nd_neighbour.specs.History as rows
use Rattle.nd_neighbour.specs.History.{is_end, story}
use Rattle.nd_neighbour.specs.NeighborAdvertisement.{taken}
use Rattle.nd_neighbour.specs.News.{lets_enter, news_key, news_row}
use Rattle.nd_neighbour.specs.NewsKept.{GainsNews, was_known}
use Rattle.nd_neighbour.specs.Sending.{Sending, then_packet}
use Rattle.nd_neighbour.specs.SendingKept.{GainsPacket, sending_in, sending_to}
use Rattle.nd_neighbour.specs.Story.{is_present, mac_of}
use Rattle.nd_neighbour.specs.Wanting.{Wanting, then_wanted}
use Rattle.nd_neighbour.specs.WantingKept.{GainsWish, wanting_in, wanting_to}
use Rattle.nd_neighbour.specs.StoryKept.{entry_of}
use Rattle.nd_neighbour.specs.TableKept as neighbours
use Rattle.nd_neighbour.specs.TableKept.{entry_in}
use Rattle.nd_nexthop.specs.Choice.{Table}
use Rattle.nd_nexthop.specs.Memo.{forgotten}
use Rattle.nd_steps.specs.NextHop.{is_resolved}
use Rattle.nd_steps.specs.DestinationCache.{AsResolved, MayRemember, Forgets, Keeps, begins, begins_by}

-- a neighbour whose link-layer address was known was resolved
pub was_resolved : (found : Option NeighbourEntry) → was_known found ≡ is_resolved found
was_resolved None = refl
was_resolved (Some n) = refl

-- ---- by what happened

absent_unknown : (s : rows.Story) → is_present s ≡ false → mac_of s ≡ None
absent_unknown [] h = refl
absent_unknown ((at, rows.Given mac mark) ∷ s) h = let never : ⊥ = cc in absurd never
absent_unknown ((at, rows.Asked retrans room) ∷ s) h = let never : ⊥ = cc in absurd never
absent_unknown ((at, rows.Advertised flags mac reachable) ∷ s) h = rw h refl
absent_unknown ((at, rows.Marked router) ∷ s) h = absent_unknown s h
absent_unknown ((at, rows.Solicited) ∷ s) h = absent_unknown s h
absent_unknown ((at, rows.Waits packet) ∷ s) h = absent_unknown s h
absent_unknown ((at, rows.Wanted) ∷ s) h = absent_unknown s h
absent_unknown ((at, rows.Used retrans) ∷ s) h = absent_unknown s h
absent_unknown ((at, rows.Probed) ∷ s) h = absent_unknown s h
absent_unknown ((at, rows.Confirmed reachable) ∷ s) h = absent_unknown s h
absent_unknown ((at, rows.Forgot cause) ∷ s) h = absent_unknown s h

resolved_story : (key : ℕ) (s : rows.Story) (present : Bool) → is_present s ≡ present → (known : Option ℕ) → mac_of s ≡ known → is_resolved (entry_of key s) ≡ is_some (mac_of s)
resolved_story key s false h known k = rw (h, absent_unknown s h) refl
resolved_story key s true h None k = rw (h, k) refl
resolved_story key s true h (Some mac) k = rw (h, k) refl

-- a neighbour is resolved where its link-layer address is known
pub resolved_by_history : (key : ℕ) (kept : List NeighbourEntry) (history : List rows.Row) → neighbours.Stands kept history → is_resolved (entry_in key kept) ≡ is_some (mac_of (story key history))
resolved_by_history key kept history s =
    let st = story key history in
    ap is_resolved (s.each key) ∙ resolved_story key st (is_present st) refl (mac_of st) refl

-- the same addresses are known
abbrev pub AsKnown : List rows.Row → List rows.Row → Type 0
AsKnown history after = (key : ℕ) → is_some (mac_of (story key after)) ≡ is_some (mac_of (story key history))

pub resolved_as : (old new : List NeighbourEntry) (history after : List rows.Row) → neighbours.Stands old history → neighbours.Stands new after → AsKnown history after → (key : ℕ) → is_resolved (entry_in key new) ≡ is_resolved (entry_in key old)
resolved_as old new history after s t same key = resolved_by_history key new after t ∙ (same key ∙ sym (resolved_by_history key old history s))

-- a row that leaves its own neighbour's address known or unknown leaves each one's
pub row_as_known : (at key : ℕ) (kind : rows.RowKind) (history : List rows.Row) → is_end kind ≡ false
    → is_some (mac_of ((at, kind) ∷ story key history)) ≡ is_some (mac_of (story key history)) → AsKnown history ((at, key, kind) ∷ history)
row_as_known at key kind history goes_on same k = by (key == k) refl
  where
    by : (b : Bool) → key == k ≡ b → is_some (mac_of (story k ((at, key, kind) ∷ history))) ≡ is_some (mac_of (story k history))
    by false e = ap (λ (s : rows.Story). is_some (mac_of s)) (cond-false (key == k) _ (story k history) e)
    by true e =
        ap (λ (s : rows.Story). is_some (mac_of s)) (cond-true (key == k) _ (story k history) e ∙ cond-false (is_end kind) [] ((at, kind) ∷ story k history) goes_on)
        ∙ subst (λ (j : ℕ). is_some (mac_of ((at, kind) ∷ story j history)) ≡ is_some (mac_of (story j history))) (eqb-true key k e) same

-- ---- news

is_taken : (overrides : Bool) (mac known : Option ℕ) → is_some known ≡ true → is_some (taken overrides mac known) ≡ true
is_taken overrides None known h = h
is_taken overrides (Some mac) None h = let never : ⊥ = cc in absurd never
is_taken overrides (Some mac) (Some known) h = refl

present_by_mac : (s : rows.Story) → is_some (mac_of s) ≡ true → is_present s ≡ true
present_by_mac s h = by (is_present s) refl
  where
    by : (b : Bool) → is_present s ≡ b → b ≡ true
    by true e = refl
    by false e = let none : mac_of s ≡ None = absent_unknown s e in let never : ⊥ = cc in absurd never

-- a known address stays known
still_known : (now : ℕ) (n : News) (times : Times) (s : rows.Story) → is_some (mac_of s) ≡ true → is_some (mac_of ((now, news_row n times) ∷ s)) ≡ true
still_known now (news.Given addr mac mark) times s h = refl
still_known now (news.Advert addr flags mac) times s h = rw (present_by_mac s h) (is_taken flags.overrides _ (mac_of s) h)
still_known now (news.Marked addr router) times s h = h

goes_on : (n : News) (times : Times) → is_end (news_row n times) ≡ false
goes_on (news.Given addr mac mark) times = refl
goes_on (news.Advert addr flags mac) times = refl
goes_on (news.Marked addr router) times = refl

no_place_made : (enters present : Bool) (A : Type 0) (history made : List rows.Row) → present ≡ true → MatchBool (enters && not present) A (made ≡ history) → made ≡ history
no_place_made true true A history made h p = p
no_place_made false true A history made h p = p
no_place_made enters false A history made h p = let never : ⊥ = cc in absurd never

-- news of a neighbour that is resolved leave each as it is
pub news_as_resolved : (limit now : ℕ) (n : News) (times : Times) (old new : List NeighbourEntry) → is_resolved (entry_in (news_key n) old) ≡ true → GainsNews limit now n times old new → AsResolved old new
news_as_resolved limit now n times old new resolved gains = λ history s key.
    let this = story (news_key n) history in
    let known : is_some (mac_of this) ≡ true = sym (resolved_by_history (news_key n) old history s) ∙ resolved in
    let g = gains.stands history s in
    let made_is : g.0 ≡ history = no_place_made (lets_enter n) (is_present this) _ history g.0 (present_by_mac this known) g.1 in
    let after = (now, news_key n, news_row n times) ∷ history in
    let t : neighbours.Stands new after = subst (λ (made : List rows.Row). neighbours.Stands new ((now, news_key n, news_row n times) ∷ made)) made_is g.2 in
    resolved_as old new history after s t (row_as_known now (news_key n) (news_row n times) history (goes_on n times) (still_known now n times this known ∙ sym known)) key

-- what is remembered then: it is kept where the neighbour was resolved
pub news_may_remember : (known : Bool) (old_choice new_choice : Table) (limit now : ℕ) (n : News) (times : Times) (old new : List NeighbourEntry) → known ≡ is_resolved (entry_in (news_key n) old)
    → new_choice ≡ (if known then old_choice else record old_choice { memory = forgotten old_choice.memory }) → GainsNews limit now n times old new → MayRemember old_choice new_choice old new
news_may_remember true old_choice new_choice limit now n times old new is choice_is gains = Keeps choice_is (news_as_resolved limit now n times old new (sym is) gains)
news_may_remember false old_choice new_choice limit now n times old new is choice_is gains = Forgets choice_is

-- ---- one more row, or a packet

-- a row of any kind that leaves its neighbour's address as it is
pub gains_as_resolved : (at key : ℕ) (kind : rows.RowKind) (old new : List NeighbourEntry) → is_end kind ≡ false → ((s : rows.Story) → mac_of ((at, kind) ∷ s) ≡ mac_of s)
    → neighbours.GainsRow old new (at, key, kind) → AsResolved old new
gains_as_resolved at key kind old new goes_on same gains = λ history s k.
    resolved_as old new history ((at, key, kind) ∷ history) s (gains.stands history s) (row_as_known at key kind history goes_on (ap is_some (same (story key history)))) k

present_in : (key : ℕ) (s : rows.Story) (n : NeighbourEntry) → entry_of key s ≡ Some n → is_present s ≡ true
present_in key s n is = by (is_present s) refl
  where
    by : (b : Bool) → is_present s ≡ b → b ≡ true
    by true e = refl
    by false e = let none : entry_of key s ≡ None = cond-false (is_present s) _ None e in let never : ⊥ = cc in absurd never

-- a packet to a neighbour that is there
packet_as_known : (known : Option ℕ) (at key retrans room : ℕ) (packet : List ℕ) (history : List rows.Row) → AsKnown history (then_packet true known at key retrans room packet history)
packet_as_known None at key retrans room packet history = row_as_known at key (rows.Waits packet) history refl refl
packet_as_known (Some mac) at key retrans room packet history = row_as_known at key (rows.Used retrans) history refl refl

pub packet_as_resolved : (limit at key retrans room : ℕ) (packet : List ℕ) (old new : List NeighbourEntry) (n : NeighbourEntry) → entry_in key old ≡ Some n → GainsPacket limit at key retrans room packet old new → AsResolved old new
packet_as_resolved limit at key retrans room packet old new n there gains = λ history s k.
    let this = story key history in
    let present : is_present this ≡ true = present_in key this n (sym (s.each key) ∙ there) in
    let g = gains.stands history s in
    let made_is : g.0 ≡ history = no_place_made true (is_present this) _ history g.0 present g.1 in
    let t : neighbours.Stands new (then_packet true (mac_of this) at key retrans room packet history) =
    subst (λ (made : List rows.Row). neighbours.Stands new (then_packet true (mac_of this) at key retrans room packet made)) made_is
    (subst (λ (b : Bool). neighbours.Stands new (then_packet b (mac_of this) at key retrans room packet g.0)) present g.2) in
    resolved_as old new history (then_packet true (mac_of this) at key retrans room packet history) s t (packet_as_known (mac_of this) at key retrans room packet history) k

-- nothing is remembered where a resolution begins
pub packet_may_remember : (old_choice new_choice : Table) (limit at key retrans room : ℕ) (packet : List ℕ) (old new : List NeighbourEntry) (sending : Sending) → sending ≡ sending_in (entry_in key old) packet
    → new_choice ≡ (if begins sending then record old_choice { memory = forgotten old_choice.memory } else old_choice) → GainsPacket limit at key retrans room packet old new → MayRemember old_choice new_choice old new
packet_may_remember old_choice new_choice limit at key retrans room packet old new sending is choice_is gains = by (entry_in key old) refl
  where
    by_stage : (n : NeighbourEntry) → entry_in key old ≡ Some n → (st : Stage) → n.stage ≡ st → MayRemember old_choice new_choice old new
    by_stage n there (Resolving r sent wanted waiting) e =
        let sent_is : sending ≡ sending_to (Resolving r sent wanted waiting) packet = is ∙ (ap (λ (o : Option NeighbourEntry). sending_in o packet) there ∙ ap (λ (x : Stage). sending_to x packet) e) in
        Keeps (choice_is ∙ ap (λ (x : Sending). if begins x then record old_choice { memory = forgotten old_choice.memory } else old_choice) sent_is) (packet_as_resolved limit at key retrans room packet old new n there gains)
    by_stage n there (Known mac confirmed since probing) e =
        let sent_is : sending ≡ sending_to (Known mac confirmed since probing) packet = is ∙ (ap (λ (o : Option NeighbourEntry). sending_in o packet) there ∙ ap (λ (x : Stage). sending_to x packet) e) in
        Keeps (choice_is ∙ ap (λ (x : Sending). if begins x then record old_choice { memory = forgotten old_choice.memory } else old_choice) sent_is) (packet_as_resolved limit at key retrans room packet old new n there gains)

    by : (o : Option NeighbourEntry) → entry_in key old ≡ o → MayRemember old_choice new_choice old new
    by None e = Forgets (choice_is ∙ ap (λ (x : Sending). if begins x then record old_choice { memory = forgotten old_choice.memory } else old_choice) (is ∙ ap (λ (o : Option NeighbourEntry). sending_in o packet) e))
    by (Some n) e = by_stage n e n.stage refl

-- a resolution begins only of a neighbour that isn't there
begins_of : (s : Stage) (packet : List ℕ) → begins (sending_to s packet) ≡ true → ⊥
begins_of (Resolving retrans sent wanted waiting) packet h = let never : ⊥ = cc in never
begins_of (Known mac confirmed since probing) packet h = let never : ⊥ = cc in never

pub begins_absent : (found : Option NeighbourEntry) (packet : List ℕ) → begins (sending_in found packet) ≡ true → found ≡ None
begins_absent None packet h = refl
begins_absent (Some n) packet h = absurd (begins_of n.stage packet h)

-- ---- the wish for a neighbour's address

-- of one that is there
wish_as_known : (known : Option ℕ) (at key retrans room : ℕ) (history : List rows.Row) → AsKnown history (then_wanted true known at key retrans room history)
wish_as_known None at key retrans room history = row_as_known at key rows.Wanted history refl refl
wish_as_known (Some mac) at key retrans room history = row_as_known at key (rows.Used retrans) history refl refl

wish_as_resolved : (limit at key retrans room : ℕ) (old new : List NeighbourEntry) (n : NeighbourEntry) → entry_in key old ≡ Some n → GainsWish limit at key retrans room old new → AsResolved old new
wish_as_resolved limit at key retrans room old new n there gains = λ history s k.
    let this = story key history in
    let present : is_present this ≡ true = present_in key this n (sym (s.each key) ∙ there) in
    let g = gains.stands history s in
    let made_is : g.0 ≡ history = no_place_made true (is_present this) _ history g.0 present g.1 in
    let t : neighbours.Stands new (then_wanted true (mac_of this) at key retrans room history) =
    subst (λ (made : List rows.Row). neighbours.Stands new (then_wanted true (mac_of this) at key retrans room made)) made_is
    (subst (λ (b : Bool). neighbours.Stands new (then_wanted b (mac_of this) at key retrans room g.0)) present g.2) in
    resolved_as old new history (then_wanted true (mac_of this) at key retrans room history) s t (wish_as_known (mac_of this) at key retrans room history) k

-- nothing is remembered where a resolution begins
pub wish_may_remember : (old_choice new_choice : Table) (limit at key retrans room : ℕ) (old new : List NeighbourEntry) (want : Wanting) → want ≡ wanting_in (entry_in key old)
    → new_choice ≡ (if begins_by want then record old_choice { memory = forgotten old_choice.memory } else old_choice) → GainsWish limit at key retrans room old new → MayRemember old_choice new_choice old new
wish_may_remember old_choice new_choice limit at key retrans room old new want is choice_is gains = by (entry_in key old) refl
  where
    none_begins : (s : Stage) → begins_by (wanting_to s) ≡ false
    none_begins (Resolving retrans' sent wanted waiting) = refl
    none_begins (Known mac confirmed since probing) = refl

    by : (o : Option NeighbourEntry) → entry_in key old ≡ o → MayRemember old_choice new_choice old new
    by None e = Forgets (choice_is ∙ ap (λ (w : Wanting). if begins_by w then record old_choice { memory = forgotten old_choice.memory } else old_choice) (is ∙ ap wanting_in e))
    by (Some n) e = Keeps (choice_is ∙ (ap (λ (w : Wanting). if begins_by w then record old_choice { memory = forgotten old_choice.memory } else old_choice) (is ∙ ap wanting_in e) ∙ ap (λ (b : Bool). if b then record old_choice { memory = forgotten old_choice.memory } else old_choice) (none_begins n.stage))) (wish_as_resolved limit at key retrans room old new n e gains)

-- a resolution begins only of a neighbour that isn't there
pub begins_by_absent : (found : Option NeighbourEntry) → begins_by (wanting_in found) ≡ true → found ≡ None
begins_by_absent None h = refl
begins_by_absent (Some n) h = absurd (of_stage n.stage h)
  where
    of_stage : (s : Stage) → begins_by (wanting_to s) ≡ true → ⊥
    of_stage (Resolving retrans sent wanted waiting) h = let never : ⊥ = cc in never
    of_stage (Known mac confirmed since probing) h = let never : ⊥ = cc in never
