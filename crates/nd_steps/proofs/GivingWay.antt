-- Whether there is room for a neighbour that speaks, and what is remembered where one gave way.
use Rattle.std.proofs.Common.{◌≡◌, ℕ, ◌+◌, Bool, true, false, List, [], ◌∷◌, ◌++◌, Option, Some, None, append_assoc, refl, sym, ◌∙◌, ap, subst, inl}
use Rattle.std.specs.Prelude.{◌↔◌, ◌==◌, ◌&&◌, not, if◌then◌else◌, IfNone, IfSome, MatchBool}
use Rattle.std.proofs.lemmas.Bool.{eqb-true, true≢false}
use Rattle.std.proofs.lemmas.List.{map-append}
use Rattle.nd_addr.specs.declared.addr.Addr.{Addr}
use Rattle.nd_addr.specs.declared.mac.Mac.{Mac}
use Rattle.nd_addr.specs.Number.{number_of}
use Rattle.nd_neighbour.specs.declared.news.News.{News}
use Rattle.nd_neighbour.specs.declared.news.News.TheVariants as news
use Rattle.nd_neighbour.specs.declared.news.Times.{Times}
use Rattle.nd_neighbour.specs.GivingWay.{GivesWay, IsFullOfSpeakers}
use Rattle.nd_neighbour.specs.DueKept as kept_dates
use Rattle.nd_neighbour.specs.EntryKept.{NeighbourEntry}
use Rattle.nd_neighbour.specs.History.{Cause, Forgot, Failed, PushedOut, Row, RowKind, is_end, story}
use Rattle.nd_neighbour.specs.declared.shown.Reachability.TheVariants.{Stale}
use Rattle.nd_neighbour.specs.Place.{HadPlace, IsStale, MakesPlace, Pushed, pushing}
use Rattle.nd_neighbour.specs.Shown.{state_of}
use Rattle.nd_neighbour.specs.Story.{is_present}
use Rattle.nd_neighbour.specs.TableKept as neighbours
use Rattle.nd_neighbour.specs.TableKept.{Stands}
use Rattle.nd_neighbour.proofs.Steps.{ended_story}
use Rattle.nd_nexthop.specs.Choice.{Table}
use Rattle.nd_nexthop.specs.Memo.{Memory, forgotten}
use Rattle.nd_routers.specs.RoutersKept as routers
use Rattle.nd_chronicle.specs.Start.{Start}
use Rattle.nd_chronicle.specs.Happening.{Chronicle, last_moment}
use Rattle.nd_chronicle.specs.Histories.{neighbour_history, then_neighbour}
use Rattle.nd_chronicle.specs.Full.{entering, Placed}
use Rattle.nd_chronicle.specs.Message as message
use Rattle.nd_chronicle.specs.Message.{HasWay, RoomBy, makes_way}
use Rattle.nd_chronicle.specs.Packet.{HasPlace, with_pushed}
use Rattle.nd_out.specs.declared.out.Out.{Out}
use Rattle.nd_steps.specs.DestinationCache.{AsListed, Forgets, Keeps, MayRemember, Recollects}
use Rattle.nd_steps.specs.GivingWay.{HearsGiver, MakesWay, PlacedByWay, WayBy, told_of_way}
use Rattle.nd_steps.specs.NeighbourCache.{HearsOf, PreparesFor, released_rows, said_by}
use Rattle.nd_steps.specs.Outputs.{at_moment, happenings}
use Rattle.nd_steps.proofs.Failing.{with_failed}
use Rattle.nd_steps.proofs.Saying.{NoneOverdueStill, OneGoes, Others, OverdueByTable, made_later, others_pushed, placed_by, pushed_history, pushed_later, said_later}

-- ---- room

-- where the table is full of neighbours that speak there is none
pub given_way : (limit now key : ℕ) (history : List Row) (place : Bool) → (place ≡ false) ↔ IsFullOfSpeakers limit now key history
    → MatchBool place (true ≡ true → IsFullOfSpeakers limit now key history → ⊥) ((true ≡ true) × IsFullOfSpeakers limit now key history)
given_way limit now key history true full = λ e would. let no : true ≡ false = full.1 would in let never : ⊥ = cc in never
given_way limit now key history false full = (refl, full.0 refl)

module _ (start : Start) (c : Chronicle) (now : ℕ) where
  -- a neighbour that enters, where one may give way to it and where none may
  by_way : (key : ℕ) (way place : Bool) → way ≡ true → HasWay start c now key true place → Placed start c now way (Some (key, true)) place
  by_way key way place is h = rw is h

  -- one that doesn't enter has room
  not_entering : (key : ℕ) (place : Bool) (P : Type 0) → MatchBool place (false ≡ true → P → ⊥) ((false ≡ true) × P) → HasPlace start c now key false place
  not_entering key true P h = λ e. absurd (let never : ⊥ = cc in never)
  not_entering key false P h = let e : false ≡ true = h.0 in absurd (let never : ⊥ = cc in never)

  pub placed_by_way : (n : News) (times : Times) (place : Bool) → start.policies.speakers ≡ true → PlacedByWay start.limits.neighbours now n (neighbour_history c) place
      → Placed start c now (makes_way start (Some (said_by times n))) (entering (Some (said_by times n))) place
  placed_by_way (news.Given addr mac mark) times place speakers h = by_way _ start.policies.speakers place speakers h
  placed_by_way (news.Advert addr flags mac) times place speakers h = not_entering _ place _ h
  placed_by_way (news.Marked addr router) times place speakers h = not_entering _ place _ h

-- who gives way to a neighbour whose address is given
pub way_given : (limit now : ℕ) (addr : Addr) (mac : Mac) (mark : Option Bool) (n : News) (times : Times) → n ≡ news.Given addr mac mark → (history : List Row) (gone : Option ℕ)
    → GivesWay limit now (number_of addr.0) history gone → WayBy true limit now (Some (said_by times n)) history gone
way_given limit now addr mac mark n times is history gone h = subst (λ (m : News). WayBy true limit now (Some (said_by times m)) history gone) (sym is) h

-- ---- what is remembered

module _ {X : Type 0} (gone : Option X) (old mid new : Table) (a b d : routers.Table) (same : IfNone gone ((d ≡ b) × (new ≡ mid))) (forgets : IfSome gone (λ _. new.memory ≡ forgotten mid.memory)) where
  pub way_until : new.memory.until ≡ mid.memory.until
  way_until = by gone same forgets
    where
      by : (o : Option X) → IfNone o ((d ≡ b) × (new ≡ mid)) → IfSome o (λ _. new.memory ≡ forgotten mid.memory) → new.memory.until ≡ mid.memory.until
      by None s f = ap (λ (t : Table). t.memory.until) s.1
      by (Some x) s f = ap (λ (m : Memory). m.until) f

  pub way_recollects : Recollects old mid (AsListed old mid a b) → Recollects old new (AsListed old new a d)
  way_recollects r = by gone same forgets
    where
      by : (o : Option X) → IfNone o ((d ≡ b) × (new ≡ mid)) → IfSome o (λ _. new.memory ≡ forgotten mid.memory) → Recollects old new (AsListed old new a d)
      by None s f = rw (s.0, s.1) r
      by (Some x) s f = record { hops = inl (ap (λ (m : Memory). m.hops) f); until = ap (λ (m : Memory). m.until) f ∙ r.until }

-- a next hop that was kept is forgotten behind one that gave way
pub way_may : {X : Type 0} (Told : Type 0) (gone : Option X) (a b d : Table) (cache way : neighbours.Table) (new : List NeighbourEntry) → IfNone gone ((way ≡ cache) × (b ≡ a) × Told) → IfSome gone (λ _. b ≡ record a { memory = forgotten a.memory })
    → MayRemember b d way.entries new → MayRemember a d cache.entries new
way_may Told None a b d cache way new same forgets may = subst (λ (t : Table). MayRemember t d cache.entries new) same.1 (subst (λ (t : neighbours.Table). MayRemember b d t.entries new) same.0 may)
way_may Told (Some x) a b d cache way new same forgets (Forgets is) = Forgets (is ∙ ap (λ (t : Table). record t { memory = forgotten t.memory }) forgets)
way_may Told (Some x) a b d cache way new same forgets (Keeps is known) = Forgets (is ∙ forgets)

-- what is said is heard where one gave way
pub hears_giver : {A : Type 0} (speakers : Bool) (limit now : ℕ) (said : Option (ℕ × RowKind)) (old mid new : List NeighbourEntry) (x y z : List (ℕ × Out A)) (gone : Option ℕ) (ends : Bool)
    → MakesWay speakers limit now said old mid x y gone → HearsOf limit now said mid new y z ends → HearsGiver speakers limit now said old new x z gone
hears_giver speakers limit now said old mid new x y z gone ends makes hears = record {
  each = λ history s.
      let m = makes.each history s in
      let h = hears.each (pushing now gone history) m.1 in (
        m.0,
        (h.0, h.1, h.2),
        h.3
            ∙ (ap (λ l. l ++ at_moment now (released_rows now said (pushing now gone history))) m.2
            ∙ (append_assoc (happenings x) (at_moment now (told_of_way gone history)) (at_moment now (released_rows now said (pushing now gone history)))
            ∙ ap (λ l. happenings x ++ l) (sym (map-append (λ h. (now, h)) (told_of_way gone history) (released_rows now said (pushing now gone history)))))),
      );
}

-- ---- the one that gave way is gone

-- another neighbour's story
other_story : (k key at : ℕ) (kind : RowKind) (history : List Row) → (key ≡ k → ⊥) → story k ((at, key, kind) ∷ history) ≡ story k history
other_story k key at kind history other = by (key == k) refl
  where
    by : (b : Bool) → key == k ≡ b → (if b then (if is_end kind then [] else (at, kind) ∷ story k history) else story k history) ≡ story k history
    by true is = absurd (other (eqb-true key k is))
    by false is = refl

-- one that is absent is so behind the end of one more
pushed_too : (k now : ℕ) (pushed : Option ℕ) (history : List Row) → story k history ≡ [] → story k (pushing now pushed history) ≡ []
pushed_too k now None history is = is
pushed_too k now (Some key) history is = by (key == k) refl
  where
    by : (b : Bool) → key == k ≡ b → (if b then [] else story k history) ≡ []
    by true e = refl
    by false e = is

-- the one that gives way isn't the one to which it does
not_same : (limit now key gone : ℕ) (history : List Row) → GivesWay limit now key history (Some gone) → key ≡ gone → ⊥
not_same limit now key gone history way same =
    true≢false (sym way.1.incomplete.0 ∙ (sym (ap (λ k. is_present (story k history)) same) ∙ way.0.absent))

no_way : {X : Type 0} (gone : ℕ) → Some gone ≡ None → X
no_way gone is = let never : ⊥ = cc in absurd never

-- and is absent behind what is said
gone_absent : OneGoes → (speakers : Bool) (limit now gone : ℕ) (said : Option (ℕ × RowKind)) (history made : List Row) → WayBy speakers limit now said history (Some gone)
    → PreparesFor limit now said (pushing now (Some gone) history) made → story gone (then_neighbour now said made) ≡ []
gone_absent law speakers limit now gone None history made way place = no_way gone way
gone_absent law speakers limit now gone (Some said) history made way place = by (message.lets_enter said.1 && speakers) way
  where
    by : (b : Bool) → MatchBool b (GivesWay limit now said.0 history (Some gone)) (Some gone ≡ None) → story gone ((now, said.0, said.1) ∷ made) ≡ []
    by false way = no_way gone way
    by true way =
        let p = law limit now said.0 (message.lets_enter said.1) (pushing now (Some gone) history) made place in
        other_story gone said.0 now said.1 made (not_same limit now said.0 gone history way)
        ∙ (ap (story gone) p.1 ∙ pushed_too gone now p.0 (pushing now (Some gone) history) (ended_story gone now PushedOut history))

-- ---- the one that gave way is the room

-- where one gives way, none is STALE, and none is behind its end
none_stale_behind : (limit now key gone : ℕ) (history : List Row) → GivesWay limit now key history (Some gone) → (k : ℕ) → IsStale (pushing now (Some gone) history) now k → ⊥
none_stale_behind limit now key gone history way k stale = by (gone == k) stale
  where
    by : (b : Bool) → (is_present (if b then [] else story k history) ≡ true) × (state_of (if b then [] else story k history) now ≡ Stale) → ⊥
    by true s = true≢false (sym s.0)
    by false s = way.0.none_stale k s

-- so no other one is evicted
none_evicted : (limit now key gone : ℕ) (history made : List Row) → GivesWay limit now key history (Some gone) → MakesPlace limit now (pushing now (Some gone) history) made → made ≡ pushing now (Some gone) history
none_evicted limit now key gone history made way (HadPlace entries stands few is) = is
none_evicted limit now key gone history made way (Pushed entries k stands many longest is) = absurd (none_stale_behind limit now key gone history way k longest.stale)

made_alone : (speakers : Bool) (limit now gone : ℕ) (said : Option (ℕ × RowKind)) (history made : List Row) → WayBy speakers limit now said history (Some gone)
    → PreparesFor limit now said (pushing now (Some gone) history) made → made ≡ pushing now (Some gone) history
made_alone speakers limit now gone None history made way place = place
made_alone speakers limit now gone (Some said) history made way place = by (message.lets_enter said.1 && speakers) way
  where
    prepared : (b : Bool) → GivesWay limit now said.0 history (Some gone) → MatchBool b (MakesPlace limit now (pushing now (Some gone) history) made) (made ≡ pushing now (Some gone) history) → made ≡ pushing now (Some gone) history
    prepared true way m = none_evicted limit now said.0 gone history made way m
    prepared false way m = m

    by : (b : Bool) → MatchBool b (GivesWay limit now said.0 history (Some gone)) (Some gone ≡ None) → made ≡ pushing now (Some gone) history
    by false way = no_way gone way
    by true way = prepared (message.lets_enter said.1 && not (is_present (story said.0 (pushing now (Some gone) history)))) way place

-- there is a chronicle with room for the neighbour, for which another one may have given way
pub record GiverPlaced (start : Start) (c : Chronicle) (now : ℕ) (said : Option (ℕ × RowKind)) (gone : Option ℕ) (made : List Row) : Type 0 where
  pub placed : Chronicle
  pub place : RoomBy start c now said gone placed
  pub history : neighbour_history placed ≡ made
  pub others : Others c placed

pub giver_placed : (start : Start) (c : Chronicle) (now : ℕ) (speakers : Bool) (said : Option (ℕ × RowKind)) (gone : Option ℕ) (made : List Row) → OneGoes → ((at : ℕ) → last_moment at c ≡ now)
    → WayBy speakers start.limits.neighbours now said (neighbour_history c) gone → PreparesFor start.limits.neighbours now said (pushing now gone (neighbour_history c)) made
    → GiverPlaced start c now said gone made
giver_placed start c now speakers said None made law last way place =
    let p = placed_by start c now said made law last place in
    record { placed = p.placed; place = p.place; history = p.history; others = p.others }
giver_placed start c now speakers said (Some gone) made law last way place = record {
  placed = with_pushed now (Some gone) c;
  place = refl;
  history = pushed_history now (Some gone) c ∙ sym (made_alone speakers start.limits.neighbours now gone said (neighbour_history c) made way place);
  others = others_pushed now (Some gone) c last;
}

-- a law of the neighbours: the end of one that isn't present changes nothing
abbrev pub EndsOnce : Type 0
EndsOnce = (entries : List NeighbourEntry) (history : List Row) (at key : ℕ) (cause : Cause) → Stands entries history → is_present (story key history) ≡ false → Stands entries ((at, key, Forgot cause) ∷ history)

-- so its failure changes no neighbour
pub stands_failed : EndsOnce → OneGoes → (speakers : Bool) (limit now : ℕ) (said : Option (ℕ × RowKind)) (gone : Option ℕ) (entries : List NeighbourEntry) (history made : List Row)
    → WayBy speakers limit now said history gone → PreparesFor limit now said (pushing now gone history) made → Stands entries (then_neighbour now said made) → Stands entries (with_failed now gone (then_neighbour now said made))
stands_failed once law speakers limit now said None entries history made way place s = s
stands_failed once law speakers limit now said (Some gone) entries history made way place s =
    once entries (then_neighbour now said made) now gone Failed s (ap is_present (gone_absent law speakers limit now gone said history made way place))

-- and nothing is overdue behind it
pub none_before_giver : OverdueByTable → NoneOverdueStill → OneGoes → (limit now : ℕ) (said : Option (ℕ × RowKind)) (gone : Option ℕ) (old new : List NeighbourEntry) (history made : List Row)
    → Stands old history → PreparesFor limit now said (pushing now gone history) made → Stands new (then_neighbour now said made) → kept_dates.NoneBefore old now → kept_dates.NoneBefore new now
none_before_giver table still law limit now said gone old new history made before place after h =
    (table new (then_neighbour now said made) now after).1
    (said_later still now said made (made_later still law limit now said (pushing now gone history) made place (pushed_later still now gone history ((table old history now before).0 h))))
