-- What a node's choice remembers is what its tables say, whatever changes.
use Rattle.std.proofs.Common.{◌≡◌, ◌≤◌, ℕ, Bool, true, false, List, [], ◌∷◌, Option, refl, sym, ◌∙◌, ap, subst}
use Rattle.std.specs.Prelude.{◌&&◌, ◌||◌, not, ◌==◌, if◌then◌else◌, MatchBool}
use Rattle.std.proofs.lemmas.Bool.{cond-true, cond-false}
use Rattle.nd_addr.specs.Prefix.{PrefixValue}
use Rattle.nd_table.specs.declared.lasting.Lasting.{Lasting}
use Rattle.nd_neighbour.specs.EntryKept as neighbour_entries
use Rattle.nd_neighbour.specs.History as neighbour_rows
use Rattle.nd_neighbour.specs.TableKept as neighbours
use Rattle.nd_neighbour.specs.TableKept.{entry_in}
use Rattle.nd_slaac.specs.AddressKept.{Address}
use Rattle.nd_slaac.specs.History as address_rows
use Rattle.nd_slaac.specs.History.{story}
use Rattle.nd_slaac.specs.State.{has_conflict, is_known, was_assigned}
use Rattle.nd_slaac.specs.declared.destination.Counted.TheVariants.{Own}
use Rattle.nd_slaac.specs.Destination.{counted_in, counts}
use Rattle.nd_slaac.specs.TableKept as addresses
use Rattle.nd_slaac.specs.TableKept.{address_in}
use Rattle.nd_slaac.proofs.Destinations.{counted_by_history}
use Rattle.nd_nexthop.specs.Choice as choice
use Rattle.nd_nexthop.specs.Choice.{Redirects, Table}
use Rattle.nd_nexthop.specs.History.{RedirectRow}
use Rattle.nd_routers.specs.PrefixesKept.{Prefixes}
use Rattle.nd_nexthop.specs.Memo.{Memory, forgotten}
use Rattle.nd_steps.specs.NextHop.{is_resolved}
use Rattle.nd_steps.specs.DestinationCache.{Forgets, Keeps, KeepsRoom, MayRemember, Remembers}
use Rattle.nd_steps.proofs.Remembering.{StandUntil, remembers_later, remembers_nothing, remembers_same}
use Rattle.nd_node.specs.declared.node.Node.{Node}

-- what is remembered, by a node
abbrev pub Recalls : {R A : Type 0} → ℕ → Node R A → Type 0
Recalls at node = Remembers at node.choice node.addresses.addresses node.prefixes.entries node.neighbours.entries node.routers

-- none of the node's addresses has come or gone
abbrev pub AsOwn : List Address → List Address → Type 0
AsOwn old new = (key : ℕ) → counted_in Own (address_in key new) ≡ counted_in Own (address_in key old)

module _ {R A : Type 0} (old new : Node R A) (at now : ℕ) (le : at ≤ now) (r : Recalls at old) (prefixes : new.prefixes ≡ old.prefixes) where
  -- nothing is remembered any more
  pub forgets : new.choice.memory.hops ≡ [] → new.choice.memory.until ≡ old.choice.memory.until → Recalls now new
  forgets none until =
      remembers_nothing now new.choice new.addresses.addresses new.prefixes.entries new.neighbours.entries new.routers none
      (subst (λ (ps : List (Lasting PrefixValue)). StandUntil now new.choice.memory.until ps) (sym (ap (λ (p : Prefixes). p.entries) prefixes))
      (subst (λ (u : Option ℕ). StandUntil now u old.prefixes.entries) (sym until) (remembers_later at now old.choice old.addresses.addresses old.prefixes.entries old.neighbours.entries old.routers le r).until))

  pub forgets_all : new.choice.memory ≡ forgotten old.choice.memory → Recalls now new
  forgets_all is = forgets (ap (λ (m : Memory). m.hops) is) (ap (λ (m : Memory). m.until) is)

  -- or the same as before
  pub keeps : new.choice ≡ old.choice → new.routers ≡ old.routers → AsOwn old.addresses.addresses new.addresses.addresses
      → ((key : ℕ) → is_resolved (entry_in key new.neighbours.entries) ≡ is_resolved (entry_in key old.neighbours.entries)) → Recalls now new
  keeps choice_is routers_are own resolved =
      rw (choice_is, prefixes, routers_are)
      (remembers_same now old.choice old.addresses.addresses new.addresses.addresses old.prefixes.entries old.neighbours.entries new.neighbours.entries old.routers own resolved
      (remembers_later at now old.choice old.addresses.addresses old.prefixes.entries old.neighbours.entries old.routers le r))

  pub may_recall : MayRemember old.choice new.choice old.neighbours.entries new.neighbours.entries → new.routers ≡ old.routers → AsOwn old.addresses.addresses new.addresses.addresses
      → (history : List neighbour_rows.Row) → neighbours.Stands old.neighbours.entries history → Recalls now new
  may_recall (Forgets is) routers_are own history s = forgets_all (ap (λ (t : Table). t.memory) is)
  may_recall (Keeps is known) routers_are own history s = keeps is routers_are own (known history s)

-- ---- the redirects

pub may_redirects : (a b : Table) (old new : List neighbour_entries.NeighbourEntry) → MayRemember a b old new → b.redirects ≡ a.redirects
may_redirects a b old new (Forgets is) = ap (λ (t : Table). t.redirects) is
may_redirects a b old new (Keeps is known) = ap (λ (t : Table). t.redirects) is

-- the room stays where the redirects do
pub room_kept : (a b : Table) → b.redirects ≡ a.redirects → KeepsRoom a b
room_kept a b same = record { redirects = ap (λ (r : Redirects). r.limit) same; destinations = ap (λ (r : Redirects). r.destinations) same }

pub room_then : (a b c : Table) → KeepsRoom a b → KeepsRoom b c → KeepsRoom a c
room_then a b c k l = record { redirects = l.redirects ∙ k.redirects; destinations = l.destinations ∙ k.destinations }

pub redirects_stand : (a b : Table) (history : List RedirectRow) → b.redirects ≡ a.redirects → choice.Stands a history → choice.Stands b history
redirects_stand a b history same s = record { entries_are = rw same s.entries_are }

-- ---- own addresses

own_is : (s : address_rows.Story) → counts Own s ≡ (is_known s && not (has_conflict s))
own_is s = by (is_known s) (has_conflict s) (was_assigned s)
  where
    by : (k c a : Bool) → ((k && not c && not a) || (k && not c && a)) ≡ (k && not c)
    by true true true = refl
    by true true false = refl
    by true false true = refl
    by true false false = refl
    by false c a = refl

own_as : (s t : address_rows.Story) → is_known t ≡ is_known s → has_conflict t ≡ has_conflict s → counts Own t ≡ counts Own s
own_as s t known conflict = own_is t ∙ (ap (λ (b : Bool). b && not (has_conflict t)) known ∙ (ap (λ (b : Bool). is_known s && not b) conflict ∙ sym (own_is s)))

-- by what happened
pub own_by : (old new : List Address) (history after : List address_rows.Row) → addresses.Stands old history → addresses.Stands new after
    → ((key : ℕ) → counts Own (story key after) ≡ counts Own (story key history)) → AsOwn old new
own_by old new history after s t same key = counted_by_history Own key new after t ∙ (same key ∙ sym (counted_by_history Own key old history s))

-- the same history
pub own_same : (old new : List Address) (history : List address_rows.Row) → addresses.Stands old history → addresses.Stands new history → AsOwn old new
own_same old new history s t = own_by old new history history s t (λ key. refl)

-- a step of a detection
pub own_row : (at key : ℕ) (kind : address_rows.RowKind) (history : List address_rows.Row) → address_rows.is_end kind ≡ false
    → ((s : address_rows.Story) → is_known ((at, kind) ∷ s) ≡ is_known s) → ((s : address_rows.Story) → has_conflict ((at, kind) ∷ s) ≡ has_conflict s)
    → (k : ℕ) → counts Own (story k ((at, key, kind) ∷ history)) ≡ counts Own (story k history)
own_row at key kind history goes_on known conflict k = by (key == k) refl
  where
    by : (b : Bool) → key == k ≡ b → counts Own (story k ((at, key, kind) ∷ history)) ≡ counts Own (story k history)
    by false e = ap (λ (s : address_rows.Story). counts Own s) (cond-false (key == k) _ (story k history) e)
    by true e =
        ap (λ (s : address_rows.Story). counts Own s) (cond-true (key == k) _ (story k history) e ∙ cond-false (address_rows.is_end kind) [] ((at, kind) ∷ story k history) goes_on)
        ∙ own_as (story k history) ((at, kind) ∷ story k history) (known (story k history)) (conflict (story k history))

-- ---- one change behind the other

pub may_until : (a b : Table) (old new : List neighbour_entries.NeighbourEntry) → MayRemember a b old new → b.memory.until ≡ a.memory.until
may_until a b old new (Forgets is) = ap (λ (t : Table). t.memory.until) is
may_until a b old new (Keeps is known) = ap (λ (t : Table). t.memory.until) is

pub may_nothing : (a b : Table) (old new : List neighbour_entries.NeighbourEntry) → MayRemember a b old new → a.memory.hops ≡ [] → b.memory.hops ≡ []
may_nothing a b old new (Forgets is) none = ap (λ (t : Table). t.memory.hops) is
may_nothing a b old new (Keeps is known) none = ap (λ (t : Table). t.memory.hops) is ∙ none

forgot_or : (b : Bool) (a c : Table) → c ≡ (if b then record a { memory = forgotten a.memory } else a) → c.memory.until ≡ a.memory.until
forgot_or true a c is = ap (λ (t : Table). t.memory.until) is
forgot_or false a c is = ap (λ (t : Table). t.memory.until) is

pub forgot_redirects : (b : Bool) (a c : Table) → c ≡ (if b then record a { memory = forgotten a.memory } else a) → c.redirects ≡ a.redirects
forgot_redirects true a c is = ap (λ (t : Table). t.redirects) is
forgot_redirects false a c is = ap (λ (t : Table). t.redirects) is

-- a holder of one of the node's addresses, news of a neighbour, and a router that may leave
module _ {R A : Type 0} (old new : Node R A) (at now : ℕ) (le : at ≤ now) (r : Recalls at old) (prefixes : new.prefixes ≡ old.prefixes)
    (first second : Table) (tentative left : Bool) (holds : first ≡ (if tentative then record old.choice { memory = forgotten old.choice.memory } else old.choice))
    (may : MayRemember first second old.neighbours.entries new.neighbours.entries) (leaves : MatchBool left (new.choice.memory ≡ forgotten second.memory) ((new.choice ≡ second) × (new.routers ≡ old.routers)))
    (entries : List neighbour_rows.Row) (stands : neighbours.Stands old.neighbours.entries entries) (own : tentative ≡ false → AsOwn old.addresses.addresses new.addresses.addresses) where
  until_second : second.memory.until ≡ old.choice.memory.until
  until_second = may_until first second old.neighbours.entries new.neighbours.entries may ∙ forgot_or tentative old.choice first holds

  by_choice : new.choice ≡ second → new.routers ≡ old.routers → (t : Bool) → tentative ≡ t → MayRemember first second old.neighbours.entries new.neighbours.entries → Recalls now new
  by_choice is routers_are t e (Forgets f) =
      forgets old new at now le r prefixes (ap (λ (c : Table). c.memory.hops) (is ∙ f)) (ap (λ (c : Table). c.memory.until) is ∙ until_second)
  by_choice is routers_are true e (Keeps k known) =
      let nothing : first ≡ record old.choice { memory = forgotten old.choice.memory } = holds ∙ cond-true tentative _ old.choice e in
      forgets old new at now le r prefixes (ap (λ (c : Table). c.memory.hops) (is ∙ (k ∙ nothing))) (ap (λ (c : Table). c.memory.until) is ∙ until_second)
  by_choice is routers_are false e (Keeps k known) =
      let same : first ≡ old.choice = holds ∙ cond-false tentative _ old.choice e in
      keeps old new at now le r prefixes (is ∙ (k ∙ same)) routers_are (own e) (known entries stands)

  by_left : (l : Bool) → MatchBool l (new.choice.memory ≡ forgotten second.memory) ((new.choice ≡ second) × (new.routers ≡ old.routers)) → Recalls now new
  by_left true is = forgets old new at now le r prefixes (ap (λ (m : Memory). m.hops) is) (ap (λ (m : Memory). m.until) is ∙ until_second)
  by_left false both = by_choice both.0 both.1 tentative refl may

  pub recalls_advertised : Recalls now new
  recalls_advertised = by_left left leaves
