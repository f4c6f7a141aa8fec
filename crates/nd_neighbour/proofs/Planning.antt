-- The dates that are kept besides the neighbours, where one of these changes, comes or goes.
use Rattle.std.proofs.Common.{◌≡◌, ℕ, ◌<◌, ◌≤◌, Bool, true, false, cond, eqb, List, length, get_or, set, Option, Some, None, refl, sym, ◌∙◌, ap, subst, arith, ◌-◌, suc, inl, inr}
use Rattle.std.specs.Prelude.{slice_get, IfSome, IfNone}
use Rattle.std.specs.List.{remove}
use Rattle.std.proofs.Math.ListN.{length-set}
use Rattle.std.proofs.lemmas.List.Edits.{length-remove}
use Rattle.std.proofs.lemmas.List.{set-get_or}
use Rattle.std.proofs.lemmas.Bool.{cond-false, cases_lt}
use Rattle.nd_table.specs.Keyed as keyed
use Rattle.nd_table.specs.DueKept.{is_at}
use Rattle.nd_table.specs.Dates.{Planned, rank, AllAddresses, has, first_moment, Redated}
use Rattle.nd_table.proofs.Searching.{place_above, place_below}
use Rattle.nd_table.proofs.Keyed.{key_is, at_place, Rises-unique, put_in, at_key-remove, Rises-put, place_of-remove_low, place_of-remove_high}
use Rattle.nd_table.proofs.Dates.{least_is, no_more}
use Rattle.nd_table.proofs.Stays.{set_rises, set_dates, own_date, remove_rises, gone_dates, kept_dates, came_dates}
use Rattle.nd_neighbour.specs.EntryKept.{NeighbourEntry, Stage, Resolving, Known, with_mark}
use Rattle.nd_neighbour.specs.TableKept.{address, Rises, entry_in, place_in, Alters, NotThere, There}
use Rattle.nd_neighbour.specs.DueKept.{date_of, next_in, falls, stays, solicited, solicited_to}
use Rattle.nd_neighbour.specs.PlaceKept.{Places, Enough, Went}
use Rattle.nd_neighbour.specs.Planned.{IsPlanned}
use Rattle.nd_neighbour.proofs.Finds.{within, there}
use Rattle.nd_neighbour.proofs.NewsCalls.{keys_of}

-- the first of the dates is the next
pub next_planned : (entries : List NeighbourEntry) (planned : Planned) → IsPlanned entries planned → keyed.Rises rank planned.dates → AllAddresses planned.dates → first_moment planned.dates ≡ next_in entries
next_planned entries planned p r a = sym (least_is address date_of planned.dates entries r a p.order p.dates)

-- the entry at the place that a look-up has found changes
module _ (key : ℕ) (change : NeighbourEntry → NeighbourEntry) (keeps : (n : NeighbourEntry) → (change n).key ≡ n.key) (old seen : List NeighbourEntry) (i : ℕ) (n m : NeighbourEntry) (same : seen ≡ old) (lt : i < length seen) (found : entry_in key seen ≡ slice_get seen i) (is : n ≡ get_or old i n) (new_is : m ≡ change n) where
  n_key : n.key ≡ key
  n_key = key_is address key old n (there key change old seen i n m same lt found is new_is)

  m_key : m.key ≡ key
  m_key = ap address new_is ∙ (keeps n ∙ n_key)

  pub changed_rises : Rises old → Rises (set old i m)
  changed_rises r = set_rises address key old (set old i m) i n r (within key change old seen i n m same lt found is new_is) is n_key m m_key refl

  -- its date is among the dates, and the new one is in its place then
  pub had_date : (planned : Planned) (was : Option ℕ) → IsPlanned old planned → was ≡ date_of n → (moment : ℕ) → has moment key planned.dates ≡ is_at moment was
  had_date planned was p was_is moment =
      own_date address key old old i n p.order (within key change old seen i n m same lt found is new_is) is n_key date_of planned.dates planned.dates p.dates moment ∙ sym (ap (is_at moment) was_is)

  pub changed_planned : (planned planned' : Planned) (date : Option ℕ) → IsPlanned old planned → date ≡ date_of m → Redated key date planned.dates planned'.dates → planned'.room ≡ planned.room → IsPlanned (set old i m) planned'
  changed_planned planned planned' date p date_is redated room_is =
      let room : length old ≤ planned.room = p.room in
      record {
        order = changed_rises p.order;
        dates = set_dates address key old (set old i m) i n p.order (within key change old seen i n m same lt found is new_is) is n_key date_of planned.dates planned'.dates p.dates m m_key refl
            (subst (λ (o : Option ℕ). Redated key o planned.dates planned'.dates) date_is redated);
        room = omega (arith, room, room_is, length-set {A = NeighbourEntry});
      }

-- the entry at a place goes, and its date with it
module _ (key i : ℕ) (ns new : List NeighbourEntry) (n : NeighbourEntry) (planned planned' : Planned) (p : IsPlanned ns planned) (lt : i < length ns) (is : n ≡ get_or ns i n) (n_key : n.key ≡ key) where
  pub goes_date : (was : Option ℕ) → was ≡ date_of n → (moment : ℕ) → has moment key planned.dates ≡ is_at moment was
  goes_date was was_is moment = own_date address key ns ns i n p.order lt is n_key date_of planned.dates planned.dates p.dates moment ∙ sym (ap (is_at moment) was_is)

  pub removed_planned : new ≡ remove ns i → Redated key None planned.dates planned'.dates → planned'.room ≡ planned.room → IsPlanned new planned'
  removed_planned new_is redated same =
      let room : length ns ≤ planned.room = p.room in
      let shorter : length (remove ns i) ≤ length ns = omega (arith, length-remove ns i lt) in
      record {
        order = remove_rises address key ns new i n p.order lt is n_key new_is;
        dates = gone_dates address key ns new i n p.order lt is n_key date_of planned.dates planned'.dates p.dates new_is redated;
        room = omega (arith, room, shorter, ap length new_is, same);
      }

-- the neighbour that makes room isn't the one that comes
pub absent_then : (limit now key : ℕ) (old mid : List NeighbourEntry) → Rises old → entry_in key old ≡ None → Places limit now old mid → entry_in key mid ≡ None
absent_then limit now key old mid r absent (Enough lt is) = ap (entry_in key) is ∙ absent
absent_then limit now key old mid r absent (Went i n many lt at_i stalest is) =
    ap (entry_in key) is ∙ (at_key-remove address key old i n r lt ∙ both (eqb (address (get_or old i n)) key))
  where
    both : (b : Bool) → cond b None (entry_in key old) ≡ None
    both true = refl
    both false = absent

-- where a new neighbour belongs once one that made place has gone
module _ (key i : ℕ) (old new : List NeighbourEntry) (n : NeighbourEntry) (r : Rises old) (lt : i < length old) (is : n ≡ get_or old i n) (absent : entry_in key old ≡ None) (new_is : new ≡ remove old i) (at : ℕ) (at_is : at ≡ place_in key old) where
  other : n.key ≡ key → ⊥
  other same = let e : Some n ≡ None = sym (at_place address old i n r lt is) ∙ (ap (λ k. entry_in k old) same ∙ absent) in absurd (cc)

  above : key ≤ n.key → key < n.key
  above le = elim (cases_lt key n.key) [
    | inl high ↦ high
    | inr low ↦ absurd (other (omega (arith, le, low)))
  ]

  pub place_before : i < at → at - 1 ≡ place_in key new
  place_before before = elim (cases_lt n.key key) [
    | inl low ↦
        let e : place_in key old ≡ suc (place_in key (remove old i)) = place_of-remove_low address key old i n r lt (subst (λ (m : NeighbourEntry). m.key < key) is low) in
        omega (arith, e, at_is, ap (place_in key) new_is)
    | inr high ↦
        let le : place_in key old ≤ i = place_below address key old i n lt (subst (λ (m : NeighbourEntry). key < m.key) is (above high)) in
        absurd (omega (arith, le, at_is, before))
  ]

  pub place_behind : at ≤ i → at ≡ place_in key new
  place_behind behind = elim (cases_lt n.key key) [
    | inl low ↦
        let le : suc i ≤ place_in key old = place_above address key old i n r lt (subst (λ (m : NeighbourEntry). m.key < key) is low) in
        absurd (omega (arith, le, at_is, behind))
    | inr high ↦ at_is ∙ (sym (place_of-remove_high address key old i n r lt (subst (λ (m : NeighbourEntry). key < m.key) is (above high))) ∙ ap (place_in key) (sym new_is))
  ]

-- a neighbour comes in, and its date with it
module _ (mid new : List NeighbourEntry) (m : NeighbourEntry) (planned planned' : Planned) (p : IsPlanned mid planned) (absent : entry_in m.key mid ≡ None) (new_is : new ≡ put_in address m mid) where
  pub came_planned : (key : ℕ) (date : Option ℕ) → m.key ≡ key → date ≡ date_of m → Redated key date planned.dates planned'.dates → planned'.room ≡ planned.room → length new ≤ planned.room → IsPlanned new planned'
  came_planned key date m_key date_is redated same room = record {
    order = subst Rises (sym new_is) (Rises-put address m mid p.order absent);
    dates = came_dates address key mid new m date_of planned.dates planned'.dates m_key new_is p.dates (subst (λ (o : Option ℕ). Redated key o planned.dates planned'.dates) date_is redated);
    room = omega (arith, room, same);
  }

pub solicited_key : (now : ℕ) (n : NeighbourEntry) (k : Stage) → (solicited_to k now n).key ≡ n.key
solicited_key now n (Resolving retrans sent wanted waiting) = refl
solicited_key now n (Known mac confirmed since None) = refl
solicited_key now n (Known mac confirmed since (Some p)) = refl

-- a solicitation is sent to it, if one is left
turned_key : (now : ℕ) (n m : NeighbourEntry) → m ≡ cond (stays (falls n)) (solicited now n) n → m.key ≡ n.key
turned_key now n m changed = ap address changed ∙ keys_of (stays (falls n)) (solicited now n) n n (solicited_key now n n.stage) refl

module _ (now key i : ℕ) (ns : List NeighbourEntry) (n m : NeighbourEntry) (p : Rises ns) (lt : i < length ns) (is : n ≡ get_or ns i n) (n_key : n.key ≡ key) (changed : m ≡ cond (stays (falls n)) (solicited now n) n) where
  pub turned_planned : (planned planned' : Planned) (date : Option ℕ) → IsPlanned ns planned → date ≡ date_of m → Redated key date planned.dates planned'.dates → planned'.room ≡ planned.room → IsPlanned (set ns i m) planned'
  turned_planned planned planned' date q date_is redated room_is =
      let room : length ns ≤ planned.room = q.room in
      record {
        order = set_rises address key ns (set ns i m) i n p lt is n_key m (turned_key now n m changed ∙ n_key) refl;
        dates = set_dates address key ns (set ns i m) i n p lt is n_key date_of planned.dates planned'.dates q.dates m (turned_key now n m changed ∙ n_key) refl
            (subst (λ (o : Option ℕ). Redated key o planned.dates planned'.dates) date_is redated);
        room = omega (arith, room, room_is, length-set {A = NeighbourEntry});
      }

  -- where none is left nothing changes before it goes
  pub unturned : stays (falls n) ≡ false → set ns i m ≡ ns
  unturned none = ap (set ns i) (changed ∙ (cond-false (stays (falls n)) (solicited now n) n none ∙ is)) ∙ set-get_or ns i n

-- a mark changes no date
pub marked_planned : (key : ℕ) (router : Bool) (old new : List NeighbourEntry) (planned : Planned) → Alters key (λ n. with_mark router n) old new → IsPlanned old planned → IsPlanned new planned
marked_planned key router old new planned (NotThere absent is) p = subst (λ (l : List NeighbourEntry). IsPlanned l planned) (sym is) p
marked_planned key router old new planned (There i n lt at_i found is) p =
    let n_key : n.key ≡ key = key_is address key old n found in
    let room : length old ≤ planned.room = p.room in
    record {
      order = set_rises address key old new i n p.order lt at_i n_key (with_mark router n) n_key is;
      dates = kept_dates address key old new i n (with_mark router n) date_of planned.dates p.order lt at_i n_key n_key refl is p.dates;
      room = omega (arith, room, ap length is, length-set {A = NeighbourEntry});
    }

-- there is room for the date of one that comes
pub came_room : (mid : List NeighbourEntry) (planned : Planned) (date : Option ℕ) → IsPlanned mid planned → length mid < planned.room → IfSome date (λ _. keyed.Rises rank planned.dates → length planned.dates < planned.room)
came_room mid planned None p lt = tt
came_room mid planned (Some t) p lt = λ r.
    let le : length planned.dates ≤ length mid = no_more address date_of mid planned.dates r (Rises-unique address mid p.order) p.dates in
    omega arith

-- and none is needed where one is there already
pub no_room : (P : Type 0) (was : Option ℕ) (t : ℕ) → was ≡ Some t → IfNone was P
no_room P was t is = subst (λ (o : Option ℕ). IfNone o P) (sym is) tt
