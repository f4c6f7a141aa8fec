-- One table stands for the history, and the answers are one.
use Rattle.std.proofs.Common.{◌≡◌, ℕ, ◌≤◌, Bool, true, false, ltb, List, length, Option, Some, None, refl, sym, ◌∙◌, ap, subst, arith, inl, inr}
use Rattle.std.specs.Prelude.{is_some, ◌||◌, ◌↔◌}
use Rattle.std.proofs.lemmas.Bool.Decides.{nat_tests}
use Rattle.std.proofs.lemmas.Bool.{cond-false, true≢false}
use Rattle.nd_neighbour.specs.History.{Row, story}
use Rattle.nd_neighbour.specs.EntryKept.{NeighbourEntry}
use Rattle.nd_neighbour.specs.Story.{is_present}
use Rattle.nd_neighbour.specs.StoryKept.{the_entry}
use Rattle.nd_neighbour.specs.TableKept.{address, Stands}
use Rattle.nd_neighbour.specs.Due.{Falls, falling, FirstDue}
use Rattle.nd_neighbour.specs.GivingWay.{GivesWay}
use Rattle.nd_neighbour.specs.Place.{IsStale, IsLongestStale, WouldBeFull}
use Rattle.nd_neighbour.specs.PlaceKept.{stalest, NoPlace}
use Rattle.nd_neighbour.proofs.Steps.{entry_absent}
use Rattle.nd_table.proofs.Unique.{one_list}
use Rattle.nd_neighbour.proofs.Entering.{none_is_stale, some_stale}

pub one_table : (history : List Row) (a b : List NeighbourEntry) → Stands a history → Stands b history → a ≡ b
one_table history a b s t = one_list address a b s.order t.order (λ key. s.each key ∙ sym (t.each key))

pub one_due : (history : List Row) (moment : ℕ) (a b : Option Falls) → FirstDue history moment a → FirstDue history moment b → a ≡ b
one_due history moment None None h k = refl
one_due history moment None (Some y) h k = absurd (h k.key k.due)
one_due history moment (Some x) None h k = absurd (k h.key h.due)
one_due history moment (Some x) (Some y) h k =
    let e : h.key ≡ k.key = omega (arith, h.least k.key k.due, k.least h.key h.due) in
    ap Some (h.what ∙ (ap (λ key. falling key (story key history)) e ∙ sym k.what))

pub one_longest : (history : List Row) (now a b : ℕ) → IsLongestStale history now a → IsLongestStale history now b → a ≡ b
one_longest history now a b h k = elim (h.longest b k.stale) [
  | inl lt ↦ elim (k.longest a h.stale) [ inl lt' ↦ absurd (omega arith) | inr e ↦ let f = e.0 in absurd (omega arith) ]
  | inr e ↦ elim (k.longest a h.stale) [ inl lt ↦ let f = e.0 in absurd (omega arith) | inr f ↦ omega (arith, e.1, f.1) ]
]

-- there is no room by what is kept exactly where there is none by the history
no_stalest : (limit now : ℕ) (ns : List NeighbourEntry) (b : Bool) (o : Option NeighbourEntry) → (b || is_some o) ≡ false → (b ≡ false) × (o ≡ None)
no_stalest limit now ns true o h = absurd (true≢false h)
no_stalest limit now ns false None h = (refl, refl)
no_stalest limit now ns false (Some n) h = absurd (true≢false h)

none_left : (entries : List NeighbourEntry) (history : List Row) → Stands entries history → (now : ℕ) → ((k : ℕ) → IsStale history now k → ⊥) → (o : Option NeighbourEntry) → stalest now entries ≡ o → is_some o ≡ false
none_left entries history s now none None is = refl
none_left entries history s now none (Some n) is = absurd (none n.key (some_stale entries history s now n is))

pub full_by_history : (limit now key : ℕ) (entries : List NeighbourEntry) (history : List Row) → Stands entries history → NoPlace limit now key entries ↔ WouldBeFull limit now key history
full_by_history limit now key entries history s = (
  (λ no_place.
      let parts = no_stalest limit now entries (ltb (length entries) limit) (stalest now entries) no_place.1 in
      let many : limit ≤ length entries = grind (arith, nat_tests, parts.0) in
      record {
        absent = entry_absent key (story key history) (sym (s.each key) ∙ no_place.0);
        entries = entries;
        those = s;
        many = many;
        none_stale = none_is_stale entries history s now parts.1;
      }),
  (λ full.
      let same : full.entries ≡ entries = one_table history full.entries entries full.those s in
      let many : limit ≤ length entries = subst (λ (l : List NeighbourEntry). limit ≤ length l) same full.many in
      let few : ltb (length entries) limit ≡ false = grind (arith, nat_tests, many) in (
        s.each key ∙ cond-false (is_present (story key history)) (Some (the_entry key (story key history))) None full.absent,
        ap (λ b. b || is_some (stalest now entries)) few ∙ none_left entries history s now full.none_stale (stalest now entries) refl,
      )),
)

-- one neighbour gives way, or none
pub one_gives_way : (limit now key : ℕ) (history : List Row) (a b : Option ℕ) → GivesWay limit now key history a → GivesWay limit now key history b → a ≡ b
one_gives_way limit now key history None None h k = refl
one_gives_way limit now key history None (Some y) h k = absurd (h k.0 y k.1.incomplete)
one_gives_way limit now key history (Some x) None h k = absurd (k h.0 x h.1.incomplete)
one_gives_way limit now key history (Some x) (Some y) h k = elim (h.1.longest y k.1.incomplete) [
  | inl lt ↦ elim (k.1.longest x h.1.incomplete) [ inl lt' ↦ absurd (omega arith) | inr e ↦ let f = e.0 in absurd (omega arith) ]
  | inr e ↦ elim (k.1.longest x h.1.incomplete) [ inl lt ↦ let f = e.0 in absurd (omega arith) | inr f ↦ ap Some (omega (arith, e.1, f.1)) ]
]
