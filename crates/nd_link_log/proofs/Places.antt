-- Facts of each place of a log that is written out.
use Rattle.std.proofs.Common.{◌≡◌, inl, inr, ℕ, ◌≤◌, Bool, true, false, List, [], ◌∷◌, length, eqb, refl, sym, ◌∙◌, ap, subst, arith, ⊎_elim}
use Rattle.std.specs.Prelude.{◌&&◌, not}
use Rattle.std.proofs.lemmas.Bool.{eqb-true, true≢false, cases_Bool}
use Rattle.nd_table.specs.History.{Past}
use Rattle.nd_slaac.specs.History.{Row, RowKind, story, Formed, SetByHand, Announced, Solicited, Conflict, Assigned, Ended}
use Rattle.nd_slaac.specs.State.{has_conflict, is_known, was_assigned}
use Rattle.nd_slaac.proofs.Steps.{ended_story, other_story, same_story}
use Rattle.nd_chronicle.specs.Happening.{Address}
use Rattle.nd_chronicle.specs.Histories.{address_history}
use Rattle.nd_chronicle.specs.OwnAddress.{story_of}
use Rattle.nd_chronicle.proofs.Pasts.{place_of}
use Rattle.nd_link_log.specs.Log.{Entry, Log, Adds, chronicle_of}
use Rattle.nd_link_log.specs.Holding.{Holds}
use Rattle.nd_link_log.proofs.Chronicles.{lift}

abbrev pub AllPlaces : (Log → Type 0) → Log → Type 0
AllPlaces P [] = P []
AllPlaces P (entry ∷ log) = P (entry ∷ log) × AllPlaces P log

pub at_place : (P : Log → Type 0) (d log : Log) → Past d log → AllPlaces P log → P d
at_place P d [] p all = subst P (sym p) all
at_place P d (entry ∷ log) p all = ⊎_elim (λ same. subst P (sym same) all.0) (λ below. at_place P d log below all.1) p

-- ---- since a place

abbrev pub Since : Log → (Log → Type 0) → Log → Type 0
Since place P log = (d : Log) → Past d log → Past place d → P d

shorter : (a log : Log) → Past a log → length a ≤ length log
shorter a [] p = let e = ap length p in omega (arith, e)
shorter a (entry ∷ log) p = ⊎_elim (λ same. let e = ap length same in omega (arith, e)) (λ below. let le = shorter a log below in omega (arith, le)) p

pub since_here : (entry : Entry) (log : Log) (P : Log → Type 0) → P (entry ∷ log) → Since (entry ∷ log) P (entry ∷ log)
since_here entry log P now d p q = ⊎_elim (λ same. subst P (sym same) now)
    (λ below. let le = shorter (entry ∷ log) d q in let more = shorter d log below in absurd (omega (arith, le, more))) p

pub since_more : (place : Log) (entry : Entry) (log : Log) (P : Log → Type 0) → P (entry ∷ log) → Since place P log → Since place P (entry ∷ log)
since_more place entry log P now before d p q = ⊎_elim (λ same. subst P (sym same) now) (λ below. before d below q) p

-- ---- who holds an address has the row of its assignment

module _ (key : ℕ) where
  abbrev IsRow : List Row → Type 0
  IsRow history = (at : ℕ) × (over : List Row) × Past ((at, key, Assigned) ∷ over) history

  further : (row : Row) (history : List Row) → IsRow history → IsRow (row ∷ history)
  further row history r = (r.0, r.1, inr r.2)

  own_row : (at : ℕ) (kind : RowKind) (history : List Row) → (was_assigned (story key history) ≡ true → IsRow history) → was_assigned (story key ((at, key, kind) ∷ history)) ≡ true
      → IsRow ((at, key, kind) ∷ history)
  own_row at Assigned history before was = (at, history, inl refl)
  own_row at Ended history before was = absurd (true≢false (sym was ∙ ap was_assigned (ended_story key at history)))
  own_row at (Formed delay retrans lifetimes) history before was = absurd (true≢false (sym was ∙ ap was_assigned (same_story key at (Formed delay retrans lifetimes) history refl)))
  own_row at (SetByHand lifetimes) history before was = further _ history (before (sym (ap was_assigned (same_story key at (SetByHand lifetimes) history refl)) ∙ was))
  own_row at (Announced lifetimes) history before was = further _ history (before (sym (ap was_assigned (same_story key at (Announced lifetimes) history refl)) ∙ was))
  own_row at Solicited history before was = further _ history (before (sym (ap was_assigned (same_story key at Solicited history refl)) ∙ was))
  own_row at Conflict history before was = further _ history (before (sym (ap was_assigned (same_story key at Conflict history refl)) ∙ was))

  row_in : (history : List Row) → was_assigned (story key history) ≡ true → IsRow history
  row_in [] was = absurd (true≢false (sym was))
  row_in ((at, k, kind) ∷ history) was = elim (cases_Bool (eqb k key)) [
    | inl e ↦
        let same = eqb-true k key e in
        subst (λ (n : ℕ). was_assigned (story key ((at, n, kind) ∷ history)) ≡ true → IsRow ((at, n, kind) ∷ history)) (sym same) (own_row at kind history (row_in history)) was
    | inr e ↦ further _ history (row_in history (sym (ap was_assigned (other_story key k at kind history e)) ∙ was))
  ]

  assigned_by : (known conflict was : Bool) → (known && not conflict && was) ≡ true → was ≡ true
  assigned_by true false was h = h
  assigned_by true true was h = absurd (true≢false (sym h))
  assigned_by false conflict was h = absurd (true≢false (sym h))

  pub assigned_row : (node : ℕ) (log : Log) → Holds node key log → (at : ℕ) × (over : Log) × Past (Adds node at (Address key Assigned) ∷ over) log
  assigned_row node log holds =
      let s = story_of (chronicle_of node log) key in
      let row = row_in (address_history (chronicle_of node log)) (assigned_by (is_known s) (has_conflict s) (was_assigned s) holds) in
      let place = place_of row.0 key Assigned row.1 (chronicle_of node log) row.2 in
      let entry = lift node row.0 (Address key Assigned) place.before log place.there in (row.0, entry.below, entry.there)
