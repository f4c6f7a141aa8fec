-- What calls that change one address, or let one in, add to the history.
use Rattle.std.proofs.Common.{◌≡◌, ℕ, eqb, List, ◌∷◌, Some, None, refl, sym, ap, subst, ◌∙◌, inl, inr}
use Rattle.std.proofs.lemmas.Bool.{eqb-true, cond-true, cond-false, cases_Bool}
use Rattle.nd_table.specs.Keyed.{Rises}
use Rattle.nd_table.proofs.Keyed.{key_is, put_in, at_key-put, Rises-put}
use Rattle.nd_slaac.specs.History as kinds
use Rattle.nd_slaac.specs.History.{Row, RowKind, Story, story, is_end, Lifetimes}
use Rattle.nd_slaac.specs.AddressKept.{Address, address_of}
use Rattle.nd_slaac.specs.TableKept.{key_of, address_in, GainsRow, GainsRows, Stands}
use Rattle.nd_slaac.specs.Calls.{formed, announced, failed, set_by_hand, with_set, Alters, Leaves, Sets}
use Rattle.nd_slaac.specs.declared.prefix_option.Taken.{Taken}
use Rattle.nd_slaac.specs.declared.prefix_option.Taken.TheVariants.{Formed, Renewed, Ignored}
use Rattle.nd_slaac.specs.declared.prefix_option.Full.{Full}
use Rattle.nd_slaac.proofs.Changes.{when_formed, when_announced, when_conflict, when_set}
use Rattle.nd_slaac.proofs.Steps.{changing, entering, leaving, other_story, same_story}
use Rattle.std.specs.Prelude.{false, Result, Ok, Err}

altered : (key at : ℕ) (h : RowKind) (change : Address → Address) (old new : List Address) → is_end h ≡ false → ((a : Address) → (change a).key ≡ a.key) → ((s : Story) (a : Address) → address_of key s ≡ Some a → address_of key ((at, h) ∷ s) ≡ Some (change a)) → Alters key change old new → GainsRow old new (at, key, h)
altered key at h change old new goes keeps makes alters =
    let a = alters.address in
    let a_key : a.key ≡ key = key_is key_of key old a alters.found in
    changing old new key at h alters.at a (change a) goes alters.within alters.is a_key (keeps a ∙ a_key) alters.new_is (λ history s. alters.found) (λ s there. makes s a there)

pub announced_gains : (key at : ℕ) (lifetimes : Lifetimes) (old new : List Address) → Alters key (announced at lifetimes) old new → GainsRow old new (at, key, kinds.Announced lifetimes)
announced_gains key at lifetimes old new alters =
    altered key at (kinds.Announced lifetimes) (announced at lifetimes) old new refl (λ a. refl) (λ s a there. when_announced key at s a there lifetimes) alters

pub set_gains : (key at : ℕ) (lifetimes : Lifetimes) (old new : List Address) → Alters key (set_by_hand at lifetimes) old new → GainsRow old new (at, key, kinds.SetByHand lifetimes)
set_gains key at lifetimes old new alters =
    altered key at (kinds.SetByHand lifetimes) (set_by_hand at lifetimes) old new refl (λ a. refl) (λ s a there. when_set key at s a there lifetimes) alters

pub conflict_gains : (key at : ℕ) (old new : List Address) → Alters key failed old new → GainsRow old new (at, key, kinds.Conflict)
conflict_gains key at old new alters = altered key at kinds.Conflict failed old new refl (λ a. refl) (λ s a there. when_conflict key at s a there) alters

pub formed_gains : (key at delay retrans : ℕ) (lifetimes : Lifetimes) (old new : List Address) → address_in key old ≡ None → new ≡ put_in key_of (formed key at delay retrans (Some lifetimes)) old → GainsRow old new (at, key, kinds.Formed delay retrans (Some lifetimes))
formed_gains key at delay retrans lifetimes old new absent is =
    entering old new key at (kinds.Formed delay retrans (Some lifetimes)) (formed key at delay retrans (Some lifetimes)) refl absent refl is (λ s. when_formed key at delay retrans (Some lifetimes) s)

-- an address that is given by hand and wasn't known is formed, and its lifetimes are set
pub formed_set : (key at retrans : ℕ) (lifetimes : Lifetimes) (old new : List Address) → address_in key old ≡ None → new ≡ put_in key_of (set_by_hand at lifetimes (formed key at 0 retrans (Some lifetimes))) old
    → (history : List Row) → Stands old history → Stands new ((at, key, kinds.SetByHand lifetimes) ∷ (at, key, kinds.Formed 0 retrans (Some lifetimes)) ∷ history)
formed_set key at retrans lifetimes old new absent is history s = record {
  each = λ k. each_other_twice k;
  order = subst (Rises key_of) (sym is) (Rises-put key_of m old s.order absent);
}
  where
    m : Address
    m = set_by_hand at lifetimes (formed key at 0 retrans (Some lifetimes))

    rows : List Row
    rows = (at, key, kinds.Formed 0 retrans (Some lifetimes)) ∷ history

    each_other_twice : (k : ℕ) → address_in k new ≡ address_of k (story k ((at, key, kinds.SetByHand lifetimes) ∷ rows))
    each_other_twice k = elim (cases_Bool (eqb key k)) [
      | inl same ↦
          let e : key ≡ k = eqb-true key k same in
          ap (λ (l : List Address). address_in k l) is ∙ (at_key-put key_of k m old ∙ (cond-true (eqb key k) (Some m) (address_in k old) same
          ∙ subst (λ (j : ℕ). Some m ≡ address_of j (story j ((at, key, kinds.SetByHand lifetimes) ∷ rows))) e
          (sym (ap (address_of key) (same_story key at (kinds.SetByHand lifetimes) rows refl)
          ∙ when_set key at (story key rows) (formed key at 0 retrans (Some lifetimes))
          (ap (address_of key) (same_story key at (kinds.Formed 0 retrans (Some lifetimes)) history refl) ∙ when_formed key at 0 retrans (Some lifetimes) (story key history)) lifetimes))))
      | inr differ ↦
          ap (λ (l : List Address). address_in k l) is ∙ (at_key-put key_of k m old ∙ (cond-false (eqb key k) (Some m) (address_in k old) differ
          ∙ (s.each k ∙ ap (address_of k) (sym (other_story k key at (kinds.SetByHand lifetimes) rows differ ∙ other_story k key at (kinds.Formed 0 retrans (Some lifetimes)) history differ)))))
    ]

-- an address that is withdrawn ends
pub leaves_gains : (place key at : ℕ) (old new : List Address) → Leaves place key old new → GainsRow old new (at, key, kinds.Ended)
leaves_gains place key at old new l = leaving old new key at place l.address l.within l.is l.key_is l.new_is

-- an address is given by hand
pub gains_set : (now key retrans : ℕ) (lifetimes : Lifetimes) (r : Result Taken Full) (old new : List Address) → Sets now key lifetimes retrans r old new → GainsRows old new (with_set now key lifetimes retrans r)
gains_set now key retrans lifetimes (Ok Formed) old new sets = record { stands = formed_set key now retrans lifetimes old new sets.0 sets.1 }
gains_set now key retrans lifetimes (Ok Renewed) old new sets = record { stands = (set_gains key now lifetimes old new sets).stands }
gains_set now key retrans lifetimes (Ok Ignored) old new sets = record { stands = λ history s. subst (λ (l : List Address). Stands l history) (sym sets) s }
gains_set now key retrans lifetimes (Err full) old new sets = record { stands = λ history s. subst (λ (l : List Address). Stands l history) (sym sets) s }
