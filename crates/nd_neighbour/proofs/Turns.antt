-- What a turn does to the table, and what that says of the history.
use Rattle.std.proofs.Common.{◌≡◌, ℕ, ◌<◌, true, false, cond, List, length, get_or, set, Some, sym, ◌∙◌, ap}
use Rattle.std.specs.Prelude.{slice_get}
use Rattle.std.specs.List.{remove}
use Rattle.std.proofs.lemmas.List.{set-get_or, get_or_default}
use Rattle.std.proofs.lemmas.Option.{slice_get-get_or}
use Rattle.std.proofs.lemmas.Bool.{cond-true, cond-false}
use Rattle.nd_neighbour.specs.EntryKept.{NeighbourEntry}
use Rattle.nd_neighbour.specs.Due.{Falls}
use Rattle.nd_neighbour.specs.DueKept.{falls, stays, solicited, due_in, Turns}

-- an entry for which a solicitation is left stays
pub stayed : (now : ℕ) (ns : List NeighbourEntry) (i : ℕ) (n m : NeighbourEntry) (what : Falls) → i < length ns → due_in now ns ≡ slice_get ns i → n ≡ get_or ns i n → m ≡ cond (stays (falls n)) (solicited now n) n → stays (falls n) ≡ true → what ≡ falls n → Turns now ns (set ns i m) what
stayed now ns i n m what lt first is changed some what_is = record {
  at = i;
  entry = n;
  within = lt;
  is = is;
  first = first ∙ (slice_get-get_or ns i n lt ∙ ap Some (sym is));
  falls_is = what_is;
  new_is = ap (set ns i) (changed ∙ cond-true (stays (falls n)) (solicited now n) n some) ∙ sym (cond-true (stays (falls n)) (set ns i (solicited now n)) (remove ns i) some);
}

-- an entry for which no solicitation is left is taken out
pub went : (now : ℕ) (ns : List NeighbourEntry) (i : ℕ) (n m r : NeighbourEntry) (new : List NeighbourEntry) (what : Falls) → i < length ns → due_in now ns ≡ slice_get ns i → n ≡ get_or ns i n → m ≡ cond (stays (falls n)) (solicited now n) n → stays (falls n) ≡ false → r ≡ get_or (set ns i m) i r → what ≡ falls r → new ≡ remove (set ns i m) i → Turns now ns new what
went now ns i n m r new what lt first is changed none taken what_is new_is =
    let m_is : m ≡ n = changed ∙ cond-false (stays (falls n)) (solicited now n) n none in
    let same : set ns i m ≡ ns = ap (set ns i) (m_is ∙ is) ∙ set-get_or ns i n in
    let r_is : r ≡ n = taken ∙ (ap (λ (l : List NeighbourEntry). get_or l i r) same ∙ (get_or_default ns i r n lt ∙ sym is)) in
    record {
      at = i;
      entry = n;
      within = lt;
      is = is;
      first = first ∙ (slice_get-get_or ns i n lt ∙ ap Some (sym is));
      falls_is = what_is ∙ ap falls r_is;
      new_is = new_is ∙ (ap (λ (l : List NeighbourEntry). remove l i) same ∙ sym (cond-false (stays (falls n)) (set ns i (solicited now n)) (remove ns i) none));
    }
