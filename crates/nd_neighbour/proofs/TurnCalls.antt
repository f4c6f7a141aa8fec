-- What a turn says, whatever it answers by.
use Rattle.std.proofs.Common.{◌≡◌, true, ℕ, ◌<◌, List, Option, Some, None, sym, ◌∙◌, subst}
use Rattle.std.specs.Prelude.{IfSome, IfNone, ◌≢◌}
use Rattle.std.specs.Option.{option_map}
use Rattle.nd_neighbour.specs.History.{Row}
use Rattle.nd_neighbour.specs.EntryKept.{NeighbourEntry}
use Rattle.nd_neighbour.specs.LeaseKept.{LeavesLeases}
use Rattle.nd_neighbour.specs.TableKept.{Stands, GainsRow, Rises}
use Rattle.nd_neighbour.specs.Due.{Falls, FirstDue, due_row}
use Rattle.nd_neighbour.specs.DueKept.{next_in, due_in, NoneBefore, stays, turns_left, Turns, date_of}
use Rattle.nd_neighbour.proofs.Leases.{turned_leaves}
use Rattle.nd_neighbour.proofs.Dues.{first_falls, none_falls, turned_gains, turned_fewer, turned_later}
use Rattle.nd_table.proofs.Due.{next_not_now}

module _ {X : Type 0} (f : X → Falls) (now : ℕ) (new : List NeighbourEntry) where
  pub due_call : (o : Option X) (inside old : List NeighbourEntry) → inside ≡ old → IfSome o (λ d. Turns now inside new (f d)) → IfNone o (due_in now inside ≡ None) → (history : List Row) → Stands old history → FirstDue history now (option_map f o)
  due_call None inside old e t none history s = none_falls old history s now (subst (λ (l : List NeighbourEntry). due_in now l ≡ None) e none)
  due_call (Some d) inside old e t none history s = first_falls old history s now new (f d) (subst (λ (l : List NeighbourEntry). Turns now l new (f d)) e t)

  pub gains_call : (o : Option X) (inside old : List NeighbourEntry) → inside ≡ old → IfSome o (λ d. Turns now inside new (f d)) → IfSome o (λ d. GainsRow old new (due_row now (f d)))
  gains_call None inside old e t = tt
  gains_call (Some d) inside old e t = turned_gains now old new (f d) (subst (λ (l : List NeighbourEntry). Turns now l new (f d)) e t)

  pub fewer_call : (o : Option X) (inside old : List NeighbourEntry) → inside ≡ old → IfSome o (λ d. Turns now inside new (f d)) → IfSome o (λ _. turns_left new < turns_left old)
  fewer_call None inside old e t = tt
  fewer_call (Some d) inside old e t = turned_fewer now old new (f d) (subst (λ (l : List NeighbourEntry). Turns now l new (f d)) e t)

  pub later_call : (o : Option X) (inside old : List NeighbourEntry) → inside ≡ old → IfSome o (λ d. Turns now inside new (f d)) → IfNone o (new ≡ inside) → NoneBefore old now → NoneBefore new now
  later_call None inside old e t same h = subst (λ (l : List NeighbourEntry). NoneBefore l now) (sym (same ∙ e)) h
  later_call (Some d) inside old e t same h = turned_later now old new (f d) (subst (λ (l : List NeighbourEntry). Turns now l new (f d)) e t) h

  pub leaves_call : (o : Option X) (inside old : List NeighbourEntry) → inside ≡ old → IfSome o (λ d. Turns now inside new (f d)) → Rises old → IfSome o (λ d. stays (f d) ≡ true → LeavesLeases old new)
  leaves_call None inside old e t rises = tt
  leaves_call (Some d) inside old e t rises = turned_leaves now old new (f d) rises (subst (λ (l : List NeighbourEntry). Turns now l new (f d)) e t)

pub none_call : {X : Type 0} (now : ℕ) (o : Option X) (inside old : List NeighbourEntry) → inside ≡ old → IfNone o (due_in now inside ≡ None) → IfNone o (next_in old ≢ Some now)
none_call now None inside old e none = λ h. next_not_now date_of now old h (subst (λ (l : List NeighbourEntry). due_in now l ≡ None) e none)
none_call now (Some d) inside old e none = tt
