-- What a turn says, whatever it answers by.
use Rattle.std.proofs.Common.{◌≡◌, ℕ, ◌<◌, List, Option, Some, None, sym, ◌∙◌, ap, subst}
use Rattle.std.specs.Prelude.{IfSome, IfNone, ◌≢◌}
use Rattle.std.specs.Option.{option_map}
use Rattle.nd_slaac.specs.History.{Row}
use Rattle.nd_slaac.specs.AddressKept.{Address}
use Rattle.nd_slaac.specs.TableKept.{Table, Stands, GainsRow}
use Rattle.nd_slaac.specs.Due.{Falls, FirstDue, due_row}
use Rattle.nd_slaac.specs.Dates.{next_in, NoneBefore, turns_left, Turns, Rests}
use Rattle.nd_slaac.specs.MayCome.{MayCome}
use Rattle.nd_slaac.proofs.First.{next_not_now}
use Rattle.nd_slaac.proofs.Dues.{turn_falls, rest_falls, turn_gains, turn_comes, turn_fewer, turn_later}

module _ {X : Type 0} (f : X → Falls) (now : ℕ) (new : List Address) where
  abbrev TurnsBy : Table → Option X → Type 0
  TurnsBy table o = IfSome o (λ d. Turns table.transmits now table.addresses new (f d))

  pub due_call : (o : Option X) (inside old : Table) → inside ≡ old → TurnsBy inside o → IfNone o (Rests now inside.addresses) → (history : List Row) → Stands old.addresses history → FirstDue old.transmits history now (option_map f o)
  due_call None inside old e t none history s = rest_falls old.transmits old.addresses history s now (subst (λ (x : Table). Rests now x.addresses) e none)
  due_call (Some d) inside old e t none history s = turn_falls old.transmits old.addresses history s now new (f d) (subst (λ (x : Table). TurnsBy x (Some d)) e t)

  pub gains_call : (o : Option X) (inside old : Table) → inside ≡ old → TurnsBy inside o → IfSome o (λ d. GainsRow old.addresses new (due_row now (f d)))
  gains_call None inside old e t = tt
  gains_call (Some d) inside old e t = turn_gains old.transmits now old.addresses new (f d) (subst (λ (x : Table). TurnsBy x (Some d)) e t)

  pub comes_call : (o : Option X) (inside old : Table) → inside ≡ old → NoneBefore old.addresses now → TurnsBy inside o → IfSome o (λ d. (history : List Row) → Stands old.addresses history → MayCome old.transmits (due_row now (f d)) history)
  comes_call None inside old e h t = tt
  comes_call (Some d) inside old e h t = λ history s. turn_comes old.transmits old.addresses history s now h new (f d) (subst (λ (x : Table). TurnsBy x (Some d)) e t)

  pub fewer_call : (o : Option X) (inside old : Table) → inside ≡ old → TurnsBy inside o → IfSome o (λ _. turns_left inside.transmits new < turns_left old.transmits old.addresses)
  fewer_call None inside old e t = tt
  fewer_call (Some d) inside old e t =
      subst (λ (n : ℕ). turns_left n new < turns_left old.transmits old.addresses) (sym (ap (λ (x : Table). x.transmits) e)) (turn_fewer old.transmits now old.addresses new (f d) (subst (λ (x : Table). TurnsBy x (Some d)) e t))

  pub later_call : (o : Option X) (inside old : Table) → inside ≡ old → TurnsBy inside o → IfNone o (new ≡ inside.addresses) → NoneBefore old.addresses now → NoneBefore new now
  later_call None inside old e t same h = subst (λ (l : List Address). NoneBefore l now) (sym (same ∙ ap (λ (x : Table). x.addresses) e)) h
  later_call (Some d) inside old e t same h = turn_later old.transmits now old.addresses new (f d) (subst (λ (x : Table). TurnsBy x (Some d)) e t) h

pub none_call : {X : Type 0} (now : ℕ) (o : Option X) (inside old : Table) → inside ≡ old → IfNone o (Rests now inside.addresses) → IfNone o (next_in old.addresses ≢ Some now)
none_call now None inside old e none = λ h. let r : Rests now old.addresses = subst (λ (x : Table). Rests now x.addresses) e none in next_not_now now old.addresses h r.ends r.steps
none_call now (Some d) inside old e none = tt
