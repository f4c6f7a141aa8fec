-- What a log was at some time.
use Rattle.std.proofs.Common.{◌≡◌, ℕ, true, false, Bool, [], ◌∷◌, Option, Some, refl, subst, ⊎_elim}
use Rattle.std.specs.Prelude.{◌==◌, is_some, if◌then◌else◌}
use Rattle.nd_table.specs.History.{Past}
use Rattle.nd_chronicle.specs.Start.{Start}
use Rattle.nd_link_log.specs.Log.{Entry, Log, Begins, Adds, Carries, Reaches, Refuses, start_of}

-- who is there stays
pub there_past : (i : ℕ) (a log : Log) → Past a log → is_some (start_of i a) ≡ true → is_some (start_of i log) ≡ true
there_past i a [] p h = subst (λ (x : Log). is_some (start_of i x) ≡ true) p h
there_past i a (entry ∷ log) p h = ⊎_elim (λ same. subst (λ (x : Log). is_some (start_of i x) ≡ true) same h) (λ below. by entry (there_past i a log below h)) p
  where
    either : (own : Bool) (start : Start) (o : Option Start) → is_some o ≡ true → is_some (if own then Some start else o) ≡ true
    either true start o k = refl
    either false start o k = k

    by : (entry : Entry) → is_some (start_of i log) ≡ true → is_some (start_of i (entry ∷ log)) ≡ true
    by (Begins node start) k = either (node == i) start (start_of i log) k
    by (Adds node at what) k = k
    by (Carries node at number) k = k
    by (Reaches at) k = k
    by (Refuses at why) k = k
