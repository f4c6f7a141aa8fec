-- A frame is determined by its number.
use Rattle.std.proofs.Common.{◌≡◌, ℕ, suc, ◌≤◌, Bool, true, false, List, [], ◌∷◌, sym, ◌∙◌, ap, subst, arith, ⊎_elim}
use Rattle.std.specs.Prelude.{if◌then◌else◌}
use Rattle.nd_table.specs.History.{Past}
use Rattle.nd_chronicle.specs.Happening.{Sent}
use Rattle.nd_link_log.specs.Log.{Entry, Log, Begins, Adds, Carries, Reaches, Refuses, is_sent, sent}

-- each entry leaves as many frames, or one more
more_sent : (entry : Entry) (log : Log) → sent log ≤ sent (entry ∷ log)
more_sent (Begins node start) log = omega arith
more_sent (Adds node at what) log = by (is_sent what)
  where
    by : (b : Bool) → sent log ≤ (if b then suc (sent log) else sent log)
    by true = omega arith
    by false = omega arith
more_sent (Carries node at frame) log = omega arith
more_sent (Reaches at) log = omega arith
more_sent (Refuses at why) log = omega arith

pub sent_before : (d log : Log) → Past d log → sent d ≤ sent log
sent_before d [] p = subst (λ (x : Log). sent x ≤ 0) (sym p) (omega arith)
sent_before d (entry ∷ log) p = ⊎_elim
    (λ same. subst (λ (x : Log). sent x ≤ sent (entry ∷ log)) (sym same) (omega arith))
    (λ below. let le = sent_before d log below in let more = more_sent entry log in omega (arith, le, more)) p

tail_of : {entry other : Entry} {log rest : Log} → entry ∷ log ≡ other ∷ rest → log ≡ rest
tail_of {entry} {other} {log} {rest} e = cc

module _ (i j at when : ℕ) (frame other : List ℕ) (a b : Log) where
  abbrev first : Log
  first = Adds i at (Sent frame) ∷ a

  abbrev second : Log
  second = Adds j when (Sent other) ∷ b

  pub one_frame : (log : Log) → Past first log → Past second log → sent a ≡ sent b → first ≡ second
  one_frame [] p q same = absurd (let no : ⊥ = cc in no)
  one_frame (entry ∷ log) p q same = ⊎_elim
      (λ here. ⊎_elim (λ there. here ∙ sym there)
      (λ below. let le = sent_before second log below in let t : sent a ≡ sent log = ap sent (tail_of here) in absurd (omega (arith, le, t, same))) q)
      (λ above. ⊎_elim (λ there. let le = sent_before first log above in let t : sent b ≡ sent log = ap sent (tail_of there) in absurd (omega (arith, le, t, same)))
      (λ below. one_frame log above below same) q) p
