-- An event that the node turns away changes nothing.
use Rattle.std.proofs.Common.{◌≡◌, ℕ, ◌∷◌, refl, sym, subst}
use Rattle.nd_addr.specs.declared.why.Why.{Why}
use Rattle.nd_chronicle.specs.Start.{Start}
use Rattle.nd_chronicle.specs.Happening.{Chronicle, Dropped, Passed, Refused}
use Rattle.nd_chronicle.specs.Event.{Event, EventAdds, FrameAdds, VerdictAdds}
use Rattle.nd_chronicle.specs.Hearing.{IsHeard, Verdict, drops}
use Rattle.nd_chronicle.specs.Unchanged.{IsDropped, IsRefused, IsTurnedAway, IsUnchanged}
use Rattle.nd_chronicle.proofs.Answering.{refusal_added}
use Rattle.nd_chronicle.proofs.Hops.{one_heard}
use Rattle.nd_chronicle.proofs.Unchanged.{unchanged_by_event}

module _ (start : Start) (now : ℕ) (event : Event) (c d : Chronicle) where
  -- a frame has one verdict, so what it adds is that it is dropped
  drop_added : (frame : _) (why : Why) → IsHeard start ((now, Passed) ∷ c) now frame (drops why) → FrameAdds start now frame ((now, Passed) ∷ c) d → d ≡ (now, Dropped why) ∷ (now, Passed) ∷ c
  drop_added frame why dropped adds =
      subst (λ (v : Verdict). VerdictAdds start now frame v ((now, Passed) ∷ c) d) (one_heard ((now, Passed) ∷ c) now start frame adds.verdict (drops why) adds.heard dropped) adds.adds

  pub turned_away : EventAdds start now event ((now, Passed) ∷ c) d → IsTurnedAway start now event ((now, Passed) ∷ c) d → IsUnchanged start c d
  turned_away adds (IsDropped frame why is dropped) =
      subst (λ (e : Chronicle). IsUnchanged start c e)
      (sym (drop_added frame why dropped (subst (λ (e : Event). EventAdds start now e ((now, Passed) ∷ c) d) is adds)))
      (unchanged_by_event start c now (Dropped why) refl)
  turned_away adds (IsRefused refusal is) =
      subst (λ (e : Chronicle). IsUnchanged start c e) (sym (refusal_added start now event c d adds refusal is)) (unchanged_by_event start c now (Refused refusal) refl)
