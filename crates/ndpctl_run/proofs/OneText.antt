-- Lines say one history, and so have one text.
use Rattle.std.proofs.Common.{◌≡◌, ℕ, List, Option, sym, ap, subst, ◌∙◌}
use Rattle.nd_chronicle.specs.Start.{Start}
use Rattle.nd_chronicle.specs.Happening.{Chronicle}
use Rattle.nd_chronicle.specs.Event.{Event}
use Rattle.nd_chronicle.specs.History.{IsChronicle}
use Rattle.nd_chronicle.specs.Told.{text}
use Rattle.ndpctl_run.specs.Line.{IsLine}
use Rattle.ndpctl_run.specs.Script.{IsText}
use Rattle.ndpctl_run.proofs.Said.{OneReading, say_one}

-- what is asked of chronicles
abbrev pub OneChronicle : Type 0
OneChronicle = (start : Start) (said : List (ℕ × Event)) (c d : Chronicle) → IsChronicle start said c → IsChronicle start said d → c ≡ d

pub text_one : OneReading IsLine → OneChronicle → (start : Start) (n : ℕ) (lines : List (List ℕ)) (told other_told : List ℕ) (found other_found : Option ℕ)
    → IsText start n lines told found → IsText start n lines other_told other_found → (told ≡ other_told) × (found ≡ other_found)
text_one one chronicle start n lines told other_told found other_found p q =
    let said = say_one IsLine one lines n p.said q.said found other_found p.say q.say in
    let theirs = subst (λ (s : List (ℕ × Event)). IsChronicle start s p.chronicle) said.0 p.is_theirs in
    let same = chronicle start q.said p.chronicle q.chronicle theirs q.is_theirs in
    (p.text_is ∙ (ap text same ∙ sym q.text_is), said.1)
