use Rattle.std.proofs.Common.{◌≡◌, ◌∙◌, ℕ, false, List, Some, arith, sym, ap, subst, ⊎_elim, inl, inr}
use Rattle.std.specs.Prelude.{bytes_eq, slice_get}
use Rattle.std.proofs.lemmas.Bool.{cases_lt, true≢false}
use Rattle.std.proofs.lemmas.Option.{get_or_from_slice_get}
use Rattle.nd_addr.specs.Same.{bytes_tell}
use Rattle.ndpctl_run.specs.Command.{command_word}
use Rattle.ndpctl_run.proofs.CommandWords.{commands, place}
use Rattle.ndpctl_run.proofs.command.read_command_word.Goals as goal

pub returns-clause-only : goal.returns-clause-only
returns-clause-only c = λ command e.
    let at = place command in
    absurd (c.loop-command.invariant at.at command (omega (arith, at.within)) at.there e)

different : (a b : List ℕ) → bytes_eq a b ≡ false → a ≡ b → ⊥
different a b differ same = elim (bytes_tell a b) [ inl e ↦ true≢false (sym e.0 ∙ differ) | inr d ↦ d.1 same ]

pub loop-command-preserved : goal.loop-command-preserved
loop-command-preserved c = λ k command lt there e.
    ⊎_elim (λ less. c.loop-command.invariant k command less there e)
    (λ ge.
    let same : k ≡ c.loop-command.command-index = omega (arith, lt, ge) in
    let this = subst (λ (n : ℕ). slice_get commands n ≡ Some command) same there in
    let word = c.command_word.ensures ∙ ap command_word (get_or_from_slice_get commands c.loop-command.command-index command _ this) in
    different c.as_bytes.result.now c.args.word.now (sym c.if-eq.ensures) (c.as_bytes.ensures.value ∙ (word ∙ sym e)))
    (cases_lt k c.loop-command.command-index)
