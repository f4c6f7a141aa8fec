use Rattle.std.proofs.Common.{◌≡◌, ◌∷◌, ◌++◌, ◌&&◌, ℕ, List, [], Some, None, Bool, true, false, refl, sym, ◌∙◌, append_assoc, arith, string_bytes}
use Rattle.std.specs.Prelude.{not, if◌then◌else◌}
use Rattle.std.specs.Str.{is_utf8, bytes_eq}
use Rattle.std.proofs.lemmas.Str.{IsUtf8-from_is_utf8, is_utf8-from_IsUtf8}
use Rattle.tests_tool.proofs.input_and_output.EchoAnsweringEach.answer_each.Goals as goal

is_false : (b : Bool) → ¬ (b ≡ true) → b ≡ false
is_false true different = absurd (different refl)
is_false false different = refl

pub returns-in-Err-clause-malformed : goal.returns-in-Err-clause-malformed
returns-in-Err-clause-malformed g c =
    let none : is_utf8 c.args.line.now ≡ false = is_false _ (λ yes. c.in-Err.ensures.cases.0 (IsUtf8-from_is_utf8 _ yes)) in
    λ _. rw none refl

pub returns-clause-answered : goal.returns-clause-answered
returns-clause-answered g c =
    let yes : is_utf8 c.args.line.now ≡ true = is_utf8-from_IsUtf8 _ c.in-Ok.ensures.cases.1 in
    let differs : bytes_eq c.args.line.now (98 ∷ 97 ∷ 100 ∷ []) ≡ false = rw c.in-Ok.ensures.cases.0 at (sym c.eq.ensures ∙ c.if-eq.false) in
    let told : string_bytes c.push.new.self ≡ string_bytes c.args.text.now ++ (c.args.line.now ++ 10 ∷ []) = grind (arith, append_assoc, c.in-Ok-push.ensures.bytes, c.in-Ok-push.ensures.ascii, c.in-Ok-push_str.ensures.bytes, c.in-Ok.ensures.cases.0) in
    rw (yes, differs) told

there_is_one : (line : List ℕ) → is_utf8 line ≡ true → bytes_eq line (98 ∷ 97 ∷ 100 ∷ []) ≡ false
    → (if is_utf8 line && not (bytes_eq line (98 ∷ 97 ∷ 100 ∷ [])) then Some (line ++ 10 ∷ []) else None) ≡ None → ⊥
there_is_one line valid differs e = let some : Some (line ++ 10 ∷ []) ≡ None = rw (valid, differs) at e in cc

pub returns-in-Err-push_str-clause-none : goal.returns-in-Err-push_str-clause-none
returns-in-Err-push_str-clause-none g c = λ e.
    absurd (there_is_one c.args.line.now (is_utf8-from_IsUtf8 _ c.in-Ok.ensures.cases.1) (rw c.in-Ok.ensures.cases.0 at (sym c.eq.ensures ∙ c.if-eq.false)) e)

pub returns-in-Err-push-clause-none : goal.returns-in-Err-push-clause-none
returns-in-Err-push-clause-none g c = λ e.
    absurd (there_is_one c.args.line.now (is_utf8-from_IsUtf8 _ c.in-Ok.ensures.cases.1) (rw c.in-Ok.ensures.cases.0 at (sym c.eq.ensures ∙ c.if-eq.false)) e)

pub returns-clause-none : goal.returns-clause-none
returns-clause-none g c = λ e.
    absurd (there_is_one c.args.line.now (is_utf8-from_IsUtf8 _ c.in-Ok.ensures.cases.1) (rw c.in-Ok.ensures.cases.0 at (sym c.eq.ensures ∙ c.if-eq.false)) e)
