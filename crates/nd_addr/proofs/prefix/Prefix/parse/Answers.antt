use Rattle.std.proofs.Common.{◌≡◌, ℕ, ◌+◌, List, Some, sym, subst, ◌∙◌}
use Rattle.std.proofs.lemmas.List.{take_rest}
use Rattle.nd_text.specs.Spelling.{SpellsAddress}
use Rattle.nd_addr.specs.Text.{groups_of}
use Rattle.nd_addr.proofs.PrefixTexts.{cut_of, no_slash, prefix_spelled, prefix_one}
use Rattle.nd_addr.proofs.prefix.Prefix.parse.Goals as goal

pub returns-in_default-clause-only : goal.returns-in_default-clause-only
returns-in_default-clause-only c = λ p s. no_slash c.args.text.now p s c.in_default.ensures.place

pub returns-in-Err-clause-only : goal.returns-in-Err-clause-only
returns-in-Err-clause-only c = λ p s.
    let cut = cut_of c.args.text.now p c.in-Some.at s c.in-Some.ensures.place.0 c.in-Some.ensures.place.1 c.in-Some.ensures.last in
    c.in-Err.ensures.only (groups_of s.address) (subst (λ (t : List ℕ). SpellsAddress t (groups_of s.address)) (sym cut.front_is) s.spelled)

pub returns-in_default-read_length-clause-only : goal.returns-in_default-read_length-clause-only
returns-in_default-read_length-clause-only c = λ p s.
    let cut = cut_of c.args.text.now p c.in-Some.at s c.in-Some.ensures.place.0 c.in-Some.ensures.place.1 c.in-Some.ensures.last in
    let none = c.in_default-read_length.ensures.only p.length s.short (take_rest c.args.text.now (c.in-Some.at + 1) ∙ cut.behind_is) in
    c.in_default-read_length.not-Some p.length (c.in_default-read_length.is ∙ none)

pub returns-in-Some-new-clause-found : goal.returns-in-Some-new-clause-found
returns-in-Some-new-clause-found c =
    let digits = sym (take_rest c.args.text.now (c.in-Some.at + 1)) ∙ c.in-Some-read_length.ensures.found.1 in
    prefix_spelled c.args.text.now c.in-Ok.address.0 c.in-Some.at c.in-Some-read_length.length c.in-Some-new.prefix c.in-Some.ensures.place.0 c.in-Some.ensures.place.1 c.in-Ok.ensures.found c.as_bytes-bytes.ensures.bytes c.in-Some-read_length.ensures.found.0 digits c.in-Some-new.ensures.1

pub returns-in-Some-new-clause-only : goal.returns-in-Some-new-clause-only
returns-in-Some-new-clause-only c = λ p s.
    let cut = cut_of c.args.text.now p c.in-Some.at s c.in-Some.ensures.place.0 c.in-Some.ensures.place.1 c.in-Some.ensures.last in
    let groups = c.in-Ok.ensures.only (groups_of s.address) (subst (λ (t : List ℕ). SpellsAddress t (groups_of s.address)) (sym cut.front_is) s.spelled) in
    let len : Some c.in-Some-read_length.length ≡ Some p.length = c.in-Some-read_length.ensures.only p.length s.short (take_rest c.args.text.now (c.in-Some.at + 1) ∙ cut.behind_is) in
    let same : c.in-Some-read_length.length ≡ p.length = cc in
    prefix_one c.args.text.now c.in-Ok.address.0 c.in-Some-read_length.length c.in-Some-new.prefix p s c.as_bytes-bytes.ensures.bytes groups same c.in-Some-new.ensures.1
