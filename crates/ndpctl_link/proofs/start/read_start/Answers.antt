use Rattle.std.proofs.Common.{◌≡◌, subst, sym}
use Rattle.nd_addr.specs.Spelling.{SpellsMac}
use Rattle.ndpctl_run.specs.Words.{Parts, words_of}
use Rattle.ndpctl_run.proofs.Partings.{in_front, with_rest}
use Rattle.ndpctl_link.specs.Start.{SpellEnd}
use Rattle.ndpctl_link.proofs.start.read_start.Goals as goal

pub returns-in_err-role-clause-only : goal.returns-in_err-role-clause-only
returns-in_err-role-clause-only c = λ role mac transmits source p. absurd (c.in_err-role.ensures.only role p.rest (in_front c.args.words.now _ _ p))

pub returns-in_err-mac-clause-only : goal.returns-in_err-mac-clause-only
returns-in_err-mac-clause-only c = λ role mac transmits source p.
    let first = c.in_ok-role.ensures.only role p.rest (in_front c.args.words.now _ _ p) in
    let behind = subst (λ rest. Parts rest (λ word. SpellsMac word mac.0) (λ r. r ≡ p.behind.rest)) (sym first.1) (in_front p.rest _ _ p.behind) in
    absurd (c.in_err-mac.ensures.only mac p.behind.rest behind)

pub returns-in_err-transmits-clause-only : goal.returns-in_err-transmits-clause-only
returns-in_err-transmits-clause-only c = λ role mac transmits source p.
    let first = c.in_ok-role.ensures.only role p.rest (in_front c.args.words.now _ _ p) in
    let behind = subst (λ rest. Parts rest (λ word. SpellsMac word mac.0) (λ r. r ≡ p.behind.rest)) (sym first.1) (in_front p.rest _ _ p.behind) in
    let second = c.in_ok-mac.ensures.only mac p.behind.rest behind in
    absurd (c.in_err-transmits.ensures.only transmits source (subst (λ rest. SpellEnd (words_of rest) transmits source) (sym second.1) p.behind.behind))

pub returns-clause-only : goal.returns-clause-only
returns-clause-only c = λ role mac transmits source p.
    let first = c.in_ok-role.ensures.only role p.rest (in_front c.args.words.now _ _ p) in
    let behind = subst (λ rest. Parts rest (λ word. SpellsMac word mac.0) (λ r. r ≡ p.behind.rest)) (sym first.1) (in_front p.rest _ _ p.behind) in
    let second = c.in_ok-mac.ensures.only mac p.behind.rest behind in
    let third = c.in_ok-transmits.ensures.only transmits source (subst (λ rest. SpellEnd (words_of rest) transmits source) (sym second.1) p.behind.behind) in
    (first.0, second.0, third.0, third.1)

pub returns-clause-found : goal.returns-clause-found
returns-clause-found c =
    with_rest c.args.words.now c.in_ok-role.rest.now _ _ c.in_ok-role.ensures.found
    (with_rest c.in_ok-role.rest.now c.in_ok-mac.rest.now _ _ c.in_ok-mac.ensures.found c.in_ok-transmits.ensures.found)
