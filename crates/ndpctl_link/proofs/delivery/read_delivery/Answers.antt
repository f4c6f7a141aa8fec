use Rattle.std.proofs.Common.{◌<◌, ◌^◌, rules, subst, sym}
use Rattle.ndpctl_run.specs.Number.{IsNumberWord}
use Rattle.ndpctl_run.proofs.Partings.{in_front, with_rest}
use Rattle.ndpctl_link.proofs.delivery.read_delivery.Goals as goal

pub returns-in_err-node-clause-only : goal.returns-in_err-node-clause-only
returns-in_err-node-clause-only c = λ node frame p. absurd (c.in_err-node.ensures.only node p.rest (in_front c.args.words.now _ _ p))

pub returns-in_err-frame-clause-only : goal.returns-in_err-frame-clause-only
returns-in_err-frame-clause-only c = λ node frame p.
    let first = c.in_ok-node.ensures.only node p.rest (in_front c.args.words.now _ _ p) in
    let word = subst (λ word. IsNumberWord (2 ^ 64) word frame) (sym first.1) p.behind in
    let none = c.in_err-frame.ensures.only frame word.0 word.1 in
    cc

pub returns-clause-only : goal.returns-clause-only
returns-clause-only c = λ node frame p.
    let first = c.in_ok-node.ensures.only node p.rest (in_front c.args.words.now _ _ p) in
    let word = subst (λ word. IsNumberWord (2 ^ 64) word frame) (sym first.1) p.behind in
    let second = c.in_ok-frame.ensures.only frame word.0 word.1 in
    (first.0, (cc))

pub returns-clause-found : goal.returns-clause-found
returns-clause-found c =
    let small : c.in_ok-frame.frame < 2 ^ 64 = search rules in
    with_rest c.args.words.now c.in_ok-node.rest.now _ _ c.in_ok-node.ensures.found (small, c.in_ok-frame.ensures.found)
