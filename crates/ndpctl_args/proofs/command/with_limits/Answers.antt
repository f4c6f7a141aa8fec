use Rattle.std.proofs.Common.{◌∙◌, ap, codes}
use Rattle.std.proofs.lemmas.Result.{IfOk-weaker}
use Rattle.clap.specs.Words.{App}
use Rattle.ndpctl_args.specs.CommandLine.{with_limit}
use Rattle.ndpctl_args.proofs.command.with_limits.Goals as goal

pub returns-clause-shape : goal.returns-clause-shape
returns-clause-shape c =
    let s0 = c.in_ok-command.ensures.shape in
    let s1 = c.in_ok-command-2.ensures.shape ∙ ap (λ (a : App). with_limit a (codes "routers") (codes "16")) s0 in
    let s2 = c.in_ok-command-3.ensures.shape ∙ ap (λ (a : App). with_limit a (codes "prefixes") (codes "64")) s1 in
    let s3 = c.in_ok-command-4.ensures.shape ∙ ap (λ (a : App). with_limit a (codes "addresses") (codes "64")) s2 in
    let s4 = c.in_ok-command-5.ensures.shape ∙ ap (λ (a : App). with_limit a (codes "servers") (codes "32")) s3 in
    let s5 = c.in_ok-command-6.ensures.shape ∙ ap (λ (a : App). with_limit a (codes "names") (codes "32")) s4 in
    let s6 = c.in_ok-command-7.ensures.shape ∙ ap (λ (a : App). with_limit a (codes "redirects") (codes "64")) s5 in
    let s7 = c.in_ok-command-8.ensures.shape ∙ ap (λ (a : App). with_limit a (codes "destinations") (codes "256")) s6 in
    let s8 = c.in_ok-command-9.ensures.shape ∙ ap (λ (a : App). with_limit a (codes "offers") (codes "16")) s7 in
    let s9 = c.in_ok-command-10.ensures.shape ∙ ap (λ (a : App). with_limit a (codes "routes") (codes "64")) s8 in
    IfOk-weaker c.with_limit-11.result _ _ (λ more h. h ∙ ap (λ (a : App). with_limit a (codes "waiting") (codes "3")) s9) c.with_limit-11.ensures.shape

pub returns-clause-local : goal.returns-clause-local
returns-clause-local c = λ h. c.with_limit-11.ensures.local (c.in_ok-command-10.ensures.local (c.in_ok-command-9.ensures.local (c.in_ok-command-8.ensures.local (c.in_ok-command-7.ensures.local (c.in_ok-command-6.ensures.local (c.in_ok-command-5.ensures.local (c.in_ok-command-4.ensures.local (c.in_ok-command-3.ensures.local (c.in_ok-command-2.ensures.local (c.in_ok-command.ensures.local h))))))))))
