use Rattle.std.proofs.Common.{◌∙◌, ◌∷◌, ap, Some, []}
use Rattle.clap.specs.Walk.{Rule, rule_of}
use Rattle.clap.specs.declared.builder.arg.Arg.{Arg}
use Rattle.ndpctl_args.proofs.command.defaulted.Goals as goal

pub returns-clause-rule : goal.returns-clause-rule
returns-clause-rule c = ap rule_of c.help.ensures ∙ ap rule_of c.default_value.ensures ∙ ap (λ (r : Rule). record r { defaults = c.args.default.now ∷ [] })
    (ap rule_of c.long.ensures ∙ ap (λ (r : Rule). record r { long = Some c.args.name.now }) c.new.ensures.rule)

pub returns-clause-local : goal.returns-clause-local
returns-clause-local c = ap (λ (a : Arg). a.global) c.help.ensures ∙ ap (λ (a : Arg). a.global) c.default_value.ensures ∙ ap (λ (a : Arg). a.global) c.long.ensures ∙ c.new.ensures.optional.1
