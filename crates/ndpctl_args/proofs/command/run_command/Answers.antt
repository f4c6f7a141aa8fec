use Rattle.std.proofs.Common.{◌≡◌, ◌∙◌, ◌||◌, ap, ap₂, codes, true, false, Some, Option}
use Rattle.std.proofs.lemmas.Result.{IfOk-weaker}
use Rattle.clap.specs.Walk.{Rule, rule_of}
use Rattle.clap.specs.Simple.{App, app_of, app_of_fields, new_app, new_rule, with_rule}
use Rattle.clap.specs.declared.builder.arg.Arg.{Arg}
use Rattle.clap.specs.declared.builder.command.Command.TheViews.{out-Command}
use Rattle.clap.specs.declared.builder.value_parser.ValueParser.{ValueParser}
use Rattle.clap.specs.declared.builder.value_parser.ValueParser.TheVariants.{Names}
use Rattle.ndpctl_args.specs.CommandLine.{role_option, mac_option, draws_option, policy_option, transmits_option, with_limits}
use Rattle.ndpctl_args.proofs.command.run_command.Goals as goal

pub returns-clause-local : goal.returns-clause-local
returns-clause-local c =
    let role : c.help-role.result.global ≡ false = ap (λ (a : Arg). a.global) (c.help-role.ensures) ∙ ap (λ (a : Arg). a.global) c.value_parser.ensures.others
    ∙ ap (λ (a : Arg). a.global) c.required.ensures ∙ ap (λ (a : Arg). a.global) c.long.ensures ∙ c.new.ensures.optional.1 in
    let mac : c.help-mac.result.global ≡ false = ap (λ (a : Arg). a.global) c.help-mac.ensures
    ∙ ap (λ (a : Arg). a.global) c.required-2.ensures ∙ ap (λ (a : Arg). a.global) c.long-2.ensures ∙ c.new-2.ensures.optional.1 in
    let draws = c.defaulted-draws.ensures.local in
    let transmits = c.defaulted-transmits.ensures.local in
    let run : (out-Command c.about.result).has_globals ≡ false = ap (λ f. f.has_globals) c.about.ensures ∙ c.new-3.ensures.local in
    let required = c.in_ok-arg-2.ensures.globals ∙ ap₂ ◌||◌ (c.in_ok-arg.ensures.globals ∙ ap₂ ◌||◌ run role) mac in
    let numbered = c.in_ok-command.ensures.globals ∙ ap₂ ◌||◌ (c.in_ok-arg-3.ensures.globals ∙ ap₂ ◌||◌ required draws) transmits in
    c.with_policy.ensures.local (c.in_ok-command-2.ensures.local numbered)

pub returns-clause-shape : goal.returns-clause-shape
returns-clause-shape c =
    let parser_is : c.value_parser.result.value_parser ≡ Some (Names c.args.roles) = c.value_parser.ensures.given.1 ∙ ap Some c.value_parser.ensures.given.2 in
    let named : rule_of c.required.result ≡ record (new_rule (codes "role")) { long = Some (codes "role"); required = true } =
    ap rule_of c.required.ensures ∙ ap (λ (r : Rule). record r { required = true }) (ap rule_of c.long.ensures ∙ ap (λ (r : Rule). record r { long = Some (codes "role") }) c.new.ensures.rule) in
    let role_is : rule_of c.help-role.result ≡ role_option c.args.roles =
    ap rule_of c.help-role.ensures ∙ ap rule_of c.value_parser.ensures.others ∙ ap₂ (λ (r : Rule) (p : Option ValueParser). record r { parser = p }) named parser_is in
    let mac_named : rule_of c.required-2.result ≡ mac_option =
    ap rule_of c.required-2.ensures ∙ ap (λ (r : Rule). record r { required = true }) (ap rule_of c.long-2.ensures ∙ ap (λ (r : Rule). record r { long = Some (codes "mac") }) c.new-2.ensures.rule) in
    let mac_is : rule_of c.help-mac.result ≡ mac_option = ap rule_of c.help-mac.ensures ∙ mac_named in
    let draws_is : rule_of c.defaulted-draws.result ≡ draws_option = c.defaulted-draws.ensures.rule in
    let transmits_is : rule_of c.defaulted-transmits.result ≡ transmits_option = c.defaulted-transmits.ensures.rule in
    let role : c.help-role.result.global ≡ false = ap (λ (a : Arg). a.global) (c.help-role.ensures) ∙ ap (λ (a : Arg). a.global) c.value_parser.ensures.others
    ∙ ap (λ (a : Arg). a.global) c.required.ensures ∙ ap (λ (a : Arg). a.global) c.long.ensures ∙ c.new.ensures.optional.1 in
    let mac : c.help-mac.result.global ≡ false = ap (λ (a : Arg). a.global) c.help-mac.ensures
    ∙ ap (λ (a : Arg). a.global) c.required-2.ensures ∙ ap (λ (a : Arg). a.global) c.long-2.ensures ∙ c.new-2.ensures.optional.1 in
    let draws = c.defaulted-draws.ensures.local in
    let transmits = c.defaulted-transmits.ensures.local in
    let run_is : app_of c.about.result ≡ new_app (codes "run") = ap app_of_fields c.about.ensures ∙ c.new-3.ensures.app in
    let required = c.in_ok-arg-2.ensures.shape mac ∙ ap₂ with_rule (c.in_ok-arg.ensures.shape role ∙ ap₂ with_rule run_is role_is) mac_is in
    let numbered = c.in_ok-command.ensures.shape transmits ∙ ap₂ with_rule (c.in_ok-arg-3.ensures.shape draws ∙ ap₂ with_rule required draws_is) transmits_is in
    IfOk-weaker c.with_policy.result _ _ (λ more h. h ∙ ap (λ (a : App). with_rule a policy_option) (c.in_ok-command-2.ensures.shape ∙ ap with_limits numbered)) c.with_policy.ensures.shape
