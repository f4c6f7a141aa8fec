use Rattle.std.proofs.Common.{◌≡◌, ◌∙◌, ◌||◌, ap, ap₂, codes, false, Some, Option}
use Rattle.std.proofs.lemmas.Result.{IfOk-weaker}
use Rattle.clap.specs.Walk.{Rule, rule_of}
use Rattle.clap.specs.Simple.{app_of, app_of_fields, new_app, with_rule}
use Rattle.clap.specs.declared.builder.arg.Arg.{Arg}
use Rattle.clap.specs.declared.builder.command.Command.TheViews.{out-Command}
use Rattle.clap.specs.declared.builder.value_parser.ValueParser.{ValueParser}
use Rattle.clap.specs.declared.builder.value_parser.ValueParser.TheVariants.{Names}
use Rattle.ndpctl_args.specs.CommandLine.{wire_option}
use Rattle.ndpctl_args.proofs.command.link_command.Goals as goal

pub returns-clause-local : goal.returns-clause-local
returns-clause-local c =
    let wire : c.value_parser-wire.result.global ≡ false = ap (λ (a : Arg). a.global) c.value_parser-wire.ensures.others ∙ c.defaulted.ensures.local in
    let link : (out-Command c.about.result).has_globals ≡ false = ap (λ f. f.has_globals) c.about.ensures ∙ c.new.ensures.local in
    IfOk-weaker c.arg.result _ _ (λ command h. h.globals ∙ ap₂ ◌||◌ link wire) c.arg.ensures

pub returns-clause-shape : goal.returns-clause-shape
returns-clause-shape c =
    let parser_is : c.value_parser-wire.result.value_parser ≡ Some (Names c.args.wires) = c.value_parser-wire.ensures.given.1 ∙ ap Some c.value_parser-wire.ensures.given.2 in
    let wire_is : rule_of c.value_parser-wire.result ≡ wire_option c.args.wires =
    ap rule_of c.value_parser-wire.ensures.others ∙ ap₂ (λ (r : Rule) (p : Option ValueParser). record r { parser = p }) c.defaulted.ensures.rule parser_is in
    let wire : c.value_parser-wire.result.global ≡ false = ap (λ (a : Arg). a.global) c.value_parser-wire.ensures.others ∙ c.defaulted.ensures.local in
    let link_is : app_of c.about.result ≡ new_app (codes "link") = ap app_of_fields c.about.ensures ∙ c.new.ensures.app in
    IfOk-weaker c.arg.result _ _ (λ command h. h.shape wire ∙ ap₂ with_rule link_is wire_is) c.arg.ensures
