use Rattle.std.proofs.Common.{◌≡◌, ◌∙◌, ap, ap₂, codes, true, false}
use Rattle.std.proofs.lemmas.Result.{IfOk-weaker}
use Rattle.clap.specs.Simple.{App, app_of, app_of_fields, shape_of, shape_of_fields, new_app, new_shape, on_top, with_subcommand}
use Rattle.clap.specs.declared.builder.command.Command.TheViews.{out-Command}
use Rattle.ndpctl_args.specs.CommandLine.{the_link, the_run}
use Rattle.ndpctl_args.proofs.command.command.Goals as goal

abbrev needs_subcommand : App → App
needs_subcommand = on_top (λ s. record s { subcommand_required = true })

abbrev has_a_version : App → App
has_a_version = on_top (λ s. record s { has_version = true })

pub returns : goal.returns
returns c =
    let check_is : shape_of c.about-check.result ≡ new_shape (codes "check") = ap shape_of_fields c.about-check.ensures ∙ ap (λ (a : App). a.top) c.new.ensures.app in
    let check_local : (out-Command c.about-check.result).has_globals ≡ false = ap (λ f. f.has_globals) c.about-check.ensures ∙ c.new.ensures.local in
    let top_is : app_of c.subcommand_required.result ≡ needs_subcommand (has_a_version (new_app (codes "ndpctl"))) =
    ap app_of_fields c.subcommand_required.ensures ∙ ap needs_subcommand (ap app_of_fields c.after_help.ensures ∙ ap app_of_fields c.version.ensures ∙ ap has_a_version (ap app_of_fields c.about.ensures ∙ c.new-2.ensures.app)) in
    let run_is : shape_of c.in_ok-run.run' ≡ (the_run c.args.roles).top = ap (λ (a : App). a.top) c.in_ok-run.ensures.shape in
    let link_is : shape_of c.in_ok-link.link ≡ (the_link c.args.wires).top = ap (λ (a : App). a.top) c.in_ok-link.ensures.shape in
    IfOk-weaker c.subcommand-3.result _ _ (λ command h. h.shape c.in_ok-link.ensures.local
    ∙ ap₂ with_subcommand (c.in_ok-subcommand-2.ensures.shape c.in_ok-run.ensures.local ∙ ap₂ with_subcommand (c.in_ok-subcommand.ensures.shape check_local ∙ ap₂ with_subcommand top_is check_is) run_is) link_is)
    c.subcommand-3.ensures
