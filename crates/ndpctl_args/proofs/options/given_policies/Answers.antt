use Rattle.std.proofs.Common.{◌∙◌, ap, Some, None}
use Rattle.clap.specs.Words.{found_of}
use Rattle.ndpctl_args.proofs.Values.{policies_by}
use Rattle.ndpctl_args.proofs.options.given_policies.Goals as goal

pub returns-in-Some : goal.returns-in-Some
returns-in-Some c = c.read_policies.ensures ∙ policies_by (found_of c.args.given.now) (Some c.in-Some.text.now) c.in-Some.ensures

pub returns-in-None : goal.returns-in-None
returns-in-None c = ap Some c.none.ensures ∙ policies_by (found_of c.args.given.now) None c.in-None.ensures
