use Rattle.std.proofs.Common.{sym, ◌∙◌}
use Rattle.clap.specs.Words.{found_of, rows_of}
use Rattle.ndpctl_args.specs.CommandLine.{numbers_of}
use Rattle.ndpctl_args.proofs.Matches.{limit_refused, run_refused}
use Rattle.ndpctl_args.proofs.options.read_run.Goals as goal

pub returns-in_default-given_draws-clause-wrong : goal.returns-in_default-given_draws-clause-wrong
returns-in_default-given_draws-clause-wrong c = record { mac = c.in-Some.mac; mac_is = c.in-Some.ensures.found; none = c.in_default-given_draws.ensures.none }

pub returns-in_default-given_transmits-clause-wrong : goal.returns-in_default-given_transmits-clause-wrong
returns-in_default-given_transmits-clause-wrong c = record {
  mac = c.in-Some.mac;
  mac_is = c.in-Some.ensures.found;
  source = c.in-Some-given_draws.generator;
  source_is = c.in-Some-given_draws.ensures.found;
  none = c.in_default-given_transmits.ensures.none;
}

pub returns-clause-right : goal.returns-clause-right
returns-clause-right c = record {
  role_is = c.read_role.ensures;
  mac_is = c.in-Some.ensures.found;
  source_is = c.in-Some-given_draws.ensures.found;
  transmits_is = c.in-Some-given_transmits.ensures.found;
  limits_are = c.in_ok-limits.ensures.right;
  policies_are = sym c.given_policies.ensures ∙ c.in-Some-given_policies.is;
}

pub returns-in_default-given_policies-clause-wrong : goal.returns-in_default-given_policies-clause-wrong
returns-in_default-given_policies-clause-wrong c = record {
  mac = c.in-Some.mac;
  mac_is = c.in-Some.ensures.found;
  source = c.in-Some-given_draws.generator;
  source_is = c.in-Some-given_draws.ensures.found;
  transmits = c.in-Some-given_transmits.transmits;
  transmits_is = c.in-Some-given_transmits.ensures.found;
  numbers = numbers_of c.in_ok-limits.limits;
  limits_are = c.in_ok-limits.ensures.right;
  none = sym c.given_policies.ensures ∙ c.in_default-given_policies.is;
}

pub returns-in_err-limits-clause-wrong : goal.returns-in_err-limits-clause-wrong
returns-in_err-limits-clause-wrong c =
    let given = rows_of (found_of c.args.given.now) in
    run_refused c.from_residual.result given c.in_err-limits.field-0.0 c.from_residual.ensures.1
    (limit_refused given c.in_err-limits.field-0.0 (λ place bad. record {
      mac = c.in-Some.mac;
      mac_is = c.in-Some.ensures.found;
      source = c.in-Some-given_draws.generator;
      source_is = c.in-Some-given_draws.ensures.found;
      transmits = c.in-Some-given_transmits.transmits;
      transmits_is = c.in-Some-given_transmits.ensures.found;
      limit = bad;
    }) c.in_err-limits.ensures.wrong)
