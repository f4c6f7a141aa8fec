-- What the matches of `clap` say of the words.
use Rattle.std.proofs.Common.{◌≡◌, ◌∙◌, ℕ, List, [], refl, sym, ap, subst, option_map, Option, Some, Result, Ok, Err, codes}
use Rattle.std.specs.Prelude.{MatchOption, IfErr}
use Rattle.std.specs.Result.{IsErrAnd}
use Rattle.clap.specs.Matches.{subcommand_name_of}
use Rattle.clap.specs.Simple.{App, HasMatchesOf, app_of, subcommand_of, subcommand_rows_of}
use Rattle.clap.specs.Walk.{Row}
use Rattle.clap.specs.declared.builder.command.Command.{Command}
use Rattle.clap.specs.declared.parser.matches.ArgMatches.{ArgMatches}
use Rattle.ndpctl_args.specs.CommandLine.{Names, the_command, faults_of, named_in, given_in, GivesAsked, GivesRun, RefusesGiven, MacIsBad, DrawsAreBad, TransmitsAreBad, LimitIsBad, LimitsAreBad, PolicyIsBad, place_of, IsBadRun, Asks, Refuses}
use Rattle.ndpctl_args.specs.declared.asked.Asked.{Asked}
use Rattle.ndpctl_args.specs.declared.asked.Asked.TheVariants as asked
use Rattle.ndpctl_args.specs.declared.asked.Refused.{Refused}
use Rattle.ndpctl_args.specs.declared.asked.Refused.TheVariants as refused
use Rattle.ndpctl_args.proofs.Values.{name_in_rows, rows_in}

module _ (names : Names) (words : List (List ℕ)) (command : Command) (m : ArgMatches) (is : app_of command ≡ the_command names.roles names.wires)
    (matches : HasMatchesOf (app_of command) words m) where
  same_rows : subcommand_rows_of m ≡ subcommand_of (the_command names.roles names.wires) words
  same_rows = (subst (λ (a : App). HasMatchesOf a words m) is matches refl).1

  pub same_name : subcommand_name_of m ≡ named_in names words
  same_name = name_in_rows m ∙ ap (option_map (λ p. p.0)) same_rows

  pub same_given : (rows : List Row) → option_map (λ p. p.1) (subcommand_rows_of m) ≡ Some rows → rows ≡ given_in names words
  same_given rows e = rows_in (subcommand_of (the_command names.roles names.wires) words) rows (sym (ap (option_map (λ p. p.1)) same_rows) ∙ e)

module _ (names : Names) (words : List (List ℕ)) (rows : List Row) (faultless : faults_of names words ≡ []) (named : named_in names words ≡ Some (codes "run"))
    (given : rows ≡ given_in names words) where
  pub asks : (what : Asked) → GivesAsked rows what → Asks words what
  asks asked.Check h = absurd h
  asks (asked.Run options) h = record {
    names = names;
    faultless = faultless;
    asked = (named, subst (λ g. GivesRun g options) given h);
  }
  asks (asked.Link carrier) h = absurd h

  limit : (place : ℕ) → LimitsAreBad place rows → (others : Names) × IsBadRun others words (LimitsAreBad place)
  limit place h = (names, record { faultless = faultless; named = named; bad = subst (LimitsAreBad place) given h })

  pub refuses : (why : Refused) → RefusesGiven rows why → Refuses words why
  refuses (refused.Told error) h = absurd h
  refuses refused.Mac h = (names, record { faultless = faultless; named = named; bad = subst MacIsBad given h })
  refuses refused.Draws h = (names, record { faultless = faultless; named = named; bad = subst DrawsAreBad given h })
  refuses refused.Transmits h = (names, record { faultless = faultless; named = named; bad = subst TransmitsAreBad given h })
  refuses refused.Neighbours h = limit 0 h
  refuses refused.Routers h = limit 1 h
  refuses refused.Prefixes h = limit 2 h
  refuses refused.Addresses h = limit 3 h
  refuses refused.Servers h = limit 4 h
  refuses refused.Names h = limit 5 h
  refuses refused.Redirects h = limit 6 h
  refuses refused.Destinations h = limit 7 h
  refuses refused.Offers h = limit 8 h
  refuses refused.Routes h = limit 9 h
  refuses refused.Waiting h = limit 10 h
  refuses refused.Policy h = (names, record { faultless = faultless; named = named; bad = subst PolicyIsBad given h })
  refuses refused.Memory h = absurd h

-- a limit that is refused, where all before the limits is good
pub limit_refused : (given : List Row) (why : Refused) → ((place : ℕ) → LimitIsBad place given → LimitsAreBad place given) → MatchOption (place_of why) ⊥ (λ place. LimitIsBad place given) → RefusesGiven given why
limit_refused given (refused.Told error) more h = absurd h
limit_refused given refused.Mac more h = absurd h
limit_refused given refused.Draws more h = absurd h
limit_refused given refused.Transmits more h = absurd h
limit_refused given refused.Neighbours more h = more 0 h
limit_refused given refused.Routers more h = more 1 h
limit_refused given refused.Prefixes more h = more 2 h
limit_refused given refused.Addresses more h = more 3 h
limit_refused given refused.Servers more h = more 4 h
limit_refused given refused.Names more h = more 5 h
limit_refused given refused.Redirects more h = more 6 h
limit_refused given refused.Destinations more h = more 7 h
limit_refused given refused.Offers more h = more 8 h
limit_refused given refused.Routes more h = more 9 h
limit_refused given refused.Waiting more h = more 10 h
limit_refused given refused.Policy more h = absurd h
limit_refused given refused.Memory more h = absurd h

-- it is handed on
pub limit_handed_on : {T : Type 0} (r : Result T Refused) (place : ℕ) (given : List Row) (e why : Refused) → IsErrAnd r (λ x. x ≡ e) → e ≡ why → place_of why ≡ Some place → LimitIsBad place given
    → IfErr r (λ x. MatchOption (place_of x) ⊥ (λ p. LimitIsBad p given))
limit_handed_on (Ok x) place given e why handed is at bad = absurd handed
limit_handed_on (Err x) place given e why handed is at bad =
    subst (λ (o : Option ℕ). MatchOption o ⊥ (λ p. LimitIsBad p given)) (sym (ap place_of (handed ∙ is) ∙ at)) bad

pub run_refused : {T : Type 0} (r : Result T Refused) (given : List Row) (e : Refused) → IsErrAnd r (λ x. x ≡ e) → RefusesGiven given e → IfErr r (RefusesGiven given)
run_refused (Ok x) given e handed h = absurd handed
run_refused (Err x) given e handed h = subst (RefusesGiven given) (sym handed) h
