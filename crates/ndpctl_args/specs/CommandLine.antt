-- What the words of the command line ask for, and which of them are wrong, by the grammar of `clap`.
use Rattle.std.specs.Prelude.{◌≡◌, ◌≢◌, ◌∷◌, ℕ, true, List, [], Option, Some, None, MatchOption, codes, map, option_map, IsSomeAnd, bytes_eq, slice_get, take, if◌then◌else◌}
use Rattle.std.specs.Option.{option_map_or}
use Rattle.std.specs.Borrow.{Bor}
use Rattle.clap.specs.Words.{App, Row, Rule, new_app, new_rule, with_rule, with_subcommand, first_of, subcommand_of, fault_of, Kinds, IsAmong, kind_of}
use Rattle.clap.specs.Simple.{new_shape, on_top}
use Rattle.clap.specs.declared.builder.value_parser.ValueParser.TheVariants as parsers
use Rattle.clap.specs.declared.error.kind.ErrorKind.{ErrorKind}
use Rattle.clap.specs.declared.error.kind.ErrorKind.TheVariants as kind
use Rattle.nd_addr.specs.Spelling.{SpellsMac}
use Rattle.nd_addr.specs.declared.mac.Mac.{Mac}
use Rattle.nd_addr.specs.declared.role.Role.{Role}
use Rattle.nd_addr.specs.declared.role.Role.TheVariants.{Host, Router}
use Rattle.nd_neighbour.specs.TableKept.{max_neighbours}
use Rattle.nd_routers.specs.Routers.{max_routers}
use Rattle.nd_routers.specs.OnLinkPrefixes.{max_prefixes}
use Rattle.nd_slaac.specs.Room.{max_addresses}
use Rattle.nd_dns.specs.Dns.{max_names, max_servers}
use Rattle.nd_nexthop.specs.History.{max_redirects}
use Rattle.nd_nexthop.specs.Memo.{max_remembered}
use Rattle.nd_advertiser.specs.Offers.{max_offers}
use Rattle.nd_forwarding.specs.Routes.{max_routes}
use Rattle.nd_packet.specs.Waiting.{max_waiting}
use Rattle.nd_chronicle.specs.Start.{Limits, Policies, no_policies}
use Rattle.ndpctl_run.specs.Number.{IsCountWord}
use Rattle.ndpctl_run.specs.Policies.{policies_of}
use Rattle.ndpctl_run.specs.Source.{IsSource}
use Rattle.ndpctl_run.specs.Transmits.{IsTransmitsWord}
use Rattle.ndpctl_run.specs.declared.options.RunOptions.{RunOptions}
use Rattle.nd_random.specs.declared.source.Source.{Source}
use Rattle.ndpctl_args.specs.declared.asked.Asked.{Asked}
use Rattle.ndpctl_args.specs.declared.asked.Asked.TheVariants as asked
use Rattle.ndpctl_args.specs.declared.asked.Carrier.{Carrier}
use Rattle.ndpctl_args.specs.declared.asked.Carrier.TheVariants as carriers
use Rattle.ndpctl_args.specs.declared.asked.Refused.{Refused}
use Rattle.ndpctl_args.specs.declared.asked.Refused.TheVariants as refused

-- a list of names, by where it lies in memory and what it holds
abbrev pub NameList : Type 0
NameList = Bor (List (Bor (List ℕ)))

abbrev pub role_option : NameList → Rule
role_option roles = record (new_rule (codes "role")) { long = Some (codes "role"); required = true; parser = Some (parsers.Names roles) }

abbrev pub mac_option : Rule
mac_option = record (new_rule (codes "mac")) { long = Some (codes "mac"); required = true }

-- an option with this name, whose value is the default where the words don't give one
abbrev pub option_with_default : List ℕ → List ℕ → Rule
option_with_default name default = record (new_rule name) { long = Some name; defaults = default ∷ [] }

abbrev pub draws_option : Rule
draws_option = option_with_default (codes "draws") (codes "seed:0")

abbrev pub transmits_option : Rule
transmits_option = option_with_default (codes "transmits") (codes "1")

-- the options that say how many rows each table of the node has at most, with the usual limits (`usual_limits`) as their defaults
abbrev pub with_limit : App → List ℕ → List ℕ → App
with_limit app name default = with_rule app (option_with_default name default)

abbrev pub with_limits : App → App
with_limits app =
    let lists = with_limit (with_limit (with_limit app (codes "neighbours") (codes "512")) (codes "routers") (codes "16")) (codes "prefixes") (codes "64") in
    let names = with_limit (with_limit (with_limit lists (codes "addresses") (codes "64")) (codes "servers") (codes "32")) (codes "names") (codes "32") in
    let hops = with_limit (with_limit names (codes "redirects") (codes "64")) (codes "destinations") (codes "256") in
    with_limit (with_limit (with_limit hops (codes "offers") (codes "16")) (codes "routes") (codes "64")) (codes "waiting") (codes "3")

-- the option that names policies
abbrev pub policy_option : Rule
policy_option = record (new_rule (codes "policy")) { long = Some (codes "policy") }

-- `run` takes `--role`, one of these names, and `--mac`, both of which are required, `--draws`, `--transmits` and the limits, which have defaults, and
-- `--policy`
abbrev pub the_run : NameList → App
the_run roles =
    let required = with_rule (with_rule (new_app (codes "run")) (role_option roles)) mac_option in
    with_rule (with_limits (with_rule (with_rule required draws_option) transmits_option)) policy_option

abbrev pub wire_option : NameList → Rule
wire_option wires = record (option_with_default (codes "wire") (codes "memory")) { parser = Some (parsers.Names wires) }

-- `link` takes `--wire`, one of these names, which is `memory` where it is not there
abbrev pub the_link : NameList → App
the_link wires = with_rule (new_app (codes "link")) (wire_option wires)

-- `ndpctl` takes one subcommand, which is `check`, `run` or `link`, and has a version
abbrev pub the_command : NameList → NameList → App
the_command roles wires =
    let top = on_top (λ s. record s { subcommand_required = true; has_version = true }) (new_app (codes "ndpctl")) in
    with_subcommand (with_subcommand (with_subcommand top (new_shape (codes "check"))) (the_run roles).top) (the_link wires).top

-- the names of the roles that a node may have, and of the wires of a link, wherever they lie in memory
pub record Names : Type 0 where
  pub roles : NameList
  pub roles_are : map (λ name. name.now) roles.now ≡ codes "host" ∷ codes "router" ∷ []
  pub wires : NameList
  pub wires_are : map (λ name. name.now) wires.now ≡ codes "memory" ∷ codes "udp" ∷ []

-- the kinds of fault that `clap` finds in the words, the path of the program being the first; none where they are right
abbrev pub faults_of : Names → List (List ℕ) → Kinds
faults_of names words = fault_of (the_command names.roles names.wires) words

-- the subcommand that the words name
abbrev pub named_in : Names → List (List ℕ) → Option (List ℕ)
named_in names words = option_map (λ p. p.0) (subcommand_of (the_command names.roles names.wires) words)

-- what the words give to the options of that subcommand, defaults among them
abbrev pub given_in : Names → List (List ℕ) → List Row
given_in names words = option_map_or (λ p. p.1) (subcommand_of (the_command names.roles names.wires) words) []

-- the role that the value of `--role` names; `clap` lets no word through but `host` and `router`
abbrev pub role_named : Option (List ℕ) → Role
role_named (Some text) = if bytes_eq text (codes "router") then Router else Host
role_named None = Host

-- what the value of `--wire` names; `clap` lets no word through but `memory` and `udp`
abbrev pub carrier_named : Option (List ℕ) → Carrier
carrier_named (Some text) = if bytes_eq text (codes "udp") then carriers.Udp else carriers.Memory
carrier_named None = carriers.Memory

-- the value of `--mac` spells the address
abbrev pub GivesMac : List Row → List ℕ → Type 0
GivesMac given bytes = IsSomeAnd (first_of (codes "mac") given) (λ text. SpellsMac text bytes)

-- the value of `--draws` names the source
abbrev pub GivesDraws : List Row → Source → Type 0
GivesDraws given source = IsSomeAnd (first_of (codes "draws") given) (λ text. IsSource text source)

-- the value of `--transmits` is the number
abbrev pub GivesTransmits : List Row → ℕ → Type 0
GivesTransmits given transmits = IsSomeAnd (first_of (codes "transmits") given) (λ text. IsTransmitsWord text transmits)

-- the value of this option is the number, which is 1 to `most`
abbrev pub GivesCount : List ℕ → ℕ → List Row → ℕ → Type 0
GivesCount name most given number = IsSomeAnd (first_of name given) (λ text. IsCountWord most text number)

-- the options that say limits, each with the greatest number, in the order in which their values are judged
abbrev pub LimitOption : Type 0
LimitOption = List ℕ × ℕ

abbrev pub limit_options : List LimitOption
limit_options =
    (codes "neighbours", max_neighbours) ∷ (codes "routers", max_routers) ∷ (codes "prefixes", max_prefixes) ∷ (codes "addresses", max_addresses)
    ∷ (codes "servers", max_servers) ∷ (codes "names", max_names) ∷ (codes "redirects", max_redirects) ∷ (codes "destinations", max_remembered)
    ∷ (codes "offers", max_offers) ∷ (codes "routes", max_routes) ∷ (codes "waiting", max_waiting) ∷ []

-- the value of each of these options is this number
abbrev pub GiveCounts : List Row → List LimitOption → List ℕ → Type 0
GiveCounts given [] [] = Unit {0}
GiveCounts given (o ∷ options) (n ∷ numbers) = GivesCount o.0 o.1 given n × GiveCounts given options numbers
GiveCounts given _ _ = ⊥

-- the limits, in the order of their options
abbrev pub numbers_of : Limits → List ℕ
numbers_of l =
    l.neighbours ∷ l.routers ∷ l.prefixes ∷ l.addresses ∷ l.servers ∷ l.names ∷ l.redirects ∷ l.destinations ∷ l.offers ∷ l.routes ∷ l.waiting ∷ []

-- the policies that the value of `--policy` names: none where it isn't given
abbrev pub policies_given : List Row → Option Policies
policies_given given = option_map_or policies_of (first_of (codes "policy") given) (Some no_policies)

-- what the values of the options of `run` ask for
pub record GivesRun (given : List Row) (options : RunOptions Source) : Type 0 where
  pub role_is : options.role ≡ role_named (first_of (codes "role") given)
  pub mac_is : GivesMac given options.mac.0
  pub source_is : GivesDraws given options.generator
  pub transmits_is : GivesTransmits given options.transmits
  pub limits_are : GiveCounts given limit_options (numbers_of options.limits)
  pub policies_are : policies_given given ≡ Some options.policies

-- no address is spelled
abbrev pub MacIsBad : List Row → Type 0
MacIsBad given = (bytes : List ℕ) → GivesMac given bytes → ⊥

-- an address is spelled, and no source is named
pub record DrawsAreBad (given : List Row) : Type 0 where
  pub mac : Mac
  pub mac_is : GivesMac given mac.0
  pub none : (source : Source) → GivesDraws given source → ⊥

-- an address is spelled, a source is named, and no number is given
pub record TransmitsAreBad (given : List Row) : Type 0 where
  pub mac : Mac
  pub mac_is : GivesMac given mac.0
  pub source : Source
  pub source_is : GivesDraws given source
  pub none : (transmits : ℕ) → GivesTransmits given transmits → ⊥

-- So many limits have good values, and that of the next one is no number in its range.
pub record LimitIsBad (count : ℕ) (given : List Row) : Type 0 where
  pub numbers : List ℕ
  pub good : GiveCounts given (take count limit_options) numbers
  pub bad : LimitOption
  pub next : slice_get limit_options count ≡ Some bad
  pub none : (number : ℕ) → GivesCount bad.0 bad.1 given number → ⊥

-- the values before the limits are good, and one of these, behind so many others, isn't
pub record LimitsAreBad (count : ℕ) (given : List Row) : Type 0 where
  pub mac : Mac
  pub mac_is : GivesMac given mac.0
  pub source : Source
  pub source_is : GivesDraws given source
  pub transmits : ℕ
  pub transmits_is : GivesTransmits given transmits
  pub limit : LimitIsBad count given

-- the values before `--policy` are good, and that of it names no policies
pub record PolicyIsBad (given : List Row) : Type 0 where
  pub mac : Mac
  pub mac_is : GivesMac given mac.0
  pub source : Source
  pub source_is : GivesDraws given source
  pub transmits : ℕ
  pub transmits_is : GivesTransmits given transmits
  pub numbers : List ℕ
  pub limits_are : GiveCounts given limit_options numbers
  pub none : policies_given given ≡ None

-- the place of a limit among them, where its value is refused
abbrev pub place_of : Refused → Option ℕ
place_of refused.Neighbours = Some 0
place_of refused.Routers = Some 1
place_of refused.Prefixes = Some 2
place_of refused.Addresses = Some 3
place_of refused.Servers = Some 4
place_of refused.Names = Some 5
place_of refused.Redirects = Some 6
place_of refused.Destinations = Some 7
place_of refused.Offers = Some 8
place_of refused.Routes = Some 9
place_of refused.Waiting = Some 10
place_of _ = None

-- what `read_run` makes of the values of the options of `run`
abbrev pub GivesAsked : List Row → Asked → Type 0
GivesAsked given asked.Check = ⊥
GivesAsked given (asked.Run options) = GivesRun given options
GivesAsked given (asked.Link carrier) = ⊥

abbrev pub RefusesGiven : List Row → Refused → Type 0
RefusesGiven given refused.Mac = MacIsBad given
RefusesGiven given refused.Draws = DrawsAreBad given
RefusesGiven given refused.Transmits = TransmitsAreBad given
RefusesGiven given refused.Policy = PolicyIsBad given
RefusesGiven given (refused.Told error) = ⊥
RefusesGiven given refused.Memory = ⊥
RefusesGiven given limit = MatchOption (place_of limit) ⊥ (λ place. LimitsAreBad place given)

-- right words ask for this
abbrev pub AsksFor : Names → List (List ℕ) → Asked → Type 0
AsksFor names words asked.Check = (named_in names words ≢ Some (codes "run")) × (named_in names words ≢ Some (codes "link"))
AsksFor names words (asked.Run options) = (named_in names words ≡ Some (codes "run")) × GivesRun (given_in names words) options
AsksFor names words (asked.Link carrier) =
    (named_in names words ≡ Some (codes "link")) × (carrier ≡ carrier_named (first_of (codes "wire") (given_in names words)))

pub record Asks (words : List (List ℕ)) (what : Asked) : Type 0 where
  pub names : Names
  pub faultless : faults_of names words ≡ []
  pub asked : AsksFor names words what

-- the fault is one in the words, and isn't that of running out of memory
pub record IsFault (names : Names) (words : List (List ℕ)) (k : ErrorKind) : Type 0 where
  pub among : IsAmong k (faults_of names words)
  pub not_memory : k ≡ kind.OutOfMemory → ⊥

-- `clap` finds no fault in the words, which name `run`, and the values of its options are bad in this way
pub record IsBadRun (names : Names) (words : List (List ℕ)) (Bad : List Row → Type 0) : Type 0 where
  pub faultless : faults_of names words ≡ []
  pub named : named_in names words ≡ Some (codes "run")
  pub bad : Bad (given_in names words)

abbrev pub Refuses : List (List ℕ) → Refused → Type 0
Refuses words (refused.Told error) = (names : Names) × IsFault names words (kind_of error)
Refuses words refused.Mac = (names : Names) × IsBadRun names words MacIsBad
Refuses words refused.Draws = (names : Names) × IsBadRun names words DrawsAreBad
Refuses words refused.Transmits = (names : Names) × IsBadRun names words TransmitsAreBad
Refuses words refused.Policy = (names : Names) × IsBadRun names words PolicyIsBad
Refuses words refused.Memory = Unit {0}
Refuses words limit = MatchOption (place_of limit) ⊥ (λ place. (names : Names) × IsBadRun names words (LimitsAreBad place))
