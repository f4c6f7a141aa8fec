-- What the getters of `clap` read of the options of a subcommand.
use Rattle.std.proofs.Common.{◌≡◌, ◌∙◌, Bool, List, [], codes, refl, sym, ap, subst, option_map, Option, Some, None, IsSomeAnd}
use Rattle.std.specs.Option.{IfNone, IfSome, option_map_or}
use Rattle.std.proofs.lemmas.Option.{IfSome_then, none-some}
use Rattle.nd_addr.specs.declared.role.Role.{Role}
use Rattle.nd_addr.specs.declared.role.Role.TheVariants.{Host, Router}
use Rattle.nd_chronicle.specs.Start.{no_policies}
use Rattle.ndpctl_run.specs.Policies.{policies_of}
use Rattle.ndpctl_args.specs.CommandLine.{carrier_named, policies_given, role_named}
use Rattle.ndpctl_args.specs.declared.asked.Carrier.{Carrier}
use Rattle.ndpctl_args.specs.declared.asked.Carrier.TheVariants.{Memory, Udp}
use Rattle.clap.specs.Matches.{first_value, subcommand_name_of}
use Rattle.clap.specs.Simple.{subcommand_rows, subcommand_rows_of}
use Rattle.clap.specs.Walk.{Row, Text, first_of, rows_of}
use Rattle.clap.specs.declared.parser.matches.ArgMatches.{ArgMatches}
use Rattle.clap.specs.declared.parser.matches.ArgMatches.TheViews.{out-ArgMatches, out-SubCommand}
use Rattle.clap.specs.declared.parser.matches.Found.{Found}
use Rattle.clap.specs.declared.parser.matches.SubCommand.{SubCommand}
use Rattle.clap.proofs.WalkLemmas.{first_value-rows}
use Rattle.std.specs.Prelude.{Box, bytes_eq, if◌then◌else◌}

-- an option without a value, and one with it
pub none_given : (f : Found) (id : Text) (P : Text → Type 0) → None ≡ first_value f id → IsSomeAnd (first_of id (rows_of f)) P → ⊥
none_given f id P e h = subst (λ o. IsSomeAnd o P) (sym (e ∙ first_value-rows f id)) h

pub other_given : (f : Found) (id text : Text) (P : Text → Type 0) → Some text ≡ first_value f id → (P text → ⊥) → IsSomeAnd (first_of id (rows_of f)) P → ⊥
other_given f id text P e not h = not (subst (λ o. IsSomeAnd o P) (sym (e ∙ first_value-rows f id)) h)

pub is_given : (f : Found) (id text : Text) (P : Text → Type 0) → Some text ≡ first_value f id → P text → IsSomeAnd (first_of id (rows_of f)) P
is_given f id text P e h = subst (λ o. IsSomeAnd o P) (e ∙ first_value-rows f id) h

-- where nothing is read of a value that isn't there
pub if_none : {X P : Type 0} (o : Option X) → P → IfNone o P
if_none None h = h
if_none (Some x) h = tt

-- what is read of an option's value, where each thing that the value stands for is read, and no other
module _ {X : Type 0} (f : Found) (id text : Text) (Is : Text → X → Type 0) (given : Some text ≡ first_value f id) where
  pub read_given : (o : Option X) → IfSome o (Is text) → IfSome o (λ x. IsSomeAnd (first_of id (rows_of f)) (λ t. Is t x))
  read_given o found = IfSome_then o found (λ x. is_given f id text (λ t. Is t x) given)

  pub none_read : (o : Option X) → ((x : X) → Is text x → o ≡ Some x) → IfNone o ((x : X) → IsSomeAnd (first_of id (rows_of f)) (λ t. Is t x) → ⊥)
  none_read None only = λ x. other_given f id text (λ t. Is t x) given (λ is. none-some x (only x is))
  none_read (Some read) only = tt

-- the role, by the value of its option

abbrev pub role_by : Bool → Role
role_by is_router = if is_router then Router else Host

pub host_unnamed : (f : Found) → None ≡ first_value f (codes "role") → Host ≡ role_named (first_of (codes "role") (rows_of f))
host_unnamed f e = ap role_named (e ∙ first_value-rows f (codes "role"))

pub named_role : (f : Found) (text : Text) (is_router : Bool) → Some text ≡ first_value f (codes "role") → is_router ≡ bytes_eq text (codes "router")
    → role_by is_router ≡ role_named (first_of (codes "role") (rows_of f))
named_role f text is_router e is = ap role_by is ∙ ap role_named (e ∙ first_value-rows f (codes "role"))

-- and what carries the frames of a link

abbrev pub carrier_by : Bool → Carrier
carrier_by is_udp = if is_udp then Udp else Memory

pub memory_unnamed : (f : Found) → None ≡ first_value f (codes "wire") → Memory ≡ carrier_named (first_of (codes "wire") (rows_of f))
memory_unnamed f e = ap carrier_named (e ∙ first_value-rows f (codes "wire"))

pub named_carrier : (f : Found) (text : Text) (is_udp : Bool) → Some text ≡ first_value f (codes "wire") → is_udp ≡ bytes_eq text (codes "udp")
    → carrier_by is_udp ≡ carrier_named (first_of (codes "wire") (rows_of f))
named_carrier f text is_udp e is = ap carrier_by is ∙ ap carrier_named (e ∙ first_value-rows f (codes "wire"))

-- the policies, by the value of their option
pub policies_by : (f : Found) (value : Option Text) → value ≡ first_value f (codes "policy") → option_map_or policies_of value (Some no_policies) ≡ policies_given (rows_of f)
policies_by f value e = ap (λ (v : Option Text). option_map_or policies_of v (Some no_policies)) (e ∙ first_value-rows f (codes "policy"))

-- the name of the subcommand, by its rows
pub name_in_rows : (m : ArgMatches) → subcommand_name_of m ≡ option_map (λ p. p.0) (subcommand_rows_of m)
name_in_rows m = go (out-ArgMatches m).subcommand
  where
    go : {Z : Type 0} (o : Option (Box SubCommand Z))
        → option_map (λ b. (out-SubCommand (Rattle.std.specs.Box.box_value b)).name.now) o ≡ option_map (λ p. p.0) (subcommand_rows o)
    go None = refl
    go (Some b) = refl

pub rows_in : (o : Option (Text × List Row)) (rows : List Row) → option_map (λ p. p.1) o ≡ Some rows → rows ≡ option_map_or (λ p. p.1) o []
rows_in o rows e = ap (λ q. option_map_or (λ r. r) q []) (sym e) ∙ go o
  where
    go : (p : Option (Text × List Row)) → option_map_or (λ r. r) (option_map (λ q. q.1) p) [] ≡ option_map_or (λ q. q.1) p []
    go None = refl
    go (Some q) = refl
