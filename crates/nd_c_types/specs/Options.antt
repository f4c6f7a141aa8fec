-- What a node is opened with, from C.
use Rattle.std.specs.Prelude.{ℕ, ◌-◌, ◌^◌, ◌==◌, ◌&&◌, ◌||◌, nat_le, nat_lt, bit_and, Bool, IsTrue, if◌then◌else◌, List, [], ◌∷◌, drop, slice_index}
use Rattle.std.specs.List.{AllPass}
use Rattle.byteorder.specs.Endian.{little_from}
use Rattle.nd_addr.specs.declared.role.Role.{Role}
use Rattle.nd_addr.specs.declared.role.Role.TheVariants as roles
use Rattle.nd_decode.specs.Option.{is_set}
use Rattle.nd_chronicle.specs.Start.{Policies}
use Rattle.nd_c_types.specs.Limits.{limits_at, chosen, number_or, AreChosen}
use Rattle.nd_c_types.specs.declared.options.Draws.{Draws}
use Rattle.nd_c_types.specs.declared.options.Draws.TheVariants.{Seed, Word}
use Rattle.nd_c_types.specs.declared.options.Opening.{Opening}
use Rattle.nd_c_types.specs.declared.options.Options.{Options}

abbrev pub is_zero : ℕ → Bool
is_zero byte = byte == 0

-- nothing is asked for behind the structure, where a later version has fields
abbrev pub IsKnown : List ℕ → Type 0
IsKnown bytes = AllPass is_zero (drop 72 bytes)

-- the structure in these bytes, whose numbers have their lowest byte first, as on every machine that the library is made for; a byte that is not there
-- is 0
abbrev pub options_in : List ℕ → Options
options_in bytes = record {
  role = little_from 0 4 bytes;
  mac = slice_index bytes 4 ∷ slice_index bytes 5 ∷ slice_index bytes 6 ∷ slice_index bytes 7 ∷ slice_index bytes 8 ∷ slice_index bytes 9 ∷ [];
  transmits = slice_index bytes 10;
  draws = slice_index bytes 11;
  policies = little_from 12 4 bytes;
  start = little_from 16 8 bytes;
  seed = little_from 24 8 bytes;
  limits = limits_at bytes;
  lease_version = little_from 64 8 bytes;
}

-- enum nd_draws, with a seed, or a word below 2^32
abbrev pub are_draws : ℕ → ℕ → Bool
are_draws draws seed = (draws == 0) || ((draws == 1) && nat_le seed (2 ^ 32 - 1))

-- where the random words come from
abbrev pub draws_in : ℕ → ℕ → Draws
draws_in draws seed = if draws == 0 then Seed seed else Word seed

-- a sum of those of enum nd_policy that a node can have
abbrev pub are_policies : ℕ → Bool
are_policies bits = bit_and bits (2 ^ 32 - 1 - 1 - 2 - 4 - 8 - 16 - 32 - 512 - 2048 - 4096 - 8192) == 0

-- the policies whose bits are set
unfoldable pub policies_in : ℕ → Policies
policies_in bits = record {
  parts = is_set bits 1;
  speakers = is_set bits 2;
  timers = is_set bits 4;
  own = is_set bits 8;
  unicast = is_set bits 16;
  unformed = is_set bits 32;
  asked = is_set bits 512;
  lifetimes = is_set bits 2048;
  unredirected = is_set bits 4096;
  strict = is_set bits 8192;
}

-- the role of 0 or 1
abbrev pub role_in : ℕ → Role
role_in number = if number == 0 then roles.Host else roles.Router

-- each field but the limits is within its range
abbrev pub is_well_formed : Options → Bool
is_well_formed o = nat_le o.role 1 && nat_le o.transmits 8 && are_draws o.draws o.seed && are_policies o.policies && nat_lt o.start (2 ^ 62)

-- and each limit is within its own
pub record AreWellFormed (o : Options) : Type 0 where
  pub fields : IsTrue (is_well_formed o)
  pub limits : AreChosen o.limits

-- what the fields say
abbrev pub opening_in : Options → Opening
opening_in o = record {
  role = role_in o.role;
  mac = record { 0 = o.mac };
  start = o.start;
  transmits = number_or o.transmits 1;
  limits = chosen o.limits;
  policies = policies_in o.policies;
  draws = draws_in o.draws o.seed;
  lease_version = number_or o.lease_version 1;
}

-- the bytes are well formed
pub record AreOptions (bytes : List ℕ) : Type 0 where
  pub known : IsKnown bytes
  pub fields : AreWellFormed (options_in bytes)
