-- The options of one type; those of other types are skipped.
use Rattle.std.specs.Prelude.{ℕ, nat_eq, List, [], ◌∷◌, Option, Some, None, if◌then◌else◌}
use Rattle.nd_decode.specs.declared.prefix_info.PrefixInfo.{PrefixInfo}
use Rattle.nd_decode.specs.Option.{Said, slla, tlla, prefix, redirected, mtu, rdnss, dnssl, other}

-- the type of an option, by its number (RFC 4861, section 4.6; RFC 8106, section 5)
abbrev pub kind_of : Said → ℕ
kind_of (slla mac) = 1
kind_of (tlla mac) = 2
kind_of (prefix p) = 3
kind_of (redirected packet) = 4
kind_of (mtu n) = 5
kind_of (rdnss lifetime servers) = 25
kind_of (dnssl lifetime names) = 31
kind_of (other kind rest) = kind

-- the options from the first of a type on
abbrev pub from_kind : ℕ → List Said → List Said
from_kind kind [] = []
from_kind kind (option ∷ options) = if nat_eq (kind_of option) kind then option ∷ options else from_kind kind options

-- the option as a Prefix Information, if it is one (RFC 4861, section 4.6.2)
abbrev pub prefix_said : Said → Option PrefixInfo
prefix_said (prefix info) = Some info
prefix_said (slla _) = None
prefix_said (tlla _) = None
prefix_said (redirected _) = None
prefix_said (mtu _) = None
prefix_said (rdnss _ _) = None
prefix_said (dnssl _ _) = None
prefix_said (other _ _) = None

-- what an option says, or else what is said later
abbrev pub or_later : Option PrefixInfo → List Said → Option (PrefixInfo × List Said) → Option (PrefixInfo × List Said)
or_later (Some info) options later = Some (info, options)
or_later None options later = later

-- the first of them, and the options behind it
abbrev pub first_prefix : List Said → Option (PrefixInfo × List Said)
first_prefix [] = None
first_prefix (option ∷ options) = or_later (prefix_said option) options (first_prefix options)
