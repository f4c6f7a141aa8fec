-- Which search names a Router Advertisement announces, and for how long (RFC 8106, section 5.2).
use Rattle.std.specs.Prelude.{ℕ, Bool, bytes_eq, List, [], ◌∷◌, ◌++◌, map}
use Rattle.nd_decode.specs.Option.{Said, slla, tlla, prefix, redirected, mtu, rdnss, dnssl, other}

-- two names in small letters are the same
abbrev pub same_name : List ℕ → List ℕ → Bool
same_name a b = bytes_eq a b

-- names, each for the same lifetime
abbrev pub for_lifetime : ℕ → List (List ℕ) → List (List ℕ × ℕ)
for_lifetime lifetime names = map (λ name. (name, lifetime)) names

-- the names of an option, in small letters
abbrev pub names_of : Said → List (List ℕ × ℕ)
names_of (dnssl lifetime names) = for_lifetime lifetime names
names_of (slla _) = []
names_of (tlla _) = []
names_of (prefix _) = []
names_of (redirected _) = []
names_of (mtu _) = []
names_of (rdnss _ _) = []
names_of (other _ _) = []

-- those of all options, in their order
abbrev pub names_told : List Said → List (List ℕ × ℕ)
names_told [] = []
names_told (option ∷ options) = names_of option ++ names_told options
