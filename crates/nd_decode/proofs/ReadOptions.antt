-- What a reading keeps of options, and two readings one after the other.
use Rattle.std.proofs.Common.{◌≡◌, ℕ, ◌+◌, Bool, true, false, ◌||◌, ◌&&◌, List, [], ◌∷◌, refl, ap, ◌∙◌, inl, inr}
use Rattle.std.proofs.lemmas.Bool.{cases_Bool}
use Rattle.std.specs.Prelude.{not, nat_lt}
use Rattle.nd_decode.specs.Option.{Said, slla, tlla, prefix, redirected, mtu, rdnss, dnssl, other}
use Rattle.nd_decode.specs.OfType.{kind_of}
use Rattle.nd_decode.specs.Reading.{as_said, both, info_read, lifetime_read, most_lifetime, option_read, options_read}
use Rattle.nd_decode.specs.Sizes.{size, sizes}
use Rattle.nd_decode.specs.declared.prefix_info.PrefixInfo.{PrefixInfo}
use Rattle.nd_decode.specs.declared.reading.Reading.{Reading}

-- ---- one option after the other

pub read_none : (reading : Reading) → options_read reading [] ≡ []
unfolding options_read
read_none reading = refl

pub read_first : (reading : Reading) (option : Said) (options : List Said) → options_read reading (option ∷ options) ≡ option_read reading option ∷ options_read reading options
unfolding options_read
read_first reading option options = refl

-- ---- what is as it was

pub kind_read : (reading : Reading) (option : Said) → kind_of (option_read reading option) ≡ kind_of option
kind_read reading (slla _) = refl
kind_read reading (tlla _) = refl
kind_read reading (prefix _) = refl
kind_read reading (redirected _) = refl
kind_read reading (mtu _) = refl
kind_read reading (rdnss _ _) = refl
kind_read reading (dnssl _ _) = refl
kind_read reading (other _ _) = refl

size_read : (reading : Reading) (option : Said) → size (option_read reading option) ≡ size option
size_read reading (slla _) = refl
size_read reading (tlla _) = refl
size_read reading (prefix _) = refl
size_read reading (redirected _) = refl
size_read reading (mtu _) = refl
size_read reading (rdnss _ _) = refl
size_read reading (dnssl _ _) = refl
size_read reading (other _ _) = refl

pub sizes_read : (reading : Reading) (options : List Said) → sizes (options_read reading options) ≡ sizes options
unfolding options_read
sizes_read reading [] = refl
sizes_read reading (option ∷ options) =
    ap (λ (n : ℕ). n + sizes (options_read reading options)) (size_read reading option) ∙ ap (λ (n : ℕ). size option + n) (sizes_read reading options)

-- ---- as it is said

lifetime_as_said : (seconds : ℕ) → lifetime_read false seconds ≡ seconds
unfolding lifetime_read
lifetime_as_said seconds = refl

flag_as_said : (flag : Bool) → (flag && true) ≡ flag
flag_as_said true = refl
flag_as_said false = refl

info_as_said : (info : PrefixInfo) → info_read as_said info ≡ info
info_as_said info =
    ap (λ (flag : Bool). let i : PrefixInfo = record info { autonomous = flag; valid_lifetime = lifetime_read false info.valid_lifetime; preferred_lifetime = lifetime_read false info.preferred_lifetime } in i) (flag_as_said info.autonomous)
    ∙ ap (λ (n : ℕ). let i : PrefixInfo = record info { valid_lifetime = n; preferred_lifetime = lifetime_read false info.preferred_lifetime } in i) (lifetime_as_said info.valid_lifetime)
    ∙ ap (λ (n : ℕ). let i : PrefixInfo = record info { preferred_lifetime = n } in i) (lifetime_as_said info.preferred_lifetime)

option_as_said : (option : Said) → option_read as_said option ≡ option
option_as_said (slla _) = refl
option_as_said (tlla _) = refl
option_as_said (prefix info) = ap prefix (info_as_said info)
option_as_said (redirected _) = refl
option_as_said (mtu _) = refl
option_as_said (rdnss lifetime servers) = ap (λ (n : ℕ). rdnss n servers) (lifetime_as_said lifetime)
option_as_said (dnssl lifetime names) = ap (λ (n : ℕ). dnssl n names) (lifetime_as_said lifetime)
option_as_said (other _ _) = refl

pub read_as_said : (options : List Said) → options_read as_said options ≡ options
unfolding options_read
read_as_said [] = refl
read_as_said (option ∷ options) =
    ap (λ (o : Said). o ∷ options_read as_said options) (option_as_said option) ∙ ap (λ (os : List Said). option ∷ os) (read_as_said options)

-- ---- by one reading, and then by another

lifetime_both : (a b : Bool) (seconds : ℕ) → lifetime_read b (lifetime_read a seconds) ≡ lifetime_read (a || b) seconds
unfolding lifetime_read
lifetime_both false false seconds = refl
lifetime_both false true seconds = refl
lifetime_both true false seconds = refl
lifetime_both true true seconds = elim (cases_Bool (nat_lt most_lifetime seconds)) [
  | inl long ↦ rw long refl
  | inr short ↦ rw short (rw short refl)
]

flag_both : (flag a b : Bool) → ((flag && not a) && not b) ≡ (flag && not (a || b))
flag_both false a b = refl
flag_both true true b = refl
flag_both true false b = refl

info_both : (a b : Reading) (info : PrefixInfo) → info_read b (info_read a info) ≡ info_read (both a b) info
info_both a b info =
    let valid = lifetime_both a.bounded b.bounded info.valid_lifetime in
    let preferred = lifetime_both a.bounded b.bounded info.preferred_lifetime in
    let twice = λ (n : ℕ). lifetime_read b.bounded (lifetime_read a.bounded n) in
    ap (λ (flag : Bool). let i : PrefixInfo = record info { autonomous = flag; valid_lifetime = twice info.valid_lifetime; preferred_lifetime = twice info.preferred_lifetime } in i) (flag_both info.autonomous a.unformed b.unformed)
    ∙ ap (λ (n : ℕ). let i : PrefixInfo = record info { autonomous = info.autonomous && not (a.unformed || b.unformed); valid_lifetime = n; preferred_lifetime = twice info.preferred_lifetime } in i) valid
    ∙ ap (λ (n : ℕ). let i : PrefixInfo = record info { autonomous = info.autonomous && not (a.unformed || b.unformed); valid_lifetime = lifetime_read (a.bounded || b.bounded) info.valid_lifetime; preferred_lifetime = n } in i) preferred

option_both : (a b : Reading) (option : Said) → option_read b (option_read a option) ≡ option_read (both a b) option
option_both a b (slla _) = refl
option_both a b (tlla _) = refl
option_both a b (prefix info) = ap prefix (info_both a b info)
option_both a b (redirected _) = refl
option_both a b (mtu _) = refl
option_both a b (rdnss lifetime servers) = ap (λ (n : ℕ). rdnss n servers) (lifetime_both a.bounded b.bounded lifetime)
option_both a b (dnssl lifetime names) = ap (λ (n : ℕ). dnssl n names) (lifetime_both a.bounded b.bounded lifetime)
option_both a b (other _ _) = refl

pub read_both : (a b : Reading) (options : List Said) → options_read b (options_read a options) ≡ options_read (both a b) options
unfolding options_read
read_both a b [] = refl
read_both a b (option ∷ options) =
    ap (λ (o : Said). o ∷ options_read b (options_read a options)) (option_both a b option) ∙ ap (λ (os : List Said). option_read (both a b) option ∷ os) (read_both a b options)
