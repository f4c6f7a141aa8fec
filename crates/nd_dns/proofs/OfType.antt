-- What the options tell, those of their type tell.
use Rattle.std.proofs.Common.{◌≡◌, eqb, List, [], ◌∷◌, refl, inl, inr}
use Rattle.std.proofs.lemmas.Bool.{cases_Bool}
use Rattle.nd_decode.specs.Option.{Said, slla, tlla, prefix, redirected, mtu, rdnss, dnssl, other}
use Rattle.nd_decode.specs.OfType.{from_kind}
use Rattle.nd_dns.specs.AnnouncedNames.{names_told}
use Rattle.nd_dns.specs.AnnouncedServers.{servers_told}

pub names_from : (options : List Said) → names_told options ≡ names_told (from_kind 31 options)
names_from [] = refl
names_from (slla _ ∷ options) = names_from options
names_from (tlla _ ∷ options) = names_from options
names_from (prefix _ ∷ options) = names_from options
names_from (redirected _ ∷ options) = names_from options
names_from (mtu _ ∷ options) = names_from options
names_from (rdnss _ _ ∷ options) = names_from options
names_from (dnssl _ _ ∷ options) = refl
names_from (other kind rest ∷ options) =
    elim (cases_Bool (eqb kind 31)) [
      | inl e ↦ rw e refl
      | inr e ↦ rw e (names_from options)
    ]

pub servers_from : (options : List Said) → servers_told options ≡ servers_told (from_kind 25 options)
servers_from [] = refl
servers_from (slla _ ∷ options) = servers_from options
servers_from (tlla _ ∷ options) = servers_from options
servers_from (prefix _ ∷ options) = servers_from options
servers_from (redirected _ ∷ options) = servers_from options
servers_from (mtu _ ∷ options) = servers_from options
servers_from (rdnss _ _ ∷ options) = refl
servers_from (dnssl _ _ ∷ options) = servers_from options
servers_from (other kind rest ∷ options) =
    elim (cases_Bool (eqb kind 25)) [
      | inl e ↦ rw e refl
      | inr e ↦ rw e (servers_from options)
    ]
