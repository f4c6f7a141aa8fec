-- The first MTU is among the options of its type.
use Rattle.std.proofs.Common.{◌≡◌, eqb, List, [], ◌∷◌, refl, inl, inr}
use Rattle.std.proofs.lemmas.Bool.{cases_Bool}
use Rattle.nd_decode.specs.Option.{Said, slla, tlla, prefix, redirected, mtu, rdnss, dnssl, other}
use Rattle.nd_decode.specs.OfType.{from_kind}
use Rattle.nd_params.specs.RouterAdvertisement.{first_mtu}

pub first_mtu_from : (options : List Said) → first_mtu options ≡ first_mtu (from_kind 5 options)
first_mtu_from [] = refl
first_mtu_from (slla _ ∷ options) = first_mtu_from options
first_mtu_from (tlla _ ∷ options) = first_mtu_from options
first_mtu_from (prefix _ ∷ options) = first_mtu_from options
first_mtu_from (redirected _ ∷ options) = first_mtu_from options
first_mtu_from (mtu _ ∷ options) = refl
first_mtu_from (rdnss _ _ ∷ options) = first_mtu_from options
first_mtu_from (dnssl _ _ ∷ options) = first_mtu_from options
first_mtu_from (other kind rest ∷ options) =
    elim (cases_Bool (eqb kind 5)) [
      | inl e ↦ rw e refl
      | inr e ↦ rw e (first_mtu_from options)
    ]
