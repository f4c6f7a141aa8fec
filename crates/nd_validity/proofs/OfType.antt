-- A Source Link-Layer Address is among the options of its type.
use Rattle.std.proofs.Common.{◌≡◌, eqb, List, [], ◌∷◌, refl, inl, inr}
use Rattle.std.proofs.lemmas.Bool.{cases_Bool}
use Rattle.nd_decode.specs.Option.{Said, slla, tlla, prefix, redirected, mtu, rdnss, dnssl, other}
use Rattle.nd_decode.specs.OfType.{from_kind}
use Rattle.std.specs.List.{list_any}
use Rattle.nd_validity.specs.Validity.{is_slla}

pub any_slla_from : (options : List Said) → list_any is_slla options ≡ list_any is_slla (from_kind 1 options)
any_slla_from [] = refl
any_slla_from (slla _ ∷ options) = refl
any_slla_from (tlla _ ∷ options) = any_slla_from options
any_slla_from (prefix _ ∷ options) = any_slla_from options
any_slla_from (redirected _ ∷ options) = any_slla_from options
any_slla_from (mtu _ ∷ options) = any_slla_from options
any_slla_from (rdnss _ _ ∷ options) = any_slla_from options
any_slla_from (dnssl _ _ ∷ options) = any_slla_from options
any_slla_from (other kind rest ∷ options) =
    elim (cases_Bool (eqb kind 1)) [
      | inl e ↦ rw e refl
      | inr e ↦ rw e (any_slla_from options)
    ]
