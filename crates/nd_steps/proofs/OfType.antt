-- What the options tell that are not passed over, those of their type tell.
use Rattle.std.proofs.Common.{◌≡◌, ℕ, eqb, ap, sym, Bool, true, false, List, [], ◌∷◌, Option, refl, ◌∙◌, inl, inr}
use Rattle.std.specs.Prelude.{◌||◌, if◌then◌else◌}
use Rattle.std.specs.List.{list_any}
use Rattle.std.proofs.lemmas.Bool.{cases_Bool}
use Rattle.nd_addr.specs.declared.mac.Mac.{Mac}
use Rattle.nd_decode.specs.Option.{Said, slla, tlla, prefix, redirected, mtu, rdnss, dnssl, other}
use Rattle.nd_decode.specs.OfType.{from_kind, kind_of}
use Rattle.nd_chronicle.specs.Hearing.{is_source_address}
use Rattle.nd_chronicle.specs.LinkLayerAddress.{first_slla, first_tlla}
use Rattle.nd_chronicle.specs.Reading.{is_passed_over, passes_over, without}

-- an option of the other type tells nothing of it, passed over or not
no_slla : (passed : Bool) (mac : Mac) (options : List Said) → first_slla (if passed then options else tlla mac ∷ options) ≡ first_slla options
no_slla true mac options = refl
no_slla false mac options = refl

no_tlla : (passed : Bool) (mac : Mac) (options : List Said) → first_tlla (if passed then options else slla mac ∷ options) ≡ first_tlla options
no_tlla true mac options = refl
no_tlla false mac options = refl

-- the first of a type has that type
kind_of_first : (kind : ℕ) (options rest : List Said) (option : Said) → from_kind kind options ≡ option ∷ rest → eqb (kind_of option) kind ≡ true
kind_of_first kind [] rest option e = let no : ⊥ = cc in absurd no
kind_of_first kind (first ∷ options) rest option e = by_kind (eqb (kind_of first) kind) refl e (kind_of_first kind options rest option)
  where
    by_kind : (b : Bool) → eqb (kind_of first) kind ≡ b → (if b then first ∷ options else from_kind kind options) ≡ option ∷ rest
        → (from_kind kind options ≡ option ∷ rest → eqb (kind_of option) kind ≡ true) → eqb (kind_of option) kind ≡ true
    by_kind true is found later = let same : first ≡ option = cc in ap (λ (o : Said). eqb (kind_of o) kind) (sym same) ∙ is
    by_kind false is found later = later found

no_type_1 : (passed : Bool) (mac : Mac) (options : List Said)
    → list_any is_source_address (if passed then options else tlla mac ∷ options) ≡ list_any is_source_address options
no_type_1 true mac options = refl
no_type_1 false mac options = refl

module _ (own : Option Mac) where
  pub any_source_address : (options : List Said) → list_any is_source_address (without own options) ≡ list_any is_source_address (without own (from_kind 1 options))
  any_source_address [] = refl
  any_source_address (slla _ ∷ options) = refl
  any_source_address (tlla mac ∷ options) = no_type_1 (is_passed_over own mac) mac (without own options) ∙ any_source_address options
  any_source_address (prefix _ ∷ options) = any_source_address options
  any_source_address (redirected _ ∷ options) = any_source_address options
  any_source_address (mtu _ ∷ options) = any_source_address options
  any_source_address (rdnss _ _ ∷ options) = any_source_address options
  any_source_address (dnssl _ _ ∷ options) = any_source_address options
  any_source_address (other kind rest ∷ options) = by_kind (eqb kind 1) refl (any_source_address options)
    where
      by_kind : (b : Bool) → eqb kind 1 ≡ b → list_any is_source_address (without own options) ≡ list_any is_source_address (without own (from_kind 1 options))
          → list_any is_source_address (other kind rest ∷ without own options) ≡ list_any is_source_address (without own (if b then other kind rest ∷ options else from_kind 1 options))
      by_kind true is later = refl
      by_kind false is later = ap (λ (k : Bool). k || list_any is_source_address (without own options)) is ∙ later

  -- the first of the type is one, unless it is passed over
  pub any_first : (options rest : List Said) (option : Said) → from_kind 1 options ≡ option ∷ rest
      → list_any is_source_address (without own options) ≡ (if passes_over own option then list_any is_source_address (without own rest) else true)
  any_first options rest option e =
      any_source_address options ∙ ap (λ (os : List Said). list_any is_source_address (without own os)) e ∙ by_first option (passes_over own option) refl (kind_of_first 1 options rest option e)
    where
      by_first : (o : Said) (passed : Bool) → passes_over own o ≡ passed → is_source_address o ≡ true
          → list_any is_source_address (without own (o ∷ rest)) ≡ (if passed then list_any is_source_address (without own rest) else true)
      by_first o true is kind = rw is refl
      by_first o false is kind = rw is (rw kind refl)

  -- and where there is none of the type there is none
  pub none_counts : (options : List Said) → from_kind 1 options ≡ [] → list_any is_source_address (without own options) ≡ false
  none_counts options e = any_source_address options ∙ ap (λ (os : List Said). list_any is_source_address (without own os)) e

  pub first_slla_from : (options : List Said) → first_slla (without own options) ≡ first_slla (without own (from_kind 1 options))
  first_slla_from [] = refl
  first_slla_from (slla _ ∷ options) = refl
  first_slla_from (tlla mac ∷ options) = no_slla (is_passed_over own mac) mac (without own options) ∙ first_slla_from options
  first_slla_from (prefix _ ∷ options) = first_slla_from options
  first_slla_from (redirected _ ∷ options) = first_slla_from options
  first_slla_from (mtu _ ∷ options) = first_slla_from options
  first_slla_from (rdnss _ _ ∷ options) = first_slla_from options
  first_slla_from (dnssl _ _ ∷ options) = first_slla_from options
  first_slla_from (other kind rest ∷ options) =
      elim (cases_Bool (eqb kind 1)) [
        | inl e ↦ rw e refl
        | inr e ↦ rw e (first_slla_from options)
      ]

  pub first_tlla_from : (options : List Said) → first_tlla (without own options) ≡ first_tlla (without own (from_kind 2 options))
  first_tlla_from [] = refl
  first_tlla_from (slla mac ∷ options) = no_tlla (is_passed_over own mac) mac (without own options) ∙ first_tlla_from options
  first_tlla_from (tlla _ ∷ options) = refl
  first_tlla_from (prefix _ ∷ options) = first_tlla_from options
  first_tlla_from (redirected _ ∷ options) = first_tlla_from options
  first_tlla_from (mtu _ ∷ options) = first_tlla_from options
  first_tlla_from (rdnss _ _ ∷ options) = first_tlla_from options
  first_tlla_from (dnssl _ _ ∷ options) = first_tlla_from options
  first_tlla_from (other kind rest ∷ options) =
      elim (cases_Bool (eqb kind 2)) [
        | inl e ↦ rw e refl
        | inr e ↦ rw e (first_tlla_from options)
      ]
