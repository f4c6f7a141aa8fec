-- Each history of the routers has the list of those that failed.
use Rattle.std.proofs.Common.{◌≡◌, ℕ, Bool, true, false, eqb, List, [], ◌∷◌, ◌++◌, refl, sym, ◌∙◌, arith}
use Rattle.std.specs.Prelude.{is_some}
use Rattle.std.proofs.lemmas.Bool.Decides.{nat_tests}
use Rattle.nd_addr.specs.declared.preference.Preference.{Preference}
use Rattle.nd_table.specs.Announcements.{end_of, stands}
use Rattle.nd_table.proofs.Steps.{open_some}
use Rattle.nd_routers.specs.History.{RouterRow, Heard, LeftList, Failed, announcements, failure_of}
use Rattle.nd_routers.specs.RouterFailures.{number_in, Failures}
use Rattle.nd_routers.specs.RouterFailuresKept.{others}
use Rattle.nd_routers.specs.Routers.{same}
use Rattle.nd_routers.proofs.Failing.{has_failed-others, InOrder-agree, InOrder-others, leaves, fails_again, fails_unlisted, is_removed, is_heard}

-- a router that announces itself loses its failure unless it stands
abbrev behind_heard : Bool → Bool → ℕ → List ℕ → List ℕ
behind_heard true standing key ks = others key ks
behind_heard false true key ks = ks
behind_heard false false key ks = others key ks

abbrev behind_failed : Bool → ℕ → List ℕ → List ℕ
behind_failed true key ks = others key ks ++ key ∷ []
behind_failed false key ks = ks

abbrev pub failed_in : List RouterRow → List ℕ
failed_in [] = []
failed_in (Heard at key w preference ∷ history) = behind_heard (eqb w 0) (stands same key (announcements history) at) key (failed_in history)
failed_in (LeftList at key ∷ history) = others key (failed_in history)
failed_in (Failed at key ∷ history) = behind_failed (is_some (end_of same key (announcements history))) key (failed_in history)

module _ (history : List RouterRow) (ks : List ℕ) (f : Failures history ks) (at key : ℕ) where
  anew : (w : ℕ) (preference : Preference) → eqb w 0 ≡ false → stands same key (announcements history) at ≡ false → Failures (Heard at key w preference ∷ history) (others key ks)
  anew w preference some ended = record {
    each = λ k. has_failed-others k key ks ∙ grind (arith, nat_tests, f.each k, some, ended);
    order = InOrder-agree (λ k. number_in (failure_of k history)) _ (others key ks) (λ k h. grind (arith, nat_tests, h, has_failed-others k key ks)) (InOrder-others _ key ks f.order);
  }

  zero_heard : (w : ℕ) (preference : Preference) → eqb w 0 ≡ true → Failures (Heard at key w preference ∷ history) (others key ks)
  zero_heard w preference zero =
      let e : w ≡ 0 = grind (arith, nat_tests, zero) in
      rw e (is_removed history ks f at key preference)

  heard_failures : (w : ℕ) (preference : Preference) (zero standing : Bool) → eqb w 0 ≡ zero → stands same key (announcements history) at ≡ standing
      → Failures (Heard at key w preference ∷ history) (behind_heard zero standing key ks)
  heard_failures w preference true standing z s = zero_heard w preference z
  heard_failures w preference false true z s =
      is_heard history ks f at key w preference z (s ∙ sym (open_some (end_of same key (announcements history)) at s))
  heard_failures w preference false false z s = anew w preference z s

  failed_failures : (listed : Bool) → is_some (end_of same key (announcements history)) ≡ listed → Failures (Failed at key ∷ history) (behind_failed listed key ks)
  failed_failures true l = fails_again history ks f at key l
  failed_failures false l = fails_unlisted history ks f at key l

pub failures : (history : List RouterRow) → Failures history (failed_in history)
failures [] = record { each = λ k. refl; order = tt }
failures (Heard at key w preference ∷ history) =
    heard_failures history (failed_in history) (failures history) at key w preference (eqb w 0) (stands same key (announcements history) at) refl refl
failures (LeftList at key ∷ history) = leaves history (failed_in history) (failures history) at key
failures (Failed at key ∷ history) = failed_failures history (failed_in history) (failures history) at key (is_some (end_of same key (announcements history))) refl
