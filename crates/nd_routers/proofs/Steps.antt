-- What one more row does to a table of routers.
use Rattle.std.proofs.Common.{◌≡◌, ℕ, Bool, true, false, cond, eqb, List, [], ◌∷◌, ◌++◌, Option, Some, None, refl, sym, ◌∙◌, ap, subst, arith}
use Rattle.std.specs.Prelude.{is_some, not}
use Rattle.std.proofs.lemmas.Bool.Decides.{nat_tests, eqb_tells}
use Rattle.nd_addr.specs.declared.preference.Preference.{Preference}
use Rattle.nd_table.specs.declared.lasting.Lasting.{Lasting}
use Rattle.nd_table.specs.Announcements.{Announced, end_of, is_open, stands}
use Rattle.nd_table.specs.Listing.{end_in, without, announced, open_at}
use Rattle.nd_table.specs.ListingKept.{StandsUntilTold}
use Rattle.nd_table.proofs.Steps.{gains, ends, open_in, AllOpen-announced, AllOpen-filter, lists_at}
use Rattle.nd_routers.specs.History.{RouterRow, Heard, LeftList, Failed, announcements, preference_of}
use Rattle.nd_routers.specs.Preferences.{preferences_of, with_preference, without_preference}
use Rattle.nd_routers.specs.declared.preferred.Preferred.{Preferred}
use Rattle.nd_routers.specs.RouterAdvertisement.{change_of}
use Rattle.nd_routers.specs.RouterFailures.{Failures}
use Rattle.nd_routers.specs.RouterFailuresKept.{others}
use Rattle.nd_routers.specs.Routers.{same}
use Rattle.nd_routers.specs.RoutersKept.{Table, Stands, GainsRow, IsSettled}
use Rattle.nd_routers.proofs.Failing.{leaves, fails_again, fails_unlisted, is_removed, is_heard}
use Rattle.nd_routers.proofs.Preferring.{paired_without, preferences_removed, preferences_told}
use Rattle.nd_routers.proofs.Settled.{open_each, settled_from}

open_is_some : (a o : Option (Option ℕ)) (now : ℕ) → a ≡ o → (is_some a ≡ true → is_open a now ≡ true) → is_open o now ≡ is_some o
open_is_some a None now is h = refl
open_is_some a (Some e) now is h = ap (λ x. is_open x now) (sym is) ∙ h (ap is_some is)

-- of settled routers each that is listed stands
pub stands_listed : (es : List (Lasting ℕ)) (history : List RouterRow) (now key : ℕ) → IsSettled es now → StandsUntilTold same es (announcements history) → stands same key (announcements history) now ≡ is_some (end_in same key es)
stands_listed es history now key settled s =
    open_is_some (end_in same key es) (end_of same key (announcements history)) now (s.ends key) (open_in same eqb_tells now key es (open_each es now settled))
    ∙ ap is_some (sym (s.ends key))

module _ (old new : Table) where
  pub gains_left : (at key : ℕ) → new.entries ≡ without same key old.entries → new.preferences ≡ without_preference key old.preferences → new.failed ≡ others key old.failed → GainsRow old new (LeftList at key)
  gains_left at key e p f = record {
    stands = λ history s. record {
      routers = subst (λ (es : List (Lasting ℕ)). StandsUntilTold same es (announcements (LeftList at key ∷ history))) (sym e) (ends same eqb_tells old.entries (announcements history) at key s.routers);
      preferred = p ∙ (ap (without_preference key) s.preferred
          ∙ (paired_without (λ k. preference_of k history) (λ k. preference_of k history) key old.entries (λ k. refl) ∙ ap (λ (es : List (Lasting ℕ)). preferences_of history es) (sym e)));
      failures = subst (λ (ks : List ℕ). Failures (LeftList at key ∷ history) ks) (sym f) (leaves history old.failed s.failures at key);
    };
  }

  pub gains_removed : (now key : ℕ) (preference : Preference) → IsSettled old.entries now → new.entries ≡ announced same now key 0 old.entries → new.preferences ≡ without_preference key old.preferences → new.failed ≡ others key old.failed
      → GainsRow old new (Heard now key 0 preference)
  gains_removed now key preference settled e p f = record {
    stands = λ history s. record {
      routers = subst (λ (es : List (Lasting ℕ)). StandsUntilTold same es (announcements (Heard now key 0 preference ∷ history))) (sym e) (gains same eqb_tells old.entries (announcements history) now key 0 (open_each old.entries now settled) s.routers);
      preferred = p ∙ (ap (without_preference key) s.preferred
          ∙ (preferences_removed history now key 0 preference old.entries settled ∙ ap (λ (es : List (Lasting ℕ)). preferences_of (Heard now key 0 preference ∷ history) es) (sym e)));
      failures = subst (λ (ks : List ℕ). Failures (Heard now key 0 preference ∷ history) ks) (sym f) (is_removed history old.failed s.failures now key preference);
    };
  }

  pub gains_heard : (now key w : ℕ) (preference : Preference) → eqb w 0 ≡ false → IsSettled old.entries now → new.entries ≡ announced same now key w old.entries
      → new.preferences ≡ with_preference (is_some (end_in same key old.entries)) key preference old.preferences → new.failed ≡ old.failed → GainsRow old new (Heard now key w preference)
  gains_heard now key w preference n settled e p f = record {
    stands = λ history s. record {
      routers = subst (λ (es : List (Lasting ℕ)). StandsUntilTold same es (announcements (Heard now key w preference ∷ history))) (sym e) (gains same eqb_tells old.entries (announcements history) now key w (open_each old.entries now settled) s.routers);
      preferred = p ∙ (ap (λ (ps : List Preferred). with_preference (is_some (end_in same key old.entries)) key preference ps) s.preferred
          ∙ (preferences_told history now key w preference old.entries settled n ∙ ap (λ (es : List (Lasting ℕ)). preferences_of (Heard now key w preference ∷ history) es) (sym e)));
      failures = subst (λ (ks : List ℕ). Failures (Heard now key w preference ∷ history) ks) (sym f)
          (is_heard history old.failed s.failures now key w preference n (stands_listed old.entries history now key settled s.routers ∙ ap is_some (s.routers.ends key)));
    };
  }

  pub gains_failure : (at key : ℕ) (history : List RouterRow) → Stands old history → is_some (end_in same key old.entries) ≡ true → new.entries ≡ old.entries → new.preferences ≡ old.preferences → new.failed ≡ others key old.failed ++ key ∷ []
      → Stands new (Failed at key ∷ history)
  gains_failure at key history s listed e p f = record {
    routers = subst (λ (es : List (Lasting ℕ)). StandsUntilTold same es (announcements history)) (sym e) s.routers;
    preferred = p ∙ (s.preferred ∙ ap (λ (es : List (Lasting ℕ)). preferences_of history es) (sym e));
    failures = subst (λ (ks : List ℕ). Failures (Failed at key ∷ history) ks) (sym f) (fails_again history old.failed s.failures at key (ap is_some (sym (s.routers.ends key)) ∙ listed));
  }

  pub gains_no_failure : (at key : ℕ) → is_some (end_in same key old.entries) ≡ false → new ≡ old → GainsRow old new (Failed at key)
  gains_no_failure at key unlisted is = record {
    stands = λ history s. subst (λ (t : Table). Stands t (Failed at key ∷ history)) (sym is) (record {
      routers = s.routers;
      preferred = s.preferred;
      failures = fails_unlisted history old.failed s.failures at key (ap is_some (sym (s.routers.ends key)) ∙ unlisted);
    });
  }

pub settled_announced : (es : List (Lasting ℕ)) (now key w : ℕ) → IsSettled (announced same now key w es) now
settled_announced es now key w = settled_from _ now (AllOpen-announced same eqb_tells now key w es)

pub settled_without : (es : List (Lasting ℕ)) (now key : ℕ) → IsSettled es now → IsSettled (without same key es) now
settled_without es now key h = settled_from _ now (AllOpen-filter same eqb_tells now _ es (open_each es now h))

-- a key stands behind its announcement, but for a lifetime of 0
pub stands_after : (history : List RouterRow) (now key w : ℕ) → stands same key (Announced now key w ∷ announcements history) now ≡ not (eqb w 0)
stands_after history now key w = grind (arith, nat_tests)

pub holds_at : (es : List (Lasting ℕ)) (history : List RouterRow) (now key : ℕ) → StandsUntilTold same es (announcements history) → is_some (end_in same key (open_at now es)) ≡ stands same key (announcements history) now
holds_at es history now key s = by (end_in same key (open_at now es)) (end_of same key (announcements history)) ((lists_at same eqb_tells es (announcements history) now s).ends key)
  where
    by : (a o : Option (Option ℕ)) → a ≡ cond (is_open o now) o None → is_some a ≡ is_open o now
    by a None is = ap is_some is
    by a (Some e) is = grind (arith, is)

-- what changes, by what was listed and what lasts
pub changes : (t : Table) (history : List RouterRow) (now key w : ℕ) (preference : Preference) (before after : Bool) → Stands t history → IsSettled t.entries now → before ≡ is_some (end_in same key t.entries) → after ≡ not (eqb w 0)
    → change_of before after ≡ change_of (stands same key (announcements history) now) (stands same key (announcements (Heard now key w preference ∷ history)) now)
changes t history now key w preference before after s settled b a =
    ap (λ x. change_of x after) (b ∙ sym (stands_listed t.entries history now key settled s.routers))
    ∙ ap (λ x. change_of (stands same key (announcements history) now) x) (a ∙ sym (stands_after history now key w))
