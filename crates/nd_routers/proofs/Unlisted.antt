-- A router that isn't listed leaves no trace where its advertisement and its leaving follow each other.
use Rattle.std.proofs.Common.{◌≡◌, ℕ, ◌≤◌, Bool, true, false, eqb, List, [], ◌∷◌, length, Option, None, refl, sym, ◌∙◌, ap, arith}
use Rattle.std.specs.Prelude.{is_some, ◌&&◌, ◌||◌, nat_le, nat_lt}
use Rattle.std.proofs.Math.Bool.{and-true}
use Rattle.std.proofs.lemmas.Bool.{true≢false}
use Rattle.std.proofs.lemmas.Bool.Decides.{nat_tests, eqb_tells}
use Rattle.nd_addr.specs.declared.preference.Preference.{Preference}
use Rattle.nd_table.specs.declared.lasting.Lasting.{Lasting}
use Rattle.nd_table.specs.Announcements.{place}
use Rattle.nd_table.specs.Listing.{announced, end_in, fits, open_at}
use Rattle.nd_table.proofs.Behind.{open_all}
use Rattle.nd_table.proofs.Finding.{absent_of}
use Rattle.nd_table.proofs.LastingOrder.{Rises-agree}
use Rattle.nd_table.proofs.Steps.{announced_length}
use Rattle.nd_routers.specs.declared.preferred.Preferred.{Preferred}
use Rattle.nd_routers.specs.History.{RouterRow, Heard, LeftList, announcements, failure_of, preference_of}
use Rattle.nd_routers.specs.Preferences.{preferences_of}
use Rattle.nd_routers.specs.RouterFailures.{has_failed, number_in}
use Rattle.nd_routers.specs.Routers.{same}
use Rattle.nd_routers.specs.RoutersKept.{Table, Stands, IsSettled}
use Rattle.nd_routers.proofs.Failing.{InOrder-agree}
use Rattle.nd_routers.proofs.Settled.{open_each}

module _ (at key w : ℕ) (preference : Preference) (history : List RouterRow) where
  abbrev later : List RouterRow
  later = LeftList at key ∷ Heard at key w preference ∷ history

  preferred_alike : (es : List (Lasting ℕ)) → end_in same key es ≡ None → preferences_of history es ≡ preferences_of later es
  preferred_alike [] absent = refl
  preferred_alike (e ∷ es) absent =
      let other : eqb key e.key ≡ false = grind (arith, nat_tests, absent) in
      let one : preference_of e.key history ≡ preference_of e.key later = grind (arith, nat_tests, other) in
      let rest = preferred_alike es (grind (arith, nat_tests, absent)) in
      ap (λ (p : Preference). record { router = e.key; preference = p } ∷ preferences_of history es) one
      ∙ ap (λ (ps : List Preferred). record { router = e.key; preference = preference_of e.key later } ∷ ps) rest

  pub no_trace : (table : Table) → end_in same key table.entries ≡ None → Stands table history → Stands table later
  no_trace table absent s =
      let unfailed : has_failed key table.failed ≡ false = s.failures.each key ∙ ap (λ (end : Option (Option ℕ)). is_some end && is_some (failure_of key history)) (sym (s.routers.ends key) ∙ absent) in
      record {
        routers = record {
          ends = λ k. grind (arith, nat_tests, s.routers.ends k, s.routers.ends key, absent);
          order = Rises-agree same eqb_tells (λ k. place same k (announcements history)) (λ k. place same k (announcements later)) table.entries
              (λ k h. grind (arith, nat_tests, h, absent)) s.routers.order;
        };
        preferred = s.preferred ∙ preferred_alike table.entries absent;
        failures = record {
          each = λ k. grind (arith, nat_tests, s.failures.each k, unfailed);
          order = InOrder-agree (λ k. number_in (failure_of k history)) (λ k. number_in (failure_of k later)) table.failed
              (λ k h. grind (arith, nat_tests, h, unfailed)) s.failures.order;
        };
      }

-- a router for which there is no room isn't listed, and its lifetime isn't 0
pub left_out : (now key w limit : ℕ) (es : List (Lasting ℕ)) → length es ≤ limit → IsSettled es now → fits same limit now ((key, w) ∷ []) es ≡ false → (eqb w 0 ≡ false) × (end_in same key es ≡ None)
left_out now key w limit es few settled full =
    let over : nat_le (length (announced same now key w es)) limit ≡ false = sym (and-true (nat_le (length (announced same now key w es)) limit)) ∙ full in
    let parts = neither (eqb w 0) (is_some (end_in same key (open_at now es))) (nat_lt (length (open_at now es)) limit) (sym (announced_length same eqb_tells now key w limit es few) ∙ over) in
    (parts.0, absent_of (end_in same key es) (ap (λ (xs : List (Lasting ℕ)). is_some (end_in same key xs)) (sym (open_all same eqb_tells es now (open_each es now settled))) ∙ parts.1))
  where
    neither : (zero listed room : Bool) → (zero || (listed || room)) ≡ false → (zero ≡ false) × (listed ≡ false)
    neither true listed room h = absurd (true≢false h)
    neither false true room h = absurd (true≢false h)
    neither false false room h = (refl, refl)
