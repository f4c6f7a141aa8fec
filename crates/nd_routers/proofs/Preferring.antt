-- The preferences of the routers of a list, where one of these comes, goes or is refreshed.
use Rattle.std.proofs.Common.{◌≡◌, ℕ, ◌<◌, ◌≤◌, Bool, true, false, cond, eqb, List, [], ◌∷◌, ◌++◌, length, map, Option, Some, refl, sym, ◌∙◌, ap, arith, inl, inr}
use Rattle.std.specs.Prelude.{is_some, not, ◌&&◌}
use Rattle.std.proofs.lemmas.Bool.{cases_Bool, cond-true, cond-false, eqb-true, eq-eqb}
use Rattle.std.proofs.lemmas.Bool.Decides.{nat_tests, eqb_tells}
use Rattle.nd_addr.specs.declared.preference.Preference.{Preference}
use Rattle.nd_table.specs.declared.lasting.Lasting.{Lasting}
use Rattle.nd_table.specs.Listing.{announced, end_in, renewed, told, without}
use Rattle.nd_table.proofs.Behind.{open_all}
use Rattle.nd_table.proofs.Finding.{one_longer}
use Rattle.nd_table.specs.Ends.{end_time}
use Rattle.nd_routers.specs.declared.preferred.Preferred.{Preferred}
use Rattle.nd_routers.specs.History.{RouterRow, Heard, preference_of}
use Rattle.nd_routers.specs.Preferences.{preference_among, preferences_of, preferred_anew, with_preference, without_preference}
use Rattle.nd_routers.specs.Routers.{same}
use Rattle.nd_routers.specs.RoutersKept.{IsSettled, keys}
use Rattle.nd_routers.proofs.Settled.{open_each}

-- the routers of some preferences
abbrev pub routers_of : List Preferred → List ℕ
routers_of ps = map (λ p. p.router) ps

-- the routers of a list, with the preferences that a function gives them
abbrev pub paired : (ℕ → Preference) → List (Lasting ℕ) → List Preferred
paired f es = map (λ e. record { router = e.key; preference = f e.key }) es

-- ---- the preferences are of the routers of the list, in the same order

kept_aligned : (b : Bool) (p : Preferred) (e : Lasting ℕ) (ps : List Preferred) (es : List (Lasting ℕ)) → p.router ≡ e.key → routers_of ps ≡ keys es → routers_of (cond b (p ∷ ps) ps) ≡ keys (cond b (e ∷ es) es)
kept_aligned true p e ps es head rest = ap (λ (k : ℕ). k ∷ routers_of ps) head ∙ ap (λ (ks : List ℕ). e.key ∷ ks) rest
kept_aligned false p e ps es head rest = rest

pub aligned_without : (key : ℕ) (ps : List Preferred) (es : List (Lasting ℕ)) → routers_of ps ≡ keys es → routers_of (without_preference key ps) ≡ keys (without same key es)
aligned_without key [] [] h = refl
aligned_without key [] (e ∷ es) h = absurd (cc)
aligned_without key (p ∷ ps) [] h = absurd (cc)
aligned_without key (p ∷ ps) (e ∷ es) h =
    let head : p.router ≡ e.key = cc in
    let rest : routers_of ps ≡ keys es = cc in
    ap (λ (k : ℕ). routers_of (cond (not (eqb k key)) (p ∷ without_preference key ps) (without_preference key ps))) head
    ∙ kept_aligned (not (eqb e.key key)) p e (without_preference key ps) (without same key es) head (aligned_without key ps es rest)

routers_anew : (key : ℕ) (preference : Preference) (ps : List Preferred) → routers_of (map (preferred_anew key preference) ps) ≡ routers_of ps
routers_anew key preference [] = refl
routers_anew key preference (p ∷ ps) = ap (λ (ks : List ℕ). p.router ∷ ks) (routers_anew key preference ps)

keys_renewed : (key : ℕ) (end : Option ℕ) (es : List (Lasting ℕ)) → keys (map (renewed same key end) es) ≡ keys es
keys_renewed key end [] = refl
keys_renewed key end (e ∷ es) = ap (λ (ks : List ℕ). e.key ∷ ks) (keys_renewed key end es)

routers_push : (ps : List Preferred) (p : Preferred) → routers_of (ps ++ p ∷ []) ≡ routers_of ps ++ p.router ∷ []
routers_push [] p = refl
routers_push (q ∷ ps) p = ap (λ (ks : List ℕ). q.router ∷ ks) (routers_push ps p)

keys_push : (es : List (Lasting ℕ)) (e : Lasting ℕ) → keys (es ++ e ∷ []) ≡ keys es ++ e.key ∷ []
keys_push [] e = refl
keys_push (x ∷ es) e = ap (λ (ks : List ℕ). x.key ∷ ks) (keys_push es e)

-- the list behind an announcement of a router that was in it or wasn't
abbrev after : Bool → ℕ → Option ℕ → List (Lasting ℕ) → List (Lasting ℕ)
after listed key end es = cond listed (map (renewed same key end) es) (es ++ record { key = key; end = end } ∷ [])

aligned_after : (listed : Bool) (key : ℕ) (end : Option ℕ) (preference : Preference) (ps : List Preferred) (es : List (Lasting ℕ)) → routers_of ps ≡ keys es → routers_of (with_preference listed key preference ps) ≡ keys (after listed key end es)
aligned_after true key end preference ps es h = routers_anew key preference ps ∙ (h ∙ sym (keys_renewed key end es))
aligned_after false key end preference ps es h =
    routers_push ps (record { router = key; preference = preference }) ∙ (ap (λ (ks : List ℕ). ks ++ key ∷ []) h ∙ sym (keys_push es (record { key = key; end = end })))

-- an announcement to routers none of which has ended
after_is : (key now w : ℕ) (es : List (Lasting ℕ)) → IsSettled es now → eqb w 0 ≡ false → announced same now key w es ≡ after (is_some (end_in same key es)) key (end_time now w) es
after_is key now w es settled goes_on =
    ap (told same now key w) (open_all same eqb_tells es now (open_each es now settled)) ∙ cond-false (eqb w 0) (without same key es) (after (is_some (end_in same key es)) key (end_time now w) es) goes_on

pub aligned_announced : (key now w : ℕ) (preference : Preference) (ps : List Preferred) (es : List (Lasting ℕ)) → IsSettled es now → eqb w 0 ≡ false → routers_of ps ≡ keys es
    → routers_of (with_preference (is_some (end_in same key es)) key preference ps) ≡ keys (announced same now key w es)
aligned_announced key now w preference ps es settled goes_on h =
    aligned_after (is_some (end_in same key es)) key (end_time now w) preference ps es h ∙ ap (λ (l : List (Lasting ℕ)). keys l) (sym (after_is key now w es settled goes_on))

pub aligned_removed : (key now : ℕ) (ps : List Preferred) (es : List (Lasting ℕ)) → IsSettled es now → routers_of ps ≡ keys es → routers_of (without_preference key ps) ≡ keys (announced same now key 0 es)
aligned_removed key now ps es settled h =
    aligned_without key ps es h ∙ ap (λ (l : List (Lasting ℕ)). keys (without same key l)) (sym (open_all same eqb_tells es now (open_each es now settled)))

as_many : (ps : List Preferred) (es : List (Lasting ℕ)) → routers_of ps ≡ keys es → length ps ≡ length es
as_many [] [] h = refl
as_many [] (e ∷ es) h = absurd (cc)
as_many (p ∷ ps) [] h = absurd (cc)
as_many (p ∷ ps) (e ∷ es) h = let rest : routers_of ps ≡ keys es = cc in let n = as_many ps es rest in omega (arith, n)

-- there is room for a router that enters
pub preference_room : (limit key now w : ℕ) (ps : List Preferred) (es : List (Lasting ℕ)) → IsSettled es now → eqb w 0 ≡ false → routers_of ps ≡ keys es → is_some (end_in same key es) ≡ false → length (announced same now key w es) ≤ limit → length ps < limit
preference_room limit key now w ps es settled goes_on h absent few =
    let e : Lasting ℕ = record { key = key; end = end_time now w } in
    let is = ap length (after_is key now w es settled goes_on ∙ cond-false (is_some (end_in same key es)) (map (renewed same key (end_time now w)) es) (es ++ e ∷ []) absent) in
    omega (arith, is, one_longer es e, as_many ps es h, few)

-- ---- they are those of the history

module _ (f g : ℕ → Preference) where
  kept_paired : (b : Bool) (e : Lasting ℕ) (ps : List Preferred) (es : List (Lasting ℕ)) → f e.key ≡ g e.key → ps ≡ paired g es
      → cond b (record { router = e.key; preference = f e.key } ∷ ps) ps ≡ paired g (cond b (e ∷ es) es)
  kept_paired true e ps es same_one rest =
      ap (λ (p : Preference). record { router = e.key; preference = p } ∷ ps) same_one ∙ ap (λ (l : List Preferred). record { router = e.key; preference = g e.key } ∷ l) rest
  kept_paired false e ps es same_one rest = rest

  pub paired_without : (key : ℕ) (es : List (Lasting ℕ)) → ((k : ℕ) → f k ≡ g k) → without_preference key (paired f es) ≡ paired g (without same key es)
  paired_without key [] agree = refl
  paired_without key (e ∷ es) agree = kept_paired (not (eqb e.key key)) e (without_preference key (paired f es)) (without same key es) (agree e.key) (paired_without key es agree)

  module _ (key : ℕ) (preference : Preference) (here : g key ≡ preference) (others : (k : ℕ) → eqb k key ≡ false → g k ≡ f k) where
    anew_is : (k : ℕ) → cond (eqb k key) preference (f k) ≡ g k
    anew_is k = elim (cases_Bool (eqb k key)) [
      | inl at ↦ cond-true (eqb k key) preference (f k) at ∙ (sym here ∙ ap g (sym (eqb-true k key at)))
      | inr behind ↦ cond-false (eqb k key) preference (f k) behind ∙ sym (others k behind)
    ]

    paired_renewed : (end : Option ℕ) (es : List (Lasting ℕ)) → map (preferred_anew key preference) (paired f es) ≡ paired g (map (renewed same key end) es)
    paired_renewed end [] = refl
    paired_renewed end (e ∷ es) =
        ap (λ (p : Preference). record { router = e.key; preference = p } ∷ map (preferred_anew key preference) (paired f es)) (anew_is e.key)
        ∙ ap (λ (l : List Preferred). record { router = e.key; preference = g e.key } ∷ l) (paired_renewed end es)

    absent_parts : (e : Lasting ℕ) (es : List (Lasting ℕ)) → is_some (end_in same key (e ∷ es)) ≡ false → (eqb e.key key ≡ false) × (is_some (end_in same key es) ≡ false)
    absent_parts e es h = by (eqb e.key key) refl
      where
        by : (b : Bool) → eqb e.key key ≡ b → (eqb e.key key ≡ false) × (is_some (end_in same key es) ≡ false)
        by true at = let never : true ≡ false = sym (ap (λ (o : Option (Option ℕ)). is_some o) (cond-true (eqb e.key key) (Some e.end) (end_in same key es) at)) ∙ h in let no : ⊥ = cc in absurd no
        by false behind = (behind, sym (ap (λ (o : Option (Option ℕ)). is_some o) (cond-false (eqb e.key key) (Some e.end) (end_in same key es) behind)) ∙ h)

    paired_push : (end : Option ℕ) (es : List (Lasting ℕ)) → is_some (end_in same key es) ≡ false
        → paired f es ++ record { router = key; preference = preference } ∷ [] ≡ paired g (es ++ record { key = key; end = end } ∷ [])
    paired_push end [] absent = ap (λ (p : Preference). let q : Preferred = record { router = key; preference = p } in q ∷ []) (sym here)
    paired_push end (e ∷ es) absent =
        let parts = absent_parts e es absent in
        ap (λ (p : Preference). record { router = e.key; preference = p } ∷ (paired f es ++ record { router = key; preference = preference } ∷ [])) (sym (others e.key parts.0))
        ∙ ap (λ (l : List Preferred). record { router = e.key; preference = g e.key } ∷ l) (paired_push end es parts.1)

    paired_after : (end : Option ℕ) (es : List (Lasting ℕ)) (listed : Bool) → is_some (end_in same key es) ≡ listed → with_preference listed key preference (paired f es) ≡ paired g (after listed key end es)
    paired_after end es true is = paired_renewed end es
    paired_after end es false is = paired_push end es is

module _ (history : List RouterRow) (now key w : ℕ) (preference : Preference) where
  -- a lifetime of 0 says nothing of a preference
  pub zero_ignored : (k : ℕ) → preference_of k history ≡ preference_of k (Heard now key 0 preference ∷ history)
  zero_ignored k = by (eqb key k)
    where
      by : (b : Bool) → preference_of k history ≡ cond (b && not (eqb 0 0)) preference (preference_of k history)
      by true = refl
      by false = refl

  told_here : eqb w 0 ≡ false → preference_of key (Heard now key w preference ∷ history) ≡ preference
  told_here goes_on = cond-true (eqb key key && not (eqb w 0)) preference (preference_of key history) (rw (eq-eqb key key refl, goes_on) refl)

  told_others : (k : ℕ) → eqb k key ≡ false → preference_of k (Heard now key w preference ∷ history) ≡ preference_of k history
  told_others k other =
      let back : eqb key k ≡ false = grind (arith, nat_tests, other) in
      cond-false (eqb key k && not (eqb w 0)) preference (preference_of k history) (rw back refl)

  pub preferences_told : (es : List (Lasting ℕ)) → IsSettled es now → eqb w 0 ≡ false
      → with_preference (is_some (end_in same key es)) key preference (preferences_of history es) ≡ preferences_of (Heard now key w preference ∷ history) (announced same now key w es)
  preferences_told es settled goes_on =
      paired_after (λ k. preference_of k history) (λ k. preference_of k (Heard now key w preference ∷ history)) key preference (told_here goes_on) told_others (end_time now w) es (is_some (end_in same key es)) refl
      ∙ ap (λ (l : List (Lasting ℕ)). preferences_of (Heard now key w preference ∷ history) l) (sym (after_is key now w es settled goes_on))

  pub preferences_removed : (es : List (Lasting ℕ)) → IsSettled es now → without_preference key (preferences_of history es) ≡ preferences_of (Heard now key 0 preference ∷ history) (announced same now key 0 es)
  preferences_removed es settled =
      paired_without (λ k. preference_of k history) (λ k. preference_of k (Heard now key 0 preference ∷ history)) key es zero_ignored
      ∙ ap (λ (l : List (Lasting ℕ)). preferences_of (Heard now key 0 preference ∷ history) (without same key l)) (sym (open_all same eqb_tells es now (open_each es now settled)))

-- a router of the list is found
pub found_among : (f : ℕ → Preference) (key : ℕ) (es : List (Lasting ℕ)) → is_some (end_in same key es) ≡ true → preference_among key (paired f es) ≡ f key
found_among f key [] h = let no : ⊥ = cc in absurd no
found_among f key (e ∷ es) h = elim (cases_Bool (eqb e.key key)) [
  | inl at ↦ cond-true (eqb e.key key) (f e.key) (preference_among key (paired f es)) at ∙ ap f (eqb-true e.key key at)
  | inr behind ↦
      cond-false (eqb e.key key) (f e.key) (preference_among key (paired f es)) behind
      ∙ found_among f key es (sym (ap (λ (o : Option (Option ℕ)). is_some o) (cond-false (eqb e.key key) (Some e.end) (end_in same key es) behind)) ∙ h)
]

-- ---- a router that says again what it said

anew_among : (k key : ℕ) (preference : Preference) (ps : List Preferred) → (k ≡ key → preference_among key ps ≡ preference) → preference_among k (map (preferred_anew key preference) ps) ≡ preference_among k ps
anew_among k key preference [] h = refl
anew_among k key preference (p ∷ ps) h = elim (cases_Bool (eqb p.router k)) [
  | inl at ↦
      let first = cond-true (eqb p.router k) (cond (eqb p.router key) preference p.preference) (preference_among k (map (preferred_anew key preference) ps)) at in
      let second = cond-true (eqb p.router k) p.preference (preference_among k ps) at in
      first ∙ (by_key at (eqb p.router key) refl ∙ sym second)
  | inr behind ↦
      cond-false (eqb p.router k) (cond (eqb p.router key) preference p.preference) (preference_among k (map (preferred_anew key preference) ps)) behind
      ∙ (anew_among k key preference ps (λ is. sym (cond-false (eqb p.router key) p.preference (preference_among key ps) (ap (λ (x : ℕ). eqb p.router x) (sym is) ∙ behind)) ∙ h is)
      ∙ sym (cond-false (eqb p.router k) p.preference (preference_among k ps) behind))
]
  where
    by_key : eqb p.router k ≡ true → (b : Bool) → eqb p.router key ≡ b → cond (eqb p.router key) preference p.preference ≡ p.preference
    by_key at true is =
        cond-true (eqb p.router key) preference p.preference is
        ∙ (sym (h (sym (eqb-true p.router k at) ∙ eqb-true p.router key is)) ∙ cond-true (eqb p.router key) p.preference (preference_among key ps) is)
    by_key at false is = cond-false (eqb p.router key) preference p.preference is

pub same_preferences : (key : ℕ) (preference : Preference) (listed : Bool) (ps : List Preferred) → listed ≡ true → preference_among key ps ≡ preference → (k : ℕ) → preference_among k (with_preference listed key preference ps) ≡ preference_among k ps
same_preferences key preference listed ps is said k =
    ap (λ (l : List Preferred). preference_among k l) (cond-true listed (map (preferred_anew key preference) ps) (ps ++ record { router = key; preference = preference } ∷ []) is) ∙ anew_among k key preference ps (λ _. said)
