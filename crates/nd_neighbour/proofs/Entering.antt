-- What news and packets do to the table that stands for a history.
use Rattle.std.proofs.Common.{◌≡◌, ℕ, ◌+◌, ◌<◌, ◌≤◌, true, false, cond, eqb, ltb, List, [], ◌∷◌, get_or, Option, Some, None, refl, sym, ◌∙◌, ap, subst, arith, ◌⊎◌, inl, inr}
use Rattle.std.specs.Prelude.{not, is_some}
use Rattle.std.proofs.lemmas.Bool.Decides.{nat_tests}
use Rattle.std.proofs.lemmas.Bool.{cond_both, cond-true, cond-false, true≢false, eq-eqb, cases_Bool}
use Rattle.nd_neighbour.specs.declared.shown.Reachability.TheVariants.{Reachable, Stale, Delay, Probe}
use Rattle.nd_neighbour.specs.History.{RowKind, Row, Story, story, is_end, Forgot, PushedOut}
use Rattle.nd_neighbour.specs.EntryKept.{NeighbourEntry}
use Rattle.nd_neighbour.specs.ReachabilityConfirmation.{Evidence, Confirms, Disturbs, since_in}
use Rattle.nd_neighbour.specs.AddressResolution.{Resolution, resolution_of, waiting_of}
use Rattle.nd_neighbour.specs.UnreachabilityDetection.{Use}
use Rattle.nd_neighbour.specs.Story.{is_present, mac_of, evidence_of, use_of}
use Rattle.nd_neighbour.specs.StoryKept.{stage_by, the_entry, entry_of}
use Rattle.nd_neighbour.specs.TableKept.{address, entry_in, Rises, Stands, GainsRow, Alters, NotThere, There}
use Rattle.nd_neighbour.specs.Shown.{state_by}
use Rattle.nd_neighbour.specs.Place.{IsStale, stale_since, IsLongestStale, MakesPlace, HadPlace, Pushed}
use Rattle.nd_neighbour.specs.PlaceKept.{is_stale, since_of, longer, if_stale, stalest, Places, Enough, Went}
use Rattle.nd_table.proofs.Keyed.{key_is, above_in, at_place, at_key-remove}
use Rattle.nd_neighbour.proofs.Steps.{changing, passing, leaving, entry_present, entry_absent}

-- a neighbour changes by what happens, if it is there
pub altered_gains : (key at : ℕ) (h : RowKind) (change : NeighbourEntry → NeighbourEntry) (old new : List NeighbourEntry) → is_end h ≡ false → ((n : NeighbourEntry) → (change n).key ≡ n.key) → ((s : Story) → is_present s ≡ true → entry_of key ((at, h) ∷ s) ≡ Some (change (the_entry key s))) → ((s : Story) → is_present s ≡ false → is_present ((at, h) ∷ s) ≡ false) → Alters key change old new → GainsRow old new (at, key, h)
altered_gains key at h change old new goes keeps makes absent (There i n lt is found new_is) =
    let n_key : n.key ≡ key = key_is address key old n found in
    changing old new key at h i n (change n) goes lt is found (keeps n ∙ n_key) n_key new_is
    (λ s present known. makes s present ∙ ap (λ (m : NeighbourEntry). Some (change m)) (sym known))
altered_gains key at h change old new goes keeps makes absent (NotThere none new_is) =
    passing old new key at h goes
    (λ s is. cond-false (is_present ((at, h) ∷ s)) (Some (the_entry key ((at, h) ∷ s))) None (absent s (entry_absent key s (sym is ∙ none))) ∙ sym none) new_is

-- what is stale by the story is stale by what is kept
stale_by : (t : ℕ) (mac : Option ℕ) (w : Option Evidence) (u : Option Use) (r : Option Resolution) (ws : List (List ℕ)) → state_by mac w u t ≡ Stale → is_stale (stage_by mac w u r ws) t ≡ true
stale_by t None w u r ws h = absurd (cc)
stale_by t (Some mac) None None r ws h = refl
stale_by t (Some mac) None (Some u) r ws h = cond_both (ltb t (u.at + 5000)) Delay Probe (λ s. s ≡ Stale → false ≡ true) (λ _ e. absurd (cc)) (λ _ e. absurd (cc)) h
stale_by t (Some mac) (Some (Disturbs d)) None r ws h = refl
stale_by t (Some mac) (Some (Disturbs d)) (Some u) r ws h = cond_both (ltb t (u.at + 5000)) Delay Probe (λ s. s ≡ Stale → false ≡ true) (λ _ e. absurd (cc)) (λ _ e. absurd (cc)) h
stale_by t (Some mac) (Some (Confirms d l)) None r ws h = cond_both (ltb t (d + l)) Reachable Stale (λ s. s ≡ Stale → not (ltb t (d + l)) ≡ true) (λ _ e. absurd (cc)) (λ k _. rw k refl) h
stale_by t (Some mac) (Some (Confirms d l)) (Some u) r ws h =
    cond_both (ltb t (d + l)) Reachable (cond (ltb t (u.at + 5000)) Delay Probe) (λ s. s ≡ Stale → false ≡ true) (λ _ e. absurd (cc))
    (λ _ e. cond_both (ltb t (u.at + 5000)) Delay Probe (λ s. s ≡ Stale → false ≡ true) (λ _ e'. absurd (cc)) (λ _ e'. absurd (cc)) e) h

-- and the other way
by_stale : (t : ℕ) (mac : Option ℕ) (w : Option Evidence) (u : Option Use) (r : Option Resolution) (ws : List (List ℕ)) → is_stale (stage_by mac w u r ws) t ≡ true → state_by mac w u t ≡ Stale
by_stale t None w u r ws h = absurd (true≢false (sym h))
by_stale t (Some mac) w (Some u) r ws h = absurd (true≢false (sym h))
by_stale t (Some mac) None None r ws h = refl
by_stale t (Some mac) (Some (Disturbs d)) None r ws h = refl
by_stale t (Some mac) (Some (Confirms d l)) None r ws h = elim (cases_Bool (ltb t (d + l))) [
  | inl k ↦ absurd (true≢false (sym (let e : not (ltb t (d + l)) ≡ true = h in rw k at e)))
  | inr k ↦ rw k refl
]

since_by : (t : ℕ) (mac : Option ℕ) (w : Option Evidence) (u : Option Use) (r : Option Resolution) (ws : List (List ℕ)) → is_stale (stage_by mac w u r ws) t ≡ true → since_of (stage_by mac w u r ws) ≡ since_in w
since_by t None w u r ws h = absurd (true≢false (sym h))
since_by t (Some mac) w u r ws h = refl

-- the one that is stale for longest
if_stale_is : (now : ℕ) (x n : NeighbourEntry) → if_stale now x ≡ Some n → (x ≡ n) × (is_stale x.stage now ≡ true)
if_stale_is now x n h =
    cond_both (is_stale x.stage now) (Some x) None (λ o. o ≡ Some n → (x ≡ n) × (is_stale x.stage now ≡ true)) (λ k e. (let f : x ≡ n = cc in f, k)) (λ _ e. absurd (cc)) h

longer_is : (a b : Option NeighbourEntry) (n : NeighbourEntry) → longer a b ≡ Some n → (a ≡ Some n) ⊎ (b ≡ Some n)
longer_is None b n h = inr h
longer_is (Some x) None n h = inl h
longer_is (Some x) (Some y) n h = cond_both (ltb (since_of y.stage) (since_of x.stage)) (Some y) (Some x) (λ o. o ≡ Some n → (Some x ≡ Some n) ⊎ (Some y ≡ Some n)) (λ _ e. inr e) (λ _ e. inl e) h

stalest_is_stale : (now : ℕ) (ns : List NeighbourEntry) (n : NeighbourEntry) → stalest now ns ≡ Some n → is_stale n.stage now ≡ true
stalest_is_stale now [] n h = absurd (cc)
stalest_is_stale now (x ∷ ns) n h = elim (longer_is (if_stale now x) (stalest now ns) n h) [
  | inl e ↦ let f = if_stale_is now x n e in subst (λ (y : NeighbourEntry). is_stale y.stage now ≡ true) f.0 f.1
  | inr e ↦ stalest_is_stale now ns n e
]

-- the first of two comes first
abbrev NotAfter : NeighbourEntry → NeighbourEntry → Type 0
NotAfter n m = (since_of n.stage < since_of m.stage) ⊎ ((since_of n.stage ≡ since_of m.stage) × (n.key ≤ m.key))

some_left : (x : NeighbourEntry) (o : Option NeighbourEntry) → is_some (longer (Some x) o) ≡ true
some_left x None = refl
some_left x (Some y) = cond_both (ltb (since_of y.stage) (since_of x.stage)) (Some y) (Some x) (λ o. is_some o ≡ true) (λ _. refl) (λ _. refl)

some_right : (o b : Option NeighbourEntry) → is_some b ≡ true → is_some (longer o b) ≡ true
some_right None b h = h
some_right (Some x) b h = some_left x b

stalest_some : (now k : ℕ) (ns : List NeighbourEntry) (m : NeighbourEntry) → entry_in k ns ≡ Some m → is_stale m.stage now ≡ true → is_some (stalest now ns) ≡ true
stalest_some now k [] m is stale = absurd (cc)
stalest_some now k (x ∷ ns) m is stale =
    cond_both (eqb x.key k) (Some x) (entry_in k ns) (λ o. o ≡ Some m → is_some (stalest now (x ∷ ns)) ≡ true)
    (λ _ e. let f : x ≡ m = cc in
    let here : if_stale now x ≡ Some x = cond-true (is_stale x.stage now) (Some x) None (ap (λ (y : NeighbourEntry). is_stale y.stage now) f ∙ stale) in
    ap (λ o. is_some (longer o (stalest now ns))) here ∙ some_left x (stalest now ns))
    (λ _ e. some_right (if_stale now x) (stalest now ns) (stalest_some now k ns m e stale)) is

-- the order of two, through a third that isn't before the first
through : (x y m : NeighbourEntry) → since_of x.stage ≤ since_of y.stage → x.key ≤ m.key → NotAfter y m → NotAfter x m
through x y m le key after = elim (cases_Bool (ltb (since_of x.stage) (since_of m.stage))) [
  | inl lt ↦ inl (grind (arith, nat_tests, lt))
  | inr ge ↦
      let back : since_of m.stage ≤ since_of x.stage = grind (arith, nat_tests, ge) in
      elim after [
        | inl lt ↦ absurd (omega arith)
        | inr same ↦ let e : since_of y.stage ≡ since_of m.stage = same.0 in inr (omega arith, key)
      ]
]

-- with the one that is stale for longest of the rest
first_of_two : (now k : ℕ) (x : NeighbourEntry) (ns : List NeighbourEntry) (n m : NeighbourEntry) (o : Option NeighbourEntry) → Rises (x ∷ ns) → stalest now ns ≡ o → longer (Some x) o ≡ Some n → entry_in k (x ∷ ns) ≡ Some m → is_stale m.stage now ≡ true → ((y : NeighbourEntry) → stalest now ns ≡ Some y → entry_in k ns ≡ Some m → NotAfter y m) → NotAfter n m
first_of_two now k x ns n m None r rest h is stale ih =
    let e : x ≡ n = cc in
    cond_both (eqb x.key k) (Some x) (entry_in k ns) (λ o. o ≡ Some m → NotAfter n m)
    (λ _ f. let g : x ≡ m = cc in subst (λ (y : NeighbourEntry). NotAfter y m) e (subst (λ (y : NeighbourEntry). NotAfter x y) g (inr (refl, omega arith))))
    (λ _ f. absurd (true≢false (sym (stalest_some now k ns m f stale) ∙ ap is_some rest))) is
first_of_two now k x ns n m (Some y) r rest h is stale ih = elim (cases_Bool (ltb (since_of y.stage) (since_of x.stage))) [
  | inl lt ↦
      let f : Some y ≡ Some n = sym (cond-true (ltb (since_of y.stage) (since_of x.stage)) (Some y) (Some x) lt) ∙ h in
      let e : y ≡ n = cc in
      cond_both (eqb x.key k) (Some x) (entry_in k ns) (λ o. o ≡ Some m → NotAfter n m)
      (λ _ f. let g : x ≡ m = cc in
      let lt' : since_of y.stage < since_of x.stage = grind (arith, nat_tests, lt) in
      subst (λ (z : NeighbourEntry). NotAfter z m) e (subst (λ (z : NeighbourEntry). NotAfter y z) g (inl lt')))
      (λ _ f. subst (λ (z : NeighbourEntry). NotAfter z m) e (ih y rest f)) is
  | inr ge ↦
      let f : Some x ≡ Some n = sym (cond-false (ltb (since_of y.stage) (since_of x.stage)) (Some y) (Some x) ge) ∙ h in
      let e : x ≡ n = cc in
      let le : since_of x.stage ≤ since_of y.stage = grind (arith, nat_tests, ge) in
      cond_both (eqb x.key k) (Some x) (entry_in k ns) (λ o. o ≡ Some m → NotAfter n m)
      (λ _ f. let g : x ≡ m = cc in subst (λ (z : NeighbourEntry). NotAfter z m) e (subst (λ (z : NeighbourEntry). NotAfter x z) g (inr (refl, omega arith))))
      (λ _ f. let above : x.key < k = above_in address k x.key ns m r.0 f in
      let key : m.key ≡ k = key_is address k ns m f in
      subst (λ (z : NeighbourEntry). NotAfter z m) e (through x y m le (omega arith) (ih y rest f))) is
]

stalest_first : (now k : ℕ) (ns : List NeighbourEntry) (n m : NeighbourEntry) → Rises ns → stalest now ns ≡ Some n → entry_in k ns ≡ Some m → is_stale m.stage now ≡ true → NotAfter n m
stalest_first now k [] n m r h is stale = absurd (cc)
stalest_first now k (x ∷ ns) n m r h is stale = elim (cases_Bool (is_stale x.stage now)) [
  | inl stale' ↦
      let here : if_stale now x ≡ Some x = cond-true (is_stale x.stage now) (Some x) None stale' in
      first_of_two now k x ns n m (stalest now ns) r refl (ap (λ o. longer o (stalest now ns)) (sym here) ∙ h) is stale (λ y e f. stalest_first now k ns y m r.1 e f stale)
  | inr other ↦
      let here : if_stale now x ≡ None = cond-false (is_stale x.stage now) (Some x) None other in
      let rest : stalest now ns ≡ Some n = ap (λ o. longer o (stalest now ns)) (sym here) ∙ h in
      cond_both (eqb x.key k) (Some x) (entry_in k ns) (λ o. o ≡ Some m → NotAfter n m)
      (λ _ e. let f : x ≡ m = cc in absurd (true≢false (sym (ap (λ (y : NeighbourEntry). is_stale y.stage now) f ∙ stale) ∙ other)))
      (λ _ e. stalest_first now k ns n m r.1 rest e stale) is
]

-- what is stale by the history is stale in the table, and the other way
module _ (ns : List NeighbourEntry) (history : List Row) (s : Stands ns history) (now : ℕ) where
  stale_entry_of : (k : ℕ) → IsStale history now k → (m : NeighbourEntry) × (entry_in k ns ≡ Some m) × (is_stale m.stage now ≡ true) × (since_of m.stage ≡ stale_since history k)
  stale_entry_of k stale =
      let st = story k history in
      let is : is_stale (the_entry k st).stage now ≡ true = stale_by now (mac_of st) (evidence_of st) (use_of st) (resolution_of st) (waiting_of st) stale.1 in
      (the_entry k st, s.each k ∙ cond-true (is_present st) (Some (the_entry k st)) None stale.0, is, since_by now (mac_of st) (evidence_of st) (use_of st) (resolution_of st) (waiting_of st) is)

  stale_by_entry : (k : ℕ) (m : NeighbourEntry) → entry_in k ns ≡ Some m → is_stale m.stage now ≡ true → IsStale history now k × (since_of m.stage ≡ stale_since history k)
  stale_by_entry k m is stale =
      let st = story k history in
      let known = entry_present k st m (sym (s.each k) ∙ is) in
      let stale' : is_stale (the_entry k st).stage now ≡ true = ap (λ (x : NeighbourEntry). is_stale x.stage now) (sym known.1) ∙ stale in (
        (known.0, by_stale now (mac_of st) (evidence_of st) (use_of st) (resolution_of st) (waiting_of st) stale'),
        ap (λ (x : NeighbourEntry). since_of x.stage) known.1 ∙ since_by now (mac_of st) (evidence_of st) (use_of st) (resolution_of st) (waiting_of st) stale',
      )

  pub none_is_stale : stalest now ns ≡ None → (k : ℕ) → IsStale history now k → ⊥
  none_is_stale none k stale =
      let m = stale_entry_of k stale in absurd (true≢false (sym (stalest_some now k ns m.0 m.1 m.2) ∙ ap is_some none))

  pub stalest_is_longest : (n : NeighbourEntry) → stalest now ns ≡ Some n → entry_in n.key ns ≡ Some n → IsLongestStale history now n.key
  stalest_is_longest n first at =
      let here = stale_by_entry n.key n at (stalest_is_stale now ns n first) in
      record {
        stale = here.0;
        longest = λ k stale.
            let m = stale_entry_of k stale in
            let key : m.0.key ≡ k = key_is address k ns m.0 m.1 in
            elim (stalest_first now k ns n m.0 s.order first m.1 m.2) [
              | inl lt ↦ inl (omega (arith, here.1, m.3))
              | inr same ↦ inr (sym here.1 ∙ (same.0 ∙ m.3), omega (arith, same.1, key))
            ];
      }

-- the one that is stale for longest is in the list
pub stalest_in : (now : ℕ) (ns : List NeighbourEntry) (n : NeighbourEntry) → Rises ns → stalest now ns ≡ Some n → entry_in n.key ns ≡ Some n
stalest_in now [] n r h = absurd (cc)
stalest_in now (x ∷ ns) n r h = elim (longer_is (if_stale now x) (stalest now ns) n h) [
  | inl e ↦ let f = if_stale_is now x n e in subst (λ (y : NeighbourEntry). entry_in y.key (x ∷ ns) ≡ Some y) f.0 (cond-true (eqb x.key x.key) (Some x) (entry_in x.key ns) (eq-eqb x.key x.key refl))
  | inr e ↦
      let rest : entry_in n.key ns ≡ Some n = stalest_in now ns n r.1 e in
      let above : x.key < n.key = above_in address n.key x.key ns n r.0 rest in
      grind (arith, nat_tests, above, rest)
]

pub some_stale : (ns : List NeighbourEntry) (history : List Row) → Stands ns history → (now : ℕ) (n : NeighbourEntry) → stalest now ns ≡ Some n → IsStale history now n.key
some_stale ns history s now n h = (stale_by_entry ns history s now n.key n (stalest_in now ns n s.order h) (stalest_is_stale now ns n h)).0

-- what makes room
module _ (limit now key : ℕ) (old mid : List NeighbourEntry) (history : List Row) (s : Stands old history) (absent : entry_in key old ≡ None) where
  pub place_made : Places limit now old mid → (made : List Row) × MakesPlace limit now history made × Stands mid made × (entry_in key mid ≡ None)
  place_made (Enough few is) = (history, HadPlace old s few refl, subst (λ (l : List NeighbourEntry). Stands l history) (sym is) s, ap (entry_in key) is ∙ absent)
  place_made (Went i n many lt is first gone) =
      let at : entry_in n.key old ≡ Some n = at_place address old i n s.order lt is in
      let leaves = leaving old mid n.key now PushedOut i n lt is refl gone in (
        (now, n.key, Forgot PushedOut) ∷ history,
        Pushed old n.key s many (stalest_is_longest old history s now n first at) refl,
        leaves.stands history s,
        ap (entry_in key) gone ∙ (at_key-remove address key old i n s.order lt ∙ cond_both (eqb (get_or old i n).key key) None (entry_in key old) (λ o. o ≡ None) (λ _. refl) (λ _. absent)),
      )
