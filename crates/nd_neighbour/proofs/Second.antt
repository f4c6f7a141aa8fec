-- Room for a neighbour, and for a second one after it: what is kept says what the history says.
use Rattle.std.proofs.Common.{◌≡◌, ℕ, ◌+◌, ◌<◌, ◌≤◌, Bool, true, false, cond, eqb, ltb, List, [], ◌∷◌, length, get_or, set, Option, Some, None, refl, sym, ◌∙◌, ap, subst, arith, ◌⊎◌, inl, inr}
use Rattle.std.specs.Prelude.{◌||◌, ◌&&◌, not, is_some, nat_le, MatchBool, ◌↔◌}
use Rattle.std.specs.List.{remove, list_any}
use Rattle.std.specs.Cmp.{first_so, second_so}
use Rattle.std.proofs.lemmas.List.{length-set}
use Rattle.std.proofs.lemmas.List.Edits.{length-insert, length-remove}
use Rattle.std.proofs.lemmas.Bool.Decides.{nat_tests}
use Rattle.std.proofs.lemmas.Bool.{cond-true, cond-false, true≢false, eqb-true, ne_eqb, eq-eqb, cases_Bool, or_left, or_right, or_cases, not-true, and_from}
use Rattle.std.proofs.Math.Bool.{and-false, and-true}
use Rattle.nd_table.specs.KeyedKept.{place_of}
use Rattle.nd_table.proofs.Any.{any_set, any_remove, any_insert, any_inserted, any_was_set, any_was_removed, still_set, still_removed, held_at}
use Rattle.nd_table.proofs.Keyed.{key_is, place_found, place_of-le, put_in, at_key-put, at_key-set, at_key-remove}
use Rattle.nd_neighbour.specs.History.{Row, story, Forgot, PushedOut}
use Rattle.nd_neighbour.specs.EntryKept.{NeighbourEntry, Stage, Resolving, Known}
use Rattle.nd_neighbour.specs.AddressResolutionKept.{asked_entry}
use Rattle.nd_neighbour.specs.Story.{is_present, mac_of}
use Rattle.nd_neighbour.specs.TableKept.{address, entry_in, Rises, Stands, NotThere, There}
use Rattle.nd_neighbour.specs.Place.{Prepares, MakesPlace, HadPlace, Pushed, WouldBeFull}
use Rattle.nd_neighbour.specs.PlaceKept.{NoPlace, is_stale, since_of, longer, if_stale, stalest, has_place, Enough, Went, Gives, Was, Came}
use Rattle.nd_neighbour.specs.Sending.{then_packet}
use Rattle.nd_neighbour.specs.SendingKept.{used, used_to}
use Rattle.nd_neighbour.specs.Room.{HasRoom}
use Rattle.nd_neighbour.specs.RoomKept.{stays_stale, stale_beside, place_beside, place_without, place_behind, has_second, has_first, has_room, LeavesRoom}
use Rattle.nd_neighbour.proofs.Entering.{stalest_in}
use Rattle.nd_neighbour.proofs.Finds.{none_is, some_is}
use Rattle.nd_neighbour.proofs.PacketCalls.{takes_packet, used_key}
use Rattle.nd_neighbour.proofs.Unique.{one_table, one_longest, full_by_history}

longer_some : (a b : Option NeighbourEntry) → is_some (longer a b) ≡ (is_some a || is_some b)
longer_some None b = refl
longer_some (Some x) None = refl
longer_some (Some x) (Some y) = elim (cases_Bool (ltb (since_of y.stage) (since_of x.stage))) [ inl e ↦ rw e refl | inr e ↦ rw e refl ]

if_stale_some : (now : ℕ) (n : NeighbourEntry) → is_some (if_stale now n) ≡ is_stale n.stage now
if_stale_some now n = elim (cases_Bool (is_stale n.stage now)) [ inl e ↦ rw e refl | inr e ↦ rw e refl ]

-- one is stale for longest where one is stale
stalest_any : (now : ℕ) (ns : List NeighbourEntry) → is_some (stalest now ns) ≡ list_any (λ n. is_stale n.stage now) ns
stalest_any now [] = refl
stalest_any now (n ∷ ns) =
    longer_some (if_stale now n) (stalest now ns) ∙ (ap (λ b. b || is_some (stalest now ns)) (if_stale_some now n) ∙ ap (λ b. is_stale n.stage now || b) (stalest_any now ns))

-- after a use only one that became stale later is stale
used_stale : (now retrans : ℕ) (packet : List ℕ) (n : NeighbourEntry) (k : Stage) → n.stage ≡ k → is_stale (used_to k now retrans packet n).stage now ≡ (is_stale k now && ltb now (since_of k))
used_stale now retrans packet n (Resolving r t b ws) is = refl
used_stale now retrans packet n (Known mac c since None) is = elim (cases_Bool (nat_le since now)) [
  | inl le ↦ let lt : ltb now since ≡ false = grind (arith, nat_tests, le) in rw (le, lt) (sym (and-false (not (c && false))))
  | inr gt ↦ let lt : ltb now since ≡ true = grind (arith, nat_tests, gt) in rw (gt, is, lt) (sym (and-true (not (c && true))))
]
used_stale now retrans packet n (Known mac c since (Some p)) is = rw is refl

-- who is in the list after a change of an entry was in it before
was_there : (k : ℕ) (ns : List NeighbourEntry) (i : ℕ) (m d : NeighbourEntry) → Rises ns → i < length ns → (get_or ns i d).key ≡ m.key → is_some (entry_in k (set ns i m)) ≡ true → is_some (entry_in k ns) ≡ true
was_there k ns i m d r lt same h = elim (cases_Bool (eqb m.key k)) [
  | inl e ↦ held_at address k ns i d lt (ap (λ (x : ℕ). eqb x k) same ∙ e)
  | inr e ↦ sym (ap is_some (at_key-set address k ns i m d r lt same ∙ cond-false (eqb m.key k) (Some m) (entry_in k ns) e)) ∙ h
]

-- the second one is in the list, or has room in it
abbrev place_after : ℕ → ℕ → ℕ → List NeighbourEntry → Bool
place_after limit now next ns = is_some (entry_in next ns) || (ltb (length ns) limit || list_any (λ n. is_stale n.stage now) ns)

module _ (limit now next : ℕ) (ns : List NeighbourEntry) where
  has_place_any : has_place limit now ns ≡ (ltb (length ns) limit || list_any (λ n. is_stale n.stage now) ns)
  has_place_any = ap (λ b. ltb (length ns) limit || b) (stalest_any now ns)

  placed : place_after limit now next ns ≡ true → NoPlace limit now next ns → ⊥
  placed h np = elim (or_cases (is_some (entry_in next ns)) _ h) [
    | inl e ↦ true≢false (sym e ∙ ap is_some np.0)
    | inr e ↦ true≢false (sym e ∙ (sym has_place_any ∙ np.1))
  ]

  displaced : place_after limit now next ns ≡ false → NoPlace limit now next ns
  displaced h = (
    elim (cases_Bool (is_some (entry_in next ns))) [
      | inl e ↦ absurd (true≢false (sym (or_left (is_some (entry_in next ns)) _ e) ∙ h))
      | inr e ↦ none_is (entry_in next ns) e
    ],
    elim (cases_Bool (ltb (length ns) limit || list_any (λ n. is_stale n.stage now) ns)) [
      | inl e ↦ absurd (true≢false (sym (or_right (is_some (entry_in next ns)) _ e) ∙ h))
      | inr e ↦ has_place_any ∙ e
    ],
  )

  in_after : is_some (entry_in next ns) ≡ true → place_after limit now next ns ≡ true
  in_after h = or_left (is_some (entry_in next ns)) _ h

  few_after : ltb (length ns) limit ≡ true → place_after limit now next ns ≡ true
  few_after h = or_right (is_some (entry_in next ns)) _ (or_left (ltb (length ns) limit) _ h)

  stale_after : list_any (λ n. is_stale n.stage now) ns ≡ true → place_after limit now next ns ≡ true
  stale_after h = or_right (is_some (entry_in next ns)) _ (or_right (ltb (length ns) limit) _ h)

  after_cases : {X : Type 0} → place_after limit now next ns ≡ true → (is_some (entry_in next ns) ≡ true → X) → (ltb (length ns) limit ≡ true → X) → (list_any (λ n. is_stale n.stage now) ns ≡ true → X) → X
  after_cases h is few stale = elim (or_cases (is_some (entry_in next ns)) _ h) [
    | inl e ↦ is e
    | inr e ↦ elim (or_cases (ltb (length ns) limit) _ e) [ inl f ↦ few f | inr f ↦ stale f ]
  ]

module _ (limit now key next retrans room : ℕ) (packet : List ℕ) (old : List NeighbourEntry) where
  -- the first is there and is used
  module _ (i : ℕ) (n : NeighbourEntry) (lt : i < length old) (at : n ≡ get_or old i n) (n_key : n.key ≡ key) where
    the_used : NeighbourEntry
    the_used = used now retrans packet n

    same_key : (get_or old i n).key ≡ the_used.key
    unfolding the_used
    same_key = ap (λ (x : NeighbourEntry). x.key) (sym at) ∙ sym (used_key now retrans packet n n.stage)

    it_stays : stays_stale key now (get_or old i n) ≡ is_stale the_used.stage now
    unfolding the_used
    it_stays =
        ap (λ (x : NeighbourEntry). stays_stale key now x) (sym at)
        ∙ (ap (λ b. is_stale n.stage now && (not b || ltb now (since_of n.stage))) (eq-eqb n.key key n_key)
        ∙ sym (used_stale now retrans packet n n.stage refl))

    used_on : place_beside limit now key next old ≡ true → place_after limit now next (set old i the_used) ≡ true
    used_on h = elim (or_cases (is_some (entry_in next old)) _ h) [
      | inl e ↦ in_after limit now next (set old i the_used) (still_set address next old i the_used n lt same_key e)
      | inr e ↦ elim (or_cases (ltb (length old) limit) _ e) [
        | inl f ↦ few_after limit now next (set old i the_used) (ap (λ x. ltb x limit) (length-set old i the_used) ∙ f)
        | inr f ↦ stale_after limit now next (set old i the_used)
            (any_set (stays_stale key now) (λ x. is_stale x.stage now) (λ x. first_so (is_stale x.stage now) _) old i the_used n lt (λ g. sym it_stays ∙ g) f)
      ]
    ]

    used_back : Rises old → place_after limit now next (set old i the_used) ≡ true → place_beside limit now key next old ≡ true
    used_back r h = after_cases limit now next (set old i the_used) h
        (λ e. or_left (is_some (entry_in next old)) _ (was_there next old i the_used n r lt same_key e))
        (λ e. or_right (is_some (entry_in next old)) _ (or_left (ltb (length old) limit) _ (sym (ap (λ x. ltb x limit) (length-set old i the_used)) ∙ e)))
        (λ e. or_right (is_some (entry_in next old)) _ (or_right (ltb (length old) limit) _
        (any_was_set address key (λ x. is_stale x.stage now) (stays_stale key now)
        (λ x differ f. and_from (is_stale x.stage now) _ f (or_left (not (eqb x.key key)) _ (ap not (ne_eqb x.key key differ))))
        old i the_used n r lt (ap (λ (x : NeighbourEntry). x.key) (sym at) ∙ n_key) (λ f. it_stays ∙ f) e)))

  -- the first enters
  the_asked : NeighbourEntry
  the_asked = asked_entry key now retrans room packet

  module _ (mid : List NeighbourEntry) where
    entered : List NeighbourEntry
    entered = put_in address the_asked mid

    entered_in : entry_in next entered ≡ cond (eqb key next) (Some the_asked) (entry_in next mid)
    unfolding entered the_asked
    entered_in = at_key-put address next the_asked mid

    entered_length : length entered ≡ length mid + 1
    unfolding entered the_asked
    entered_length = length-insert mid (place_of address key mid) the_asked (place_of-le address key mid)

    in_entered : ((key ≡ next) ⊎ (is_some (entry_in next mid) ≡ true)) → is_some (entry_in next entered) ≡ true
    in_entered h = elim (cases_Bool (eqb key next)) [
      | inl e ↦ ap is_some (entered_in ∙ cond-true (eqb key next) (Some the_asked) (entry_in next mid) e)
      | inr e ↦ elim h [
        | inl same ↦ absurd (true≢false (sym (eq-eqb key next same) ∙ e))
        | inr f ↦ ap is_some (entered_in ∙ cond-false (eqb key next) (Some the_asked) (entry_in next mid) e) ∙ f
      ]
    ]

    from_entered : is_some (entry_in next entered) ≡ true → (eqb key next ≡ true) ⊎ (is_some (entry_in next mid) ≡ true)
    from_entered h = elim (cases_Bool (eqb key next)) [
      | inl e ↦ inl e
      | inr e ↦ inr (sym (ap is_some (entered_in ∙ cond-false (eqb key next) (Some the_asked) (entry_in next mid) e)) ∙ h)
    ]

    stale_entered : (p : NeighbourEntry → Bool) → ((n : NeighbourEntry) → p n ≡ true → is_stale n.stage now ≡ true) → list_any p mid ≡ true → list_any (λ n. is_stale n.stage now) entered ≡ true
    unfolding entered the_asked
    stale_entered p passes h = any_insert p (λ n. is_stale n.stage now) passes mid (place_of address key mid) the_asked h

    entered_stale : list_any (λ n. is_stale n.stage now) entered ≡ true → list_any (λ n. is_stale n.stage now) mid ≡ true
    unfolding entered the_asked
    entered_stale h = any_inserted (λ n. is_stale n.stage now) (λ n. is_stale n.stage now) (λ n f. f) mid (place_of address key mid) the_asked (place_of-le address key mid) refl h

  -- there was room
  enough_on : (o : Option NeighbourEntry) → stalest now old ≡ o → place_behind limit now key next old o ≡ true → place_after limit now next (entered old) ≡ true
  enough_on None is h = elim (or_cases (eqb key next) _ h) [
    | inl e ↦ in_after limit now next (entered old) (in_entered old (inl (eqb-true key next e)))
    | inr e ↦ elim (or_cases (is_some (entry_in next old)) _ e) [
      | inl f ↦ in_after limit now next (entered old) (in_entered old (inr f))
      | inr f ↦ few_after limit now next (entered old) (ap (λ x. ltb x limit) (entered_length old) ∙ f)
    ]
  ]
  enough_on (Some n) is h = stale_after limit now next (entered old) (stale_entered old (λ x. is_stale x.stage now) (λ x f. f) (sym (stalest_any now old) ∙ ap is_some is))

  enough_back : (o : Option NeighbourEntry) → stalest now old ≡ o → length old < limit → place_after limit now next (entered old) ≡ true → place_behind limit now key next old o ≡ true
  enough_back None is few h = after_cases limit now next (entered old) h
      (λ e. elim (from_entered old e) [
        | inl f ↦ or_left (eqb key next) _ f
        | inr f ↦ or_right (eqb key next) _ (or_left (is_some (entry_in next old)) _ f)
      ])
      (λ e. or_right (eqb key next) _ (or_right (is_some (entry_in next old)) _ (sym (ap (λ x. ltb x limit) (entered_length old)) ∙ e)))
      (λ e. absurd (true≢false (sym (entered_stale old e) ∙ (sym (stalest_any now old) ∙ ap is_some is))))
  enough_back (Some n) is few h = or_left (ltb (length old) limit) _ (grind (arith, nat_tests, few))

  -- one goes for it
  module _ (i : ℕ) (n : NeighbourEntry) (many : limit ≤ length old) (lt : i < length old) (at : n ≡ get_or old i n) (first : stalest now old ≡ Some n) where
    left : List NeighbourEntry
    left = remove old i

    gone_key : (get_or old i n).key ≡ n.key
    gone_key = ap (λ (x : NeighbourEntry). x.key) (sym at)

    as_many : length (entered left) ≡ length old
    unfolding left
    as_many = entered_length (remove old i) ∙ length-remove old i lt

    went_on : place_without n now key next old ≡ true → place_after limit now next (entered left) ≡ true
    unfolding left
    went_on h = elim (or_cases (eqb key next) _ h) [
      | inl e ↦ in_after limit now next (entered left) (in_entered left (inl (eqb-true key next e)))
      | inr e ↦ elim (or_cases (not (eqb n.key next) && is_some (entry_in next old)) _ e) [
        | inl f ↦ in_after limit now next (entered left) (in_entered left (inr (still_removed address next old i n lt
            (ap (λ (x : ℕ). eqb x next) gone_key ∙ not-true (eqb n.key next) (first_so (not (eqb n.key next)) _ f)) (second_so (not (eqb n.key next)) _ f))))
        | inr f ↦ stale_after limit now next (entered left) (stale_entered left (λ x. is_stale x.stage now) (λ x g. g)
            (any_remove (stale_beside n.key now) (λ x. is_stale x.stage now) (λ x. first_so (is_stale x.stage now) _) old i n lt
            (ap (stale_beside n.key now) (sym at) ∙ (ap (λ b. is_stale n.stage now && not b) (eq-eqb n.key n.key refl) ∙ and-false (is_stale n.stage now))) f))
      ]
    ]

    was_left : (k : ℕ) → Rises old → is_some (entry_in k left) ≡ true → (not (eqb n.key k) && is_some (entry_in k old)) ≡ true
    unfolding left
    was_left k r h =
        let is : entry_in k (remove old i) ≡ cond (eqb n.key k) None (entry_in k old) = at_key-remove address k old i n r lt ∙ ap (λ (x : ℕ). cond (eqb x k) None (entry_in k old)) gone_key in
        elim (cases_Bool (eqb n.key k)) [
          | inl e ↦ absurd (true≢false (sym h ∙ ap is_some (is ∙ cond-true (eqb n.key k) None (entry_in k old) e)))
          | inr e ↦ and_from (not (eqb n.key k)) _ (ap not e) (sym (ap is_some (is ∙ cond-false (eqb n.key k) None (entry_in k old) e)) ∙ h)
        ]

    went_back : Rises old → place_after limit now next (entered left) ≡ true → place_without n now key next old ≡ true
    unfolding left
    went_back r h = after_cases limit now next (entered left) h
        (λ e. elim (from_entered left e) [
          | inl f ↦ or_left (eqb key next) _ f
          | inr f ↦ or_right (eqb key next) _ (or_left (not (eqb n.key next) && is_some (entry_in next old)) _ (was_left next r f))
        ])
        (λ e. let few : length old < limit = grind (arith, nat_tests, as_many, e) in absurd (omega arith))
        (λ e. or_right (eqb key next) _ (or_right (not (eqb n.key next) && is_some (entry_in next old)) _
        (any_was_removed address n.key (λ x. is_stale x.stage now) (stale_beside n.key now)
        (λ x differ f. and_from (is_stale x.stage now) _ f (ap not (ne_eqb x.key n.key differ)))
        old i n r lt gone_key (entered_stale left e))))

  -- where the first is there
  there_on : is_some (entry_in key old) ≡ true → has_second limit now key next old ≡ place_beside limit now key next old
  there_on h = cond-true (is_some (entry_in key old)) _ (place_behind limit now key next old (stalest now old)) h

  absent_on : entry_in key old ≡ None → (o : Option NeighbourEntry) → stalest now old ≡ o → has_second limit now key next old ≡ place_behind limit now key next old o
  absent_on none o is =
      cond-false (is_some (entry_in key old)) (place_beside limit now key next old) _ (ap is_some none) ∙ ap (place_behind limit now key next old) is

  gives_on : (new : List NeighbourEntry) → Gives limit now key (λ n. used now retrans packet n) (asked_entry key now retrans room packet) old new → has_second limit now key next old ≡ true → place_after limit now next new ≡ true
  unfolding the_used the_asked entered left
  gives_on new (Was m found (NotThere none is)) h = let e : Some m ≡ None = sym found ∙ none in absurd (cc)
  gives_on new (Was m found (There i n lt at found_n is)) h =
      subst (λ (l : List NeighbourEntry). place_after limit now next l ≡ true) (sym is)
      (used_on i n lt at (key_is address key old n found_n) (sym (there_on (ap is_some found_n)) ∙ h))
  gives_on new (Came mid none (Enough few mid_is) is) h =
      subst (λ (l : List NeighbourEntry). place_after limit now next l ≡ true) (ap (put_in address (asked_entry key now retrans room packet)) (sym mid_is) ∙ sym is)
      (enough_on (stalest now old) refl (sym (absent_on none (stalest now old) refl) ∙ h))
  gives_on new (Came mid none (Went i n many lt at first gone) is) h =
      subst (λ (l : List NeighbourEntry). place_after limit now next l ≡ true) (ap (put_in address (asked_entry key now retrans room packet)) (sym gone) ∙ sym is)
      (elim (or_cases (ltb (length old) limit) _ (sym (absent_on none (Some n) first) ∙ h)) [
        | inl e ↦ let few : length old < limit = grind (arith, nat_tests, e) in absurd (omega arith)
        | inr e ↦ went_on i n many lt at first e
      ])

  gives_back : (new : List NeighbourEntry) → Rises old → Gives limit now key (λ n. used now retrans packet n) (asked_entry key now retrans room packet) old new → place_after limit now next new ≡ true → has_second limit now key next old ≡ true
  unfolding the_used the_asked entered left
  gives_back new r (Was m found (NotThere none is)) h = let e : Some m ≡ None = sym found ∙ none in absurd (cc)
  gives_back new r (Was m found (There i n lt at found_n is)) h =
      there_on (ap is_some found_n)
      ∙ used_back i n lt at (key_is address key old n found_n) r (subst (λ (l : List NeighbourEntry). place_after limit now next l ≡ true) is h)
  gives_back new r (Came mid none (Enough few mid_is) is) h =
      absent_on none (stalest now old) refl
      ∙ enough_back (stalest now old) refl few
      (subst (λ (l : List NeighbourEntry). place_after limit now next l ≡ true) (is ∙ ap (put_in address (asked_entry key now retrans room packet)) mid_is) h)
  gives_back new r (Came mid none (Went i n many lt at first gone) is) h =
      absent_on none (Some n) first
      ∙ or_right (ltb (length old) limit) _ (went_back i n many lt at first r
      (subst (λ (l : List NeighbourEntry). place_after limit now next l ≡ true) (is ∙ ap (put_in address (asked_entry key now retrans room packet)) gone) h))

-- whether the first has room
module _ (limit now key : ℕ) (ns : List NeighbourEntry) where
  first_has : has_first limit now key ns ≡ true → NoPlace limit now key ns → ⊥
  first_has h np = elim (or_cases (is_some (entry_in key ns)) _ h) [
    | inl e ↦ true≢false (sym e ∙ ap is_some np.0)
    | inr e ↦ true≢false (sym e ∙ np.1)
  ]

  first_full : has_first limit now key ns ≡ false → NoPlace limit now key ns
  first_full h = (
    elim (cases_Bool (is_some (entry_in key ns))) [
      | inl e ↦ absurd (true≢false (sym (or_left (is_some (entry_in key ns)) _ e) ∙ h))
      | inr e ↦ none_is (entry_in key ns) e
    ],
    elim (cases_Bool (has_place limit now ns)) [
      | inl e ↦ absurd (true≢false (sym (or_right (is_some (entry_in key ns)) _ e) ∙ h))
      | inr e ↦ e
    ],
  )

  -- then a packet for it leads somewhere
  leads : (retrans room : ℕ) (packet : List ℕ) → Rises ns → has_first limit now key ns ≡ true → (new : List NeighbourEntry) × Gives limit now key (λ n. used now retrans packet n) (asked_entry key now retrans room packet) ns new
  leads retrans room packet r h = elim (cases_Bool (is_some (entry_in key ns))) [
    | inl e ↦
        let n = some_is (entry_in key ns) e in
        let i = place_found address key ns n.0 n.1 in
        (set ns i.0 (used now retrans packet n.0), Was n.0 n.1 (There i.0 n.0 i.1 i.2 n.1 refl))
    | inr e ↦
        let m = asked_entry key now retrans room packet in
        let none = none_is (entry_in key ns) e in
        elim (cases_Bool (ltb (length ns) limit)) [
          | inl f ↦ (put_in address m ns, Came ns none (Enough (grind (arith, nat_tests, f)) refl) refl)
          | inr f ↦
              let place : (false || (false || is_some (stalest now ns))) ≡ true = ap (λ b. false || (b || is_some (stalest now ns))) (sym f) ∙ (ap (λ b. b || has_place limit now ns) (sym e) ∙ h) in
              let n = some_is (stalest now ns) place in
              let i = place_found address n.0.key ns n.0 (stalest_in now ns n.0 r n.1) in
              (put_in address m (remove ns i.0), Came (remove ns i.0) none (Went i.0 n.0 (grind (arith, nat_tests, f)) i.1 i.2 n.1 refl) refl)
        ]
  ]

-- what makes room is one thing
one_place : (limit now : ℕ) (history a b : List Row) → MakesPlace limit now history a → MakesPlace limit now history b → a ≡ b
one_place limit now history a b (HadPlace ns s few is) (HadPlace ms t few' is') = is ∙ sym is'
one_place limit now history a b (HadPlace ns s few is) (Pushed ms k t many longest is') =
    let e = one_table history ns ms s t in let lt : length ms < limit = subst (λ (l : List NeighbourEntry). length l < limit) e few in absurd (omega arith)
one_place limit now history a b (Pushed ns k s many longest is) (HadPlace ms t few is') =
    let e = one_table history ms ns t s in let lt : length ns < limit = subst (λ (l : List NeighbourEntry). length l < limit) e few in absurd (omega arith)
one_place limit now history a b (Pushed ns k s many longest is) (Pushed ms j t many' longest' is') =
    is ∙ (ap (λ x. (now, x, Forgot PushedOut) ∷ history) (one_longest history now k j longest longest') ∙ sym is')

one_made : (limit now : ℕ) (history a b : List Row) (enters : Bool) → MatchBool enters (MakesPlace limit now history a) (a ≡ history) → MatchBool enters (MakesPlace limit now history b) (b ≡ history) → a ≡ b
one_made limit now history a b true p q = one_place limit now history a b p q
one_made limit now history a b false p q = p ∙ sym q

module _ (limit now key : ℕ) (ns : List NeighbourEntry) (history : List Row) (s : Stands ns history) where
  pub first_by_history : has_first limit now key ns ≡ true → WouldBeFull limit now key history → ⊥
  first_by_history h full = first_has limit now key ns h ((full_by_history limit now key ns history s).1 full)

  -- the rows of a packet for the first, and the list that stands for them
  module _ (retrans room : ℕ) (packet : List ℕ) (h : has_first limit now key ns ≡ true) where
    to : (new : List NeighbourEntry) × Gives limit now key (λ n. used now retrans packet n) (asked_entry key now retrans room packet) ns new
    to = leads limit now key ns retrans room packet s.order h

    took : (made : List Row) × Prepares limit now true key history made × Stands to.0 (then_packet (is_present (story key history)) (mac_of (story key history)) now key retrans room packet made)
    took = (takes_packet key now retrans room packet limit ns to.0 to.1).stands history s

    second_on : (next : ℕ) (made : List Row) → has_second limit now key next ns ≡ true → Prepares limit now true key history made → WouldBeFull limit now next (then_packet (is_present (story key history)) (mac_of (story key history)) now key retrans room packet made) → ⊥
    second_on next made second prepares full =
        let same : took.0 ≡ made = one_made limit now history took.0 made _ took.1 prepares in
        let full' = subst (λ (m : List Row). WouldBeFull limit now next (then_packet (is_present (story key history)) (mac_of (story key history)) now key retrans room packet m)) (sym same) full in
        placed limit now next to.0 (gives_on limit now key next retrans room packet ns to.0 to.1 second) ((full_by_history limit now next to.0 _ took.2).1 full')

    second_back : (next : ℕ) → HasRoom limit now key (Some next) history → has_second limit now key next ns ≡ true
    second_back next leaves = elim (cases_Bool (place_after limit now next to.0)) [
      | inl e ↦ gives_back limit now key next retrans room packet ns to.0 s.order to.1 e
      | inr e ↦ absurd (leaves.both retrans room packet took.0 took.1 ((full_by_history limit now next to.0 _ took.2).0 (displaced limit now next to.0 e)))
    ]

  first_back : (second : Option ℕ) → HasRoom limit now key second history → has_first limit now key ns ≡ true
  first_back second room = elim (cases_Bool (has_first limit now key ns)) [
    | inl e ↦ e
    | inr e ↦ absurd (room.first ((full_by_history limit now key ns history s).0 (first_full limit now key ns e)))
  ]

  pub room_by_history : (second : Option ℕ) → (has_room limit now key second ns ≡ true) ↔ HasRoom limit now key second history
  room_by_history None = (
    (λ h. record { first = first_by_history h; both = tt }),
    (λ room. first_back None room),
  )
  room_by_history (Some next) = (
    (λ h.
        let first = first_so (has_first limit now key ns) _ h in
        record {
          first = first_by_history first;
          both = λ retrans room packet made prepares. second_on retrans room packet first next made (second_so (has_first limit now key ns) _ h) prepares;
        }),
    (λ room. let first = first_back (Some next) room in and_from (has_first limit now key ns) _ first (second_back 0 0 [] first next room)),
  )

-- a second one that had room has room afterwards
pub leaves_room : (limit now key retrans room : ℕ) (packet : List ℕ) (old new : List NeighbourEntry) → Gives limit now key (λ n. used now retrans packet n) (asked_entry key now retrans room packet) old new → LeavesRoom limit now key old new
leaves_room limit now key retrans room packet old new gives = record {
  has = λ next h. placed limit now next new (gives_on limit now key next retrans room packet old new gives (second_so (has_first limit now key old) _ h));
}

-- who was given an address is there
pub gives_there : (limit now key : ℕ) (change : NeighbourEntry → NeighbourEntry) (m : NeighbourEntry) (old new : List NeighbourEntry) → ((n : NeighbourEntry) → (change n).key ≡ n.key) → m.key ≡ key → Gives limit now key change m old new → is_some (entry_in key new) ≡ true
gives_there limit now key change m old new keeps m_key (Was n found (NotThere none is)) = let e : Some n ≡ None = sym found ∙ none in absurd (cc)
gives_there limit now key change m old new keeps m_key (Was n found (There i x lt at found_x is)) =
    subst (λ (l : List NeighbourEntry). is_some (entry_in key l) ≡ true) (sym is)
    (still_set address key old i (change x) x lt (ap (λ (y : NeighbourEntry). y.key) (sym at) ∙ sym (keeps x)) (ap is_some found_x))
gives_there limit now key change m old new keeps m_key (Came mid none places is) =
    subst (λ (l : List NeighbourEntry). is_some (entry_in key l) ≡ true) (sym is)
    (ap is_some (at_key-put address key m mid ∙ cond-true (eqb m.key key) (Some m) (entry_in key mid) (eq-eqb m.key key m_key)))

pub room_has_place : (limit now key : ℕ) (second : Option ℕ) (ns : List NeighbourEntry) → has_room limit now key second ns ≡ true → NoPlace limit now key ns → ⊥
room_has_place limit now key None ns h = first_has limit now key ns h
room_has_place limit now key (Some next) ns h = first_has limit now key ns (first_so (has_first limit now key ns) _ h)
