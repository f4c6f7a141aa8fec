-- To which own addresses a packet goes.
use Rattle.std.proofs.Common.{◌≡◌, ◌<◌, ℕ, Bool, true, false, cond, List, [], ◌∷◌, Option, Some, None, inl, inr, refl, sym, ◌∙◌, ap, subst, arith}
use Rattle.std.specs.Prelude.{◌⊎◌, ◌&&◌, ◌||◌, ◌==◌, not, is_some, bytes_eq, slice_index}
use Rattle.std.specs.List.{list_any}
use Rattle.std.specs.Cmp.Lexicographic.{bytes_decides}
use Rattle.std.proofs.lemmas.Bool.{and_parts, and_from, eqb-true, eq-eqb, or_left, or_right, or_cases, true≢false}
use Rattle.nd_table.specs.Keyed.{at_key, Rises}
use Rattle.nd_table.proofs.Keyed.{above_in, key_is}
use Rattle.nd_table.proofs.Unique.{head_in}
use Rattle.nd_addr.specs.declared.addr.Addr.{Addr}
use Rattle.nd_addr.specs.Bytes.{AreBytes}
use Rattle.nd_addr.specs.Kind.{solicited_node_of}
use Rattle.nd_addr.specs.Number.{addr_at, number_of}
use Rattle.nd_slaac.specs.declared.destination.Counted.{Counted}
use Rattle.nd_slaac.specs.declared.destination.Counted.TheVariants.{Own, Assigned}
use Rattle.nd_slaac.specs.History.{Row, Story, story}
use Rattle.nd_slaac.specs.State.{Forming, forming_of, has_conflict, is_by_hand, was_assigned, sent_of}
use Rattle.nd_slaac.specs.Ends.{preferred_end, valid_end}
use Rattle.nd_slaac.specs.AddressKept.{Address, address_by, stage_by}
use Rattle.nd_slaac.specs.TableKept.{key_of, address_in, Stands}
use Rattle.nd_slaac.specs.Destination.{counts, counts_in, counted_in, is_meant, is_asked, end_alike, is_to, IsTo}

-- ---- one of the entries

module _ {N : Type 0} (key : N → ℕ) (p : N → Bool) where
  behind : (k : ℕ) (x n : N) (ns : List N) → key x < k → at_key key k ns ≡ Some n → at_key key k (x ∷ ns) ≡ Some n
  behind k x n ns lt found = by (key x == k) refl
    where
      by : (b : Bool) → key x == k ≡ b → cond b (Some x) (at_key key k ns) ≡ Some n
      by false e = found
      by true e = let same : key x ≡ k = grind (arith, e) in absurd (omega (arith, lt, same))

  any_found : (ns : List N) → Rises key ns → list_any p ns ≡ true → (n : N) × (at_key key (key n) ns ≡ Some n) × (p n ≡ true)
  any_found [] rises e = let no : ⊥ = cc in absurd no
  any_found (x ∷ ns) rises e = by (λ later. any_found ns rises.1 later) (or_cases (p x) (list_any p ns) e)
    where
      by : (list_any p ns ≡ true → (n : N) × (at_key key (key n) ns ≡ Some n) × (p n ≡ true)) → (p x ≡ true) ⊎ (list_any p ns ≡ true)
          → (n : N) × (at_key key (key n) (x ∷ ns) ≡ Some n) × (p n ≡ true)
      by rest (inl here) = (x, head_in key x ns, here)
      by rest (inr later) = let f = rest later in (f.0, behind (key f.0) x f.0 ns (above_in key (key f.0) (key x) ns f.0 rises.0 f.1) f.1, f.2)

  found_any : (k : ℕ) (ns : List N) (n : N) → at_key key k ns ≡ Some n → p n ≡ true → list_any p ns ≡ true
  found_any k [] n found holds = let no : ⊥ = cc in absurd no
  found_any k (x ∷ ns) n found holds = by (λ e. found_any k ns n e holds) (key x == k) found
    where
      by : (at_key key k ns ≡ Some n → list_any p ns ≡ true) → (b : Bool) → cond b (Some x) (at_key key k ns) ≡ Some n → list_any p (x ∷ ns) ≡ true
      by rest true e = let same : x ≡ n = cc in or_left (p x) (list_any p ns) (ap p same ∙ holds)
      by rest false e = or_right (p x) (list_any p ns) (rest e)

-- ---- by its story

abbrev counts_of : Counted → Bool → Bool → Bool → Bool
counts_of Own known conflict assigned = (known && not conflict && not assigned) || (known && not conflict && assigned)
counts_of Assigned known conflict assigned = known && not conflict && assigned

counted_some : (counted : Counted) (f : Forming) (conflict assigned : Bool) (sent : ℕ) → counts_in counted (stage_by f conflict assigned sent) ≡ counts_of counted true conflict assigned
counted_some Own f true true sent = refl
counted_some Own f true false sent = refl
counted_some Own f false true sent = refl
counted_some Own f false false sent = refl
counted_some Assigned f true true sent = refl
counted_some Assigned f true false sent = refl
counted_some Assigned f false true sent = refl
counted_some Assigned f false false sent = refl

counted_none : (counted : Counted) (conflict assigned : Bool) → counts_of counted false conflict assigned ≡ false
counted_none Own conflict assigned = refl
counted_none Assigned conflict assigned = refl

counted_by : (counted : Counted) (key : ℕ) (f : Option Forming) (conflict assigned : Bool) (sent : ℕ) (p v : Option ℕ) (b : Bool) (a : Address) → address_by key f conflict assigned sent p v b ≡ Some a
    → counts_in counted a.stage ≡ counts_of counted (is_some f) conflict assigned
counted_by counted key None conflict assigned sent p v b a e = let no : ⊥ = cc in absurd no
counted_by counted key (Some f) conflict assigned sent p v b a e =
    let st : a.stage ≡ stage_by f conflict assigned sent = cc in rw st (counted_some counted f conflict assigned sent)

-- an address that counts is kept
kept_by : (counted : Counted) (key : ℕ) (f : Option Forming) (conflict assigned : Bool) (sent : ℕ) (p v : Option ℕ) (b : Bool) → counts_of counted (is_some f) conflict assigned ≡ true
    → (a : Address) × (address_by key f conflict assigned sent p v b ≡ Some a) × (counts_in counted a.stage ≡ true) × (a.key ≡ key)
kept_by counted key None conflict assigned sent p v b h = let no : false ≡ true = sym (counted_none counted conflict assigned) ∙ h in absurd (impossible no)
  where
    impossible : false ≡ true → ⊥
    impossible e = cc
kept_by counted key (Some f) conflict assigned sent p v b h = (_, refl, counted_some counted f conflict assigned sent ∙ h, refl)

counts_is : (counted : Counted) (s : Story) → counts counted s ≡ counts_of counted (is_some (forming_of s)) (has_conflict s) (was_assigned s)
counts_is Own s = refl
counts_is Assigned s = refl

counted_of : (counted : Counted) (key : ℕ) (f : Option Forming) (conflict assigned : Bool) (sent : ℕ) (p v : Option ℕ) (b : Bool) → counted_in counted (address_by key f conflict assigned sent p v b) ≡ counts_of counted (is_some f) conflict assigned
counted_of counted key None conflict assigned sent p v b = sym (counted_none counted conflict assigned)
counted_of counted key (Some f) conflict assigned sent p v b = counted_some counted f conflict assigned sent

pub counted_by_history : (counted : Counted) (key : ℕ) (addresses : List Address) (history : List Row) → Stands addresses history → counted_in counted (address_in key addresses) ≡ counts counted (story key history)
counted_by_history counted key addresses history s =
    let st = story key history in
    ap (λ (a : Option Address). counted_in counted a) (s.each key)
    ∙ (counted_of counted key (forming_of st) (has_conflict st) (was_assigned st) (sent_of st) (preferred_end st) (valid_end st) (is_by_hand st) ∙ sym (counts_is counted st))

-- ---- a destination

meant : (destination address : Addr) → is_meant destination address ≡ true → (destination.0 ≡ address.0) ⊎ (destination.0 ≡ solicited_node_of address.0)
meant destination address e = by (or_cases (bytes_eq destination.0 address.0) (bytes_eq destination.0 (solicited_node_of address.0)) e)
  where
    by : (bytes_eq destination.0 address.0 ≡ true) ⊎ (bytes_eq destination.0 (solicited_node_of address.0) ≡ true) → (destination.0 ≡ address.0) ⊎ (destination.0 ≡ solicited_node_of address.0)
    by (inl same) = inl ((bytes_decides destination.0 address.0).0 same)
    by (inr same) = inr ((bytes_decides destination.0 (solicited_node_of address.0)).0 same)

is_meant_by : (destination address : Addr) → (destination.0 ≡ address.0) ⊎ (destination.0 ≡ solicited_node_of address.0) → is_meant destination address ≡ true
is_meant_by destination address (inl e) = or_left (bytes_eq destination.0 address.0) (bytes_eq destination.0 (solicited_node_of address.0)) ((bytes_decides destination.0 address.0).1 e)
is_meant_by destination address (inr e) = or_right (bytes_eq destination.0 address.0) (bytes_eq destination.0 (solicited_node_of address.0)) ((bytes_decides destination.0 (solicited_node_of address.0)).1 e)

-- ---- a solicited-node address

module _ (d : List ℕ) where
  -- the solicited-node address of one is that of each other that ends alike
  asked_alike : (x : List ℕ) → d ≡ solicited_node_of d → bytes_eq d (solicited_node_of x) ≡ end_alike x d
  asked_alike x own = by (bytes_eq d (solicited_node_of x)) refl
    where
      alike : d ≡ solicited_node_of x → end_alike x d ≡ true
      alike e =
          and_from (slice_index x 13 == slice_index d 13) (slice_index x 14 == slice_index d 14 && slice_index x 15 == slice_index d 15) (eq-eqb (slice_index x 13) (slice_index d 13) (sym (ap (λ (l : List ℕ). slice_index l 13) e)))
          (and_from (slice_index x 14 == slice_index d 14) (slice_index x 15 == slice_index d 15) (eq-eqb (slice_index x 14) (slice_index d 14) (sym (ap (λ (l : List ℕ). slice_index l 14) e)))
          (eq-eqb (slice_index x 15) (slice_index d 15) (sym (ap (λ (l : List ℕ). slice_index l 15) e))))

      same : end_alike x d ≡ true → d ≡ solicited_node_of x
      same h =
          let p = and_parts (slice_index x 13 == slice_index d 13) (slice_index x 14 == slice_index d 14 && slice_index x 15 == slice_index d 15) h in
          let q = and_parts (slice_index x 14 == slice_index d 14) (slice_index x 15 == slice_index d 15) p.1 in
          own ∙ three (slice_index d 13) (slice_index d 14) (slice_index d 15) (slice_index x 13) (slice_index x 14) (slice_index x 15)
          (sym (eqb-true (slice_index x 13) (slice_index d 13) p.0)) (sym (eqb-true (slice_index x 14) (slice_index d 14) q.0)) (sym (eqb-true (slice_index x 15) (slice_index d 15) q.1))
        where
          three : (a b c a' b' c' : ℕ) → a ≡ a' → b ≡ b' → c ≡ c'
              → 0xff ∷ 2 ∷ 0 ∷ 0 ∷ 0 ∷ 0 ∷ 0 ∷ 0 ∷ 0 ∷ 0 ∷ 0 ∷ 1 ∷ 0xff ∷ a ∷ b ∷ c ∷ [] ≡ 0xff ∷ 2 ∷ 0 ∷ 0 ∷ 0 ∷ 0 ∷ 0 ∷ 0 ∷ 0 ∷ 0 ∷ 0 ∷ 1 ∷ 0xff ∷ a' ∷ b' ∷ c' ∷ []
          three a b c a' b' c' e f g = cc

      by : (b : Bool) → bytes_eq d (solicited_node_of x) ≡ b → b ≡ end_alike x d
      by true e = sym (alike ((bytes_decides d (solicited_node_of x)).0 e))
      by false e = other (end_alike x d) refl
        where
          other : (b : Bool) → end_alike x d ≡ b → false ≡ end_alike x d
          other false h = sym h
          other true h = let no : false ≡ true = sym e ∙ (bytes_decides d (solicited_node_of x)).1 (same h) in no ∙ sym h

  -- and another address is the solicited-node address of none
  asked_none : (x : List ℕ) → (d ≡ solicited_node_of d → ⊥) → bytes_eq d (solicited_node_of x) ≡ false
  asked_none x differ = by (bytes_eq d (solicited_node_of x)) refl
    where
      by : (b : Bool) → bytes_eq d (solicited_node_of x) ≡ b → bytes_eq d (solicited_node_of x) ≡ false
      by false e = e
      by true e = let same : d ≡ solicited_node_of x = (bytes_decides d (solicited_node_of x)).0 e in absurd (differ (same ∙ sym (ap solicited_node_of same)))

-- the same of what is kept of an address
pub is_asked_by : (counted : Counted) (destination address : Addr) (a : Address) (result : Bool) → addr_at (number_of address.0) ≡ address → number_of address.0 ≡ a.key → counts_in counted a.stage ≡ true
    → destination.0 ≡ solicited_node_of destination.0 → result ≡ end_alike address.0 destination.0 → result ≡ is_asked counted destination a
is_asked_by counted destination address a result told key counted' own is =
    let same : addr_at a.key ≡ address = ap addr_at (sym key) ∙ told in
    let number : number_of (addr_at a.key).0 ≡ a.key = ap (λ (x : Addr). number_of x.0) same ∙ key in
    is ∙ (sym (asked_alike destination.0 address.0 own)
    ∙ sym (ap (λ b. b && (number_of (addr_at a.key).0 == a.key && bytes_eq destination.0 (solicited_node_of (addr_at a.key).0))) counted'
    ∙ (ap (λ b. b && bytes_eq destination.0 (solicited_node_of (addr_at a.key).0)) (eq-eqb (number_of (addr_at a.key).0) a.key number)
    ∙ ap (λ (x : Addr). bytes_eq destination.0 (solicited_node_of x.0)) same)))

-- where a destination is no solicited-node address, none has it as its own
pub none_asked : (counted : Counted) (destination : Addr) (addresses : List Address) → (destination.0 ≡ solicited_node_of destination.0 → ⊥) → list_any (is_asked counted destination) addresses ≡ false
none_asked counted destination [] differ = refl
none_asked counted destination (a ∷ addresses) differ =
    ap (λ b. (counts_in counted a.stage && (number_of (addr_at a.key).0 == a.key && b)) || list_any (is_asked counted destination) addresses) (asked_none destination.0 (addr_at a.key).0 differ)
    ∙ (nothing (counts_in counted a.stage) (number_of (addr_at a.key).0 == a.key) (list_any (is_asked counted destination) addresses) ∙ none_asked counted destination addresses differ)
  where
    nothing : (a b c : Bool) → ((a && (b && false)) || c) ≡ c
    nothing true true c = refl
    nothing true false c = refl
    nothing false b c = refl

-- a destination means the address that it is, or those that have it as their solicited-node address
pub is_to_either : (counted : Counted) (destination : Addr) (addresses : List Address) → Rises key_of addresses → addr_at (number_of destination.0) ≡ destination
    → list_any (is_to counted destination) addresses ≡ (counted_in counted (address_in (number_of destination.0) addresses) || list_any (is_asked counted destination) addresses)
is_to_either counted destination addresses rises told = by (list_any (is_to counted destination) addresses) refl
  where
    it : (o : Option Address) → address_in (number_of destination.0) addresses ≡ o → counted_in counted o ≡ true → list_any (is_to counted destination) addresses ≡ true
    it None e h = let no : false ≡ true = h in absurd (true≢false (sym no))
    it (Some n) e h =
        let n_key : n.key ≡ number_of destination.0 = key_is key_of (number_of destination.0) addresses n e in
        let same : addr_at n.key ≡ destination = ap addr_at n_key ∙ told in
        let number : number_of (addr_at n.key).0 ≡ n.key = ap (λ (x : Addr). number_of x.0) same ∙ sym n_key in
        found_any key_of (is_to counted destination) (number_of destination.0) addresses n e
        (and_from (counts_in counted n.stage) (number_of (addr_at n.key).0 == n.key && is_meant destination (addr_at n.key)) h
        (and_from (number_of (addr_at n.key).0 == n.key) (is_meant destination (addr_at n.key)) (eq-eqb (number_of (addr_at n.key).0) n.key number)
        (is_meant_by destination (addr_at n.key) (inl (sym (ap (λ (x : Addr). x.0) same))))))

    its : list_any (is_asked counted destination) addresses ≡ true → list_any (is_to counted destination) addresses ≡ true
    its h =
        let f = any_found key_of (is_asked counted destination) addresses rises h in
        let n = f.0 in
        let p = and_parts (counts_in counted n.stage) (number_of (addr_at n.key).0 == n.key && bytes_eq destination.0 (solicited_node_of (addr_at n.key).0)) f.2 in
        let q = and_parts (number_of (addr_at n.key).0 == n.key) (bytes_eq destination.0 (solicited_node_of (addr_at n.key).0)) p.1 in
        found_any key_of (is_to counted destination) n.key addresses n f.1
        (and_from (counts_in counted n.stage) (number_of (addr_at n.key).0 == n.key && is_meant destination (addr_at n.key)) p.0
        (and_from (number_of (addr_at n.key).0 == n.key) (is_meant destination (addr_at n.key)) q.0
        (or_right (bytes_eq destination.0 (addr_at n.key).0) (bytes_eq destination.0 (solicited_node_of (addr_at n.key).0)) q.1)))

    either : list_any (is_to counted destination) addresses ≡ true → (counted_in counted (address_in (number_of destination.0) addresses) || list_any (is_asked counted destination) addresses) ≡ true
    either h =
        let f = any_found key_of (is_to counted destination) addresses rises h in
        let n = f.0 in
        let p = and_parts (counts_in counted n.stage) (number_of (addr_at n.key).0 == n.key && is_meant destination (addr_at n.key)) f.2 in
        let q = and_parts (number_of (addr_at n.key).0 == n.key) (is_meant destination (addr_at n.key)) p.1 in
        elim (or_cases (bytes_eq destination.0 (addr_at n.key).0) (bytes_eq destination.0 (solicited_node_of (addr_at n.key).0)) q.1) [
          | inl same ↦
              let e : number_of destination.0 ≡ n.key = ap number_of ((bytes_decides destination.0 (addr_at n.key).0).0 same) ∙ eqb-true (number_of (addr_at n.key).0) n.key q.0 in
              or_left (counted_in counted (address_in (number_of destination.0) addresses)) (list_any (is_asked counted destination) addresses)
              (ap (λ (o : Option Address). counted_in counted o) (ap (λ j. address_in j addresses) e ∙ f.1) ∙ p.0)
          | inr asks ↦
              or_right (counted_in counted (address_in (number_of destination.0) addresses)) (list_any (is_asked counted destination) addresses)
              (found_any key_of (is_asked counted destination) n.key addresses n f.1
              (and_from (counts_in counted n.stage) (number_of (addr_at n.key).0 == n.key && bytes_eq destination.0 (solicited_node_of (addr_at n.key).0)) p.0
              (and_from (number_of (addr_at n.key).0 == n.key) (bytes_eq destination.0 (solicited_node_of (addr_at n.key).0)) q.0 asks)))
        ]

    by : (b : Bool) → list_any (is_to counted destination) addresses ≡ b → b ≡ (counted_in counted (address_in (number_of destination.0) addresses) || list_any (is_asked counted destination) addresses)
    by true e = sym (either e)
    by false e = none (counted_in counted (address_in (number_of destination.0) addresses) || list_any (is_asked counted destination) addresses) refl
      where
        none : (b : Bool) → (counted_in counted (address_in (number_of destination.0) addresses) || list_any (is_asked counted destination) addresses) ≡ b
            → false ≡ (counted_in counted (address_in (number_of destination.0) addresses) || list_any (is_asked counted destination) addresses)
        none false h = sym h
        none true h =
            let yes' : list_any (is_to counted destination) addresses ≡ true =
            elim (or_cases (counted_in counted (address_in (number_of destination.0) addresses)) (list_any (is_asked counted destination) addresses) h) [
              | inl one ↦ it (address_in (number_of destination.0) addresses) refl one
              | inr asks ↦ its asks
            ] in
            absurd (true≢false (sym yes' ∙ e))

module _ (counted : Counted) (destination : Addr) (addresses : List Address) (history : List Row) (s : Stands addresses history)
    (told : (address : Addr) → AreBytes 16 address.0 → addr_at (number_of address.0) ≡ address) (bytes : (number : ℕ) → AreBytes 16 (addr_at number).0) where
  pub is_to_one : list_any (is_to counted destination) addresses ≡ true → IsTo counted history destination
  is_to_one e =
      let f = any_found key_of (is_to counted destination) addresses s.order e in
      let n = f.0 in
      let p = and_parts (counts_in counted n.stage) (number_of (addr_at n.key).0 == n.key && is_meant destination (addr_at n.key)) f.2 in
      let q = and_parts (number_of (addr_at n.key).0 == n.key) (is_meant destination (addr_at n.key)) p.1 in
      let number : number_of (addr_at n.key).0 ≡ n.key = eqb-true (number_of (addr_at n.key).0) n.key q.0 in
      let st = story n.key history in
      let by : counts counted st ≡ true =
      counts_is counted st ∙ (sym (counted_by counted n.key (forming_of st) (has_conflict st) (was_assigned st) (sent_of st) (preferred_end st) (valid_end st) (is_by_hand st) n (sym (s.each n.key) ∙ f.1)) ∙ p.0) in
      record {
        address = addr_at n.key;
        bytes = bytes n.key;
        counting = subst (λ (k : ℕ). counts counted (story k history) ≡ true) (sym number) by;
        to = meant destination (addr_at n.key) q.1;
      }

  pub one_is_to : IsTo counted history destination → list_any (is_to counted destination) addresses ≡ true
  one_is_to to =
      let key = number_of to.address.0 in
      let st = story key history in
      let k = kept_by counted key (forming_of st) (has_conflict st) (was_assigned st) (sent_of st) (preferred_end st) (valid_end st) (is_by_hand st) (sym (counts_is counted st) ∙ to.counting) in
      let same : addr_at k.0.key ≡ to.address = ap addr_at k.3 ∙ told to.address to.bytes in
      let number : number_of (addr_at k.0.key).0 ≡ k.0.key = ap (λ (a : Addr). number_of a.0) same ∙ sym k.3 in
      let means : is_meant destination (addr_at k.0.key) ≡ true = ap (λ (a : Addr). is_meant destination a) same ∙ is_meant_by destination to.address to.to in
      found_any key_of (is_to counted destination) key addresses k.0 (s.each key ∙ k.1)
      (and_from (counts_in counted k.0.stage) (number_of (addr_at k.0.key).0 == k.0.key && is_meant destination (addr_at k.0.key)) k.2
      (and_from (number_of (addr_at k.0.key).0 == k.0.key) (is_meant destination (addr_at k.0.key)) (eq-eqb (number_of (addr_at k.0.key).0) k.0.key number) means))
