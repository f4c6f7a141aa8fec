-- The path of a destination stays the same up to the end of its lease, as long as nothing happens.
use Rattle.std.proofs.Common.{◌≡◌, ◌<◌, ◌≤◌, ◌+◌, ◌-◌, ℕ, Bool, true, false, List, Option, Some, None, refl, sym, ◌∙◌, ap, subst, arith, inl, inr, ⊎_elim}
use Rattle.std.specs.Prelude.{◌&&◌, ◌⊎◌}
use Rattle.std.specs.Option.{option_map}
use Rattle.std.proofs.lemmas.Bool.Decides.{nat_tests}
use Rattle.std.proofs.lemmas.Bool.{cases_Bool, cases_lt, cond-false, cond-true}
use Rattle.nd_addr.specs.declared.addr.Addr.{Addr}
use Rattle.nd_addr.specs.declared.role.Role.{Role}
use Rattle.nd_addr.specs.declared.role.Role.TheVariants.{Host, Router}
use Rattle.nd_addr.specs.Kind.{multicast_prefix}
use Rattle.nd_addr.specs.Number.{holds, number_of}
use Rattle.nd_addr.specs.Prefix.{PrefixValue}
use Rattle.nd_table.specs.declared.lasting.Lasting.{Lasting}
use Rattle.nd_table.specs.Ends.{is_before}
use Rattle.nd_table.specs.Listing.{open_at}
use Rattle.nd_neighbour.specs.declared.shown.Reachability.{Reachability}
use Rattle.nd_neighbour.specs.declared.shown.Reachability.TheVariants.{Delay, Stale}
use Rattle.nd_neighbour.specs.declared.unreachability_detection.Probing.{Probing}
use Rattle.nd_neighbour.specs.EntryKept.{Known, NeighbourEntry, Resolving, Stage, known_mac}
use Rattle.nd_neighbour.specs.Shown.{Seen, is_leased}
use Rattle.nd_neighbour.specs.ShownKept.{left_in, probing_state, seen, state_in}
use Rattle.nd_neighbour.specs.TableKept.{entry_in}
use Rattle.nd_neighbour.proofs.Leases.{end_lasts, state_lasts}
use Rattle.nd_nexthop.specs.Choice.{target_in}
use Rattle.nd_nexthop.specs.NextHop.{NextHop, direct, hop, no_route, via}
use Rattle.nd_steps.specs.DestinationCache.{linked_by, own_in}
use Rattle.nd_steps.specs.NextHop.{candidates_in}
use Rattle.nd_steps.proofs.Remembering.{stand_before}
use Rattle.nd_node.specs.declared.node.Node.{Node}
use Rattle.nd_node.specs.Moments.{earlier}
use Rattle.nd_node.specs.NodeKept.{next_of}
use Rattle.nd_node.specs.Path.{PathSeen, first_end, lease, path_by, path_to_all}
use Rattle.nd_node.specs.PathKept.{hop_kept, path_by_hop, path_kept, towards, up_kept}
use Rattle.nd_node.proofs.Moments.{before_second}
use Rattle.nd_node.proofs.NextHops.{before_next}
use Rattle.nd_node.proofs.Paths.{next_of_path}

-- ---- a neighbour that stays in its state

-- what is seen of it as a path, in this state and with this end of it
seen_as : Bool → ℕ → ℕ → Option ℕ → NextHop → Option ℕ → Reachability → Option ℕ → PathSeen
seen_as up now due end next mac state over = record { next = next; mac = mac; state = Some state; until = lease (up && is_leased state) now (earlier over due) end }

seen_same : (up : Bool) (m x due : ℕ) (end : Option ℕ) (next : NextHop) (n : NeighbourEntry) → (up && is_leased (state_in n.stage m)) ≡ true → state_in n.stage x ≡ state_in n.stage m
    → path_by up x due end next (Some (seen x n)) ≡ path_by up m due end next (Some (seen m n))
unfolding seen_as
seen_same up m x due end next n leased same =
    ap (λ (s : Reachability). seen_as up x due end next (known_mac n.stage) s (option_map (λ left. x + left) (left_in n.stage x))) same
    ∙ (ap (λ (o : Option ℕ). seen_as up x due end next (known_mac n.stage) (state_in n.stage m) o) (end_lasts n.stage m x same)
    ∙ ap (λ (u : ℕ). record { next = next; mac = known_mac n.stage; state = Some (state_in n.stage m); until = u })
    (cond-true (up && is_leased (state_in n.stage m)) _ x leased ∙ sym (cond-true (up && is_leased (state_in n.stage m)) _ m leased)))

leased_too : (up : Bool) (r : Reachability) → (up && is_leased r) ≡ true → is_leased r ≡ true
leased_too true r h = h
leased_too false r h = absurd (let never : false ≡ true = h in cc)

-- a neighbour in a lease isn't STALE up to the end of its state
fresh : (k : Stage) (m x due : ℕ) → m ≤ x → is_leased (state_in k m) ≡ true → x < earlier (option_map (λ left. m + left) (left_in k m)) due → is_leased (state_in k x) ≡ true
fresh (Resolving r n b ws) m x due after leased before = leased
fresh (Known mac false since None) m x due after leased before = leased
fresh (Known mac false since (Some p)) m x due after leased before = grind (arith, nat_tests)
fresh (Known mac true since None) m x due after leased before = grind (arith, nat_tests, after, leased, before)
fresh (Known mac true since (Some p)) m x due after leased before = grind (arith, nat_tests)

-- a state other than DELAY lasts up to its end
probing_on : (p : Probing) (m x : ℕ) → m ≤ x → (probing_state (Some p) m ≡ Delay → ⊥) → probing_state (Some p) x ≡ probing_state (Some p) m
probing_on p m x after other = ⊎_elim (λ lt. absurd (other (grind (arith, nat_tests, lt)))) (λ le. grind (arith, nat_tests, after, le)) (cases_lt m p.from)

confirmed_on : (mac since : ℕ) (p : Probing) (m x due : ℕ) → m ≤ x → x < earlier (option_map (λ left. m + left) (left_in (Known mac true since (Some p)) m)) due → (state_in (Known mac true since (Some p)) m ≡ Delay → ⊥)
    → state_in (Known mac true since (Some p)) x ≡ state_in (Known mac true since (Some p)) m
confirmed_on mac since p m x due after before other =
    ⊎_elim (λ lt. grind (arith, nat_tests, after, before, lt))
    (λ le.
    let over : (y : ℕ) → since ≤ y → state_in (Known mac true since (Some p)) y ≡ probing_state (Some p) y = λ y late. grind (arith, nat_tests, late) in
    over x (omega (arith, after, le)) ∙ (probing_on p m x after (λ delayed. other (over m le ∙ delayed)) ∙ sym (over m le)))
    (cases_lt m since)

lasts_on : (k : Stage) (m x due : ℕ) → m ≤ x → is_leased (state_in k m) ≡ true → x < earlier (option_map (λ left. m + left) (left_in k m)) due → (state_in k m ≡ Delay → ⊥) → state_in k x ≡ state_in k m
lasts_on (Resolving r n b ws) m x due after leased before other = refl
lasts_on (Known mac false since None) m x due after leased before other = refl
lasts_on (Known mac false since (Some p)) m x due after leased before other = probing_on p m x after other
lasts_on (Known mac true since None) m x due after leased before other = grind (arith, nat_tests, after, leased, before)
lasts_on (Known mac true since (Some p)) m x due after leased before other = confirmed_on mac since p m x due after before other

not_stale : (r : Reachability) → is_leased r ≡ true → Some r ≡ Some Stale → ⊥
not_stale r leased is =
    let same : r ≡ Stale = cc in
    let never : false ≡ true = subst (λ (q : Reachability). is_leased q ≡ true) same leased in
    let no : ⊥ = cc in no

-- ---- a path by moments

-- packets go the same way, and their neighbour isn't STALE
abbrev pub GoesOn : PathSeen → PathSeen → Type 0
GoesOn p q = (q.next ≡ p.next) × (q.mac ≡ p.mac) × (q.state ≡ Some Stale → ⊥)

module _ (up : Bool) (due m : ℕ) (entries : List NeighbourEntry) (destination : Addr) (end : ℕ → Option ℕ) (next : ℕ → NextHop)
    (stays : (x : ℕ) → m ≤ x → is_before x (end m) ≡ true → (next x ≡ next m) × (end x ≡ end m))
    (to_all : (x : ℕ) → holds multicast_prefix destination.0 ≡ true → next x ≡ next m) where
  abbrev by_then : ℕ → PathSeen
  by_then x = path_by_hop up x due (end x) entries destination (next x)

  -- its state is the same at the end, or it isn't DELAY, which ends by itself
  abbrev Steady : Type 0
  Steady = ((by_then ((by_then m).until - 1)).state ≡ (by_then m).state) ⊎ ((by_then m).state ≡ Some Delay → ⊥)

  module _ (x : ℕ) (after : m ≤ x) where
    -- to all of a group
    all_same : x < (path_to_all up m due destination).until → path_to_all up x due destination ≡ path_to_all up m due destination
    all_same before = by up before
      where
        by : (b : Bool) → x < (path_to_all b m due destination).until → path_to_all b x due destination ≡ path_to_all b m due destination
        by true lt = refl
        by false lt = let never : ⊥ = omega (arith, lt, after) in absurd never

    -- to a neighbour
    module _ (h : NextHop) (key : ℕ) (goes : next m ≡ h) (is : (y : ℕ) (e : Option ℕ) → path_by_hop up y due e entries destination h ≡ path_by up y due e h (option_map (seen y) (entry_in key entries))) where
      -- by the entry
      here : (n : NeighbourEntry) → entry_in key entries ≡ Some n → (y : ℕ) → m ≤ y → is_before y (end m) ≡ true → by_then y ≡ path_by up y due (end m) h (Some (seen y n))
      here n found y from ends =
          let st = stays y from ends in
          ap (λ (g : NextHop). path_by_hop up y due (end y) entries destination g) (st.0 ∙ goes)
          ∙ (ap (λ (e : Option ℕ). path_by_hop up y due e entries destination h) st.1
          ∙ (is y (end m) ∙ ap (λ (o : Option NeighbourEntry). path_by up y due (end m) h (option_map (seen y) o)) found))

      to_entry : (o : Option NeighbourEntry) → entry_in key entries ≡ o → x < (path_by up m due (end m) h (option_map (seen m) o)).until
          → Steady → by_then x ≡ by_then m
      to_entry None found before steady = let never : ⊥ = omega (arith, before, after) in absurd never
      to_entry (Some n) found before steady = by (up && is_leased (state_in n.stage m)) refl
        where
          by : (b : Bool) → (up && is_leased (state_in n.stage m)) ≡ b → by_then x ≡ by_then m
          by false e =
              let ended : (path_by up m due (end m) h (Some (seen m n))).until ≡ m = cond-false (up && is_leased (state_in n.stage m)) _ m e in
              let never : ⊥ = omega (arith, subst (λ (u : ℕ). x < u) ended before, after) in absurd never
          by true e =
              let over : ℕ = earlier (option_map (λ left. m + left) (left_in n.stage m)) due in
              let until_is : (path_by up m due (end m) h (Some (seen m n))).until ≡ earlier (end m) over = cond-true (up && is_leased (state_in n.stage m)) _ m e in
              let lt : x < earlier (end m) over = subst (λ (u : ℕ). x < u) until_is before in
              let now_ends : is_before m (end m) ≡ true = before_next (end m) over m (omega (arith, lt, after)) in
              let here_m = here n found m (omega arith) now_ends in
              let last : ℕ = earlier (end m) over - 1 in
              let last_is : (by_then m).until - 1 ≡ last = ap (λ (p : PathSeen). p.until - 1) here_m ∙ ap (λ (u : ℕ). u - 1) until_is in
              let last_lt : last < earlier (end m) over = omega (arith, lt) in
              let here_last = here n found last (omega (arith, lt, after)) (before_next (end m) over last last_lt) in
              let in_lease = leased_too up (state_in n.stage m) e in
              let same : state_in n.stage x ≡ state_in n.stage m =
              ⊎_elim
              (λ at_end.
              let same_last : Some (state_in n.stage last) ≡ Some (state_in n.stage m) =
              sym (ap (λ (p : PathSeen). p.state) here_last) ∙ (ap (λ (y : ℕ). (by_then y).state) (sym last_is) ∙ (at_end ∙ ap (λ (p : PathSeen). p.state) here_m)) in
              let same_end : state_in n.stage last ≡ state_in n.stage m = cc in state_lasts n.stage m x last after (omega (arith, lt)) in_lease same_end)
              (λ other. lasts_on n.stage m x due after in_lease (before_second x (end m) over lt) (λ delayed. other (ap (λ (p : PathSeen). p.state) here_m ∙ ap Some delayed)))
              steady in
              here n found x after (before_next (end m) over x lt) ∙ (seen_same up m x due (end m) h n e same ∙ sym here_m)

      -- without more of its state
      on_to_entry : (o : Option NeighbourEntry) → entry_in key entries ≡ o → x < (path_by up m due (end m) h (option_map (seen m) o)).until → GoesOn (by_then m) (by_then x)
      on_to_entry None found before = let never : ⊥ = omega (arith, before, after) in absurd never
      on_to_entry (Some n) found before = by (up && is_leased (state_in n.stage m)) refl
        where
          by : (b : Bool) → (up && is_leased (state_in n.stage m)) ≡ b → GoesOn (by_then m) (by_then x)
          by false e =
              let ended : (path_by up m due (end m) h (Some (seen m n))).until ≡ m = cond-false (up && is_leased (state_in n.stage m)) _ m e in
              let never : ⊥ = omega (arith, subst (λ (u : ℕ). x < u) ended before, after) in absurd never
          by true e =
              let over : ℕ = earlier (option_map (λ left. m + left) (left_in n.stage m)) due in
              let until_is : (path_by up m due (end m) h (Some (seen m n))).until ≡ earlier (end m) over = cond-true (up && is_leased (state_in n.stage m)) _ m e in
              let lt : x < earlier (end m) over = subst (λ (u : ℕ). x < u) until_is before in
              let here_m = here n found m (omega arith) (before_next (end m) over m (omega (arith, lt, after))) in
              let here_x = here n found x after (before_next (end m) over x lt) in (
                ap (λ (p : PathSeen). p.next) here_x ∙ sym (ap (λ (p : PathSeen). p.next) here_m),
                ap (λ (p : PathSeen). p.mac) here_x ∙ sym (ap (λ (p : PathSeen). p.mac) here_m),
                λ stale. not_stale (state_in n.stage x) (fresh n.stage m x due after (leased_too up (state_in n.stage m) e) (before_second x (end m) over lt)) (sym (ap (λ (p : PathSeen). p.state) here_x) ∙ stale),
              )

      to_neighbour : x < (path_by_hop up m due (end m) entries destination h).until → Steady → by_then x ≡ by_then m
      to_neighbour before steady = to_entry (entry_in key entries) refl (subst (λ (p : PathSeen). x < p.until) (is m (end m)) before) steady

      on_to_neighbour : x < (path_by_hop up m due (end m) entries destination h).until → GoesOn (by_then m) (by_then x)
      on_to_neighbour before = on_to_entry (entry_in key entries) refl (subst (λ (p : PathSeen). x < p.until) (is m (end m)) before)

    on_by_next : (h : NextHop) → next m ≡ h → x < (path_by_hop up m due (end m) entries destination h).until → GoesOn (by_then m) (by_then x)
    on_by_next no_route goes before = let never : ⊥ = omega (arith, before, after) in absurd never
    on_by_next (via key) goes before = on_to_neighbour (via key) key goes (λ y e. refl) before
    on_by_next direct goes before = elim (cases_Bool (holds multicast_prefix destination.0)) [
      | inl multicast ↦
          let all : (y : ℕ) → path_by_hop up y due (end y) entries destination direct ≡ path_to_all up y due destination = λ y. cond-true (holds multicast_prefix destination.0) _ _ multicast in
          let there : (y : ℕ) → by_then y ≡ path_to_all up y due destination = λ y. ap (λ (g : NextHop). path_by_hop up y due (end y) entries destination g) (to_all y multicast ∙ goes) ∙ all y in (
            ap (λ (p : PathSeen). p.next) (there x) ∙ sym (ap (λ (p : PathSeen). p.next) (there m)),
            ap (λ (p : PathSeen). p.mac) (there x) ∙ sym (ap (λ (p : PathSeen). p.mac) (there m)),
            λ stale. (let none : None ≡ Some Stale = sym (ap (λ (p : PathSeen). p.state) (there x)) ∙ stale in let no : ⊥ = cc in no),
          )
      | inr single ↦ on_to_neighbour direct (number_of destination.0) goes (λ y e. cond-false (holds multicast_prefix destination.0) _ _ single) before
    ]

    pub path_goes_on : x < (by_then m).until → GoesOn (by_then m) (by_then x)
    path_goes_on before = on_by_next (next m) refl before

    by_next : (h : NextHop) → next m ≡ h → x < (path_by_hop up m due (end m) entries destination h).until → Steady → by_then x ≡ by_then m
    by_next no_route goes before steady = let never : ⊥ = omega (arith, before, after) in absurd never
    by_next (via key) goes before steady = to_neighbour (via key) key goes (λ y e. refl) before steady
    by_next direct goes before steady = elim (cases_Bool (holds multicast_prefix destination.0)) [
      | inl multicast ↦
          let all : (y : ℕ) → path_by_hop up y due (end y) entries destination direct ≡ path_to_all up y due destination = λ y. cond-true (holds multicast_prefix destination.0) _ _ multicast in
          let there : (y : ℕ) → by_then y ≡ path_to_all up y due destination = λ y. ap (λ (g : NextHop). path_by_hop up y due (end y) entries destination g) (to_all y multicast ∙ goes) ∙ all y in
          there x ∙ (all_same (subst (λ (p : PathSeen). x < p.until) (all m) before) ∙ sym (there m))
      | inr single ↦ to_neighbour direct (number_of destination.0) goes (λ y e. cond-false (holds multicast_prefix destination.0) _ _ single) before steady
    ]

    pub path_lasts : x < (by_then m).until → Steady → by_then x ≡ by_then m
    path_lasts before steady = by_next (next m) refl before steady

-- ---- of a node

module _ {R A : Type 0} (node : Node R A) (m : ℕ) (destination : Addr) where
  hop_stays : (role : Role) (x : ℕ) → m ≤ x → is_before x (first_end role (open_at m node.prefixes.entries)) ≡ true
      → (hop_kept role node x destination ≡ hop_kept role node m destination) × (first_end role (open_at x node.prefixes.entries) ≡ first_end role (open_at m node.prefixes.entries))
  hop_stays Router x after ends = (refl, refl)
  hop_stays Host x after ends =
      let same = stand_before m x after node.prefixes.entries ends in (
        ap (λ (standing : List (Lasting PrefixValue)). hop (own_in node.addresses.addresses) (linked_by standing) (candidates_in node.neighbours.entries node.routers) (target_in (number_of destination.0) node.choice.redirects.entries) destination.0) same,
        ap (λ (standing : List (Lasting PrefixValue)). first_end Host standing) same,
      )

  hop_to_all : (role : Role) (x : ℕ) → holds multicast_prefix destination.0 ≡ true → hop_kept role node x destination ≡ hop_kept role node m destination
  hop_to_all Router x multicast = refl
  hop_to_all Host x multicast = rw multicast refl

  -- up to the end of its lease the path is the same, if the state of its neighbour is, at the end, or isn't DELAY
  pub kept_lasts : (x : ℕ) → m ≤ x → x < (path_kept node m destination).until
      → ((path_kept node ((path_kept node m destination).until - 1) destination).state ≡ (path_kept node m destination).state) ⊎ ((path_kept node m destination).state ≡ Some Delay → ⊥)
      → path_kept node x destination ≡ path_kept node m destination
  kept_lasts x after before steady =
      path_lasts (up_kept node) (next_of node) m node.neighbours.entries destination (λ y. first_end node.role (open_at y node.prefixes.entries)) (λ y. hop_kept node.role node y destination)
      (hop_stays node.role) (hop_to_all node.role) x after before steady

  -- and packets go the same way, whatever becomes of that state
  pub kept_goes_on : (x : ℕ) → m ≤ x → x < (path_kept node m destination).until → GoesOn (path_kept node m destination) (path_kept node x destination)
  kept_goes_on x after before =
      path_goes_on (up_kept node) (next_of node) m node.neighbours.entries destination (λ y. first_end node.role (open_at y node.prefixes.entries)) (λ y. hop_kept node.role node y destination)
      (hop_stays node.role) (hop_to_all node.role) x after before

  -- it goes by the next hop
  next_is : (h : NextHop) (x : ℕ) (end : Option ℕ) → (path_by_hop (up_kept node) x (next_of node) end node.neighbours.entries destination h).next ≡ h
  next_is no_route x end = refl
  next_is (via key) x end = next_of_path (up_kept node) x (next_of node) end (via key) (option_map (seen x) (entry_in key node.neighbours.entries))
  next_is direct x end = elim (cases_Bool (holds multicast_prefix destination.0)) [
    | inl multicast ↦ ap (λ (p : PathSeen). p.next)
        (cond-true (holds multicast_prefix destination.0) (path_to_all (up_kept node) x (next_of node) destination)
        (path_by (up_kept node) x (next_of node) end direct (option_map (seen x) (entry_in (number_of destination.0) node.neighbours.entries))) multicast)
    | inr single ↦ ap (λ (p : PathSeen). p.next)
        (cond-false (holds multicast_prefix destination.0) (path_to_all (up_kept node) x (next_of node) destination)
        (path_by (up_kept node) x (next_of node) end direct (option_map (seen x) (entry_in (number_of destination.0) node.neighbours.entries))) single)
        ∙ next_of_path (up_kept node) x (next_of node) end direct (option_map (seen x) (entry_in (number_of destination.0) node.neighbours.entries))
  ]

  pub kept_next : (path_kept node m destination).next ≡ hop_kept node.role node m destination
  kept_next = next_is (hop_kept node.role node m destination) m (first_end node.role (open_at m node.prefixes.entries))

  -- ---- in DELAY

  state_of_path : (x : ℕ) (end : Option ℕ) (next : NextHop) (found : Option Seen) → (path_by (up_kept node) x (next_of node) end next found).state ≡ option_map (λ (n : Seen). n.state) found
  state_of_path x end next None = refl
  state_of_path x end next (Some n) = refl

  -- by a next hop to a neighbour in DELAY
  by_delayed : (h : NextHop) (x : ℕ) (end later : Option ℕ) → m ≤ x → x < (path_by_hop (up_kept node) m (next_of node) end node.neighbours.entries destination h).until
      → (path_by_hop (up_kept node) m (next_of node) end node.neighbours.entries destination h).state ≡ Some Delay
      → (path_by_hop (up_kept node) x (next_of node) later node.neighbours.entries destination h).state ≡ option_map (λ (n : Seen). n.state) (option_map (seen x) (entry_in (towards h destination) node.neighbours.entries))
  by_delayed no_route x end later after before delayed = absurd (let never : ⊥ = omega (arith, after, before) in never)
  by_delayed (via key) x end later after before delayed = state_of_path x later (via key) (option_map (seen x) (entry_in key node.neighbours.entries))
  by_delayed direct x end later after before delayed = elim (cases_Bool (holds multicast_prefix destination.0)) [
    | inl multicast ↦ absurd (
        let none : None ≡ Some Delay =
        sym (ap (λ (p : PathSeen). p.state)
        (cond-true (holds multicast_prefix destination.0) (path_to_all (up_kept node) m (next_of node) destination)
        (path_by (up_kept node) m (next_of node) end direct (option_map (seen m) (entry_in (number_of destination.0) node.neighbours.entries))) multicast))
        ∙ delayed in
        let no : ⊥ = cc in no)
    | inr single ↦ ap (λ (p : PathSeen). p.state)
        (cond-false (holds multicast_prefix destination.0) (path_to_all (up_kept node) x (next_of node) destination)
        (path_by (up_kept node) x (next_of node) later direct (option_map (seen x) (entry_in (number_of destination.0) node.neighbours.entries))) single)
        ∙ state_of_path x later direct (option_map (seen x) (entry_in (number_of destination.0) node.neighbours.entries))
  ]

-- the state of the path to a neighbour that is in DELAY now is what is seen of that neighbour, up to the end of the lease
pub delayed_later : {R A : Type 0} (node : Node R A) (m x : ℕ) (destination : Addr) (key : ℕ) → m ≤ x → x < (path_kept node m destination).until → towards (path_kept node m destination).next destination ≡ key
    → (path_kept node m destination).state ≡ Some Delay → (path_kept node x destination).state ≡ option_map (λ (n : Seen). n.state) (option_map (seen x) (entry_in key node.neighbours.entries))
delayed_later node m x destination key after before to delayed =
    let h = hop_kept node.role node m destination in
    let end = first_end node.role (open_at m node.prefixes.entries) in
    let later = first_end node.role (open_at x node.prefixes.entries) in
    let same : hop_kept node.role node x destination ≡ h = sym (kept_next node x destination) ∙ ((kept_goes_on node m destination x after before).0 ∙ kept_next node m destination) in
    let to_key : towards h destination ≡ key = ap (λ (n : NextHop). towards n destination) (sym (kept_next node m destination)) ∙ to in
    ap (λ (n : NextHop). (path_by_hop (up_kept node) x (next_of node) later node.neighbours.entries destination n).state) same
    ∙ (by_delayed node m destination h x end later after before delayed
    ∙ ap (λ (k : ℕ). option_map (λ (n : Seen). n.state) (option_map (seen x) (entry_in k node.neighbours.entries))) to_key)
