-- Each millisecond ends, and so does a walk up to a moment.
use Rattle.std.proofs.Common.{◌≡◌, ℕ, zero, suc, ◌+◌, ◌<◌, ◌≤◌, Bool, true, false, cond, List, [], ◌∷◌, length, Option, Some, None, refl, subst, arith, inl, inr}
use Rattle.std.specs.Prelude.{◌&&◌, not, nat_lt}
use Rattle.std.proofs.lemmas.Bool.Decides.{nat_tests, eqb_tells}
use Rattle.nd_text.proofs.AddressTexts.{some_option}
use Rattle.nd_advertiser.specs.Advertising.{advertised_by}
use Rattle.nd_advertiser.specs.Config.{Settings}
use Rattle.nd_decode.specs.Message.{Parts}
use Rattle.nd_table.specs.declared.lasting.Lasting.{Lasting}
use Rattle.nd_table.specs.Listing.{without}
use Rattle.nd_table.specs.ListingKept.{StandsUntilTold}
use Rattle.nd_table.proofs.Steps.{ends}
use Rattle.nd_neighbour.specs.Due as neighbours
use Rattle.nd_neighbour.specs.DueKept as kept_neighbours
use Rattle.nd_neighbour.specs.EntryKept.{NeighbourEntry}
use Rattle.nd_neighbour.specs.TableKept as cache
use Rattle.nd_neighbour.proofs.Dues.{first_falls, none_falls, turned_gains, turned_fewer}
use Rattle.nd_routers.specs.History.{announcements}
use Rattle.nd_routers.specs.Routers.{same}
use Rattle.nd_routers.specs.RoutersKept.{first_due}
use Rattle.nd_routers.proofs.Dues.{first_is_due, first_has, length-without}
use Rattle.nd_slaac.specs.AddressKept.{Address}
use Rattle.nd_slaac.specs.Dates as dates
use Rattle.nd_slaac.specs.Due as addresses
use Rattle.nd_slaac.specs.TableKept as own
use Rattle.nd_slaac.proofs.Dues.{turn_falls, rest_falls, turn_gains, turn_fewer}
use Rattle.nd_chronicle.specs.Start.{Start, is_host}
use Rattle.nd_chronicle.specs.Happening.{Chronicle, Loss, Lost, LeftRouter}
use Rattle.nd_chronicle.specs.Histories.{router_history, address_history, neighbour_history, advertising_history, parameter_history}
use Rattle.nd_chronicle.specs.InForce.{next_redraw}
use Rattle.nd_chronicle.specs.Packet.{losing}
use Rattle.nd_chronicle.specs.Advertising.{with_interval, advertising_by, then_advertising}
use Rattle.nd_chronicle.specs.Due.{What, RouterEnds, AddressFalls, NeighbourFalls, RoutersSolicited, RouterAdvertises, Redraws, Due, NoRouter, NoAddress, NoNeighbour, NoSolicitation, NoAdvertisement, solicited_routers, heard_router, router_solicitation_date, router_advertisement_date, then_address, then_neighbour, comes}
use Rattle.nd_chronicle.specs.History.{Walk, over, adds, passes}
use Rattle.nd_existence.specs.Intervals.{AreTimed}
use Rattle.nd_existence.proofs.Deciding.{dated}
use Rattle.nd_existence.proofs.Tables.{nodes_of, nodes_stand, addresses_of, addresses_stand}
use Rattle.nd_existence.proofs.Listings.{listing, listing_stands}
use Rattle.nd_existence.proofs.Turning.{neighbour_turns, address_ends, address_steps}
use Rattle.nd_existence.proofs.Timed.{once}

-- ---- what the rows of a millisecond keep

module _ (at : ℕ) (P : Chronicle → Type 0) where
  pub losing_keeps : ((why : Loss) (packet : List ℕ) (c : Chronicle) → P c → P ((at, Lost why packet) ∷ c)) → (why : Loss) (packets : List (List ℕ)) (c : Chronicle) → P c → P (losing at why packets c)
  losing_keeps lost why [] c p = p
  losing_keeps lost why (packet ∷ packets) c p = losing_keeps lost why packets ((at, Lost why packet) ∷ c) (lost why packet c p)

  module _ (start : Start) where
    advertising_keeps : ((interval : ℕ) (message : Parts) (c : Chronicle) → P c → P (with_interval start at interval message c)) → (o : Option Settings) (c : Chronicle) → P c → P (advertising_by start at o c)
    advertising_keeps tells None c p = p
    advertising_keeps tells (Some settings) c p = tells _ _ c p

-- what the addresses' pass keeps
abbrev BehindRouters : ℕ → Chronicle → Type 0
BehindRouters m c = AreTimed c × NoRouter c m

-- what the neighbours' pass keeps
abbrev BehindAddresses : Start → ℕ → Chronicle → Type 0
BehindAddresses start m c = AreTimed c × NoRouter c m × NoAddress start c m

-- what Router Advertisements keep
abbrev BehindSolicitations : Start → ℕ → Chronicle → Type 0
BehindSolicitations start m c = AreTimed c × NoRouter c m × NoAddress start c m × NoNeighbour c m × NoSolicitation start c m

address_keeps : (start : Start) (m : ℕ) (f : addresses.Falls) (c : Chronicle) → BehindRouters m c → BehindRouters m (then_address start m f c)
address_keeps start m (addresses.Ends key) c p = p
address_keeps start m (addresses.Solicits key) c p = p
address_keeps start m (addresses.Assigns key) c p = p

address_rows : (start : Start) (m : ℕ) (f : addresses.Falls) (c : Chronicle) → addresses.due_row m f ∷ address_history c ≡ address_history (then_address start m f c)
address_rows start m (addresses.Ends key) c = refl
address_rows start m (addresses.Solicits key) c = refl
address_rows start m (addresses.Assigns key) c = refl

neighbour_keeps : (start : Start) (m : ℕ) (f : neighbours.Falls) (c : Chronicle) → BehindAddresses start m c → BehindAddresses start m (then_neighbour start m f c)
neighbour_keeps start m (neighbours.Multicasts key) c p = p
neighbour_keeps start m (neighbours.Unicasts key mac) c p = p
neighbour_keeps start m (neighbours.Fails key packets) c p = losing_keeps m (BehindAddresses start m) (λ why packet d q. q) _ packets _ p
neighbour_keeps start m (neighbours.Ages key) c p = p

neighbour_rows : (start : Start) (m : ℕ) (f : neighbours.Falls) (c : Chronicle) → neighbours.due_row m f ∷ neighbour_history c ≡ neighbour_history (then_neighbour start m f c)
neighbour_rows start m (neighbours.Multicasts key) c = refl
neighbour_rows start m (neighbours.Unicasts key mac) c = refl
neighbour_rows start m (neighbours.Fails key packets) c =
    losing_keeps m (λ d. neighbours.due_row m (neighbours.Fails key packets) ∷ neighbour_history c ≡ neighbour_history d) (λ why packet d q. q) _ packets _ refl
neighbour_rows start m (neighbours.Ages key) c = refl

-- a solicitation of routers that has a date is one of the first three
few_solicited : (host few heard : Bool) (o : Option ℕ) (m : ℕ) → cond (host && few && not heard) o None ≡ Some m → few ≡ true
few_solicited true true heard o m is = refl
few_solicited true false heard o m is = absurd (let no : ⊥ = cc in no)
few_solicited false true heard o m is = absurd (let no : ⊥ = cc in no)
few_solicited false false heard o m is = absurd (let no : ⊥ = cc in no)

solicits_few : (start : Start) (c : Chronicle) (m : ℕ) → router_solicitation_date start c ≡ Some m → solicited_routers c < 3
solicits_few start c m is =
    let few = few_solicited (is_host start.role) (nat_lt (solicited_routers c) 3) (heard_router (parameter_history c)) _ m is in
    grind (arith, nat_tests, few)

module _ (start : Start) (m end : ℕ) (le : m ≤ end) where
  -- a walk leads somewhere
  abbrev pub Leads : Chronicle → Type 0
  Leads c = (d : Chronicle) × Walk start c m end d × AreTimed d

  added : (what : What) (c : Chronicle) → Due start c m (Some what) → Leads (comes start m what c) → Leads c
  added what c due l = (l.0, adds what le due l.1, l.2)

  module _ (rest : (e : Chronicle) → AreTimed e → Due start e m None → Leads e) where
    redrawn : (c : Chronicle) → BehindSolicitations start m c → NoAdvertisement start c m → Leads c
    redrawn c b v = elim (eqb_tells (next_redraw c) m) [
      | inl e ↦ added Redraws c (b.1, b.2, b.3, b.4, v, e.1) (rest (comes start m Redraws c) b.0 (b.1, b.2, b.3, b.4, v, λ again. absurd (omega (arith, again))))
      | inr d ↦ rest c b.0 (b.1, b.2, b.3, b.4, v, d.1)
    ]

    advertised : (c : Chronicle) → BehindSolicitations start m c → Leads c
    advertised c b = elim (dated (router_advertisement_date start c) m) [
      | inl e ↦ added RouterAdvertises c (b.1, b.2, b.3, b.4, e)
          (redrawn (then_advertising start m c)
          (advertising_keeps m (BehindSolicitations start m) start (λ interval message d q. q) (advertised_by (advertising_history start c)) c b)
          (once start m c b.0 e))
      | inr none ↦ redrawn c b none
    ]

    solicited : (left : ℕ) (c : Chronicle) → 3 ≤ solicited_routers c + left → AreTimed c → NoRouter c m → NoAddress start c m → NoNeighbour c m → Leads c
    solicited zero c few t r a n = advertised c (t, r, a, n, λ e. absurd (let lt = solicits_few start c m e in omega (arith, lt, few)))
    solicited (suc left) c few t r a n = elim (dated (router_solicitation_date start c) m) [
      | inl e ↦ added RoutersSolicited c (r, a, n, e) (solicited left (comes start m RoutersSolicited c) (omega (arith, few)) t r a n)
      | inr none ↦ advertised c (t, r, a, n, none)
    ]

    neighboured : (left : ℕ) (c : Chronicle) (ns : List NeighbourEntry) → kept_neighbours.turns_left ns < left → cache.Stands ns (neighbour_history c) → BehindAddresses start m c → Leads c
    neighboured zero c ns lt s b = absurd (omega (arith, lt))
    neighboured (suc left) c ns lt s b = elim (some_option (kept_neighbours.due_in m ns)) [
      | inl none ↦ solicited 3 c (omega arith) b.0 b.1 b.2 (none_falls ns (neighbour_history c) s m none)
      | inr n ↦
          let turn = neighbour_turns m ns n.0 s.order n.1 in
          let f = kept_neighbours.falls n.0 in
          added (NeighbourFalls f) c (b.1, b.2, first_falls ns (neighbour_history c) s m turn.0 f turn.1)
          (neighboured left (then_neighbour start m f c) turn.0 (let fewer = turned_fewer m ns turn.0 f turn.1 in omega (arith, fewer, lt))
          (subst (λ (h : List _). cache.Stands turn.0 h) (neighbour_rows start m f c) ((turned_gains m ns turn.0 f turn.1).stands (neighbour_history c) s))
          (neighbour_keeps start m f c b))
    ]

    stepped : (left : ℕ) → ((e : Chronicle) (ys : List Address) → dates.turns_left start.transmits ys < left → own.Stands ys (address_history e) → BehindRouters m e → Leads e)
        → (f : addresses.Falls) (c : Chronicle) (xs : List Address) → dates.turns_left start.transmits xs < suc left → own.Stands xs (address_history c) → BehindRouters m c
        → (new : List Address) × dates.Turns start.transmits m xs new f → Leads c
    stepped left goes_on f c xs lt s b turn =
        added (AddressFalls f) c (b.1, turn_falls start.transmits xs (address_history c) s m turn.0 f turn.1)
        (goes_on (then_address start m f c) turn.0 (let fewer = turn_fewer start.transmits m xs turn.0 f turn.1 in omega (arith, fewer, lt))
        (subst (λ (h : List _). own.Stands turn.0 h) (address_rows start m f c) ((turn_gains start.transmits m xs turn.0 f turn.1).stands (address_history c) s))
        (address_keeps start m f c b))

    addressed : (left : ℕ) (c : Chronicle) (xs : List Address) → dates.turns_left start.transmits xs < left → own.Stands xs (address_history c) → BehindRouters m c → Leads c
    addressed zero c xs lt s b = absurd (omega (arith, lt))
    addressed (suc left) c xs lt s b = elim (some_option (dates.first_at dates.end_date m xs)) [
      | inr a ↦ stepped left (λ e ys lt' s' b'. addressed left e ys lt' s' b') (addresses.Ends a.0.key) c xs lt s b (address_ends start.transmits m xs s.order a.0 a.1)
      | inl none ↦ elim (some_option (dates.first_at dates.next_step m xs)) [
        | inr a ↦ stepped left (λ e ys lt' s' b'. addressed left e ys lt' s' b') (dates.falls_by start.transmits a.0.key a.0.stage) c xs lt s b (address_steps start.transmits m xs s.order a.0 none a.1)
        | inl rests ↦
            neighboured (suc (kept_neighbours.turns_left (nodes_of (neighbour_history c)))) c (nodes_of (neighbour_history c)) (omega arith) (nodes_stand (neighbour_history c))
            (b.0, b.1, rest_falls start.transmits xs (address_history c) s m (record { ends = none; steps = rests }))
      ]
    ]

    routed : (left : ℕ) (c : Chronicle) (es : List (Lasting ℕ)) → length es < left → StandsUntilTold same es (announcements (router_history c)) → AreTimed c → Leads c
    routed zero c es lt s t = absurd (omega (arith, lt))
    routed (suc left) c es lt s t = elim (some_option (first_due m es)) [
      | inl none ↦
          addressed (suc (dates.turns_left start.transmits (addresses_of (address_history c)))) c (addresses_of (address_history c)) (omega arith) (addresses_stand (address_history c))
          (t, first_is_due es (router_history c) s m None none)
      | inr k ↦
          let has = first_has m k.0 es k.1 in
          added (RouterEnds k.0) c (first_is_due es (router_history c) s m (Some k.0) k.1)
          (routed left ((m, LeftRouter k.0) ∷ c) (without same k.0 es) (let fewer = length-without k.0 has.0 es has.1 in omega (arith, fewer, lt))
          (ends same eqb_tells es (announcements (router_history c)) m k.0 s) t)
    ]

    -- what is due in a millisecond comes, until nothing is
    pub one_millisecond : (c : Chronicle) → AreTimed c → Leads c
    one_millisecond c t =
        let h = announcements (router_history c) in
        routed (suc (length (listing same eqb_tells h))) c (listing same eqb_tells h) (omega arith) (listing_stands same eqb_tells h) t

-- from each chronicle a walk leads up to each moment
pub walked : (start : Start) (end left : ℕ) (c : Chronicle) (m : ℕ) → m + left ≡ end + 1 → AreTimed c → (d : Chronicle) × Walk start c m end d × AreTimed d
walked start end zero c m e t = (c, over (omega (arith, e)), t)
walked start end (suc left) c m e t =
    let le : m ≤ end = omega (arith, e) in
    one_millisecond start m end le
    (λ d timed due. let w = walked start end left d (suc m) (omega (arith, e)) timed in (w.0, passes le due w.1, w.2)) c t
