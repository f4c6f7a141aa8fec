-- A walk over routers of one link-layer address that are given no commands: what they send, and when.
use Rattle.std.proofs.Common.{◌≡◌, ◌≢◌, ◌⊎◌, inl, inr, ℕ, suc, ◌+◌, ◌*◌, ◌^◌, ◌<◌, ◌≤◌, Bool, true, false, [], ◌∷◌, ◌++◌, length, Some, refl, sym, ◌∙◌, ap, subst, arith, ⊎_elim}
use Rattle.std.specs.Prelude.{◌==◌, ◌%◌, is_some}
use Rattle.byteorder.specs.Endian.{big_bytes}
use Rattle.std.proofs.lemmas.Bool.{cases_lt, true≢false}
use Rattle.std.proofs.lemmas.Bool.Decides.{Decides-eqb}
use Rattle.std.proofs.lemmas.List.{append_cancel_right}
use Rattle.nd_addr.specs.Bytes.{AreBytes, IsBytes}
use Rattle.nd_addr.specs.Number.{addr_at}
use Rattle.nd_addr.specs.declared.addr.Addr.{Addr}
use Rattle.nd_addr.specs.declared.mac.Mac.{Mac}
use Rattle.nd_addr.specs.declared.role.Role.TheVariants.{Router}
use Rattle.nd_addr.proofs.ByteLists.{AreSmall, AreSmall-append, AreSmall-from, IsBytes-from, small_four, small_two}
use Rattle.nd_addr.proofs.Numbered.{sixteen}
use Rattle.nd_addr.specs.Ip6.{written_header, written_packet}
use Rattle.nd_decode.specs.Message.{Parts}
use Rattle.nd_decode.specs.declared.body.Body.TheVariants as bodies
use Rattle.nd_message.specs.Frame.{message_frame, message_header}
use Rattle.nd_message.specs.Spelling.{spelling, three_flags_of, written_message}
use Rattle.nd_table.specs.History.{Past}
use Rattle.nd_table.proofs.Pasts.{past_then}
use Rattle.nd_compose.specs.Frames.{advertisement, all_nodes, defence_frame, detection_frame, multicast_mac, solicited_node, unspecified}
use Rattle.nd_slaac.specs.History.{Assigned, Formed, Solicited}
use Rattle.nd_chronicle.specs.Start.{Start}
use Rattle.nd_chronicle.specs.Happening.{Address, Chronicle, Happening, Sent}
use Rattle.nd_chronicle.specs.Histories.{address_history}
use Rattle.nd_chronicle.specs.Due.{What, Due, comes}
use Rattle.nd_link_log.specs.Log.{Log, Adds, adding, chronicle_of, start_of}
use Rattle.nd_link_log.specs.History.{IsIdle, Walk, over, adds, passes}
use Rattle.nd_link_log.proofs.Chronicles.{other_rows, own_rows, past_with, start_with}
use Rattle.nd_link_log.proofs.Places.{AllPlaces}
use Rattle.nd_existence.proofs.Alone.{Alone, Comes, Idles, Gets, Asks, IsUnasked, alone_next, come, is_plain, own, unasked_on}

-- ---- the frames are bytes

frame_bytes : (to from : Mac) (source destination : Addr) (m : Parts) → AreSmall to.0 → AreSmall from.0 → AreSmall source.0 → AreSmall destination.0 → AreSmall (written_message source destination m)
    → IsBytes (message_frame to from source destination m)
unfolding message_frame
frame_bytes to from source destination m t f s d small =
    let payload = written_message source destination m in
    let header = message_header source destination in
    let first = big_bytes 4 (6 * 2 ^ 28 + header.traffic_class * 2 ^ 20 + header.flow_label % 2 ^ 20) in
    let second = big_bytes 2 (length payload) in
    let third = header.next_header ∷ header.hop_limit ∷ [] in
    let numbers : AreSmall (first ++ second) = small_four (6 * 2 ^ 28 + header.traffic_class * 2 ^ 20 + header.flow_label % 2 ^ 20) second (small_two (length payload) [] tt) in
    let before : AreSmall (first ++ second ++ third) = AreSmall-append (first ++ second) third numbers (omega arith, (omega arith, tt)) in
    let addresses : AreSmall (first ++ second ++ third ++ source.0 ++ destination.0) =
    AreSmall-append (first ++ second ++ third ++ source.0) destination.0 (AreSmall-append (first ++ second ++ third) source.0 before s) d in
    let packet : AreSmall (written_packet header payload) = AreSmall-append (written_header header (length payload)) payload addresses small in
    let ethernet : AreSmall (to.0 ++ from.0 ++ (0x86 ∷ 0xdd ∷ [])) = AreSmall-append (to.0 ++ from.0) (0x86 ∷ 0xdd ∷ []) (AreSmall-append to.0 from.0 t f) (omega arith, (omega arith, tt)) in
    IsBytes-from (to.0 ++ from.0 ++ (0x86 ∷ 0xdd ∷ []) ++ written_packet header payload) (AreSmall-append (to.0 ++ from.0 ++ (0x86 ∷ 0xdd ∷ [])) (written_packet header payload) ethernet packet)

abbrev asking_for : Addr → Parts
asking_for address = record { body = bodies.Ns (record { target = address }); options = [] }

asking_small : (sum : ℕ) (address : Addr) → AreSmall address.0 → AreSmall (spelling sum (asking_for address))
unfolding spelling
asking_small sum address a =
    (omega arith, (omega arith, small_two sum (0 ∷ 0 ∷ 0 ∷ 0 ∷ address.0 ++ []) (omega arith, (omega arith, (omega arith, (omega arith, AreSmall-append address.0 [] a tt))))))

telling_small : (sum : ℕ) (mac : Mac) (address : Addr) → AreSmall mac.0 → AreSmall address.0 → AreSmall (spelling sum (advertisement true false mac address))
unfolding spelling
telling_small sum mac address m a = (
  omega arith,
  (
    omega arith,
    small_two sum (three_flags_of true false true ∷ 0 ∷ 0 ∷ 0 ∷ address.0 ++ (2 ∷ 1 ∷ mac.0 ++ []))
        (omega arith, (omega arith, (omega arith, (omega arith, AreSmall-append address.0 (2 ∷ 1 ∷ mac.0 ++ []) a (omega arith, (omega arith, AreSmall-append mac.0 [] m tt)))))),
  ),
)

module _ (mac : Mac) (m : AreBytes 6 mac.0) (address : Addr) (a : AreBytes 16 address.0) where
  target_small : AreSmall address.0
  target_small = AreSmall-from address.0 a.each

  pub detection_bytes : IsBytes (detection_frame mac address)
  detection_bytes =
      frame_bytes (multicast_mac (solicited_node address)) mac unspecified (solicited_node address) (asking_for address)
      (omega arith, (omega arith, (omega arith, (a.each 13, (a.each 14, (a.each 15, tt))))))
      (AreSmall-from mac.0 m.each)
      (omega arith, (omega arith, (omega arith, (omega arith, (omega arith, (omega arith, (omega arith, (omega arith, (omega arith, (omega arith, (omega arith, (omega arith, (omega arith, (omega arith, (omega arith, (omega arith, tt))))))))))))))))
      (omega arith, (omega arith, (omega arith, (omega arith, (omega arith, (omega arith, (omega arith, (omega arith, (omega arith, (omega arith, (omega arith, (omega arith, (omega arith, (a.each 13, (a.each 14, (a.each 15, tt))))))))))))))))
      (asking_small _ address target_small)

  pub defence_bytes : IsBytes (defence_frame true mac address)
  defence_bytes =
      frame_bytes (multicast_mac all_nodes) mac address all_nodes (advertisement true false mac address)
      (omega arith, (omega arith, (omega arith, (omega arith, (omega arith, (omega arith, tt))))))
      (AreSmall-from mac.0 m.each)
      target_small
      (omega arith, (omega arith, (omega arith, (omega arith, (omega arith, (omega arith, (omega arith, (omega arith, (omega arith, (omega arith, (omega arith, (omega arith, (omega arith, (omega arith, (omega arith, (omega arith, tt))))))))))))))))
      (telling_small _ mac address (AreSmall-from mac.0 m.each) target_small)

-- ---- what each place of the log asks for

-- it comes at this moment or later, or nobody else was there
abbrev pub IsLate : ℕ → ℕ → ℕ → Log → Type 0
IsLate late at node before = (late ≤ at) ⊎ ((other : ℕ) → other ≢ node → is_some (start_of other before) ≡ true → ⊥)

-- a frame is bytes and comes so, and an address is formed with RetransTimer as it is on a link that no router told it
abbrev pub Good : ℕ → Log → Type 0
Good late (Adds node at (Sent frame) ∷ before) = IsBytes frame × IsLate late at node before
Good late (Adds node at (Address key (Formed delay retrans lifetimes)) ∷ before) = retrans ≡ 1000
Good late _ = Unit {0}

plain_good : (late node at : ℕ) (what : Happening) (log : Log) → is_plain what ≡ true → Good late (Adds node at what ∷ log)
plain_good late node at (Sent frame) log plain = absurd (true≢false (sym plain))
plain_good late node at (Address key (Formed delay retrans lifetimes)) log plain = absurd (true≢false (sym plain))
plain_good late node at what log plain = tt

-- ---- the walk

pub record Fits (mac : Mac) (start : Start) (c : Chronicle) (m : ℕ) : Type 0 where
  pub router : start.role ≡ Router
  pub mac_is : start.mac ≡ mac
  pub alone : Alone start c m

-- a solicitation of the node was sent
pub record HasAsked (node : ℕ) (start : Start) (least end : ℕ) (log : Log) : Type 0 where
  pub at : ℕ
  pub before : Log
  pub there : Past (Adds node at (Sent (detection_frame start.mac (addr_at (own start)))) ∷ before) log
  pub not_before : least ≤ at
  pub by_then : at ≤ end

abbrev pub Asked : ℕ → Start → ℕ → ℕ → Log → Type 0
Asked node start least end log = IsUnasked start (chronicle_of node log) ⊎ HasAsked node start least end log

module _ (mac : Mac) (bytes : AreBytes 6 mac.0) (late : ℕ) (origin : Log) (asking : ℕ) (asker : Start) (is_there : start_of asking origin ≡ Some asker) (positive : 0 < asker.transmits) (least : ℕ)
    (in_time : (node at : ℕ) (before : Log) → ((i : ℕ) → start_of i before ≡ start_of i origin) → is_some (start_of node before) ≡ true → least ≤ at → IsLate late at node before) where
  pub record Walked (end : ℕ) (log : Log) (m : ℕ) : Type 0 where
    pub fits : (i : ℕ) (start : Start) → start_of i log ≡ Some start → Fits mac start (chronicle_of i log) m
    pub good : AllPlaces (Good late) log
    pub same : (i : ℕ) → start_of i log ≡ start_of i origin
    pub asked : Asked asking asker least end log

  -- what is due at a node
  module _ (log : Log) (node : ℕ) (start : Start) (what : What) (rows : Chronicle) (moment end m : ℕ) (within : moment ≤ end) (is : start_of node log ≡ Some start)
      (due : Due start (chronicle_of node log) moment (Some what)) (gives : comes start moment what (chronicle_of node log) ≡ rows ++ chronicle_of node log) (low : least ≤ m) (g : Walked end log m) where
    abbrev c : Chronicle
    c = chronicle_of node log

    abbrev f : Fits mac start c m
    f = g.fits node start is

    abbrev after : Comes start moment m c (comes start moment what c) × Alone start (comes start moment what c) m
    after = come start f.router c moment m f.alone what due

    fits_all : (i : ℕ) (other : Start) → start_of i (adding node rows log) ≡ Some other → Fits mac other (chronicle_of i (adding node rows log)) m
    fits_all i other there = by (node == i) refl
      where
        here : start_of i log ≡ Some other
        here = sym (start_with i node rows log) ∙ there

        by : (mine : Bool) → (node == i) ≡ mine → Fits mac other (chronicle_of i (adding node rows log)) m
        by true e =
            let same : node ≡ i = (Decides-eqb node i).0 e in
            let both : Some start ≡ Some other = sym is ∙ ap (λ (x : ℕ). start_of x log) same ∙ here in
            let one : start ≡ other = cc in
            let own_fits : Fits mac start (chronicle_of node (adding node rows log)) m = record {
              router = f.router;
              mac_is = f.mac_is;
              alone = subst (λ (d : Chronicle). Alone start d m) (gives ∙ sym (own_rows node rows log)) after.1;
            } in
            subst (λ (x : ℕ). Fits mac other (chronicle_of x (adding node rows log)) m) same (subst (λ (s : Start). Fits mac s (chronicle_of node (adding node rows log)) m) one own_fits)
        by false e =
            let o = g.fits i other here in record {
              router = o.router;
              mac_is = o.mac_is;
              alone = subst (λ (d : Chronicle). Alone other d m) (sym (other_rows i node rows log e)) o.alone;
            }

    rows_are : (own_rows : Chronicle) (d : Chronicle) → d ≡ own_rows ++ c → d ≡ rows ++ c → own_rows ≡ rows
    rows_are own_rows d e whole = append_cancel_right own_rows rows c (sym e ∙ whole)

    frame_is_bytes : IsBytes (detection_frame start.mac (addr_at (own start)))
    frame_is_bytes = detection_bytes start.mac (subst (λ (x : Mac). AreBytes 6 x.0) (sym f.mac_is) bytes) (addr_at (own start)) (sixteen (own start))

    good_all : (d : Chronicle) → Comes start moment m c d → d ≡ rows ++ c → AllPlaces (Good late) (adding node rows log)
    good_all d (Idles what' plain same e) whole =
        subst (λ (r : Chronicle). AllPlaces (Good late) (adding node r log)) (rows_are ((moment, what') ∷ []) d e whole) (plain_good late node moment what' log plain, g.good)
    good_all d (Gets all e) whole =
        subst (λ (r : Chronicle). AllPlaces (Good late) (adding node r log)) (rows_are ((moment, Address (own start) Assigned) ∷ []) d e whole) (tt, g.good)
    good_all d (Asks le e) whole =
        subst (λ (r : Chronicle). AllPlaces (Good late) (adding node r log)) (rows_are ((moment, Sent (detection_frame start.mac (addr_at (own start)))) ∷ (moment, Address (own start) Solicited) ∷ []) d e whole)
        ((frame_is_bytes, in_time node moment (Adds node moment (Address (own start) Solicited) ∷ log) g.same (ap is_some is) (omega (arith, le, low))), (tt, g.good))

    asked_own : (d : Chronicle) → Comes start moment m c d → d ≡ rows ++ c → 0 < start.transmits → Asked node start least end log → Asked node start least end (adding node rows log)
    asked_own d came whole some (inr h) = inr (record { at = h.at; before = h.before; there = past_then _ log (adding node rows log) h.there (past_with node rows log); not_before = h.not_before; by_then = h.by_then })
    asked_own d (Idles what' plain same e) whole some (inl u) = inl (unasked_on start c (chronicle_of node (adding node rows log)) (ap address_history (own_rows node rows log ∙ (sym whole ∙ e)) ∙ same) u)
    asked_own d (Gets all e) whole some (inl u) = absurd (let none = u.1 in omega (arith, all, none, some))
    asked_own d (Asks le e) whole some (inl u) =
        inr (subst (λ (r : Chronicle). HasAsked node start least end (adding node r log)) (rows_are ((moment, Sent (detection_frame start.mac (addr_at (own start)))) ∷ (moment, Address (own start) Solicited) ∷ []) d e whole)
        (record { at = moment; before = Adds node moment (Address (own start) Solicited) ∷ log; there = inl refl; not_before = omega (arith, le, low); by_then = within }))

    asked_then : Asked asking asker least end (adding node rows log)
    asked_then = by (node == asking) refl
      where
        by : (mine : Bool) → (node == asking) ≡ mine → Asked asking asker least end (adding node rows log)
        by true e =
            let same : node ≡ asking = (Decides-eqb node asking).0 e in
            let both : Some start ≡ Some asker = sym is ∙ ap (λ (x : ℕ). start_of x log) same ∙ (g.same asking ∙ is_there) in
            let one : start ≡ asker = cc in
            let was : Asked node start least end log = subst (λ (x : ℕ). Asked x start least end log) (sym same) (subst (λ (s : Start). Asked asking s least end log) (sym one) g.asked) in
            let now = asked_own _ after.0 gives (subst (λ (s : Start). 0 < s.transmits) (sym one) positive) was in
            subst (λ (x : ℕ). Asked x asker least end (adding node rows log)) same (subst (λ (s : Start). Asked node s least end (adding node rows log)) one now)
        by false e = ⊎_elim
            (λ u. inl (subst (IsUnasked asker) (sym (other_rows asking node rows log e)) u))
            (λ h. inr (record { at = h.at; before = h.before; there = past_then _ log (adding node rows log) h.there (past_with node rows log); not_before = h.not_before; by_then = h.by_then })) g.asked

    pub added : Walked end (adding node rows log) m
    added = record { fits = fits_all; good = good_all _ after.0 gives; same = λ i. start_with i node rows log ∙ g.same i; asked = asked_then }

  next : (log : Log) (moment end : ℕ) → ((node : ℕ) → IsIdle node log moment) → Walked end log moment → Walked end log (suc moment)
  next log moment end idle g = record {
    fits = λ i start is. let f = g.fits i start is in record { router = f.router; mac_is = f.mac_is; alone = alone_next start (chronicle_of i log) moment (idle i start is) f.alone };
    good = g.good;
    same = g.same;
    asked = g.asked;
  }

  pub walked : {log d : Log} {moment end : ℕ} → Walk log moment end d → (m : ℕ) → moment ≤ m → m ≤ suc end → least ≤ m → Walked end log m → Walked end d (suc end)
  walked {log = log} {end = end} (over lt) m from up low g = subst (λ (x : ℕ). Walked end log x) (omega (arith, lt, from, up)) g
  walked {log = log} {moment = moment} {end = end} (passes le idle w) m from up low g = ⊎_elim
      (λ less. walked w m (omega (arith, less)) up low g)
      (λ more.
      let same : m ≡ moment = omega (arith, from, more) in
      walked w (suc moment) (omega arith) (omega (arith, le)) (omega (arith, low, same)) (next log moment end idle (subst (λ (x : ℕ). Walked end log x) same g)))
      (cases_lt moment m)
  walked {log = log} {moment = moment} {end = end} (adds node start what rows le is due idle gives w) m from up low g =
      walked w m from up low (added log node start what rows moment end m le is due gives low g)
