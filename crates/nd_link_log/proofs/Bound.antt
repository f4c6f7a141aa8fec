-- A log that meets the premises of the promise, and a longer one, in which two nodes hold an address at the bound.
use Rattle.std.proofs.Common.{◌≡◌, ◌≢◌, ◌⊎◌, inl, inr, ℕ, ◌+◌, ◌<◌, ◌≤◌, Bool, true, false, List, [], ◌∷◌, Some, None, refl, sym, subst, arith, ⊎_elim}
use Rattle.std.specs.Prelude.{◌==◌, is_some, if◌then◌else◌}
use Rattle.std.proofs.lemmas.Bool.{true≢false}
use Rattle.std.proofs.lemmas.Bool.Decides.{Decides-eqb}
use Rattle.nd_addr.specs.Bytes.{AreBytes}
use Rattle.nd_addr.specs.Number.{addr_at}
use Rattle.nd_addr.proofs.Numbered.{addr_number_back, sixteen}
use Rattle.nd_table.specs.History.{Past}
use Rattle.nd_table.proofs.Pasts.{past_then}
use Rattle.nd_compose.specs.Frames.{defence_frame, detection_frame}
use Rattle.nd_compose.proofs.Meant.{defence_sent, detection_sent}
use Rattle.nd_slaac.specs.History.{Assigned, Formed, Solicited, Story}
use Rattle.nd_slaac.specs.State.{is_known, is_tentative}
use Rattle.nd_chronicle.specs.Start.{Start}
use Rattle.nd_chronicle.specs.Happening.{Address, Sent}
use Rattle.nd_chronicle.specs.OwnAddress.{story_of}
use Rattle.nd_link_log.specs.Log.{Log, Begins, Adds, Carries, chronicle_of, last_moment, sent, start_of}
use Rattle.nd_link_log.specs.Holding.{AllArrive, AllWait, Arrives, Holds, IsTimely, IsTrying}
use Rattle.nd_link_log.specs.Attempt.{Attempt, Claims, Tries}
use Rattle.nd_link_log.specs.Sound.{Answers, Brings, IsSound, Tried}
use Rattle.nd_link_log.proofs.Carried.{AllBring, bring_carried, bring_with}
use Rattle.nd_link_log.proofs.Moments.{Rising, by_then, in_order}
use Rattle.nd_link_log.proofs.Nodes.{RowsThere, there_at}
use Rattle.nd_link_log.proofs.Places.{AllPlaces, Since, assigned_row, at_place, since_here, since_more}

-- ---- what is to be shown of a log that is written out

-- at each place what its newest entry asks for
abbrev Arrived : Log → ℕ → Log → Type 0
Arrived log within (Adds sender at (Sent frame) ∷ before) =
    at + within < last_moment log → (node : ℕ) → node ≢ sender → is_some (start_of node before) ≡ true → Arrives log node (sent before) at within
Arrived log within _ = Unit {0}

abbrev pub Waits : ℕ → Log → Type 0
Waits least (Adds node at (Address key (Formed delay retrans lifetimes)) ∷ before) = least ≤ retrans
Waits least _ = Unit {0}

abbrev pub NoneCarried : Log → Type 0
NoneCarried (Carries node at number ∷ before) = ⊥
NoneCarried _ = Unit {0}

abbrev pub TriedBy : Log → Log → Type 0
TriedBy log (Adds node at (Address key Assigned) ∷ over) = (d : Log) → Past d log → Past (Adds node at (Address key Assigned) ∷ over) d → Tried node key d
TriedBy log _ = Unit {0}

-- each frame that a node sent tries the address, and was sent so long before the moment
abbrev pub Early : ℕ → ℕ → ℕ → ℕ → Log → Type 0
Early node key retrans assigned (Adds n at (Sent frame) ∷ before) = n ≡ node → Tries key frame × (at + retrans ≤ assigned)
Early node key retrans assigned _ = Unit {0}

abbrev pub FormsNew : Log → Type 0
FormsNew (Adds node at (Address key (Formed delay retrans lifetimes)) ∷ below) = is_known (story_of (chronicle_of node below) key) ≡ false
FormsNew _ = Unit {0}

all_arrive : (log : Log) (within : ℕ) → AllPlaces (Arrived log within) log → AllArrive within log
all_arrive log within all sender at frame before p = at_place (Arrived log within) _ log p all

pub all_wait : (log : Log) (least : ℕ) → AllPlaces (Waits least) log → AllWait least log
all_wait log least all node at key delay retrans lifetimes before p = at_place (Waits least) _ log p all

pub sound_by : (log : Log) → Rising log → RowsThere log → AllBring log → AllPlaces (TriedBy log) log → AllPlaces FormsNew log → IsSound log
sound_by log rising there bring tried forms = record {
  in_order = in_order log rising;
  by_then = by_then log rising;
  there = there_at log there;
  brings = bring;
  tried = λ node key d p holds.
      let row = assigned_row key node d holds in
      at_place (TriedBy log) (Adds node row.0 (Address key Assigned) ∷ row.1) log (past_then _ d log row.2 p) tried d p row.2;
  forms = λ node key at delay retrans lifetimes below p. at_place FormsNew _ log p forms;
}

-- ---- the logs

-- fe80::1
abbrev pub the_key : ℕ
the_key = 338288524927261089654018896841347694593

module _ (start : Start) (first : start.at ≡ 0) (mac : AreBytes 6 start.mac.0) where
  abbrev pub solicitation : List ℕ
  solicitation = detection_frame start.mac (addr_at the_key)

  abbrev answer : List ℕ
  answer = defence_frame false start.mac (addr_at the_key)

  pub meanings : Tries the_key solicitation × Claims the_key answer
  meanings =
      let same = addr_number_back the_key (omega arith) in
      ((addr_at the_key, same, detection_sent start.mac mac (addr_at the_key) (sixteen the_key)), (addr_at the_key, same, defence_sent start.mac mac false (addr_at the_key) (sixteen the_key)))

  -- two nodes start, the first forms the address and sends a solicitation, which comes to the second; it holds the address after 4 ms
  abbrev pub begun : Log
  begun = Begins 1 start ∷ Begins 0 start ∷ []

  abbrev formed : Log
  formed = Adds 0 0 (Address the_key (Formed 0 4 None)) ∷ begun

  abbrev soliciting : Log
  soliciting = Adds 0 0 (Address the_key Solicited) ∷ formed

  abbrev sending : Log
  sending = Adds 0 0 (Sent solicitation) ∷ soliciting

  abbrev carried : Log
  carried = Carries 1 1 0 ∷ sending

  abbrev pub held : Log
  held = Adds 0 4 (Address the_key Assigned) ∷ carried

  -- then the second node forms it and sends a solicitation, which comes to the first after 2 ms; the answer would come after 2 ms more
  abbrev formed_again : Log
  formed_again = Adds 1 4 (Address the_key (Formed 0 4 None)) ∷ held

  abbrev soliciting_again : Log
  soliciting_again = Adds 1 4 (Address the_key Solicited) ∷ formed_again

  abbrev sending_again : Log
  sending_again = Adds 1 4 (Sent solicitation) ∷ soliciting_again

  abbrev carried_back : Log
  carried_back = Carries 0 6 1 ∷ sending_again

  abbrev answering : Log
  answering = Adds 0 6 (Sent answer) ∷ carried_back

  abbrev pub held_twice : Log
  held_twice = Adds 1 8 (Address the_key Assigned) ∷ answering

  -- ---- moments, and who is there

  pub rising : Rising held
  rising = (omega arith, (omega arith, (omega arith, (omega arith, (omega (arith, first), (omega arith, (omega arith, tt)))))))

  rising_twice : Rising held_twice
  rising_twice = (omega arith, (omega arith, (omega arith, (omega arith, (omega arith, (omega arith, rising))))))

  pub there : RowsThere held
  there = (refl, (refl, (refl, (refl, tt))))

  there_twice : RowsThere held_twice
  there_twice = (refl, (refl, (refl, (refl, (refl, there)))))

  -- ---- how each came to hold it

  abbrev first_attempt : Attempt 0 the_key
  first_attempt = record {
    formed = 0;
    delay = 0;
    retrans = 4;
    lifetimes = None;
    below = begun;
    assigned = 4;
    over = carried;
    formed_at = inr (inr (inr (inl refl)));
    trying = since_more formed (Carries 1 1 0) sending (λ e. IsTrying 0 the_key e) refl
        (since_more formed (Adds 0 0 (Sent solicitation)) soliciting (λ e. IsTrying 0 the_key e) refl
        (since_more formed (Adds 0 0 (Address the_key Solicited)) formed (λ e. IsTrying 0 the_key e) refl
        (since_here (Adds 0 0 (Address the_key (Formed 0 4 None))) begun (λ e. IsTrying 0 the_key e) refl)));
  }

  pub tried_first : (d : Log) → Since held (λ e. Holds 0 the_key e) d → Past held d → Tried 0 the_key d
  tried_first d since p = record {
    attempt = first_attempt;
    ended = p;
    solicited = (0, solicitation, soliciting, record { rest = (0, Address the_key (Formed 0 4 None)) ∷ []; row = refl; sends = inr (inl refl); since = inr (inl refl) });
    each = λ at frame earlier s. at_place (Early 0 the_key 4 4) (Adds 0 at (Sent frame) ∷ earlier) carried s.sends (tt, ((λ same. (meanings.0, omega arith)), (tt, (tt, (tt, (tt, tt)))))) refl;
    since = since;
  }

  abbrev second_attempt : Attempt 1 the_key
  second_attempt = record {
    formed = 4;
    delay = 0;
    retrans = 4;
    lifetimes = None;
    below = held;
    assigned = 8;
    over = answering;
    formed_at = inr (inr (inr (inr (inl refl))));
    trying = since_more formed_again (Adds 0 6 (Sent answer)) carried_back (λ e. IsTrying 1 the_key e) refl
        (since_more formed_again (Carries 0 6 1) sending_again (λ e. IsTrying 1 the_key e) refl
        (since_more formed_again (Adds 1 4 (Sent solicitation)) soliciting_again (λ e. IsTrying 1 the_key e) refl
        (since_more formed_again (Adds 1 4 (Address the_key Solicited)) formed_again (λ e. IsTrying 1 the_key e) refl
        (since_here (Adds 1 4 (Address the_key (Formed 0 4 None))) held (λ e. IsTrying 1 the_key e) refl))));
  }

  tried_second : (d : Log) → Since held_twice (λ e. Holds 1 the_key e) d → Past held_twice d → Tried 1 the_key d
  tried_second d since p = record {
    attempt = second_attempt;
    ended = p;
    solicited = (4, solicitation, soliciting_again, record { rest = (4, Address the_key (Formed 0 4 None)) ∷ []; row = refl; sends = inr (inr (inl refl)); since = inr (inl refl) });
    each = λ at frame earlier s. at_place (Early 1 the_key 4 8) (Adds 1 at (Sent frame) ∷ earlier) answering s.sends (
      (λ same. absurd (omega (arith, same))),
      (tt, ((λ same. (meanings.0, omega arith)), (tt, (tt, (tt, (tt, ((λ same. absurd (omega (arith, same))), (tt, (tt, (tt, (tt, tt))))))))))),
    ) refl;
    since = since;
  }

  pub since_held : Since held (λ e. Holds 0 the_key e) held
  since_held = since_here (Adds 0 4 (Address the_key Assigned)) carried (λ e. Holds 0 the_key e) refl

  since_held_on : Since held (λ e. Holds 0 the_key e) held_twice
  since_held_on =
      since_more held (Adds 1 8 (Address the_key Assigned)) answering (λ e. Holds 0 the_key e) refl
      (since_more held (Adds 0 6 (Sent answer)) carried_back (λ e. Holds 0 the_key e) refl
      (since_more held (Carries 0 6 1) sending_again (λ e. Holds 0 the_key e) refl
      (since_more held (Adds 1 4 (Sent solicitation)) soliciting_again (λ e. Holds 0 the_key e) refl
      (since_more held (Adds 1 4 (Address the_key Solicited)) formed_again (λ e. Holds 0 the_key e) refl
      (since_more held (Adds 1 4 (Address the_key (Formed 0 4 None))) held (λ e. Holds 0 the_key e) refl since_held)))))

  -- ---- what the frames brought

  -- the second node has no address yet
  first_brings : Brings carried 1 1 0 sending
  first_brings = record {
    sender = 0;
    sent_at = 0;
    frame = solicitation;
    is_frame = record { before = soliciting; there = inl refl; number_is = refl };
    answers = λ key tries holds. absurd (true≢false (sym holds));
    clashes = λ key says trying. absurd (true≢false (sym trying));
  }

  -- the first one answers for its own
  abbrev told : Bool → Story
  told own =
      if own then (4, Assigned) ∷ (if own then (0, Solicited) ∷ (if own then (0, Formed 0 4 None) ∷ [] else []) else (if own then (0, Formed 0 4 None) ∷ [] else []))
      else (if own then (0, Solicited) ∷ (if own then (0, Formed 0 4 None) ∷ [] else []) else (if own then (0, Formed 0 4 None) ∷ [] else []))

  not_trying : (own : Bool) → is_tentative (told own) ≡ true → ⊥
  not_trying true e = true≢false (sym e)
  not_trying false e = true≢false (sym e)

  -- no other address is assigned
  abbrev IsTheKey : Log → Type 0
  IsTheKey (Adds node at (Address key Assigned) ∷ over) = the_key ≡ key
  IsTheKey _ = Unit {0}

  key_of : (at : ℕ) (key node : ℕ) (over : Log) → Past (Adds node at (Address key Assigned) ∷ over) sending_again → the_key ≡ key
  key_of at key node over p =
      at_place IsTheKey (Adds node at (Address key Assigned) ∷ over) sending_again p (tt, (tt, (tt, (refl, (tt, (tt, (tt, (tt, (tt, (tt, tt))))))))))

  second_brings : Brings answering 0 6 1 sending_again
  second_brings = record {
    sender = 1;
    sent_at = 4;
    frame = solicitation;
    is_frame = record { before = soliciting_again; there = inl refl; number_is = refl };
    answers = λ key tries holds.
        let row = assigned_row key 0 sending_again holds in
        let same : the_key ≡ key = key_of row.0 key 0 row.1 row.2 in
        let answers : Answers answering sending_again 0 6 1 answer = record { rows = []; sends = inl refl } in
        (answer, subst (λ (n : ℕ). Claims n answer) same meanings.1, answers);
    clashes = λ key says trying. absurd (not_trying (the_key == key) trying);
  }

  none : AllBring sending
  none i at number before p = absurd (at_place NoneCarried (Carries i at number ∷ before) sending p (tt, (tt, (tt, (tt, (tt, tt))))))

  pub bring : AllBring held
  bring = bring_with 0 ((4, Address the_key Assigned) ∷ []) carried (bring_carried 1 1 0 [] sending none first_brings)

  bring_twice : AllBring held_twice
  bring_twice =
      bring_with 1 ((8, Address the_key Assigned) ∷ []) answering
      (bring_carried 0 6 1 ((6, Sent answer) ∷ []) sending_again
      (bring_with 1 ((4, Sent solicitation) ∷ (4, Address the_key Solicited) ∷ (4, Address the_key (Formed 0 4 None)) ∷ []) held bring) second_brings)

  -- ---- both are sound, and their frames arrive

  pub sound_once : IsSound held
  sound_once = sound_by held rising there bring ((λ d p q. tried_first d (λ e r. since_held e (past_then e d held r p)) q), (tt, (tt, (tt, (tt, (tt, (tt, tt)))))))
      (tt, (tt, (tt, (tt, (refl, (tt, (tt, tt)))))))

  pub sound_twice : IsSound held_twice
  sound_twice = sound_by held_twice rising_twice there_twice bring_twice (
    (λ d p q. tried_second d (λ e r. since_here (Adds 1 8 (Address the_key Assigned)) answering (λ x. Holds 1 the_key x) refl e (past_then e d held_twice r p)) q),
    (tt, (tt, (tt, (tt, (tt, ((λ d p q. tried_first d (λ e r. since_held_on e (past_then e d held_twice r p)) q), (tt, (tt, (tt, (tt, (tt, (tt, tt)))))))))))),
  ) (tt, (tt, (tt, (tt, (tt, (refl, (tt, (tt, (tt, (tt, (refl, (tt, (tt, tt)))))))))))))

  -- no others are there
  pub who : (i : ℕ) (second first : Bool) → (1 == i) ≡ second → (0 == i) ≡ first → is_some (if second then Some start else if first then Some start else None) ≡ true → (i ≡ 1) ⊎ (i ≡ 0)
  who i true first e f some = inl (sym ((Decides-eqb 1 i).0 e))
  who i false true e f some = inr (sym ((Decides-eqb 0 i).0 f))
  who i false false e f some = absurd (true≢false (sym some))

  to_second : (log : Log) (within i : ℕ) → Past carried log → 1 ≤ within → i ≢ 0 → is_some (start_of i soliciting) ≡ true → Arrives log i 0 0 within
  to_second log within i p le other some = ⊎_elim
      (λ is. subst (λ (n : ℕ). Arrives log n 0 0 within) (sym is) (record { at = 1; before = sending; carried = p; not_before = omega arith; in_time = omega (arith, le) }))
      (λ is. absurd (other is)) (who i (1 == i) (0 == i) refl refl some)

  to_first : (i : ℕ) → i ≢ 1 → is_some (start_of i soliciting_again) ≡ true → Arrives held_twice i 1 4 2
  to_first i other some = ⊎_elim
      (λ is. absurd (other is))
      (λ is. subst (λ (n : ℕ). Arrives held_twice n 1 4 2) (sym is) (record { at = 6; before = sending_again; carried = inr (inr (inl refl)); not_before = omega arith; in_time = omega arith }))
      (who i (1 == i) (0 == i) refl refl some)

  pub carried_once : Arrives held 1 0 0 1
  carried_once = record { at = 1; before = sending; carried = inr (inl refl); not_before = omega arith; in_time = omega arith }

  pub arrive_once : AllArrive 1 held
  arrive_once = all_arrive held 1 (tt, (tt, ((λ late i other some. to_second held 1 i (inr (inl refl)) (omega arith) other some), (tt, (tt, (tt, (tt, tt)))))))

  pub arrive_twice : AllArrive 2 held_twice
  arrive_twice = all_arrive held_twice 2 (
    tt,
    (
      (λ late i other some. absurd (omega (arith, late))),
      (
        tt,
        (
          (λ late i other some. to_first i other some),
          (
            tt,
            (
              tt,
              (
                tt,
                (
                  tt,
                  ((λ late i other some. to_second held_twice 2 i (inr (inr (inr (inr (inr (inr (inr (inl refl)))))))) (omega arith) other some), (tt, (tt, (tt, (tt, tt))))),
                ),
              ),
            ),
          ),
        ),
      ),
    ),
  )

  pub wait_twice : AllWait 4 held_twice
  wait_twice = all_wait held_twice 4 (tt, (tt, (tt, (tt, (tt, (omega arith, (tt, (tt, (tt, (tt, (omega arith, (tt, (tt, tt)))))))))))))

  pub timely_once : IsTimely 1 held
  timely_once = record {
    arrives = arrive_once;
    waits = λ node at key delay retrans lifetimes before p.
        let le = all_wait held 4 (tt, (tt, (tt, (tt, (omega arith, (tt, (tt, tt))))))) node at key delay retrans lifetimes before p in omega (arith, le);
  }
