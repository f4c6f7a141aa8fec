-- A log in which a frame is lost and the link still loses little, and one in which all solicitations of an attempt are lost, and two nodes hold an
-- address.
use Rattle.std.proofs.Common.{◌≡◌, ◌≢◌, inl, inr, ℕ, true, List, [], ◌∷◌, None, refl, sym, ◌∙◌, subst, arith, ⊎_elim}
use Rattle.std.specs.Prelude.{◌==◌, is_some}
use Rattle.std.proofs.lemmas.Bool.{true≢false}
use Rattle.nd_addr.specs.Bytes.{AreBytes}
use Rattle.nd_table.specs.History.{Past}
use Rattle.nd_table.proofs.Pasts.{past_then}
use Rattle.nd_slaac.specs.History.{Assigned, Formed, Solicited}
use Rattle.nd_chronicle.specs.Start.{Start}
use Rattle.nd_chronicle.specs.Happening.{Address, Sent}
use Rattle.nd_link_log.specs.Log.{Log, Adds, Carries, chronicle_of, start_of}
use Rattle.nd_link_log.specs.Holding.{AllWait, Arrives, Holds, IsTrying}
use Rattle.nd_link_log.specs.Attempt.{Attempt, Solicitation, beginning_of, ending_of}
use Rattle.nd_link_log.specs.Losing.{LosesLittle, Reaches}
use Rattle.nd_link_log.specs.Sound.{Brings, IsSound, Tried}
use Rattle.nd_link_log.proofs.Bound.{Early, NoneCarried, all_wait, begun, bring, held, meanings, rising, since_held, solicitation, sound_by, the_key, there, tried_first, who}
use Rattle.nd_link_log.proofs.Carried.{AllBring, bring_carried, bring_with}
use Rattle.nd_link_log.proofs.Moments.{Rising}
use Rattle.nd_link_log.proofs.Nodes.{RowsThere}
use Rattle.nd_link_log.proofs.Places.{Since, at_place, since_here, since_more}

module _ (start : Start) (first : start.at ≡ 0) (mac : AreBytes 6 start.mac.0) where
  abbrev sol : List ℕ
  sol = solicitation start first mac

  -- ---- of three solicitations the second arrives

  abbrev formed : Log
  formed = Adds 0 0 (Address the_key (Formed 0 4 None)) ∷ begun start first mac

  abbrev soliciting : Log
  soliciting = Adds 0 0 (Address the_key Solicited) ∷ formed

  abbrev sending : Log
  sending = Adds 0 0 (Sent sol) ∷ soliciting

  abbrev soliciting_second : Log
  soliciting_second = Adds 0 4 (Address the_key Solicited) ∷ sending

  abbrev sending_second : Log
  sending_second = Adds 0 4 (Sent sol) ∷ soliciting_second

  abbrev carried : Log
  carried = Carries 1 5 1 ∷ sending_second

  abbrev soliciting_third : Log
  soliciting_third = Adds 0 8 (Address the_key Solicited) ∷ carried

  abbrev sending_third : Log
  sending_third = Adds 0 8 (Sent sol) ∷ soliciting_third

  abbrev pub held_with_losses : Log
  held_with_losses = Adds 0 12 (Address the_key Assigned) ∷ sending_third

  rising_with_losses : Rising held_with_losses
  rising_with_losses =
      (omega arith, (omega arith, (omega arith, (omega arith, (omega arith, (omega arith, (omega arith, (omega arith, (omega (arith, first), (omega arith, (omega arith, tt)))))))))))

  there_with_losses : RowsThere held_with_losses
  there_with_losses = (refl, (refl, (refl, (refl, (refl, (refl, (refl, (refl, tt))))))))

  abbrev the_attempt : Attempt 0 the_key
  the_attempt = record {
    formed = 0;
    delay = 0;
    retrans = 4;
    lifetimes = None;
    below = begun start first mac;
    assigned = 12;
    over = sending_third;
    formed_at = inr (inr (inr (inr (inr (inr (inr (inl refl)))))));
    trying =
        since_more formed (Adds 0 8 (Sent sol)) soliciting_third (λ e. IsTrying 0 the_key e) refl
        (since_more formed (Adds 0 8 (Address the_key Solicited)) carried (λ e. IsTrying 0 the_key e) refl
        (since_more formed (Carries 1 5 1) sending_second (λ e. IsTrying 0 the_key e) refl
        (since_more formed (Adds 0 4 (Sent sol)) soliciting_second (λ e. IsTrying 0 the_key e) refl
        (since_more formed (Adds 0 4 (Address the_key Solicited)) sending (λ e. IsTrying 0 the_key e) refl
        (since_more formed (Adds 0 0 (Sent sol)) soliciting (λ e. IsTrying 0 the_key e) refl
        (since_more formed (Adds 0 0 (Address the_key Solicited)) formed (λ e. IsTrying 0 the_key e) refl
        (since_here (Adds 0 0 (Address the_key (Formed 0 4 None))) (begun start first mac) (λ e. IsTrying 0 the_key e) refl)))))));
  }

  second_one : Solicitation the_attempt 4 sol soliciting_second
  second_one = record {
    rest = (0, Sent sol) ∷ (0, Address the_key Solicited) ∷ (0, Address the_key (Formed 0 4 None)) ∷ [];
    row = refl;
    sends = inr (inr (inr (inl refl)));
    since = inr (inr (inr (inl refl)));
  }

  tried_with_losses : (d : Log) → Since held_with_losses (λ e. Holds 0 the_key e) d → Past held_with_losses d → Tried 0 the_key d
  tried_with_losses d since p = record {
    attempt = the_attempt;
    ended = p;
    solicited = (4, sol, soliciting_second, second_one);
    each = λ at frame earlier s. at_place (Early 0 the_key 4 12) (Adds 0 at (Sent frame) ∷ earlier) sending_third s.sends (
      (λ same. ((meanings start first mac).0, omega arith)),
      (tt, (tt, ((λ same. ((meanings start first mac).0, omega arith)), (tt, ((λ same. ((meanings start first mac).0, omega arith)), (tt, (tt, (tt, (tt, tt))))))))),
    ) refl;
    since = since;
  }

  -- the other node has no address
  second_brings : Brings carried 1 5 1 sending_second
  second_brings = record {
    sender = 0;
    sent_at = 4;
    frame = sol;
    is_frame = record { before = soliciting_second; there = inl refl; number_is = refl };
    answers = λ key tries holds. absurd (true≢false (sym holds));
    clashes = λ key says trying. absurd (true≢false (sym trying));
  }

  none : AllBring sending_second
  none i at number before p = absurd (at_place NoneCarried (Carries i at number ∷ before) sending_second p (tt, (tt, (tt, (tt, (tt, (tt, (tt, tt))))))))

  bring_with_losses : AllBring held_with_losses
  bring_with_losses =
      bring_with 0 ((12, Address the_key Assigned) ∷ (8, Sent sol) ∷ (8, Address the_key Solicited) ∷ []) carried (bring_carried 1 5 1 [] sending_second none second_brings)

  pub sound_with_losses : IsSound held_with_losses
  sound_with_losses = sound_by held_with_losses rising_with_losses there_with_losses bring_with_losses (
    (λ d p q. tried_with_losses d (λ e r. since_here (Adds 0 12 (Address the_key Assigned)) sending_third (λ x. Holds 0 the_key x) refl e (past_then e d held_with_losses r p)) q),
    (tt, (tt, (tt, (tt, (tt, (tt, (tt, (tt, (tt, (tt, tt)))))))))),
  ) (tt, (tt, (tt, (tt, (tt, (tt, (tt, (tt, (refl, (tt, (tt, tt)))))))))))

  -- ---- it loses little

  -- there is one attempt
  abbrev IsItsEnd : Log → Type 0
  IsItsEnd (Adds node at (Address key Assigned) ∷ over) = (0 ≡ node) × (the_key ≡ key) × (over ≡ sending_third)
  IsItsEnd _ = Unit {0}

  abbrev IsItsBeginning : Log → Type 0
  IsItsBeginning (Adds node at (Address key (Formed delay retrans lifetimes)) ∷ below) =
      (Adds node at (Address key (Formed delay retrans lifetimes)) ∷ below ≡ formed) × (below ≡ begun start first mac)
  IsItsBeginning _ = Unit {0}

  -- and the other node answers nothing
  abbrev IsOfFirst : Log → Type 0
  IsOfFirst (Adds node at (Sent frame) ∷ before) = node ≡ 0
  IsOfFirst _ = Unit {0}

  module _ (node key : ℕ) (a : Attempt node key) (ended : Past (ending_of a) held_with_losses) (other : ℕ) (differ : other ≢ node) (here : is_some (start_of other a.below) ≡ true) where
    its_end : (0 ≡ node) × (the_key ≡ key) × (a.over ≡ sending_third)
    its_end = at_place IsItsEnd (ending_of a) held_with_losses ended ((refl, refl, refl), (tt, (tt, (tt, (tt, (tt, (tt, (tt, (tt, (tt, (tt, tt)))))))))))

    its_beginning : (beginning_of a ≡ formed) × (a.below ≡ begun start first mac)
    its_beginning = at_place IsItsBeginning (beginning_of a) sending_third (subst (Past (beginning_of a)) its_end.2 a.formed_at) (tt, (tt, (tt, (tt, (tt, (tt, (tt, ((refl, refl), (tt, (tt, tt))))))))))

    other_is : other ≡ 1
    other_is = ⊎_elim (λ is. is) (λ is. absurd (differ (is ∙ its_end.0)))
        (who start first mac other (1 == other) (0 == other) refl refl (subst (λ (x : Log). is_some (start_of other x) ≡ true) its_beginning.1 here))

    its_second : Solicitation a 4 sol soliciting_second
    its_second = record {
      rest = (0, Sent sol) ∷ (0, Address the_key Solicited) ∷ (0, Address the_key (Formed 0 4 None)) ∷ [];
      row = subst (λ (n : ℕ). chronicle_of n soliciting_second ≡ (4, Address key Solicited) ∷ (0, Sent sol) ∷ (0, Address the_key Solicited) ∷ (0, Address the_key (Formed 0 4 None)) ∷ []) its_end.0
          (subst (λ (k : ℕ). chronicle_of 0 soliciting_second ≡ (4, Address k Solicited) ∷ (0, Sent sol) ∷ (0, Address the_key Solicited) ∷ (0, Address the_key (Formed 0 4 None)) ∷ []) its_end.1 refl);
      sends = subst (λ (n : ℕ). Past (Adds n 4 (Sent sol) ∷ soliciting_second) a.over) its_end.0
          (subst (λ (x : Log). Past (Adds 0 4 (Sent sol) ∷ soliciting_second) x) (sym its_end.2) second_one.sends);
      since = subst (λ (x : Log). Past x soliciting_second) (sym its_beginning.0) second_one.since;
    }

    -- the second solicitation arrives, and nothing has to come back
    reached : Reaches held_with_losses 1 a other
    reached = record {
      at = 4;
      frame = sol;
      earlier = soliciting_second;
      solicitation = its_second;
      arrives = record {
        at = 5;
        before = sending_second;
        carried = subst (λ (n : ℕ). Past (Carries n 5 1 ∷ sending_second) held_with_losses) (sym other_is) (inr (inr (inr (inl refl))));
        not_before = omega arith;
        in_time = omega arith;
      };
      answered = λ answer rows claims sends.
          let first_one : other ≡ 0 = at_place IsOfFirst (Adds other 5 (Sent answer) ∷ _) held_with_losses sends (tt, (refl, (tt, (tt, (refl, (tt, (refl, (tt, (tt, (tt, (tt, tt))))))))))) in
          absurd (omega (arith, first_one, other_is));
    }

  pub loses_little : LosesLittle 1 held_with_losses
  loses_little = record {
    reaches = λ node key a ended other differ here. reached node key a ended other differ here;
    waits = λ node at key delay retrans lifetimes before p.
        let le = all_wait held_with_losses 4 (tt, (tt, (tt, (tt, (tt, (tt, (tt, (tt, (omega arith, (tt, (tt, tt))))))))))) node at key delay retrans lifetimes before p in omega (arith, le);
  }

  pub second_carried : Arrives held_with_losses 1 1 4 1
  second_carried = record { at = 5; before = sending_second; carried = inr (inr (inr (inl refl))); not_before = omega arith; in_time = omega arith }

  -- the others are lost
  abbrev IsSecond : Log → Type 0
  IsSecond (Carries node at number ∷ before) = number ≡ 1
  IsSecond _ = Unit {0}

  pub others_lost : (node at number : ℕ) (before : Log) → Past (Carries node at number ∷ before) held_with_losses → number ≡ 1
  others_lost node at number before p = at_place IsSecond (Carries node at number ∷ before) held_with_losses p (tt, (tt, (tt, (refl, (tt, (tt, (tt, (tt, (tt, (tt, (tt, tt)))))))))))

  -- ---- all three solicitations of the second node are lost

  abbrev again : Log
  again = held start first mac

  abbrev formed_again : Log
  formed_again = Adds 1 4 (Address the_key (Formed 0 4 None)) ∷ again

  abbrev trying_once : Log
  trying_once = Adds 1 4 (Sent sol) ∷ Adds 1 4 (Address the_key Solicited) ∷ formed_again

  abbrev trying_twice : Log
  trying_twice = Adds 1 8 (Sent sol) ∷ Adds 1 8 (Address the_key Solicited) ∷ trying_once

  abbrev soliciting_again : Log
  soliciting_again = Adds 1 12 (Address the_key Solicited) ∷ trying_twice

  abbrev trying_thrice : Log
  trying_thrice = Adds 1 12 (Sent sol) ∷ soliciting_again

  abbrev pub held_unheard : Log
  held_unheard = Adds 1 16 (Address the_key Assigned) ∷ trying_thrice

  rising_unheard : Rising held_unheard
  rising_unheard = (omega arith, (omega arith, (omega arith, (omega arith, (omega arith, (omega arith, (omega arith, (omega arith, rising start first mac))))))))

  there_unheard : RowsThere held_unheard
  there_unheard = (refl, (refl, (refl, (refl, (refl, (refl, (refl, (refl, there start first mac))))))))

  abbrev unheard_attempt : Attempt 1 the_key
  unheard_attempt = record {
    formed = 4;
    delay = 0;
    retrans = 4;
    lifetimes = None;
    below = again;
    assigned = 16;
    over = trying_thrice;
    formed_at = inr (inr (inr (inr (inr (inr (inl refl))))));
    trying =
        since_more formed_again (Adds 1 12 (Sent sol)) soliciting_again (λ e. IsTrying 1 the_key e) refl
        (since_more formed_again (Adds 1 12 (Address the_key Solicited)) trying_twice (λ e. IsTrying 1 the_key e) refl
        (since_more formed_again (Adds 1 8 (Sent sol)) (Adds 1 8 (Address the_key Solicited) ∷ trying_once) (λ e. IsTrying 1 the_key e) refl
        (since_more formed_again (Adds 1 8 (Address the_key Solicited)) trying_once (λ e. IsTrying 1 the_key e) refl
        (since_more formed_again (Adds 1 4 (Sent sol)) (Adds 1 4 (Address the_key Solicited) ∷ formed_again) (λ e. IsTrying 1 the_key e) refl
        (since_more formed_again (Adds 1 4 (Address the_key Solicited)) formed_again (λ e. IsTrying 1 the_key e) refl
        (since_here (Adds 1 4 (Address the_key (Formed 0 4 None))) again (λ e. IsTrying 1 the_key e) refl))))));
  }

  tried_unheard : (d : Log) → Since held_unheard (λ e. Holds 1 the_key e) d → Past held_unheard d → Tried 1 the_key d
  tried_unheard d since p = record {
    attempt = unheard_attempt;
    ended = p;
    solicited = (
      12,
      sol,
      soliciting_again,
      record {
        rest = (8, Sent sol) ∷ (8, Address the_key Solicited) ∷ (4, Sent sol) ∷ (4, Address the_key Solicited) ∷ (4, Address the_key (Formed 0 4 None)) ∷ [];
        row = refl;
        sends = inl refl;
        since = inr (inr (inr (inr (inr (inl refl)))));
      },
    );
    each = λ at frame earlier s. at_place (Early 1 the_key 4 16) (Adds 1 at (Sent frame) ∷ earlier) trying_thrice s.sends (
      (λ same. ((meanings start first mac).0, omega arith)),
      (
        tt,
        (
          (λ same. ((meanings start first mac).0, omega arith)),
          (tt, ((λ same. ((meanings start first mac).0, omega arith)), (tt, (tt, (tt, (tt, ((λ same. absurd (omega (arith, same))), (tt, (tt, (tt, (tt, tt))))))))))),
        ),
      ),
    ) refl;
    since = since;
  }

  since_held_on : Since again (λ e. Holds 0 the_key e) held_unheard
  since_held_on =
      since_more again (Adds 1 16 (Address the_key Assigned)) trying_thrice (λ e. Holds 0 the_key e) refl
      (since_more again (Adds 1 12 (Sent sol)) soliciting_again (λ e. Holds 0 the_key e) refl
      (since_more again (Adds 1 12 (Address the_key Solicited)) trying_twice (λ e. Holds 0 the_key e) refl
      (since_more again (Adds 1 8 (Sent sol)) (Adds 1 8 (Address the_key Solicited) ∷ trying_once) (λ e. Holds 0 the_key e) refl
      (since_more again (Adds 1 8 (Address the_key Solicited)) trying_once (λ e. Holds 0 the_key e) refl
      (since_more again (Adds 1 4 (Sent sol)) (Adds 1 4 (Address the_key Solicited) ∷ formed_again) (λ e. Holds 0 the_key e) refl
      (since_more again (Adds 1 4 (Address the_key Solicited)) formed_again (λ e. Holds 0 the_key e) refl
      (since_more again (Adds 1 4 (Address the_key (Formed 0 4 None))) again (λ e. Holds 0 the_key e) refl (since_held start first mac))))))))

  bring_unheard : AllBring held_unheard
  bring_unheard =
      bring_with 1 (
      (16, Address the_key Assigned) ∷ (12, Sent sol) ∷ (12, Address the_key Solicited) ∷ (8, Sent sol) ∷ (8, Address the_key Solicited) ∷ (4, Sent sol) ∷ (4, Address the_key Solicited)
      ∷ (4, Address the_key (Formed 0 4 None)) ∷ []
      ) again (bring start first mac)

  pub sound_unheard : IsSound held_unheard
  sound_unheard = sound_by held_unheard rising_unheard there_unheard bring_unheard (
    (λ d p q. tried_unheard d (λ e r. since_here (Adds 1 16 (Address the_key Assigned)) trying_thrice (λ x. Holds 1 the_key x) refl e (past_then e d held_unheard r p)) q),
    (tt, (tt, (tt, (tt, (tt, (tt, (tt, ((λ d p q. tried_first start first mac d (λ e r. since_held_on e (past_then e d held_unheard r p)) q), (tt, (tt, (tt, (tt, (tt, (tt, tt)))))))))))))),
  ) (tt, (tt, (tt, (tt, (tt, (tt, (tt, (refl, (tt, (tt, (tt, (tt, (refl, (tt, (tt, tt)))))))))))))))

  pub wait_unheard : AllWait 4 held_unheard
  wait_unheard = all_wait held_unheard 4 (tt, (tt, (tt, (tt, (tt, (tt, (tt, (omega arith, (tt, (tt, (tt, (tt, (omega arith, (tt, (tt, tt)))))))))))))))

  -- only the frame of the first node is carried, and that in time
  abbrev IsFirst : Log → Type 0
  IsFirst (Carries node at number ∷ before) = number ≡ 0
  IsFirst _ = Unit {0}

  pub unheard : (node at number : ℕ) (before : Log) → Past (Carries node at number ∷ before) held_unheard → number ≡ 0
  unheard node at number before p = at_place IsFirst (Carries node at number ∷ before) held_unheard p (tt, (tt, (tt, (tt, (tt, (tt, (tt, (tt, (tt, (refl, (tt, (tt, (tt, (tt, (tt, tt)))))))))))))))

  pub heard_once : Arrives held_unheard 1 0 0 1
  heard_once = record { at = 1; before = _; carried = inr (inr (inr (inr (inr (inr (inr (inr (inr (inl refl))))))))); not_before = omega arith; in_time = omega arith }
