-- No entry has room for more packets than the limit, for all that happens to the neighbours.
use Rattle.std.proofs.Common.{◌≡◌, ℕ, zero, suc, ◌<◌, ◌≤◌, Bool, cond, eqb, List, [], ◌∷◌, length, get_or, set, Option, Some, None, sym, subst, arith, false, Result, Ok, Err}
use Rattle.std.specs.Prelude.{nat_le, OnOk, OnErr}
use Rattle.std.specs.List.{remove, insert}
use Rattle.std.proofs.lemmas.Bool.{cond_both}
use Rattle.nd_neighbour.specs.declared.unreachability_detection.Probing.{Probing}
use Rattle.nd_neighbour.specs.EntryKept.{NeighbourEntry, Stage, Resolving, Known, with_mark, stale_entry}
use Rattle.nd_neighbour.specs.Rings.{room_of, RoomWithin}
use Rattle.nd_neighbour.specs.TableKept.{place_in, Alters, NotThere, There}
use Rattle.nd_neighbour.specs.PlaceKept.{Places, Enough, Went, Gives, Was, Came}
use Rattle.nd_neighbour.specs.LinkLayerAddressKept.{given, given_to, mark_or}
use Rattle.nd_neighbour.specs.ReachabilityConfirmationKept.{confirmed}
use Rattle.nd_neighbour.specs.SendingKept.{known_used, used, used_to}
use Rattle.nd_neighbour.specs.WantingKept.{wished, wished_to}

module _ (room : ℕ) where
  fits_cond : (b : Bool) (n m : NeighbourEntry) → room_of n.stage ≤ room → room_of m.stage ≤ room → room_of (cond b n m).stage ≤ room
  fits_cond b n m h k = cond_both b n m (λ e. room_of e.stage ≤ room) (λ _. h) (λ _. k)

  -- ---- the lists

  fits_at : (ns : List NeighbourEntry) (i : ℕ) (n : NeighbourEntry) → i < length ns → n ≡ get_or ns i n → RoomWithin room ns → room_of n.stage ≤ room
  fits_at [] i n lt is h = absurd (omega arith)
  fits_at (m ∷ ns) zero n lt is h = subst (λ e. room_of e.stage ≤ room) (sym is) h.0
  fits_at (m ∷ ns) (suc i) n lt is h = fits_at ns i n (omega (arith, lt)) is h.1

  within_set : (ns : List NeighbourEntry) (i : ℕ) (m : NeighbourEntry) → room_of m.stage ≤ room → RoomWithin room ns → RoomWithin room (set ns i m)
  within_set [] i m fit h = h
  within_set (n ∷ ns) zero m fit h = (fit, h.1)
  within_set (n ∷ ns) (suc i) m fit h = (h.0, within_set ns i m fit h.1)

  within_insert : (ns : List NeighbourEntry) (i : ℕ) (m : NeighbourEntry) → room_of m.stage ≤ room → RoomWithin room ns → RoomWithin room (insert ns i m)
  within_insert [] zero m fit h = (fit, tt)
  within_insert [] (suc i) m fit h = (fit, tt)
  within_insert (n ∷ ns) zero m fit h = (fit, h)
  within_insert (n ∷ ns) (suc i) m fit h = (h.0, within_insert ns i m fit h.1)

  within_remove : (ns : List NeighbourEntry) (i : ℕ) → RoomWithin room ns → RoomWithin room (remove ns i)
  within_remove [] zero h = tt
  within_remove [] (suc i) h = tt
  within_remove (n ∷ ns) zero h = h.1
  within_remove (n ∷ ns) (suc i) h = (h.0, within_remove ns i h.1)

  -- ---- an entry

  given_fits : (at mac : ℕ) (router : Bool) (n : NeighbourEntry) (k : Stage) → room_of n.stage ≤ room → room_of (given_to k n at mac router).stage ≤ room
  given_fits at mac router n (Resolving retrans sent wanted waiting) h = omega arith
  given_fits at mac router n (Known known confirmed since probing) h = fits_cond (eqb mac known) (with_mark router n) (stale_entry n.key router at mac) h (omega arith)

  known_fits : (mac : ℕ) (confirmed : Bool) (since : ℕ) (probing : Option Probing) (at retrans : ℕ) (n : NeighbourEntry) → room_of n.stage ≤ room → room_of (known_used mac confirmed since probing at retrans n).stage ≤ room
  known_fits mac confirmed since None at retrans n h = fits_cond (nat_le since at) _ _ (omega arith) h
  known_fits mac confirmed since (Some p) at retrans n h = h

  used_fits : (at retrans : ℕ) (packet : List ℕ) (n : NeighbourEntry) (k : Stage) → room_of k ≤ room → room_of n.stage ≤ room → room_of (used_to k at retrans packet n).stage ≤ room
  used_fits at retrans packet n (Resolving r t b ws) k h = k
  used_fits at retrans packet n (Known mac c since p) k h = known_fits mac c since p at retrans n h

  wished_fits : (at retrans : ℕ) (n : NeighbourEntry) (k : Stage) → room_of k ≤ room → room_of n.stage ≤ room → room_of (wished_to k at retrans n).stage ≤ room
  wished_fits at retrans n (Resolving r t b ws) k h = k
  wished_fits at retrans n (Known mac c since p) k h = known_fits mac c since p at retrans n h

  -- ---- the table

  altered_within : (key : ℕ) (change : NeighbourEntry → NeighbourEntry) (old new : List NeighbourEntry) → ((n : NeighbourEntry) → room_of n.stage ≤ room → room_of (change n).stage ≤ room) → Alters key change old new → RoomWithin room old → RoomWithin room new
  altered_within key change old new keeps (NotThere none is) h = subst (RoomWithin room) (sym is) h
  altered_within key change old new keeps (There i n lt at_i found is) h = subst (RoomWithin room) (sym is) (within_set old i (change n) (keeps n (fits_at old i n lt at_i h)) h)

  placed_within : (limit now : ℕ) (old new : List NeighbourEntry) → Places limit now old new → RoomWithin room old → RoomWithin room new
  placed_within limit now old new (Enough lt is) h = subst (RoomWithin room) (sym is) h
  placed_within limit now old new (Went i n many lt at_i stalest is) h = subst (RoomWithin room) (sym is) (within_remove old i h)

  given_within : (limit now key : ℕ) (change : NeighbourEntry → NeighbourEntry) (m : NeighbourEntry) (old new : List NeighbourEntry) → ((n : NeighbourEntry) → room_of n.stage ≤ room → room_of (change n).stage ≤ room) → room_of m.stage ≤ room → Gives limit now key change m old new → RoomWithin room old → RoomWithin room new
  given_within limit now key change m old new keeps fit (Was n found alters) h = altered_within key change old new keeps alters h
  given_within limit now key change m old new keeps fit (Came mid absent places is) h =
      subst (RoomWithin room) (sym is) (within_insert mid (place_in m.key mid) m fit (placed_within limit now old mid places h))

  -- a message gives an address
  given_in : (limit now key mac : ℕ) (mark : Option Bool) (old new : List NeighbourEntry) → Gives limit now key (λ n. given now mac mark n) (stale_entry key (mark_or mark false) now mac) old new → RoomWithin room old → RoomWithin room new
  given_in limit now key mac mark old new gives h =
      given_within limit now key (λ n. given now mac mark n) (stale_entry key (mark_or mark false) now mac) old new (λ n fit. given_fits now mac (mark_or mark n.router) n n.stage fit) (omega arith) gives h

  pub news_within : {X E : Type 0} (limit now key mac : ℕ) (mark : Option Bool) (old new : List NeighbourEntry) (r : Result X E) → OnOk r (Gives limit now key (λ n. given now mac mark n) (stale_entry key (mark_or mark false) now mac) old new) → OnErr r (new ≡ old) → RoomWithin room old → RoomWithin room new
  news_within limit now key mac mark old new (Ok x) gives same h = given_in limit now key mac mark old new gives h
  news_within limit now key mac mark old new (Err e) gives same h = subst (RoomWithin room) (sym same) h

  -- a message that gives none
  pub marked_within : (key : ℕ) (router : Bool) (old new : List NeighbourEntry) → Alters key (λ n. with_mark router n) old new → RoomWithin room old → RoomWithin room new
  marked_within key router old new alters h = altered_within key (λ n. with_mark router n) old new (λ n fit. fit) alters h

  pub begun_within : (limit now key retrans : ℕ) (packet : List ℕ) (m : NeighbourEntry) (old new : List NeighbourEntry) → room_of m.stage ≤ room → Gives limit now key (λ n. used now retrans packet n) m old new → RoomWithin room old → RoomWithin room new
  begun_within limit now key retrans packet m old new fit gives h =
      given_within limit now key (λ n. used now retrans packet n) m old new (λ n fits. used_fits now retrans packet n n.stage fits fits) fit gives h

  pub begun_by_wish_within : (limit now key retrans : ℕ) (m : NeighbourEntry) (old new : List NeighbourEntry) → room_of m.stage ≤ room → Gives limit now key (λ n. wished now retrans n) m old new → RoomWithin room old → RoomWithin room new
  begun_by_wish_within limit now key retrans m old new fit gives h =
      given_within limit now key (λ n. wished now retrans n) m old new (λ n fits. wished_fits now retrans n n.stage fits fits) fit gives h
