-- The last so many of a list to which one is added.
use Rattle.std.proofs.Common.{◌≡◌, Bool, ℕ, ◌-◌, ◌≤◌, List, [], ◌∷◌, ◌++◌, length, refl, sym, ◌∙◌, ap, arith, suc, inl, inr, length-append, length-drop, None}
use Rattle.std.specs.Prelude.{slice_get, if◌then◌else◌}
use Rattle.std.specs.Option.{option_to_list}
use Rattle.std.proofs.lemmas.Bool.{cases_lt, lt-ltb, le-ltb}
use Rattle.circular_buffer.specs.Buffer.{keep_last}
use Rattle.nd_neighbour.specs.History.{Story, Waits}
use Rattle.nd_packet.specs.Waiting.{replaced, then_waits}
use Rattle.nd_neighbour.specs.AddressResolution.{packets_of, resolution_of, room_in, waiting_of}

module _ {X : Type 0} where
  pub keep_short : (n : ℕ) (xs : List X) → length xs ≤ n → keep_last n xs ≡ xs
  keep_short n xs le = let e : length xs - n ≡ 0 = omega arith in rw e refl

  keep_long : (n : ℕ) (x : X) (xs : List X) → n ≤ length xs → keep_last n (x ∷ xs) ≡ keep_last n xs
  keep_long n x xs le = let e : length (x ∷ xs) - n ≡ suc (length xs - n) = omega arith in rw e refl

  -- it is enough to keep the last ones all the time
  pub keep_more : (n : ℕ) (xs : List X) (p : X) → keep_last n (keep_last n xs ++ p ∷ []) ≡ keep_last n (xs ++ p ∷ [])
  keep_more n [] p = ap (λ (l : List X). keep_last n (l ++ p ∷ [])) (keep_short n [] (omega arith))
  keep_more n (x ∷ xs) p = elim (cases_lt (length xs) n) [
    | inl lt ↦ ap (λ (l : List X). keep_last n (l ++ p ∷ [])) (keep_short n (x ∷ xs) (omega arith))
    | inr ge ↦ ap (λ (l : List X). keep_last n (l ++ p ∷ [])) (keep_long n x xs ge)
        ∙ (keep_more n xs p ∙ sym (keep_long n x (xs ++ p ∷ []) (omega (arith, length-append xs (p ∷ [])))))
  ]

-- where there is no room, the first one goes
all_full : (room : ℕ) (waiting : List (List ℕ)) (packet : List ℕ) → length waiting ≡ room → waiting ++ packet ∷ [] ≡ option_to_list (slice_get (waiting ++ packet ∷ []) 0) ++ keep_last room (waiting ++ packet ∷ [])
all_full room [] packet full = let e : 1 - room ≡ 1 = omega (arith, full) in rw e refl
all_full room (a ∷ more) packet full =
    let e : length ((a ∷ more) ++ packet ∷ []) - room ≡ 1 = omega (arith, full, length-append more (packet ∷ [])) in rw e refl

-- a packet that comes to wait, and those that waited, are those that wait then and the one that had to make room
pub nothing_lost : (room : ℕ) (waiting : List (List ℕ)) (packet : List ℕ) → length waiting ≤ room → waiting ++ packet ∷ [] ≡ option_to_list (replaced room waiting packet) ++ then_waits room waiting packet
nothing_lost room waiting packet few = elim (cases_lt (length waiting) room) [
  | inl lt ↦
      sym (ap (λ (b : Bool). option_to_list (if b then None else slice_get (waiting ++ packet ∷ []) 0) ++ keep_last room (waiting ++ packet ∷ [])) (lt-ltb (length waiting) room lt)
      ∙ keep_short room (waiting ++ packet ∷ []) (omega (arith, lt, length-append waiting (packet ∷ []))))
  | inr ge ↦
      all_full room waiting packet (omega (arith, few, ge))
      ∙ sym (ap (λ (b : Bool). option_to_list (if b then None else slice_get (waiting ++ packet ∷ []) 0) ++ keep_last room (waiting ++ packet ∷ [])) (le-ltb (length waiting) room ge))
]

last_few : (n : ℕ) (xs : List (List ℕ)) → length (keep_last n xs) ≤ n
last_few n xs = omega (arith, length-drop (length xs - n) xs)

-- no more wait than there is room for
pub few_wait : (s : Story) → length (waiting_of s) ≤ room_in (resolution_of s)
few_wait s = last_few (room_in (resolution_of s)) (packets_of s)

-- the same of what happened
pub none_lost : (s : Story) (at : ℕ) (packet : List ℕ) → waiting_of s ++ packet ∷ [] ≡ option_to_list (replaced (room_in (resolution_of s)) (waiting_of s) packet) ++ waiting_of ((at, Waits packet) ∷ s)
none_lost s at packet =
    let room = room_in (resolution_of s) in
    nothing_lost room (waiting_of s) packet (few_wait s)
    ∙ ap (λ (l : List (List ℕ)). option_to_list (replaced room (waiting_of s) packet) ++ l) (keep_more room (packets_of s) packet)
