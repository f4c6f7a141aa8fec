-- What an address that is given by hand, or withdrawn, makes of the chronicle that a node stands for.
use Rattle.std.proofs.Common.{◌≡◌, ℕ, ◌<◌, ◌≤◌, Bool, true, false, cond, ltb, List, [], ◌∷◌, ◌++◌, append-nil, length, Option, Some, None, Result, Ok, Err, refl, sym, ◌∙◌, ap, subst, arith, inl, inr}
use Rattle.std.specs.Prelude.{◌==◌, ◌&&◌, not, MatchBool}
use Rattle.std.proofs.lemmas.Bool.{cases_Bool}
use Rattle.rand_core.specs.Stream.{Stream}
use Rattle.nd_addr.specs.declared.addr.Addr.{Addr}
use Rattle.nd_addr.specs.declared.mac.Mac.{Mac}
use Rattle.nd_addr.specs.Number.{number_of}
use Rattle.nd_slaac.specs.declared.prefix_option.Taken.{Taken}
use Rattle.nd_slaac.specs.declared.prefix_option.Taken.TheVariants.{Formed, Renewed, Ignored}
use Rattle.nd_slaac.specs.declared.prefix_option.Full.{Full}
use Rattle.nd_slaac.specs.AddressKept.{Address as Address'}
use Rattle.nd_slaac.specs.ByHand.{AddressByHand}
use Rattle.nd_slaac.specs.Calls.{set_of, with_set}
use Rattle.nd_slaac.specs.Due.{NoneOverdue}
use Rattle.nd_slaac.specs.History as rows
use Rattle.nd_slaac.specs.History.{Lifetimes, story}
use Rattle.nd_slaac.specs.PrefixOption.{link_local_of}
use Rattle.nd_slaac.specs.Room.{HasRoomBy}
use Rattle.nd_slaac.specs.State.{is_known}
use Rattle.nd_slaac.specs.TableKept as addresses
use Rattle.nd_nexthop.specs.Memo.{forgotten}
use Rattle.nd_chronicle.specs.Start.{Start, link_local_key}
use Rattle.nd_chronicle.specs.Happening as happening
use Rattle.nd_chronicle.specs.Happening.{Address, Chronicle, Passed, Refusal, Refused, last_moment}
use Rattle.nd_chronicle.specs.Histories.{address_history, neighbour_history}
use Rattle.nd_chronicle.specs.InForce.{retrans_timer}
use Rattle.nd_chronicle.specs.OwnAddress.{refusal_unless_up, story_of}
use Rattle.nd_chronicle.specs.ByHand.{AddressAdds, FormsByHand, setting}
use Rattle.nd_chronicle.specs.RouterAdvertisement.{forming}
use Rattle.nd_chronicle.specs.Refused.{UnlessRefused}
use Rattle.nd_chronicle.specs.Event as events
use Rattle.nd_chronicle.specs.Told.{Told, items, items_at}
use Rattle.nd_chronicle.specs.Answer as answers
use Rattle.nd_chronicle.specs.Answer.{Done}
use Rattle.nd_out.specs.declared.out.Out.{Out}
use Rattle.nd_out.specs.Out.{happening as what_of}
use Rattle.nd_steps.specs.Outputs.{happenings}
use Rattle.nd_steps.proofs.Telling.{one, one_more}
use Rattle.nd_node.specs.declared.node.Node.{Node}
use Rattle.nd_node.specs.EventKept.{AddsEvent}
use Rattle.nd_node.specs.Frame.{AddsAlone}
use Rattle.nd_node.specs.NodeKept.{Stands, next_of}
use Rattle.nd_node.proofs.Beside.{Beside, Same, stands_addresses}
use Rattle.nd_node.proofs.Detections.{ByTable, Still}
use Rattle.nd_node.proofs.Steps.{passed}
use Rattle.nd_node.proofs.Turns.{addresses_before}

-- ---- what becomes of it tells how it was

abbrev did : Taken → Result Taken Full
did taken = Ok taken

formed_parts : (limit : ℕ) (itself known : Bool) (count : ℕ) → did Formed ≡ set_of limit itself known count → (itself ≡ false) × (known ≡ false) × (ltb count limit ≡ true)
formed_parts limit true known count h = absurd (let no : ⊥ = cc in no)
formed_parts limit false true count h = absurd (let no : ⊥ = cc in no)
formed_parts limit false false count h = elim (cases_Bool (ltb count limit)) [
  | inl room ↦ (refl, refl, room)
  | inr full ↦ let e : did Formed ≡ Err (record {}) = rw full at h in absurd (let no : ⊥ = cc in no)
]

renewed_parts : (limit : ℕ) (itself known : Bool) (count : ℕ) → did Renewed ≡ set_of limit itself known count → (itself ≡ false) × (known ≡ true)
renewed_parts limit true known count h = absurd (let no : ⊥ = cc in no)
renewed_parts limit false true count h = (refl, refl)
renewed_parts limit false false count h = elim (cases_Bool (ltb count limit)) [
  | inl room ↦ let e : did Renewed ≡ did Formed = rw room at h in absurd (let no : ⊥ = cc in no)
  | inr full ↦ let e : did Renewed ≡ Err (record {}) = rw full at h in absurd (let no : ⊥ = cc in no)
]

ignored_parts : (limit : ℕ) (itself known : Bool) (count : ℕ) → did Ignored ≡ set_of limit itself known count → itself ≡ true
ignored_parts limit true known count h = refl
ignored_parts limit false true count h = absurd (let no : ⊥ = cc in no)
ignored_parts limit false false count h = elim (cases_Bool (ltb count limit)) [
  | inl room ↦ let e : did Ignored ≡ did Formed = rw room at h in absurd (let no : ⊥ = cc in no)
  | inr full ↦ let e : did Ignored ≡ Err (record {}) = rw full at h in absurd (let no : ⊥ = cc in no)
]

full_parts : (limit : ℕ) (itself known : Bool) (count : ℕ) (full : Full) → Err full ≡ set_of limit itself known count → (itself ≡ false) × (known ≡ false) × (ltb count limit ≡ false)
full_parts limit true known count full h = absurd (let no : ⊥ = cc in no)
full_parts limit false true count full h = absurd (let no : ⊥ = cc in no)
full_parts limit false false count full h = elim (cases_Bool (ltb count limit)) [
  | inl room ↦ let e : Err full ≡ did Formed = rw room at h in absurd (let no : ⊥ = cc in no)
  | inr none ↦ (refl, refl, none)
]

-- ---- what is added

module _ (start : Start) (now key : ℕ) (lifetimes : Lifetimes) (c : Chronicle) where
  abbrev added : Taken → Chronicle
  added Formed = setting start now key lifetimes (forming start now false key lifetimes c)
  added Renewed = setting start now key lifetimes c
  added Ignored = c

  beside_added : (t : Taken) → Beside c (added t)
  beside_added Formed = record { parameters = refl; routers = refl; prefixes = refl; servers = refl; names = refl; redirects = refl; assigned = λ k. refl; solicited = refl; router = λ start'. refl; stream = λ start'. refl }
  beside_added Renewed = record { parameters = refl; routers = refl; prefixes = refl; servers = refl; names = refl; redirects = refl; assigned = λ k. refl; solicited = refl; router = λ start'. refl; stream = λ start'. refl }
  beside_added Ignored = record { parameters = refl; routers = refl; prefixes = refl; servers = refl; names = refl; redirects = refl; assigned = λ k. refl; solicited = refl; router = λ start'. refl; stream = λ start'. refl }

  rows_added : (t : Taken) → address_history (added t) ≡ with_set now key lifetimes (retrans_timer c) (Ok t) (address_history c)
  rows_added Formed = refl
  rows_added Renewed = refl
  rows_added Ignored = refl

  neighbours_added : (t : Taken) → neighbour_history (added t) ≡ neighbour_history c
  neighbours_added Formed = refl
  neighbours_added Renewed = refl
  neighbours_added Ignored = refl

  items_added : (t : Taken) → items (added t) ≡ items c
  items_added Formed = append-nil (items c ++ []) ∙ append-nil (items c)
  items_added Renewed = append-nil (items c)
  items_added Ignored = refl

  last_added : (t : Taken) → last_moment start.at c ≡ now → last_moment start.at (added t) ≡ now
  last_added Formed at = refl
  last_added Renewed at = refl
  last_added Ignored at = at

  done_added : (t : Taken) → Done ≡ answers.answer_after c false → Done ≡ answers.answer_after (added t) false
  done_added Formed done = refl
  done_added Renewed done = refl
  done_added Ignored done = done

  -- the cases of the definition
  abbrev cases : Bool → Bool → Chronicle → Type 0
  cases itself known d = MatchBool itself (d ≡ c) (MatchBool known (d ≡ setting start now key lifetimes c) (FormsByHand start now key lifetimes c d))

  module _ (table : List Address') (stands : addresses.Stands table (address_history c)) where
    has_room : (room : Bool) → room ≡ ltb (length table) start.limits.addresses → HasRoomBy start.limits.addresses (address_history c) room
    has_room room is = record { known = table; those = stands; room_is = is }

    adds_cases : (t : Taken) (itself known : Bool) → did t ≡ set_of start.limits.addresses itself known (length table) → cases itself known (added t)
    adds_cases Formed itself known is =
        let p = formed_parts start.limits.addresses itself known (length table) is in
        let forms : FormsByHand start now key lifetimes c (added Formed) = (true, has_room true (sym p.2), refl) in
        subst (λ (b : Bool). cases b known (added Formed)) (sym p.0) (subst (λ (b : Bool). cases false b (added Formed)) (sym p.1) forms)
    adds_cases Renewed itself known is =
        let p = renewed_parts start.limits.addresses itself known (length table) is in
        let renews : cases false true (added Renewed) = refl in
        subst (λ (b : Bool). cases b known (added Renewed)) (sym p.0) (subst (λ (b : Bool). cases false b (added Renewed)) (sym p.1) renews)
    adds_cases Ignored itself known is =
        let stays : cases true known c = refl in
        subst (λ (b : Bool). cases b known c) (sym (ignored_parts start.limits.addresses itself known (length table) is)) stays

    full_case : (full : Full) (itself known : Bool) → Err full ≡ set_of start.limits.addresses itself known (length table) → cases itself known ((now, Refused (happening.Full happening.Addresses)) ∷ c)
    full_case full itself known is =
        let p = full_parts start.limits.addresses itself known (length table) full is in
        let d : Chronicle = (now, Refused (happening.Full happening.Addresses)) ∷ c in
        let none : FormsByHand start now key lifetimes c d = (false, has_room false (sym p.2), refl) in
        subst (λ (b : Bool). cases b known d) (sym p.0) (subst (λ (b : Bool). cases false b d) (sym p.1) none)

-- nothing is overdue with it
none_added : Still → (transmits now key retrans : ℕ) (lifetimes : Lifetimes) (history : List rows.Row) (t : Taken) → NoneOverdue transmits history now
    → NoneOverdue transmits (with_set now key lifetimes retrans (did t) history) now
none_added still transmits now key retrans lifetimes history Formed none =
    let formed : rows.RowKind = rows.Formed 0 retrans (Some lifetimes) in
    still transmits ((now, key, formed) ∷ history) now key (rows.SetByHand lifetimes) (still transmits history now key formed none)
none_added still transmits now key retrans lifetimes history Renewed none = still transmits history now key (rows.SetByHand lifetimes) none
none_added still transmits now key retrans lifetimes history Ignored none = none

-- ---- the node

module _ {R A : Type 0} (stream : R → Stream) (old new : Node R A) (x y : List (ℕ × Out A)) (now : ℕ) (own : AddressByHand) where
  abbrev key_of : ℕ
  key_of = number_of own.address.0

  -- what the table says of it
  abbrev SaysSet : Result Taken Full → Type 0
  SaysSet r = (history : List rows.Row) → addresses.Stands old.addresses.addresses history
      → r ≡ set_of old.addresses.limit (key_of == link_local_of old.addresses.mac) (is_known (story key_of history)) (length old.addresses.addresses)

  abbrev SaysRefusal : Option Refusal → Type 0
  SaysRefusal refusal = (start : Start) (c : Chronicle) → Stands stream start old c → refusal ≡ refusal_unless_up start c

  set_in : (start : Start) (c : Chronicle) → Stands stream start old c → (r : Result Taken Full) → SaysSet r
      → r ≡ set_of start.limits.addresses (key_of == link_local_key start) (is_known (story_of c key_of)) (length old.addresses.addresses)
  set_in start c s r says =
      let known : Bool = is_known (story_of c key_of) in
      let count : ℕ = length old.addresses.addresses in
      says (address_history c) s.addresses
      ∙ (ap (λ (m : Mac). set_of old.addresses.limit (key_of == link_local_of m) known count) s.address_mac
      ∙ ap (λ (limit : ℕ). set_of limit (key_of == link_local_key start) known count) s.limits.addresses)

  -- it is refused
  pub refuses_address : (refusal : Refusal) → SaysRefusal (Some refusal) → AddsAlone stream old new x y now (Refused refusal) → AddsEvent stream old new x y now (events.Sets own) (answers.Refused refusal)
  refuses_address refusal says adds = record {
    each = λ start c s le.
        let a = adds.each start c s le in
        let later : Chronicle = (now, Passed) ∷ c in
        let d : Chronicle = (now, Refused refusal) ∷ later in (
          d,
          subst (λ (o : Option Refusal). UnlessRefused now o (λ e. AddressAdds start now key_of own.lifetimes later e) later d) (says start c s) refl,
          a.0,
          a.1,
          refl,
        );
  }

  -- there is no room for it
  pub fills_addresses : (r : Result Taken Full) (full : Full) → r ≡ Err full → SaysRefusal None → SaysSet r → AddsAlone stream old new x y now (Refused (happening.Full happening.Addresses))
      → AddsEvent stream old new x y now (events.Sets own) (answers.Refused (happening.Full happening.Addresses))
  fills_addresses r full is unrefused says adds = record {
    each = λ start c s le.
        let a = adds.each start c s le in
        let later : Chronicle = (now, Passed) ∷ c in
        let d : Chronicle = (now, Refused (happening.Full happening.Addresses)) ∷ later in (
          d,
          subst (λ (o : Option Refusal). UnlessRefused now o (λ e. AddressAdds start now key_of own.lifetimes later e) later d) (unrefused start c s)
              (full_case start now key_of own.lifetimes later old.addresses.addresses s.addresses full (key_of == link_local_key start) (is_known (story_of c key_of)) (sym is ∙ set_in start c s r says)),
          a.0,
          a.1,
          refl,
        );
  }

  module _ (settled : now < next_of old) (still : Still) (table : ByTable) (same : Same (record old { last = now }) new) (others : new.neighbours ≡ old.neighbours)
      (forgot : new.choice ≡ record old.choice { memory = forgotten old.choice.memory }) where
    not_past : now ≤ next_of old
    not_past = omega (arith, settled)

    -- it is taken
    pub sets : (r : Result Taken Full) (t : Taken) → r ≡ Ok t → SaysRefusal None → SaysSet r → (retrans : ℕ) → retrans ≡ old.params.retrans_timer
        → addresses.GainsRows old.addresses.addresses new.addresses.addresses (with_set now key_of own.lifetimes retrans r) → y ≡ x → AddsEvent stream old new x y now (events.Sets own) Done
    sets r t is unrefused says retrans retrans_is gains silent = record {
      each = λ start c s le.
          let later : Chronicle = (now, Passed) ∷ c in
          let history : List rows.Row = address_history c in
          let d : Chronicle = added start now key_of own.lifetimes later t in
          let timer : ℕ = retrans_timer c in
          let gained = gains.stands history s.addresses in
          let with_result = subst (λ (o : Result Taken Full). addresses.Stands new.addresses.addresses (with_set now key_of own.lifetimes retrans o history)) is gained in
          let with_timer = subst (λ (n : ℕ). addresses.Stands new.addresses.addresses (with_set now key_of own.lifetimes n (did t) history)) (retrans_is ∙ s.params.retrans_timer) with_result in
          let stands' : addresses.Stands new.addresses.addresses (address_history d) = subst (λ (h : List rows.Row). addresses.Stands new.addresses.addresses h) (sym (rows_added start now key_of own.lifetimes later t)) with_timer in
          let none = none_added still start.transmits now key_of timer own.lifetimes history t ((table start.transmits old.addresses.addresses history now s.addresses).0 (addresses_before old now not_past)) in
          let later' = (table start.transmits new.addresses.addresses (with_set now key_of own.lifetimes timer (did t) history) now with_timer).1 none in (
            d,
            subst (λ (o : Option Refusal). UnlessRefused now o (λ e. AddressAdds start now key_of own.lifetimes later e) later d) (unrefused start c s)
                (adds_cases start now key_of own.lifetimes later old.addresses.addresses s.addresses t (key_of == link_local_key start) (is_known (story_of c key_of)) (sym is ∙ set_in start c s r says)),
            stands_addresses stream start (record old { last = now }) new later d now same (beside_added start now key_of own.lifetimes later t) (passed stream start old (record old { last = now }) c now s le settled refl)
                refl (last_added start now key_of own.lifetimes later t refl) others (neighbours_added start now key_of own.lifetimes later t) stands' later' forgot,
            record { newer = []; told = items_added start now key_of own.lifetimes later t; outs = ap happenings silent ∙ sym (append-nil (happenings x)) },
            done_added start now key_of own.lifetimes later t refl,
          );
    }

-- ---- it is withdrawn

module _ {R A : Type 0} (stream : R → Stream) (old new : Node R A) (x room y : List (ℕ × Out A)) (now : ℕ) (address : Addr) (settled : now < next_of old) where
  abbrev key : ℕ
  key = number_of address.0

  abbrev SaysKnown : Bool → Type 0
  SaysKnown known = (history : List rows.Row) → addresses.Stands old.addresses.addresses history → known ≡ (is_known (story key history) && not (key == link_local_of old.addresses.mac))

  known_in : (start : Start) (c : Chronicle) → Stands stream start old c → (known : Bool) → SaysKnown known → known ≡ (is_known (story_of c key) && not (key == link_local_key start))
  known_in start c s known says =
      says (address_history c) s.addresses ∙ ap (λ (m : Mac). is_known (story_of c key) && not (key == link_local_of m)) s.address_mac

  beside_end : (c : Chronicle) → Beside c ((now, Address key rows.Ended) ∷ c)
  beside_end c = record { parameters = refl; routers = refl; prefixes = refl; servers = refl; names = refl; redirects = refl; assigned = λ k. refl; solicited = refl; router = λ start'. refl; stream = λ start'. refl }

  -- and ends
  pub withdraws : (known : Bool) → known ≡ true → SaysKnown known → Still → ByTable → Same (record old { last = now }) new → new.neighbours ≡ old.neighbours → new.choice ≡ record old.choice { memory = forgotten old.choice.memory }
      → addresses.GainsRow old.addresses.addresses new.addresses.addresses (now, key, rows.Ended) → (out : Out A) → what_of out ≡ Address key rows.Ended → room ≡ x → y ≡ room ++ (now, out) ∷ []
      → AddsEvent stream old new x y now (events.Withdraws address) Done
  withdraws known is says still table same others forgot gains out out_is reserved told = record {
    each = λ start c s le.
        let later : Chronicle = (now, Passed) ∷ c in
        let history : List rows.Row = address_history c in
        let d : Chronicle = (now, Address key rows.Ended) ∷ later in
        let not_past : now ≤ next_of old = omega (arith, settled) in
        let stands' = gains.stands history s.addresses in
        let none = still start.transmits history now key rows.Ended ((table start.transmits old.addresses.addresses history now s.addresses).0 (addresses_before old now not_past)) in
        let later' = (table start.transmits new.addresses.addresses ((now, key, rows.Ended) ∷ history) now stands').1 none in (
          d,
          sym (ap (λ (b : Bool). cond b d later) (sym (known_in start c s known says) ∙ is)),
          stands_addresses stream start (record old { last = now }) new later d now same (beside_end later) (passed stream start old (record old { last = now }) c now s le settled refl) refl refl others refl stands' later' forgot,
          record {
            newer = (now, Address key rows.Ended) ∷ [];
            told = ap (λ (t : List (ℕ × Told)). t ++ items_at (now, Address key rows.Ended)) (append-nil (items c)) ∙ one (items c) (items_at (now, Address key rows.Ended));
            outs = one_more room y now out told ∙ (ap (λ w. happenings room ++ (now, w) ∷ []) out_is ∙ ap (λ (r : List (ℕ × Out A)). happenings r ++ (now, Address key rows.Ended) ∷ []) reserved);
          },
          refl,
        );
  }

  -- or it isn't known, or is the link-local one
  pub withdraws_none : (known : Bool) → known ≡ false → SaysKnown known → new ≡ record old { last = now } → room ≡ x → y ≡ room → AddsEvent stream old new x y now (events.Withdraws address) Done
  withdraws_none known is says same reserved silent = record {
    each = λ start c s le.
        let later : Chronicle = (now, Passed) ∷ c in (
          later,
          sym (ap (λ (b : Bool). cond b ((now, Address key rows.Ended) ∷ later) later) (sym (known_in start c s known says) ∙ is)),
          passed stream start old new c now s le settled same,
          record { newer = []; told = refl; outs = ap happenings (silent ∙ reserved) ∙ sym (append-nil (happenings x)) },
          refl,
        );
  }
