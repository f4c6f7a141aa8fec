-- What a prefix option does to the own addresses of a node and to its generator.
use Rattle.std.proofs.Common.{◌≡◌, ℕ, Bool, true, false, List, [], ◌∷◌, ◌++◌, length, ◌⊎◌, inl, inr, Some, sym, subst, refl, ap, ◌∙◌, cond, eqb, ltb}
use Rattle.std.specs.Prelude.{IsOk, Result, Ok, Err, ◌&&◌, not}
use Rattle.std.proofs.lemmas.Bool.{false≢true}
use Rattle.std.proofs.Math.Bool.{and-true, and-false, and_assoc}
use Rattle.rand_core.specs.Stream.{Stream}
use Rattle.nd_addr.specs.declared.mac.Mac.{Mac}
use Rattle.nd_decode.specs.declared.prefix_info.PrefixInfo.{PrefixInfo}
use Rattle.nd_slaac.specs.declared.prefix_option.Taken.{Taken}
use Rattle.nd_slaac.specs.declared.prefix_option.Taken.TheVariants.{Formed, Renewed, Ignored}
use Rattle.nd_slaac.specs.declared.prefix_option.Full.{Full}
use Rattle.nd_slaac.specs.History as address_rows
use Rattle.nd_slaac.specs.History.{Row, story}
use Rattle.nd_slaac.specs.State.{is_by_hand, is_known}
use Rattle.nd_slaac.proofs.Stories.{known_by_hand}
use Rattle.nd_slaac.specs.AddressKept.{Address}
use Rattle.nd_slaac.specs.TableKept.{Table, Stands}
use Rattle.nd_slaac.specs.PrefixOption.{is_taken, is_forming, named_by, lifetimes_of}
use Rattle.nd_slaac.specs.Room.{fits_in, would_form, with_room}
use Rattle.nd_slaac.specs.Calls.{taken_of, taken_by, row_taken, GainsRowIfAny}
use Rattle.nd_chronicle.specs.Start.{Start}
use Rattle.nd_chronicle.specs.Happening.{Chronicle, Address as AddressRow}
use Rattle.nd_chronicle.specs.Histories.{address_history}
use Rattle.nd_chronicle.specs.InForce.{retrans_timer}
use Rattle.nd_chronicle.specs.Generator.{stream_left}
use Rattle.nd_chronicle.specs.OwnAddress.{story_of}
use Rattle.nd_chronicle.specs.RouterAdvertisement.{with_delay, delay_for, forming, naming, then_option, then_options}
use Rattle.nd_steps.specs.DestinationCache.{forms_none}
use Rattle.nd_steps.specs.OwnAddresses.{delay_from, Forms}

-- what becomes of an option: whether it is taken, its address was given by hand, is known, and its valid lifetime is 0
abbrev becomes : Bool → Bool → Bool → Bool → Taken
becomes taken hand known zero = cond taken (cond hand Ignored (cond known Renewed (cond zero Ignored Formed))) Ignored

-- one that isn't refused becomes that
accepted_by : (taken hand known zero below : Bool) (full : Full) (r : Result Taken Full)
    → r ≡ cond taken (cond hand (Ok Ignored) (cond known (Ok Renewed) (cond zero (Ok Ignored) (cond below (Ok Formed) (Err full))))) (Ok Ignored)
    → IsOk r → r ≡ Ok (becomes taken hand known zero)
accepted_by false hand known zero below full r is ok = is
accepted_by true true known zero below full r is ok = is
accepted_by true false true zero below full r is ok = is
accepted_by true false false true below full r is ok = is
accepted_by true false false false true full r is ok = is
accepted_by true false false false false full r is ok = absurd (false≢true (subst (λ (r : Result Taken Full). IsOk r) is ok))

taken_cond : (limit : ℕ) (hand known : Bool) (valid count : ℕ)
    → taken_by limit hand known valid count ≡ cond hand (Ok Ignored) (cond known (Ok Renewed) (cond (eqb valid 0) (Ok Ignored) (cond (ltb count limit) (Ok Formed) (Err (record {})))))
taken_cond limit true known valid count = refl
taken_cond limit false true valid count = refl
taken_cond limit false false valid count = refl

accepted : (limit : ℕ) (info : PrefixInfo) (hand known : Bool) (count : ℕ) (r : Result Taken Full) → r ≡ taken_of limit info hand known count → IsOk r → r ≡ Ok (becomes (is_taken info) hand known (eqb info.valid_lifetime 0))
accepted limit info hand known count r is ok =
    accepted_by (is_taken info) hand known (eqb info.valid_lifetime 0) (ltb count limit) (record {}) r (is ∙ ap (λ (t : Result Taken Full). cond (is_taken info) t (Ok Ignored)) (taken_cond limit hand known info.valid_lifetime count)) ok

abbrev is_formed : Taken → Bool
is_formed Formed = true
is_formed Renewed = false
is_formed Ignored = false

-- an address that was given by hand is known
forms_by : (taken hand known zero : Bool) → (hand ≡ true → known ≡ true) → ((taken && not zero) && not known) ≡ is_formed (becomes taken hand known zero)
forms_by false hand known zero there = refl
forms_by true true known true there = refl
forms_by true true known false there = ap not (there refl)
forms_by true false true true there = refl
forms_by true false true false there = refl
forms_by true false false true there = refl
forms_by true false false false there = refl

-- a fact of four values is one of values that are the same
moved : (P : ℕ → ℕ → ℕ → List Row → Type 0) {a a' b b' d d' : ℕ} {rows rows' : List Row} → a ≡ a' → b ≡ b' → d ≡ d' → rows ≡ rows' → P a b d rows → P a' b' d' rows'
moved P {a' = a'} {b = b} {b' = b'} {d = d} {d' = d'} {rows = rows} ea eb ed er p =
    subst (λ (rows : List Row). P a' b' d' rows) er (subst (λ (x : ℕ). P a' b' x rows) ed (subst (λ (x : ℕ). P a' x d rows) eb (subst (λ (x : ℕ). P x b d rows) ea p)))

module _ (start : Start) (now : ℕ) (c : Chronicle) where
  -- what a drawn delay leaves alone, and what the generator has left
  rows_delayed : (b : Bool) → address_history (with_delay start now b c) ≡ address_history c
  rows_delayed true = refl
  rows_delayed false = refl

  retrans_delayed : (b : Bool) → retrans_timer (with_delay start now b c) ≡ retrans_timer c
  retrans_delayed true = refl
  retrans_delayed false = refl

  stream_delayed : (b : Bool) → stream_left start (with_delay start now b c) ≡ (delay_from b (stream_left start c)).1
  stream_delayed true = refl
  stream_delayed false = refl

  delay_is : (b : Bool) → delay_for start now b c ≡ (delay_from b (stream_left start c)).0
  delay_is true = refl
  delay_is false = refl

  module _ (to_all : Bool) (info : PrefixInfo) where
    -- what an option adds, by what becomes of it
    abbrev pub added : Taken → Chronicle
    added Formed = forming start now to_all (named_by start.mac info) (lifetimes_of info) c
    added Renewed = (now, AddressRow (named_by start.mac info) (address_rows.Announced (lifetimes_of info))) ∷ c
    added Ignored = c

    by_zero : (zero : Bool) → cond zero c (forming start now to_all (named_by start.mac info) (lifetimes_of info) c) ≡ added (cond zero Ignored Formed)
    by_zero true = refl
    by_zero false = refl

    by_known : (hand known : Bool) → naming start now to_all hand known info c ≡ added (cond hand Ignored (cond known Renewed (cond (eqb info.valid_lifetime 0) Ignored Formed)))
    by_known true known = refl
    by_known false true = refl
    by_known false false = by_zero (eqb info.valid_lifetime 0)

    by_taken : (taken hand known : Bool) → cond taken (naming start now to_all hand known info c) c ≡ added (becomes taken hand known (eqb info.valid_lifetime 0))
    by_taken true hand known = by_known hand known
    by_taken false hand known = refl

module _ (start : Start) (now : ℕ) (to_all : Bool) (info : PrefixInfo) (old new : Table) (before after : Stream) (delay retrans : ℕ) (c : Chronicle)
    (mac : new.mac ≡ old.mac) (limit : new.limit ≡ old.limit) (transmits : new.transmits ≡ old.transmits) (s : Forms start old before retrans c) where
  -- what was drawn, by the chronicle
  drawn_of : (formed : Bool) → (delay, after) ≡ delay_from (to_all && formed) before → (delay, after) ≡ delay_from (to_all && formed) (stream_left start c)
  drawn_of formed is = is ∙ ap (λ (stream : Stream). delay_from (to_all && formed) stream) s.generator

  taken_as : (t : Taken) → (delay, after) ≡ delay_from (to_all && is_formed t) before → GainsRowIfAny (row_taken now old.mac info delay retrans (Ok t)) old.addresses new.addresses
      → Forms start new after retrans (added start now c to_all info t)
  taken_as Formed is gains =
      let drawn : (delay, after) ≡ delay_from to_all (stream_left start c) = drawn_of true is ∙ ap (λ (b : Bool). delay_from b (stream_left start c)) (and-true to_all) in
      let key : named_by old.mac info ≡ named_by start.mac info = ap (λ (m : Mac). named_by m info) s.mac in
      let d : delay ≡ delay_for start now to_all c = ap (λ (p : ℕ × Stream). p.0) drawn ∙ sym (delay_is start now c to_all) in
      record {
        addresses = moved (λ k d r rows. Stands new.addresses ((now, k, address_rows.Formed d r (Some (lifetimes_of info))) ∷ rows)) key d s.in_force (sym (rows_delayed start now c to_all)) (gains.stands (address_history c) s.addresses);
        mac = mac ∙ s.mac;
        limit = limit ∙ s.limit;
        transmits = transmits ∙ s.transmits;
        generator = ap (λ (p : ℕ × Stream). p.1) drawn ∙ sym (stream_delayed start now c to_all);
        in_force = s.in_force ∙ sym (retrans_delayed start now c to_all);
      }
  taken_as Renewed is gains =
      let drawn : (delay, after) ≡ delay_from false (stream_left start c) = drawn_of false is ∙ ap (λ (b : Bool). delay_from b (stream_left start c)) (and-false to_all) in
      let key : named_by old.mac info ≡ named_by start.mac info = ap (λ (m : Mac). named_by m info) s.mac in
      record {
        addresses = subst (λ (k : ℕ). Stands new.addresses ((now, k, address_rows.Announced (lifetimes_of info)) ∷ address_history c)) key (gains.stands (address_history c) s.addresses);
        mac = mac ∙ s.mac;
        limit = limit ∙ s.limit;
        transmits = transmits ∙ s.transmits;
        generator = ap (λ (p : ℕ × Stream). p.1) drawn;
        in_force = s.in_force;
      }
  taken_as Ignored is gains =
      let drawn : (delay, after) ≡ delay_from false (stream_left start c) = drawn_of false is ∙ ap (λ (b : Bool). delay_from b (stream_left start c)) (and-false to_all) in
      record {
        addresses = subst (λ (xs : List Address). Stands xs (address_history c)) (sym gains) s.addresses;
        mac = mac ∙ s.mac;
        limit = limit ∙ s.limit;
        transmits = transmits ∙ s.transmits;
        generator = ap (λ (p : ℕ × Stream). p.1) drawn;
        in_force = s.in_force;
      }

  -- an option that isn't refused does what the definition says
  pub taken : (would : Bool) (result : Result Taken Full) → IsOk result
      → ((history : List Row) → Stands old.addresses history → would ≡ (is_forming info && not (is_known (story (named_by old.mac info) history))))
      → ((history : List Row) → Stands old.addresses history → result ≡ taken_of old.limit info (is_by_hand (story (named_by old.mac info) history)) (is_known (story (named_by old.mac info) history)) (length old.addresses))
      → (delay, after) ≡ delay_from (to_all && would) before
      → GainsRowIfAny (row_taken now old.mac info delay retrans result) old.addresses new.addresses
      → Forms start new after retrans (then_option start now to_all info c)
  taken would result ok would_is by_history is gains =
      let zero : Bool = eqb info.valid_lifetime 0 in
      let old_hand : Bool = is_by_hand (story (named_by old.mac info) (address_history c)) in
      let hand : Bool = is_by_hand (story_of c (named_by start.mac info)) in
      let hand_is : old_hand ≡ hand = ap (λ (m : Mac). is_by_hand (story (named_by m info) (address_history c))) s.mac in
      let old_known : Bool = is_known (story (named_by old.mac info) (address_history c)) in
      let known : Bool = is_known (story_of c (named_by start.mac info)) in
      let known_is : old_known ≡ known = ap (λ (m : Mac). is_known (story (named_by m info) (address_history c))) s.mac in
      let t : Taken = becomes (is_taken info) hand known zero in
      let result_is : result ≡ Ok t = accepted old.limit info hand known (length old.addresses) result
      (by_history (address_history c) s.addresses ∙ (ap (λ (h : Bool). taken_of old.limit info h old_known (length old.addresses)) hand_is ∙ ap (λ (k : Bool). taken_of old.limit info hand k (length old.addresses)) known_is)) ok in
      let forms_is : would ≡ is_formed t =
      would_is (address_history c) s.addresses ∙ (ap (λ (k : Bool). is_forming info && not k) known_is ∙ forms_by (is_taken info) hand known zero (known_by_hand (story_of c (named_by start.mac info)))) in
      let forms : Forms start new after retrans (added start now c to_all info t) =
      taken_as t (is ∙ ap (λ (b : Bool). delay_from (to_all && b) before) forms_is)
      (subst (λ (r : Result Taken Full). GainsRowIfAny (row_taken now old.mac info delay retrans r) old.addresses new.addresses) result_is gains) in
      subst (λ (d : Chronicle). Forms start new after retrans d) (sym (by_taken start now c to_all info (is_taken info) hand known)) forms

-- an option that would form no address, or for whose address there is room, fits, and isn't passed over
module _ (limit : ℕ) (mac : Mac) (keys : List ℕ) (info : PrefixInfo) where
  pub one_fits : (would_form mac keys info ≡ false) ⊎ (ltb (length keys) limit ≡ true) → (fits_in limit mac keys (info ∷ []) ≡ true) × (with_room limit mac keys (info ∷ []) ≡ info ∷ [])
  one_fits (inl idle) = (rw idle refl, rw idle refl)
  one_fits (inr room) = by (would_form mac keys info) refl
    where
      by : (b : Bool) → would_form mac keys info ≡ b → (fits_in limit mac keys (info ∷ []) ≡ true) × (with_room limit mac keys (info ∷ []) ≡ info ∷ [])
      by true forms = (rw (forms, room) refl, rw (forms, room) refl)
      by false idle = (rw idle refl, rw idle refl)

-- options behind others
module _ (start : Start) (now : ℕ) (to_all : Bool) where
  pub options_behind : (infos more : List PrefixInfo) (c : Chronicle) → then_options start now to_all (infos ++ more) c ≡ then_options start now to_all more (then_options start now to_all infos c)
  options_behind [] more c = refl
  options_behind (info ∷ infos) more c = options_behind infos more (then_option start now to_all info c)

pub none_behind : (mac : Mac) (keys : List ℕ) (infos more : List PrefixInfo) → forms_none mac keys (infos ++ more) ≡ (forms_none mac keys infos && forms_none mac keys more)
none_behind mac keys [] more = refl
none_behind mac keys (info ∷ infos) more =
    ap (λ (rest : Bool). not (would_form mac keys info) && rest) (none_behind mac keys infos more) ∙ sym (and_assoc (not (would_form mac keys info)) (forms_none mac keys infos) (forms_none mac keys more))
