-- Whether there is room for the addresses that options would form.
use Rattle.std.proofs.Common.{◌≡◌, ℕ, ◌+◌, ◌*◌, ◌/◌, ◌<◌, ◌≤◌, Bool, true, false, cond, eqb, ltb, List, [], ◌∷◌, ◌++◌, length, Option, Some, None, refl, sym, ◌∙◌, ap, arith, suc, ◌⊎◌, inl, inr}
use Rattle.std.specs.Prelude.{is_some, ◌&&◌, ◌||◌, not, IsOk, IfSome, Result, Ok, Err}
use Rattle.std.proofs.lemmas.Bool.Decides.{nat_tests}
use Rattle.std.proofs.lemmas.Bool.{true≢false, cond-true, cond-false, cases_Bool, and_parts}
use Rattle.std.proofs.lemmas.List.{length-append}
use Rattle.std.proofs.lemmas.List.Folds.{list_any-append}
use Rattle.nd_addr.specs.declared.addr.Addr.{Addr}
use Rattle.nd_addr.specs.declared.mac.Mac.{Mac}
use Rattle.nd_addr.specs.Number.{number_of}
use Rattle.nd_decode.specs.declared.prefix_info.PrefixInfo.{PrefixInfo}
use Rattle.nd_decode.specs.Option.{Said, slla, tlla, prefix, redirected, mtu, rdnss, dnssl, other}
use Rattle.nd_decode.specs.Sizes.{sizes}
use Rattle.nd_table.proofs.Keyed.{put_in}
use Rattle.nd_slaac.specs.declared.prefix_option.Taken.{Taken}
use Rattle.nd_slaac.specs.declared.prefix_option.Taken.TheVariants.{Formed, Renewed, Ignored}
use Rattle.nd_slaac.specs.declared.prefix_option.Full.{Full}
use Rattle.nd_slaac.specs.AddressKept.{Address}
use Rattle.nd_slaac.specs.TableKept.{key_of, address_in}
use Rattle.nd_slaac.specs.PrefixOption.{is_taken, named_by, lifetimes_of, is_forming, prefixes_in}
use Rattle.nd_slaac.specs.Room.{is_among, would_form, fits_in, with_room}
use Rattle.nd_slaac.specs.RoomKept.{is_listed, is_new}
use Rattle.nd_slaac.specs.Calls.{keys_in, formed, announced, is_by_hand_in, taken_by, Changes, row_taken, GainsRowIfAny}
use Rattle.nd_slaac.specs.History.{Row, story}
use Rattle.nd_slaac.specs.State.{is_by_hand, is_known}
use Rattle.nd_slaac.specs.MayCome.{MayCome}
use Rattle.nd_slaac.proofs.Keys.{known_among, keys-length, keys-set, among-put, length-put}
use Rattle.nd_slaac.proofs.Altering.{formed_gains, announced_gains}

-- which addresses are known, and how many, is all that counts
pub fits_same : (limit : ℕ) (mac : Mac) (keys ks : List ℕ) (infos : List PrefixInfo) → ((key : ℕ) → is_among key keys ≡ is_among key ks) → length keys ≡ length ks → fits_in limit mac keys infos ≡ fits_in limit mac ks infos
fits_same limit mac keys ks [] same len = refl
fits_same limit mac keys ks (info ∷ infos) same len =
    let key = named_by mac info in
    let e : is_among key keys ≡ is_among key ks = same key in
    let more : fits_in limit mac (key ∷ keys) infos ≡ fits_in limit mac (key ∷ ks) infos = fits_same limit mac (key ∷ keys) (key ∷ ks) infos (λ k. ap (λ b. eqb key k || b) (same k)) (ap suc len) in
    let rest : fits_in limit mac keys infos ≡ fits_in limit mac ks infos = fits_same limit mac keys ks infos same len in
    rw (e, len, more, rest) refl

pub room_same : (limit : ℕ) (mac : Mac) (keys ks : List ℕ) (infos : List PrefixInfo) → ((key : ℕ) → is_among key keys ≡ is_among key ks) → length keys ≡ length ks → with_room limit mac keys infos ≡ with_room limit mac ks infos
room_same limit mac keys ks [] same len = refl
room_same limit mac keys ks (info ∷ infos) same len =
    let key = named_by mac info in
    let e : is_among key keys ≡ is_among key ks = same key in
    let more : with_room limit mac (key ∷ keys) infos ≡ with_room limit mac (key ∷ ks) infos = room_same limit mac (key ∷ keys) (key ∷ ks) infos (λ k. ap (λ b. eqb key k || b) (same k)) (ap suc len) in
    let rest : with_room limit mac keys infos ≡ with_room limit mac ks infos = room_same limit mac keys ks infos same len in
    rw (e, len, more, rest) refl

-- an option that would form none isn't passed over
pub idle_first : (limit : ℕ) (mac : Mac) (keys : List ℕ) (info : PrefixInfo) (infos : List PrefixInfo) → would_form mac keys info ≡ false → with_room limit mac keys (info ∷ infos) ≡ info ∷ with_room limit mac keys infos
idle_first limit mac keys info infos idle =
    cond-false (would_form mac keys info) (cond (ltb (length keys) limit) (info ∷ with_room limit mac (named_by mac info ∷ keys) infos) (with_room limit mac keys infos)) (info ∷ with_room limit mac keys infos) idle

abbrev did : Taken → Result Taken Full
did taken = Ok taken

abbrev refused : Full → Result Taken Full
refused full = Err full

-- what becomes of an option tells how its address was
formed_parts : (limit : ℕ) (hand known : Bool) (valid count : ℕ) → Ok Formed ≡ taken_by limit hand known valid count → (known ≡ false) × (eqb valid 0 ≡ false) × (ltb count limit ≡ true)
formed_parts limit true known valid count h = absurd (cc)
formed_parts limit false true valid count h = absurd (cc)
formed_parts limit false false valid count h = elim (cases_Bool (eqb valid 0)) [
  | inl z ↦ let e : did Formed ≡ did Ignored = rw z at h in absurd (cc)
  | inr nz ↦ elim (cases_Bool (ltb count limit)) [
    | inl room ↦ (refl, nz, room)
    | inr full ↦ let e : did Formed ≡ refused (record {}) = rw (nz, full) at h in absurd (cc)
  ]
]

renewed_parts : (limit : ℕ) (hand known : Bool) (valid count : ℕ) → Ok Renewed ≡ taken_by limit hand known valid count → (known ≡ true) × (hand ≡ false)
renewed_parts limit true known valid count h = absurd (cc)
renewed_parts limit false true valid count h = (refl, refl)
renewed_parts limit false false valid count h = elim (cases_Bool (eqb valid 0)) [
  | inl z ↦ let e : did Renewed ≡ did Ignored = rw z at h in absurd (cc)
  | inr nz ↦ elim (cases_Bool (ltb count limit)) [
    | inl room ↦ let e : did Renewed ≡ did Formed = rw (nz, room) at h in absurd (cc)
    | inr full ↦ let e : did Renewed ≡ refused (record {}) = rw (nz, full) at h in absurd (cc)
  ]
]

ignored_parts : (limit : ℕ) (hand known : Bool) (valid count : ℕ) → Ok Ignored ≡ taken_by limit hand known valid count → (hand ≡ true) ⊎ (eqb valid 0 ≡ true)
ignored_parts limit true known valid count h = inl refl
ignored_parts limit false true valid count h = absurd (cc)
ignored_parts limit false false valid count h = elim (cases_Bool (eqb valid 0)) [
  | inl z ↦ inr z
  | inr nz ↦ elim (cases_Bool (ltb count limit)) [
    | inl room ↦ let e : did Ignored ≡ did Formed = rw (nz, room) at h in absurd (cc)
    | inr full ↦ let e : did Ignored ≡ refused (record {}) = rw (nz, full) at h in absurd (cc)
  ]
]

refused_parts : (limit : ℕ) (hand known : Bool) (valid count : ℕ) (full : Full) → Err full ≡ taken_by limit hand known valid count → (known ≡ false) × (eqb valid 0 ≡ false) × (ltb count limit ≡ false)
refused_parts limit true known valid count full h = absurd (cc)
refused_parts limit false true valid count full h = absurd (cc)
refused_parts limit false false valid count full h = elim (cases_Bool (eqb valid 0)) [
  | inl z ↦ let e : refused full ≡ did Ignored = rw z at h in absurd (cc)
  | inr nz ↦ elim (cases_Bool (ltb count limit)) [
    | inl room ↦ let e : refused full ≡ did Formed = rw (nz, room) at h in absurd (cc)
    | inr full' ↦ (refl, nz, full')
  ]
]

-- an address that was given by hand is known
known_by_hand : (o : Option Address) → is_by_hand_in o ≡ true → is_some o ≡ true
known_by_hand None e = absurd (true≢false (sym e))
known_by_hand (Some a) e = refl

-- an option renews a known address that wasn't given by hand
pub renews : (limit valid count : ℕ) (o : Option Address) (a : Address) → o ≡ Some a → a.by_hand ≡ false → Ok Renewed ≡ taken_by limit (is_by_hand_in o) (is_some o) valid count
renews limit valid count o a is hand = rw (is, hand) refl

idle_by : (f a : Bool) → a ≡ true → (f && not a) ≡ false
idle_by true a e = rw e refl
idle_by false a e = refl

-- an option that would form no address leaves the addresses that are known
pub keys_on : (limit now : ℕ) (mac : Mac) (info : PrefixInfo) (delay retrans : ℕ) (r : Result Taken Full) (old new : List Address) → is_taken info ≡ true → r ≡ taken_by limit (is_by_hand_in (address_in (named_by mac info) old)) (is_some (address_in (named_by mac info) old)) info.valid_lifetime (length old) → Changes now (named_by mac info) (lifetimes_of info) delay retrans r old new → would_form mac (keys_in old) info ≡ false → keys_in new ≡ keys_in old
keys_on limit now mac info delay retrans (Ok Formed) old new taken is changes idle =
    let key = named_by mac info in
    let parts = formed_parts limit (is_by_hand_in (address_in key old)) (is_some (address_in key old)) info.valid_lifetime (length old) is in
    let nz : eqb info.valid_lifetime 0 ≡ false = parts.1 in
    let free : is_among key (keys_in old) ≡ false = sym (known_among key old) ∙ parts.0 in
    let no : true ≡ false = rw (taken, nz, free) at idle in
    absurd (true≢false no)
keys_on limit now mac info delay retrans (Ok Renewed) old new taken is changes idle =
    ap keys_in changes.new_is ∙ keys-set old changes.at (announced now (lifetimes_of info) changes.address) changes.address (ap key_of (sym changes.is))
keys_on limit now mac info delay retrans (Ok Ignored) old new taken is changes idle = ap keys_in changes
keys_on limit now mac info delay retrans (Err full) old new taken is changes idle = ap keys_in changes

-- where an option and those behind it fit, it isn't refused, and they still fit
pub fits_on : (limit now : ℕ) (mac : Mac) (info : PrefixInfo) (delay retrans : ℕ) (r : Result Taken Full) (old new : List Address) (infos : List PrefixInfo) → is_taken info ≡ true → r ≡ taken_by limit (is_by_hand_in (address_in (named_by mac info) old)) (is_some (address_in (named_by mac info) old)) info.valid_lifetime (length old) → Changes now (named_by mac info) (lifetimes_of info) delay retrans r old new → fits_in limit mac (keys_in old) (info ∷ infos) ≡ true → IsOk r × (fits_in limit mac (keys_in new) infos ≡ true)
fits_on limit now mac info delay retrans (Ok Formed) old new infos taken is changes h =
    let key = named_by mac info in
    let parts = formed_parts limit (is_by_hand_in (address_in key old)) (is_some (address_in key old)) info.valid_lifetime (length old) is in
    let nz : eqb info.valid_lifetime 0 ≡ false = parts.1 in
    let free : is_among key (keys_in old) ≡ false = sym (known_among key old) ∙ parts.0 in
    let room : ltb (length (keys_in old)) limit ≡ true = ap (λ n. ltb n limit) (keys-length old) ∙ parts.2 in
    let fit : fits_in limit mac (key ∷ keys_in old) infos ≡ true = rw (taken, nz, free, room) at h in
    let put : new ≡ put_in key_of (formed key now delay retrans (Some (lifetimes_of info))) old = changes.1 in (
      refl,
      rw put (fits_same limit mac (keys_in (put_in key_of (formed key now delay retrans (Some (lifetimes_of info))) old)) (key ∷ keys_in old) infos
          (λ k. among-put k (formed key now delay retrans (Some (lifetimes_of info))) old)
          (keys-length (put_in key_of (formed key now delay retrans (Some (lifetimes_of info))) old) ∙ (length-put (formed key now delay retrans (Some (lifetimes_of info))) old ∙ ap suc (sym (keys-length old)))) ∙ fit),
    )
fits_on limit now mac info delay retrans (Ok Renewed) old new infos taken is changes h =
    let key = named_by mac info in
    let there : is_among key (keys_in old) ≡ true = sym (known_among key old) ∙ (renewed_parts limit (is_by_hand_in (address_in key old)) (is_some (address_in key old)) info.valid_lifetime (length old) is).0 in
    let idle : would_form mac (keys_in old) info ≡ false = idle_by (is_forming info) (is_among key (keys_in old)) there in
    let fit : fits_in limit mac (keys_in old) infos ≡ true = rw idle at h in
    let same : keys_in new ≡ keys_in old = ap keys_in changes.new_is ∙ keys-set old changes.at (announced now (lifetimes_of info) changes.address) changes.address (ap key_of (sym changes.is)) in
    (refl, ap (λ ks. fits_in limit mac ks infos) same ∙ fit)
fits_on limit now mac info delay retrans (Ok Ignored) old new infos taken is changes h =
    let key = named_by mac info in
    let there : is_by_hand_in (address_in key old) ≡ true → is_forming info && not (is_among key (keys_in old)) ≡ false =
    λ hand. idle_by (is_forming info) (is_among key (keys_in old)) (sym (known_among key old) ∙ known_by_hand (address_in key old) hand) in
    let idle : would_form mac (keys_in old) info ≡ false = elim (ignored_parts limit (is_by_hand_in (address_in key old)) (is_some (address_in key old)) info.valid_lifetime (length old) is) [
      | inl hand ↦ there hand
      | inr zero' ↦ rw (taken, zero') refl
    ] in
    let fit : fits_in limit mac (keys_in old) infos ≡ true = rw idle at h in
    (refl, ap (λ (l : List Address). fits_in limit mac (keys_in l) infos) changes ∙ fit)
fits_on limit now mac info delay retrans (Err full) old new infos taken is changes h =
    let key = named_by mac info in
    let parts = refused_parts limit (is_by_hand_in (address_in key old)) (is_some (address_in key old)) info.valid_lifetime (length old) full is in
    let nz : eqb info.valid_lifetime 0 ≡ false = parts.1 in
    let free : is_among key (keys_in old) ≡ false = sym (known_among key old) ∙ parts.0 in
    let room : ltb (length (keys_in old)) limit ≡ false = ap (λ n. ltb n limit) (keys-length old) ∙ parts.2 in
    let none : false ≡ true = rw (taken, nz, free, room) at h in
    absurd (true≢false (sym none))

-- where they fit there is room for all of them
pub all_have_room : (limit : ℕ) (mac : Mac) (keys : List ℕ) (infos : List PrefixInfo) → fits_in limit mac keys infos ≡ true → with_room limit mac keys infos ≡ infos
all_have_room limit mac keys [] h = refl
all_have_room limit mac keys (info ∷ infos) h = elim (cases_Bool (would_form mac keys info)) [
  | inl forms ↦
      let both : (ltb (length keys) limit && fits_in limit mac (named_by mac info ∷ keys) infos) ≡ true = rw forms at h in
      let parts = and_parts (ltb (length keys) limit) (fits_in limit mac (named_by mac info ∷ keys) infos) both in
      let rest : with_room limit mac (named_by mac info ∷ keys) infos ≡ infos = all_have_room limit mac (named_by mac info ∷ keys) infos parts.1 in
      rw (forms, parts.0, rest) refl
  | inr idle ↦
      let fit : fits_in limit mac keys infos ≡ true = rw idle at h in
      idle_first limit mac keys info infos idle ∙ ap (λ (l : List PrefixInfo). info ∷ l) (all_have_room limit mac keys infos fit)
]

-- an option that isn't refused is the first of those that have room, and the others are what has room behind it
pub room_on : (limit now : ℕ) (mac : Mac) (info : PrefixInfo) (delay retrans : ℕ) (r : Result Taken Full) (old new : List Address) (infos : List PrefixInfo) → is_taken info ≡ true → r ≡ taken_by limit (is_by_hand_in (address_in (named_by mac info) old)) (is_some (address_in (named_by mac info) old)) info.valid_lifetime (length old) → Changes now (named_by mac info) (lifetimes_of info) delay retrans r old new → IsOk r → with_room limit mac (keys_in old) (info ∷ infos) ≡ info ∷ with_room limit mac (keys_in new) infos
room_on limit now mac info delay retrans (Ok Formed) old new infos taken is changes ok =
    let key = named_by mac info in
    let parts = formed_parts limit (is_by_hand_in (address_in key old)) (is_some (address_in key old)) info.valid_lifetime (length old) is in
    let nz : eqb info.valid_lifetime 0 ≡ false = parts.1 in
    let free : is_among key (keys_in old) ≡ false = sym (known_among key old) ∙ parts.0 in
    let room : ltb (length (keys_in old)) limit ≡ true = ap (λ n. ltb n limit) (keys-length old) ∙ parts.2 in
    let first : with_room limit mac (keys_in old) (info ∷ infos) ≡ info ∷ with_room limit mac (key ∷ keys_in old) infos = rw (taken, nz, free, room) refl in
    let put : new ≡ put_in key_of (formed key now delay retrans (Some (lifetimes_of info))) old = changes.1 in
    first ∙ ap (λ (l : List PrefixInfo). info ∷ l) (sym (ap (λ (l : List Address). with_room limit mac (keys_in l) infos) put ∙ room_same limit mac (keys_in (put_in key_of (formed key now delay retrans (Some (lifetimes_of info))) old)) (key ∷ keys_in old) infos
    (λ k. among-put k (formed key now delay retrans (Some (lifetimes_of info))) old)
    (keys-length (put_in key_of (formed key now delay retrans (Some (lifetimes_of info))) old) ∙ (length-put (formed key now delay retrans (Some (lifetimes_of info))) old ∙ ap suc (sym (keys-length old))))))
room_on limit now mac info delay retrans (Ok Renewed) old new infos taken is changes ok =
    let key = named_by mac info in
    let there : is_among key (keys_in old) ≡ true = sym (known_among key old) ∙ (renewed_parts limit (is_by_hand_in (address_in key old)) (is_some (address_in key old)) info.valid_lifetime (length old) is).0 in
    let idle : would_form mac (keys_in old) info ≡ false = idle_by (is_forming info) (is_among key (keys_in old)) there in
    let same : keys_in new ≡ keys_in old = ap keys_in changes.new_is ∙ keys-set old changes.at (announced now (lifetimes_of info) changes.address) changes.address (ap key_of (sym changes.is)) in
    idle_first limit mac (keys_in old) info infos idle ∙ ap (λ ks. info ∷ with_room limit mac ks infos) (sym same)
room_on limit now mac info delay retrans (Ok Ignored) old new infos taken is changes ok =
    let key = named_by mac info in
    let there : is_by_hand_in (address_in key old) ≡ true → is_forming info && not (is_among key (keys_in old)) ≡ false =
    λ hand. idle_by (is_forming info) (is_among key (keys_in old)) (sym (known_among key old) ∙ known_by_hand (address_in key old) hand) in
    let idle : would_form mac (keys_in old) info ≡ false = elim (ignored_parts limit (is_by_hand_in (address_in key old)) (is_some (address_in key old)) info.valid_lifetime (length old) is) [
      | inl hand ↦ there hand
      | inr zero' ↦ rw (taken, zero') refl
    ] in
    idle_first limit mac (keys_in old) info infos idle ∙ ap (λ (l : List Address). info ∷ with_room limit mac (keys_in l) infos) (sym changes)
room_on limit now mac info delay retrans (Err full) old new infos taken is changes ok = absurd (true≢false (sym ok))

-- what the call adds to the history
pub gains_taken : (now : ℕ) (mac : Mac) (info : PrefixInfo) (delay retrans : ℕ) (r : Result Taken Full) (old new : List Address) → Changes now (named_by mac info) (lifetimes_of info) delay retrans r old new → GainsRowIfAny (row_taken now mac info delay retrans r) old new
gains_taken now mac info delay retrans (Ok Formed) old new changes = formed_gains (named_by mac info) now delay retrans (lifetimes_of info) old new changes.0 changes.1
gains_taken now mac info delay retrans (Ok Renewed) old new changes = announced_gains (named_by mac info) now (lifetimes_of info) old new changes
gains_taken now mac info delay retrans (Ok Ignored) old new changes = changes
gains_taken now mac info delay retrans (Err full) old new changes = changes

-- and that this may come
pub comes_taken : (limit transmits now : ℕ) (mac : Mac) (info : PrefixInfo) (delay retrans count : ℕ) (r : Result Taken Full) (history : List Row) → r ≡ taken_by limit (is_by_hand (story (named_by mac info) history)) (is_known (story (named_by mac info) history)) info.valid_lifetime count → 0 < retrans → IfSome (row_taken now mac info delay retrans r) (λ row. MayCome transmits row history)
comes_taken limit transmits now mac info delay retrans count (Ok Formed) history is positive = ((formed_parts limit (is_by_hand (story (named_by mac info) history)) (is_known (story (named_by mac info) history)) info.valid_lifetime count is).0, positive)
comes_taken limit transmits now mac info delay retrans count (Ok Renewed) history is positive = renewed_parts limit (is_by_hand (story (named_by mac info) history)) (is_known (story (named_by mac info) history)) info.valid_lifetime count is
comes_taken limit transmits now mac info delay retrans count (Ok Ignored) history is positive = tt
comes_taken limit transmits now mac info delay retrans count (Err full) history is positive = tt

-- ---- by a walk over the options

-- the walk has come to these options: the addresses that are known, and those that options before these form, decide of them
pub record Comes (limit : ℕ) (mac : Mac) (known : List ℕ) (formed : List Addr) (rest : List PrefixInfo) (fit : Bool) : Type 0 where
  pub keys : List ℕ
  pub among : (key : ℕ) → is_among key keys ≡ (is_among key known || is_listed key formed)
  pub long : length keys ≡ length known + length formed
  pub decides : fits_in limit mac keys rest ≡ fit

module _ (limit : ℕ) (mac : Mac) (known : List ℕ) (formed : List Addr) (rest : List PrefixInfo) (info : PrefixInfo) (more : List PrefixInfo) (fit : Bool) (is : rest ≡ info ∷ more) (c : Comes limit mac known formed rest fit) where
  forms_is : would_form mac c.keys info ≡ is_new mac known formed info
  forms_is = ap (λ b. is_forming info && not b) (c.among (named_by mac info)) ∙ by (is_forming info) (is_among (named_by mac info) known) (is_listed (named_by mac info) formed)
    where
      by : (f a b : Bool) → (f && not (a || b)) ≡ ((f && not a) && not b)
      by true true b = refl
      by true false b = refl
      by false a b = refl

  first : fits_in limit mac c.keys (info ∷ more) ≡ fit
  first = ap (λ (l : List PrefixInfo). fits_in limit mac c.keys l) (sym is) ∙ c.decides

  -- an option that forms no other address
  pub comes_past : is_new mac known formed info ≡ false → Comes limit mac known formed more fit
  comes_past none = record {
    keys = c.keys;
    among = c.among;
    long = c.long;
    decides = sym (cond-false (would_form mac c.keys info) (ltb (length c.keys) limit && fits_in limit mac (named_by mac info ∷ c.keys) more) (fits_in limit mac c.keys more) (forms_is ∙ none)) ∙ first;
  }

  forming : is_new mac known formed info ≡ true → (ltb (length c.keys) limit && fits_in limit mac (named_by mac info ∷ c.keys) more) ≡ fit
  forming new = sym (cond-true (would_form mac c.keys info) (ltb (length c.keys) limit && fits_in limit mac (named_by mac info ∷ c.keys) more) (fits_in limit mac c.keys more) (forms_is ∙ new)) ∙ first

  -- one that does
  pub comes_on : (addr : Addr) → is_new mac known formed info ≡ true → number_of addr.0 ≡ named_by mac info → length known + length formed < limit → Comes limit mac known (formed ++ addr ∷ []) more fit
  comes_on addr new named lt = record {
    keys = named_by mac info ∷ c.keys;
    among = λ key. ap (λ b. eqb (named_by mac info) key || b) (c.among key)
        ∙ (by (eqb (named_by mac info) key) (is_among key known) (is_listed key formed)
        ∙ (ap (λ n. is_among key known || (is_listed key formed || (eqb n key || false))) (sym named)
        ∙ ap (λ b. is_among key known || b) (sym (list_any-append (λ a. eqb (number_of a.0) key) formed (addr ∷ [])))));
    long = omega (arith, c.long, length-append formed (addr ∷ []));
    decides =
        let room : ltb (length c.keys) limit ≡ true = grind (arith, nat_tests, c.long, lt) in
        ap (λ b. b && fits_in limit mac (named_by mac info ∷ c.keys) more) (sym room) ∙ forming new;
  }
    where
      by : (n a b : Bool) → (n || (a || b)) ≡ (a || (b || (n || false)))
      by true true true = refl
      by true true false = refl
      by true false true = refl
      by true false false = refl
      by false true b = refl
      by false false true = refl
      by false false false = refl

  -- one for which there is no room
  pub comes_no_further : is_new mac known formed info ≡ true → limit ≤ length known + length formed → false ≡ fit
  comes_no_further new full =
      let none : ltb (length c.keys) limit ≡ false = grind (arith, nat_tests, c.long, full) in
      ap (λ b. b && fits_in limit mac (named_by mac info ∷ c.keys) more) (sym none) ∙ forming new

-- ---- by the bytes of the options

few_fit : (limit : ℕ) (mac : Mac) (keys : List ℕ) (infos : List PrefixInfo) → length keys + length infos ≤ limit → fits_in limit mac keys infos ≡ true
few_fit limit mac keys [] le = refl
few_fit limit mac keys (info ∷ infos) le = elim (cases_Bool (would_form mac keys info)) [
  | inr idle ↦ rw idle (few_fit limit mac keys infos (omega (arith, le)))
  | inl forms ↦
      let room : ltb (length keys) limit ≡ true = grind (arith, nat_tests, le) in
      rw (forms, room) (few_fit limit mac (named_by mac info ∷ keys) infos (omega (arith, le)))
]

prefixes_few : (options : List Said) → 32 * length (prefixes_in options) ≤ sizes options
prefixes_few [] = omega arith
prefixes_few (prefix p ∷ options) = omega (arith, prefixes_few options)
prefixes_few (slla _ ∷ options) = omega (arith, prefixes_few options)
prefixes_few (tlla _ ∷ options) = omega (arith, prefixes_few options)
prefixes_few (redirected _ ∷ options) = omega (arith, prefixes_few options)
prefixes_few (mtu _ ∷ options) = omega (arith, prefixes_few options)
prefixes_few (rdnss _ _ ∷ options) = omega (arith, prefixes_few options)
prefixes_few (dnssl _ _ ∷ options) = omega (arith, prefixes_few options)
prefixes_few (other _ _ ∷ options) = omega (arith, prefixes_few options)

-- there is room for as many addresses as the bytes could form
pub fits_bytes : (limit : ℕ) (mac : Mac) (entries : List Address) (options : List Said) (bytes : ℕ) → sizes options ≤ bytes → length entries + bytes / 32 ≤ limit → fits_in limit mac (keys_in entries) (prefixes_in options) ≡ true
fits_bytes limit mac entries options bytes enough few =
    let keys = keys-length entries in
    let most = prefixes_few options in
    few_fit limit mac (keys_in entries) (prefixes_in options) (omega (arith, keys, most, enough, few))
