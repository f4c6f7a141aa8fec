-- The number of one of the node's addresses is that of an address, and of no multicast address.
use Rattle.std.proofs.Common.{◌≡◌, ℕ, ◌/◌, ◌^◌, Bool, true, false, cond, eqb, List, [], ◌∷◌, ◌++◌, length, take, slice_index, refl, sym, ◌∙◌, ap, subst, arith, inl, inr}
use Rattle.std.specs.Prelude.{◌==◌, ◌&&◌, not, nat_lt, nat_eq, MatchBool, bit_xor}
use Rattle.std.specs.List.{AllByRecursion}
use Rattle.std.proofs.lemmas.Bool.{eqb-true, true≢false, cases_Bool}
use Rattle.std.proofs.lemmas.List.{length-append, length-take}
use Rattle.std.proofs.lemmas.List.Elements.{recursion_from_All}
use Rattle.std.proofs.lemmas.Nat.{xor_lt}
use Rattle.nd_addr.specs.Bytes.{IsBytes, AreBytes}
use Rattle.nd_addr.specs.Kind.{multicast_prefix, link_local_address, link_local_prefix}
use Rattle.nd_addr.specs.InterfaceId.{address_from_mac}
use Rattle.nd_addr.specs.Number.{number_of, addr_at, holds}
use Rattle.nd_addr.specs.declared.addr.Addr.{Addr}
use Rattle.nd_addr.specs.declared.mac.Mac.{Mac}
use Rattle.nd_addr.proofs.ByteLists.{AreSmall, AreSmall-append, AreSmall-from, IsBytes-from, IsBytes-take}
use Rattle.nd_addr.proofs.Numbered.{addr_back}
use Rattle.nd_addr.proofs.Numbers.{first_byte}
use Rattle.nd_decode.specs.declared.prefix_info.PrefixInfo.{PrefixInfo}
use Rattle.nd_compose.specs.Meaning.{IsUnicast}
use Rattle.nd_message.specs.Fitting.{FitsPrefix}
use Rattle.nd_table.specs.History.{Past}
use Rattle.nd_table.proofs.Pasts.{all_before}
use Rattle.nd_slaac.specs.Due.{Ends, Solicits, Assigns}
use Rattle.nd_slaac.specs.History.{Row, RowKind, story, Formed, SetByHand, Announced, Solicited, Conflict, Assigned, Ended}
use Rattle.nd_slaac.specs.PrefixOption.{is_taken, named_by, link_local_of}
use Rattle.nd_slaac.specs.ByHand.{AddressByHand, IsOwnAddress}
use Rattle.nd_slaac.specs.State.{is_by_hand, is_known}
use Rattle.nd_slaac.proofs.Steps.{other_story, same_story, ended_story}
use Rattle.nd_chronicle.specs.Start.{Start}
use Rattle.nd_chronicle.specs.Happening.{Chronicle, Passed, TooLate, last_moment}
use Rattle.nd_chronicle.specs.Histories.{address_history}
use Rattle.nd_chronicle.specs.OwnAddress.{story_of}
use Rattle.nd_chronicle.specs.RouterAdvertisement.{forming, naming, then_option, then_options}
use Rattle.nd_chronicle.specs.Event.{ComeAsBytes, ComesAsBytes, Event, EventAdds}
use Rattle.nd_chronicle.specs.History.{Walk, over, adds, passes, Runs, beginning}
use Rattle.nd_chronicle.proofs.Pasts.{history_past}
use Rattle.nd_chronicle.proofs.OwnRows.{Brings, Nothing, Conflicts, Announces, SetsKnown, FormsSet, EndsKnown, BringsDue, NoRow, ItsRow, delay_same, event_brings, comes_brings}

pub record IsUsable (key : ℕ) : Type 0 where
  pub number : number_of (addr_at key).0 ≡ key
  pub unicast : IsUnicast (addr_at key)

-- ---- an address that comes of a link-layer address

identifier_small : (mac : List ℕ) → IsBytes mac
    → AreSmall (bit_xor (slice_index mac 0) 2 ∷ slice_index mac 1 ∷ slice_index mac 2 ∷ 0xff ∷ 0xfe ∷ slice_index mac 3 ∷ slice_index mac 4 ∷ slice_index mac 5 ∷ [])
identifier_small mac m = (xor_lt 8 (slice_index mac 0) 2 (m 0) (omega arith), (m 1, (m 2, (omega arith, (omega arith, (m 3, (m 4, (m 5, tt))))))))

formed_bytes : (prefix mac : List ℕ) → AreBytes 16 prefix → AreBytes 6 mac → AreBytes 16 (address_from_mac prefix mac)
formed_bytes prefix mac p m = record {
  len_is = let l = length-append (take 8 prefix) (bit_xor (slice_index mac 0) 2 ∷ slice_index mac 1 ∷ slice_index mac 2 ∷ 0xff ∷ 0xfe ∷ slice_index mac 3 ∷ slice_index mac 4 ∷ slice_index mac 5 ∷ []) in
      omega (arith, l, length-take 8 prefix, p.len_is);
  each = IsBytes-from _ (AreSmall-append (take 8 prefix) _ (AreSmall-from (take 8 prefix) (IsBytes-take 8 prefix p.each)) (identifier_small mac m.each));
}

first_stays : (prefix rest : List ℕ) → length prefix ≡ 16 → slice_index (take 8 prefix ++ rest) 0 ≡ slice_index prefix 0
first_stays [] rest l = absurd (omega (arith, l))
first_stays (b ∷ bytes) rest l = refl

-- its prefix says whether it is a multicast address
same_kind : (a b : List ℕ) → AreBytes 16 a → AreBytes 16 b → slice_index a 0 ≡ slice_index b 0 → holds multicast_prefix a ≡ holds multicast_prefix b
same_kind a b x y e =
    ap (λ (n : ℕ). nat_eq n (number_of multicast_prefix.address.0 / 2 ^ 120)) (first_byte a x.len_is x.each ∙ e ∙ sym (first_byte b y.len_is y.each))

usable : (address : List ℕ) → AreBytes 16 address → holds multicast_prefix address ≡ false → IsUsable (number_of address)
usable address bytes unicast =
    let a : Addr = record { 0 = address } in
    record {
      number = ap (λ (x : Addr). number_of x.0) (addr_back a bytes);
      unicast = ap (λ (x : Addr). holds multicast_prefix x.0) (addr_back a bytes) ∙ unicast;
    }

formed_usable : (prefix mac : List ℕ) → AreBytes 16 prefix → AreBytes 6 mac → holds multicast_prefix prefix ≡ false → IsUsable (number_of (address_from_mac prefix mac))
formed_usable prefix mac p m unicast =
    let whole = formed_bytes prefix mac p m in
    usable (address_from_mac prefix mac) whole (same_kind (address_from_mac prefix mac) prefix whole p (first_stays prefix _ p.len_is) ∙ unicast)

not_multicast : (auto multicast local lives long : Bool) → (auto && not multicast && not local && lives && long) ≡ true → multicast ≡ false
not_multicast true false local lives long h = refl
not_multicast true true local lives long h = absurd (let no : ⊥ = cc in no)
not_multicast false multicast local lives long h = absurd (let no : ⊥ = cc in no)

named_usable : (mac : Mac) (info : PrefixInfo) → AreBytes 6 mac.0 → AreBytes 16 info.prefix.address.0 → is_taken info ≡ true → IsUsable (named_by mac info)
unfolding is_taken named_by
named_usable mac info m p taken =
    formed_usable info.prefix.address.0 mac.0 p m
    (not_multicast info.autonomous (holds multicast_prefix info.prefix.address.0) (holds link_local_prefix info.prefix.address.0) _ _ taken)

-- an address that is given by hand
is_unicast : (multicast unspecified loopback endless lives : Bool) → (not multicast && not unspecified && not loopback && not endless && lives) ≡ true → multicast ≡ false
is_unicast false unspecified loopback endless lives h = refl
is_unicast true unspecified loopback endless lives h = absurd (let no : ⊥ = cc in no)

given_usable : (own : AddressByHand) → IsOwnAddress own → IsUsable (number_of own.address.0)
given_usable own is = usable own.address.0 is.bytes (is_unicast (holds multicast_prefix own.address.0) _ _ _ _ is.may)

link_local_bytes : AreBytes 16 link_local_address
link_local_bytes = record {
  len_is = refl;
  each = IsBytes-from link_local_address (
    omega arith,
    (
      omega arith,
      (
        omega arith,
        (
          omega arith,
          (
            omega arith,
            (
              omega arith,
              (
                omega arith,
                (
                  omega arith,
                  (omega arith, (omega arith, (omega arith, (omega arith, (omega arith, (omega arith, (omega arith, (omega arith, tt)))))))),
                ),
              ),
            ),
          ),
        ),
      ),
    ),
  );
}

link_local_usable : (mac : Mac) → AreBytes 6 mac.0 → IsUsable (link_local_of mac)
unfolding link_local_of
link_local_usable mac m = formed_usable link_local_address mac.0 link_local_bytes m refl

-- ---- each forming is of such an address, and what is known was formed

abbrev FormsUsable : Row → Type 0
FormsUsable (at, key, Formed delay retrans lifetimes) = IsUsable key
FormsUsable _ = Unit {0}

abbrev AllUsable : List Row → Type 0
AllUsable [] = Unit {0}
AllUsable (row ∷ history) = FormsUsable row × AllUsable history

own_row : (key at : ℕ) (kind : RowKind) (history : List Row) → FormsUsable (at, key, kind) → (is_known (story key history) ≡ true → IsUsable key)
    → is_known (story key ((at, key, kind) ∷ history)) ≡ true → IsUsable key
own_row key at (Formed delay retrans lifetimes) history u more known = u
own_row key at Ended history u more known = absurd (true≢false (sym known ∙ ap is_known (ended_story key at history)))
own_row key at (SetByHand lifetimes) history u more known = more (sym (ap is_known (same_story key at (SetByHand lifetimes) history refl)) ∙ known)
own_row key at (Announced lifetimes) history u more known = more (sym (ap is_known (same_story key at (Announced lifetimes) history refl)) ∙ known)
own_row key at Solicited history u more known = more (sym (ap is_known (same_story key at Solicited history refl)) ∙ known)
own_row key at Conflict history u more known = more (sym (ap is_known (same_story key at Conflict history refl)) ∙ known)
own_row key at Assigned history u more known = more (sym (ap is_known (same_story key at Assigned history refl)) ∙ known)

known_usable : (key : ℕ) (history : List Row) → AllUsable history → is_known (story key history) ≡ true → IsUsable key
known_usable key [] all known = absurd (true≢false (sym known))
known_usable key ((at, k, kind) ∷ history) all known = elim (cases_Bool (eqb k key)) [
  | inl e ↦
      own_row key at kind history (subst (λ (n : ℕ). FormsUsable (at, n, kind)) (eqb-true k key e) all.0) (known_usable key history all.1)
      (subst (λ (n : ℕ). is_known (story key ((at, n, kind) ∷ history)) ≡ true) (eqb-true k key e) known)
  | inr e ↦ known_usable key history all.1 (sym (ap is_known (other_story key k at kind history e)) ∙ known)
]

-- ---- in all cases

module _ (start : Start) (mac : AreBytes 6 start.mac.0) where
  module _ (now : ℕ) (to_all : Bool) where
    usable_if : (t : Bool) (c d : Chronicle) → AllUsable (address_history c) → AllUsable (address_history d) → AllUsable (address_history (cond t c d))
    usable_if true c d u v = u
    usable_if false c d u v = v

    usable_naming : (hand known : Bool) (info : PrefixInfo) (c : Chronicle) → IsUsable (named_by start.mac info) → AllUsable (address_history c)
        → AllUsable (address_history (naming start now to_all hand known info c))
    usable_naming true known info c key u = u
    usable_naming false true info c key u = (tt, u)
    usable_naming false false info c key u =
        usable_if (info.valid_lifetime == 0) c (forming start now to_all (named_by start.mac info) _ c) u (key, subst AllUsable (sym (delay_same now start to_all c)) u)

    usable_option : (taken : Bool) (info : PrefixInfo) (c : Chronicle) → is_taken info ≡ taken → FitsPrefix info → AllUsable (address_history c)
        → AllUsable (address_history (cond taken (naming start now to_all (is_by_hand (story_of c (named_by start.mac info))) (is_known (story_of c (named_by start.mac info))) info c) c))
    usable_option true info c taken f u = usable_naming (is_by_hand (story_of c (named_by start.mac info))) (is_known (story_of c (named_by start.mac info))) info c (named_usable start.mac info mac f.prefix_is.address_is taken) u
    usable_option false info c taken f u = u

    usable_options : (infos : List PrefixInfo) (c : Chronicle) → AllByRecursion FitsPrefix infos → AllUsable (address_history c)
        → AllUsable (address_history (then_options start now to_all infos c))
    usable_options [] c f u = u
    usable_options (info ∷ infos) c f u = usable_options infos (then_option start now to_all info c) f.1 (usable_option (is_taken info) info c refl f.0 u)

  usable_due : {c d : Chronicle} {m : ℕ} → BringsDue start.transmits m c d → AllUsable (address_history c) → AllUsable (address_history d)
  usable_due (NoRow same) u = subst AllUsable (sym same) u
  usable_due (ItsRow (Ends key) first is) u = subst AllUsable (sym is) (tt, u)
  usable_due (ItsRow (Solicits key) first is) u = subst AllUsable (sym is) (tt, u)
  usable_due (ItsRow (Assigns key) first is) u = subst AllUsable (sym is) (tt, u)

  usable_walk : {c d : Chronicle} {m n : ℕ} → Walk start c m n d → AllUsable (address_history c) → AllUsable (address_history d)
  usable_walk (over lt) u = u
  usable_walk {c = c} {m = m} (adds what le due w) u = usable_walk w (usable_due (comes_brings start m c what due) u)
  usable_walk (passes le due w) u = usable_walk w u

  usable_event : {now : ℕ} {event : Event} {c d : Chronicle} → ComesAsBytes event → Brings start now event c d → AllUsable (address_history c) → AllUsable (address_history d)
  usable_event bytes (Nothing same) u = subst AllUsable (sym same) u
  usable_event bytes (Conflicts key tentative is) u = subst AllUsable (sym is) (tt, u)
  usable_event bytes (SetsKnown key lifetimes not known is) u = subst AllUsable (sym is) (tt, u)
  usable_event bytes (EndsKnown key not known is) u = subst AllUsable (sym is) (tt, u)
  usable_event bytes (FormsSet own set not unknown up is) u =
      subst AllUsable (sym is) (tt, (given_usable own (bytes.own own set), u))
  usable_event {now = now} bytes (Announces frame infos to_all e received fit up same is) u =
      subst AllUsable (sym is) (usable_options now to_all infos e (fit (bytes.frame frame received)) (subst AllUsable (sym same) u))

  usable_follows : (t : Bool) (c : Chronicle) (now last : ℕ) (event : Event) (d : Chronicle) → ComesAsBytes event → AllUsable (address_history c)
      → MatchBool t (d ≡ (now, TooLate last) ∷ c) ((e : Chronicle) × Walk start c (last_moment start.at c) now e × EventAdds start now event ((now, Passed) ∷ e) d)
      → AllUsable (address_history d)
  usable_follows true c now last event d bytes u h = subst AllUsable (sym (ap address_history h)) u
  usable_follows false c now last event d bytes u h = usable_event bytes (event_brings start now event ((now, Passed) ∷ h.0) d h.2) (usable_walk h.1 u)

  usable_run : (events : List (ℕ × Event)) (c d : Chronicle) → AllByRecursion (λ event. ComesAsBytes event.1) events → Runs start c events d → AllUsable (address_history c)
      → AllUsable (address_history d)
  usable_run [] c d bytes h u = subst AllUsable (sym (ap address_history h)) u
  usable_run (event ∷ events) c d bytes h u =
      usable_run events h.0 d bytes.1 h.2 (usable_follows (nat_lt event.0 (last_moment start.at c)) c event.0 (last_moment start.at c) event.1 h.0 bytes.0 u h.1)

  pub own_usable : (events : List (ℕ × Event)) (c d : Chronicle) (key : ℕ) → ComeAsBytes events → Runs start (beginning start) events c → Past d c
      → is_known (story_of d key) ≡ true → IsUsable key
  own_usable events c d key bytes runs p known =
      known_usable key (address_history d)
      (all_before AllUsable (λ row h all. all.1) (address_history d) (address_history c) (history_past d c p)
      (usable_run events (beginning start) c (recursion_from_All _ events bytes) runs (link_local_usable start.mac mac, tt))) known
