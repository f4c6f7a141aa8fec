-- Each text spells what a command acts on, or doesn't.
use Rattle.std.proofs.Common.{◌≡◌, ℕ, ◌^◌, Bool, true, false, List, [], ◌∷◌, Some, None, sym, ◌∙◌, ap, subst, inl, inr, lit≤, refl}
use Rattle.std.specs.Prelude.{Result, Ok, Err, ◌+◌, codes, length}
use Rattle.std.proofs.lemmas.Bool.Decides.{eqb_tells}
use Rattle.nd_text.specs.Flags.{flags_text}
use Rattle.nd_text.proofs.AddressTexts.{some_option}
use Rattle.nd_addr.specs.declared.addr.Addr.{Addr}
use Rattle.nd_addr.specs.declared.why.Why.{Why}
use Rattle.nd_addr.specs.Ip6.{PacketParts, packet_of}
use Rattle.nd_addr.specs.declared.preference.Preference.{Preference}
use Rattle.nd_addr.specs.declared.preference.Preference.TheVariants.{High, Medium, Low}
use Rattle.nd_addr.specs.Prefix.{PrefixValue}
use Rattle.nd_decode.specs.RouterFlags.{router_flags_text}
use Rattle.nd_decode.specs.declared.prefix_info.PrefixInfo.{PrefixInfo}
use Rattle.nd_advertiser.specs.Config.{Settings, config_fault}
use Rattle.nd_advertiser.specs.Offer.{offer_fault}
use Rattle.nd_steps.specs.Packets.{IsWholePacket}
use Rattle.nd_forwarding.specs.declared.route.Route as routes
use Rattle.nd_forwarding.specs.declared.route.Route.TheVariants.{Direct, Via}
use Rattle.nd_slaac.specs.ByHand.{AddressByHand, may_be_own}
use Rattle.nd_chronicle.specs.Event.{Clearable, ClearNeighbours, ClearRouters, ClearPrefixes, ClearRedirects, ClearDns}
use Rattle.nd_chronicle.specs.Shown.{Table, NeighbourTable, RouterTable, PrefixTable, AddressTable, DnsTable, RedirectTable, ParameterTable, AdvertiseTable, RouteTable}
use Rattle.nd_existence.proofs.Deciding.{Decided, same_or, true_or}
use Rattle.ndpctl_run.specs.Address.{IsAddressWord}
use Rattle.ndpctl_run.specs.Bytes.{IsBytesWord}
use Rattle.ndpctl_run.specs.Number.{IsNumberOr}
use Rattle.ndpctl_run.specs.Offer.{default_valid_lifetime, default_preferred_lifetime, SpellOffer, IsOffer}
use Rattle.ndpctl_run.specs.OwnAddress.{endless_lifetime, SpellOwnAddress, AreOwnAddressWords}
use Rattle.ndpctl_run.specs.Packet.{IsNextHeaderWord, IsPacket, IsPacketWord}
use Rattle.ndpctl_run.specs.Route.{IsWay, SpellRoute, IsRoute}
use Rattle.ndpctl_run.specs.Settings.{default_max_interval, default_lifetime, SpellSettings, AreSettings}
use Rattle.ndpctl_run.specs.Table.{table_word, clearable_word}
use Rattle.ndpctl_run.specs.Words.{Parts, words_of}
use Rattle.ndpctl_run.proofs.BytesWords.{one_bytes}
use Rattle.ndpctl_run.proofs.NumberWords.{one_number_or}
use Rattle.ndpctl_run.proofs.OfferWords as offers
use Rattle.ndpctl_run.proofs.OwnAddressWords as own_addresses
use Rattle.ndpctl_run.proofs.Partings.{parts_at, no_parts}
use Rattle.ndpctl_run.proofs.SettingsWords as settings
use Rattle.nd_existence.proofs.Words.{parted_or, number_or, number_or_default, bytes_or, address_or, prefix_or}

-- ---- one of few

some_bool : (P : Bool → Type 0) → ((b : Bool) → Decided (P b)) → Decided ((b : Bool) × P b)
some_bool P decided = elim (decided true) [
  | inl p ↦ inl (true, p)
  | inr no_true ↦ elim (decided false) [
    | inl p ↦ inl (false, p)
    | inr no_false ↦ inr (λ p. neither p.0 no_true no_false p.1)
  ]
]
  where
    neither : (b : Bool) → (P true → ⊥) → (P false → ⊥) → P b → ⊥
    neither true t f p = t p
    neither false t f p = f p

some_preference : (P : Preference → Type 0) → ((b : Preference) → Decided (P b)) → Decided ((b : Preference) × P b)
some_preference P decided = elim (decided High) [
  | inl p ↦ inl (High, p)
  | inr no_high ↦ elim (decided Medium) [
    | inl p ↦ inl (Medium, p)
    | inr no_medium ↦ elim (decided Low) [
      | inl p ↦ inl (Low, p)
      | inr no_low ↦ inr (λ p. none p.0 no_high no_medium no_low p.1)
    ]
  ]
]
  where
    none : (b : Preference) → (P High → ⊥) → (P Medium → ⊥) → (P Low → ⊥) → P b → ⊥
    none High h m l p = h p
    none Medium h m l p = m p
    none Low h m l p = l p

some_clearable : (P : Clearable → Type 0) → ((t : Clearable) → Decided (P t)) → Decided ((t : Clearable) × P t)
some_clearable P decided = elim (decided ClearNeighbours) [
  | inl p ↦ inl (ClearNeighbours, p)
  | inr a ↦ elim (decided ClearRouters) [
    | inl p ↦ inl (ClearRouters, p)
    | inr b ↦ elim (decided ClearPrefixes) [
      | inl p ↦ inl (ClearPrefixes, p)
      | inr c ↦ elim (decided ClearRedirects) [
        | inl p ↦ inl (ClearRedirects, p)
        | inr d ↦ elim (decided ClearDns) [
          | inl p ↦ inl (ClearDns, p)
          | inr e ↦ inr (λ p. none p.0 a b c d e p.1)
        ]
      ]
    ]
  ]
]
  where
    none : (t : Clearable) → (P ClearNeighbours → ⊥) → (P ClearRouters → ⊥) → (P ClearPrefixes → ⊥) → (P ClearRedirects → ⊥) → (P ClearDns → ⊥) → P t → ⊥
    none ClearNeighbours a b c d e p = a p
    none ClearRouters a b c d e p = b p
    none ClearPrefixes a b c d e p = c p
    none ClearRedirects a b c d e p = d p
    none ClearDns a b c d e p = e p

some_table : (P : Table → Type 0) → ((t : Table) → Decided (P t)) → Decided ((t : Table) × P t)
some_table P decided = elim (decided NeighbourTable) [
  | inl p ↦ inl (NeighbourTable, p)
  | inr a ↦ elim (decided RouterTable) [
    | inl p ↦ inl (RouterTable, p)
    | inr b ↦ elim (decided PrefixTable) [
      | inl p ↦ inl (PrefixTable, p)
      | inr c ↦ elim (decided AddressTable) [
        | inl p ↦ inl (AddressTable, p)
        | inr d ↦ elim (decided DnsTable) [
          | inl p ↦ inl (DnsTable, p)
          | inr e ↦ elim (decided RedirectTable) [
            | inl p ↦ inl (RedirectTable, p)
            | inr f ↦ elim (decided ParameterTable) [
              | inl p ↦ inl (ParameterTable, p)
              | inr g ↦ elim (decided AdvertiseTable) [
                | inl p ↦ inl (AdvertiseTable, p)
                | inr h ↦ elim (decided RouteTable) [
                  | inl p ↦ inl (RouteTable, p)
                  | inr i ↦ inr (λ p. none p.0 a b c d e f g h i p.1)
                ]
              ]
            ]
          ]
        ]
      ]
    ]
  ]
]
  where
    none : (t : Table) → (P NeighbourTable → ⊥) → (P RouterTable → ⊥) → (P PrefixTable → ⊥) → (P AddressTable → ⊥) → (P DnsTable → ⊥) → (P RedirectTable → ⊥)
        → (P ParameterTable → ⊥) → (P AdvertiseTable → ⊥) → (P RouteTable → ⊥) → P t → ⊥
    none NeighbourTable a b c d e f g h i p = a p
    none RouterTable a b c d e f g h i p = b p
    none PrefixTable a b c d e f g h i p = c p
    none AddressTable a b c d e f g h i p = d p
    none DnsTable a b c d e f g h i p = e p
    none RedirectTable a b c d e f g h i p = f p
    none ParameterTable a b c d e f g h i p = g p
    none AdvertiseTable a b c d e f g h i p = h p
    none RouteTable a b c d e f g h i p = i p

pub clearable_or : (words : List ℕ) → Decided ((table : Clearable) × (words ≡ clearable_word table))
clearable_or words = some_clearable (λ table. words ≡ clearable_word table) (λ table. same_or words (clearable_word table))

pub table_or : (words : List ℕ) → Decided ((table : Table) × (words ≡ table_word table))
table_or words = some_table (λ table. words ≡ table_word table) (λ table. same_or words (table_word table))

-- ---- settings

router_flags_or : (word : List ℕ) → Decided ((managed : Bool) × ((other : Bool) × ((preference : Preference) × (word ≡ router_flags_text managed other preference))))
router_flags_or word = some_bool _ (λ managed. some_bool _ (λ other. some_preference _ (λ preference. same_or word (router_flags_text managed other preference))))

settings_by : (words : List (List ℕ)) → Decided ((s : Settings) × SpellSettings words s)
settings_by (min ∷ max ∷ lifetime ∷ hop_limit ∷ flags ∷ reachable ∷ retrans ∷ mtu ∷ []) =
    elim (number_or (2 ^ 16) min) [
      | inr none ↦ inr (λ p. none (p.0.min_interval, p.1.0))
      | inl a ↦ elim (number_or_default default_max_interval (2 ^ 16) max) [
        | inr none ↦ inr (λ p. none (p.0.max_interval, p.1.1))
        | inl b ↦ elim (number_or_default (default_lifetime b.0) (2 ^ 16) lifetime) [
          | inr none ↦ inr (λ p.
              let same : p.0.max_interval ≡ b.0 = one_number_or default_max_interval (2 ^ 16) (lit≤ tt) max p.0.max_interval b.0 p.1.1 b.1 in
              none (p.0.fields.router_lifetime, subst (λ (m : ℕ). IsNumberOr (default_lifetime m) (2 ^ 16) lifetime p.0.fields.router_lifetime) same p.1.2))
          | inl c ↦ elim (number_or (2 ^ 8) hop_limit) [
            | inr none ↦ inr (λ p. none (p.0.fields.hop_limit, p.1.3))
            | inl d ↦ elim (router_flags_or flags) [
              | inr none ↦ inr (λ p. none (p.0.fields.managed, (p.0.fields.other, (p.0.fields.preference, p.1.4))))
              | inl e ↦ elim (number_or (2 ^ 32) reachable) [
                | inr none ↦ inr (λ p. none (p.0.fields.reachable_time, p.1.5))
                | inl f ↦ elim (number_or (2 ^ 32) retrans) [
                  | inr none ↦ inr (λ p. none (p.0.fields.retrans_timer, p.1.6))
                  | inl g ↦ elim (number_or (2 ^ 32) mtu) [
                    | inr none ↦ inr (λ p. none (p.0.mtu, p.1.7))
                    | inl h ↦ inl (
                      record {
                        min_interval = a.0;
                        max_interval = b.0;
                        fields = record { hop_limit = d.0; managed = e.0; other = e.1.0; preference = e.1.1.0; router_lifetime = c.0; reachable_time = f.0; retrans_timer = g.0 };
                        mtu = h.0;
                      },
                      (a.1, b.1, c.1, d.1, e.1.1.1, f.1, g.1, h.1),
                    )
                  ]
                ]
              ]
            ]
          ]
        ]
      ]
    ]
settings_by _ = inr (λ p. p.1)

pub settings_or : (text : List ℕ) → Decided ((s : Settings) × AreSettings text s)
settings_or text = elim (settings_by (words_of text)) [
  | inr none ↦ inr (λ p. none (p.0, p.1.spelled))
  | inl s ↦ elim (some_option (config_fault s.0)) [
    | inl right ↦ inl (s.0, record { spelled = s.1; right = right })
    | inr fault ↦ inr (λ p.
        let same : p.0 ≡ s.0 = settings.one_spelled (words_of text) p.0 s.0 p.1.spelled s.1 in
        let f : None ≡ Some fault.0 = sym p.1.right ∙ (ap config_fault same ∙ fault.1) in
        absurd (let no : ⊥ = cc in no))
  ]
]

-- ---- offers

offer_flags_or : (word : List ℕ) → Decided ((on_link : Bool) × ((autonomous : Bool) × (word ≡ flags_text on_link autonomous (codes "l") (codes "a"))))
offer_flags_or word = some_bool _ (λ on_link. some_bool _ (λ autonomous. same_or word (flags_text on_link autonomous (codes "l") (codes "a"))))

offer_by : (words : List (List ℕ)) → Decided ((info : PrefixInfo) × SpellOffer words info)
offer_by (prefix ∷ valid ∷ preferred ∷ flags ∷ []) =
    elim (prefix_or prefix) [
      | inr none ↦ inr (λ p. none (p.0.prefix, p.1.0))
      | inl a ↦ elim (number_or_default default_valid_lifetime (2 ^ 32) valid) [
        | inr none ↦ inr (λ p. none (p.0.valid_lifetime, p.1.1))
        | inl b ↦ elim (number_or_default default_preferred_lifetime (2 ^ 32) preferred) [
          | inr none ↦ inr (λ p. none (p.0.preferred_lifetime, p.1.2))
          | inl c ↦ elim (offer_flags_or flags) [
            | inr none ↦ inr (λ p. none (p.0.on_link, (p.0.autonomous, p.1.3)))
            | inl d ↦ inl (record { prefix = a.0; on_link = d.0; autonomous = d.1.0; valid_lifetime = b.0; preferred_lifetime = c.0 }, (a.1, b.1, c.1, d.1.1))
          ]
        ]
      ]
    ]
offer_by _ = inr (λ p. p.1)

pub offer_or : (text : List ℕ) → Decided ((info : PrefixInfo) × IsOffer text info)
offer_or text = elim (offer_by (words_of text)) [
  | inr none ↦ inr (λ p. none (p.0, p.1.spelled))
  | inl s ↦ elim (some_option (offer_fault s.0)) [
    | inl right ↦ inl (s.0, record { spelled = s.1; right = right })
    | inr fault ↦ inr (λ p.
        let same : p.0 ≡ s.0 = offers.one_spelled (words_of text) p.0 s.0 p.1.spelled s.1 in
        let f : None ≡ Some fault.0 = sym p.1.right ∙ (ap offer_fault same ∙ fault.1) in
        absurd (let no : ⊥ = cc in no))
  ]
]

-- ---- routes

way_or : (word : List ℕ) → Decided ((route : routes.Route) × IsWay word route)
way_or word = elim (same_or word (codes "direct")) [
  | inl e ↦ inl (Direct, e)
  | inr d ↦ elim (address_or word) [
    | inl a ↦ inl (Via a.0, a.1)
    | inr none ↦ inr (λ p. neither p.0 p.1 d none)
  ]
]
  where
    neither : (route : routes.Route) → IsWay word route → (word ≡ codes "direct" → ⊥) → (((a : Addr) × IsAddressWord word a) → ⊥) → ⊥
    neither Direct is d none = d is
    neither (Via router) is d none = none (router, is)

route_by : (words : List (List ℕ)) → Decided ((prefix : PrefixValue) × ((route : routes.Route) × SpellRoute words prefix route))
route_by (word ∷ way ∷ []) =
    elim (prefix_or word) [
      | inr none ↦ inr (λ p. none (p.0, p.1.1.0))
      | inl a ↦ elim (way_or way) [
        | inr none ↦ inr (λ p. none (p.1.0, p.1.1.1))
        | inl b ↦ inl (a.0, (b.0, (a.1, b.1)))
      ]
    ]
route_by _ = inr (λ p. p.1.1)

pub route_or : (text : List ℕ) → Decided ((prefix : PrefixValue) × ((route : routes.Route) × IsRoute text prefix route))
route_or text = route_by (words_of text)

-- ---- addresses that are given by hand

own_address_by : (words : List (List ℕ)) → Decided ((own : AddressByHand) × SpellOwnAddress words own)
own_address_by (address ∷ valid ∷ preferred ∷ []) =
    elim (address_or address) [
      | inr none ↦ inr (λ p. none (p.0.address, p.1.0))
      | inl a ↦ elim (number_or_default endless_lifetime (2 ^ 32) valid) [
        | inr none ↦ inr (λ p. none (p.0.lifetimes.valid, p.1.1))
        | inl b ↦ elim (number_or_default endless_lifetime (2 ^ 32) preferred) [
          | inr none ↦ inr (λ p. none (p.0.lifetimes.preferred, p.1.2))
          | inl c ↦ inl (record { address = a.0; lifetimes = record { valid = b.0; preferred = c.0 } }, (a.1, b.1, c.1))
        ]
      ]
    ]
own_address_by _ = inr (λ p. p.1)

pub own_address_or : (text : List ℕ) → Decided ((own : AddressByHand) × AreOwnAddressWords text own)
own_address_or text = elim (own_address_by (words_of text)) [
  | inr none ↦ inr (λ p. none (p.0, p.1.spelled))
  | inl s ↦ elim (true_or (may_be_own s.0)) [
    | inl right ↦ inl (s.0, record { spelled = s.1; right = right })
    | inr fault ↦ inr (λ p.
        let same : p.0 ≡ s.0 = own_addresses.one_spelled (words_of text) p.0 s.0 p.1.spelled s.1 in
        fault (sym (ap may_be_own same) ∙ p.1.right))
  ]
]

-- ---- packets

-- a text of two parts of which the second is decided
module _ {A B : Type 0} (First : List ℕ → A → Type 0) (Rest : List ℕ → B → Type 0) (first_or : (word : List ℕ) → Decided ((a : A) × First word a)) (rest_or : (rest : List ℕ) → Decided ((b : B) × Rest rest b)) where
  pub parts_or : (text : List ℕ) → Decided ((a : A) × ((b : B) × Parts text (λ word. First word a) (λ rest. Rest rest b)))
  parts_or text = elim (parted_or text) [
    | inr none ↦ inr (λ p. no_parts text (λ word. First word p.0) (λ rest. Rest rest p.1.0) none p.1.1)
    | inl w ↦ elim (first_or w.0) [
      | inr none ↦ inr (λ p. none (p.0, (parts_at text w.0 w.1 (λ word. First word p.0) (λ rest. Rest rest p.1.0) w.2 p.1.1).0))
      | inl a ↦ elim (rest_or w.1) [
        | inr none ↦ inr (λ p. none (p.1.0, (parts_at text w.0 w.1 (λ word. First word p.0) (λ rest. Rest rest p.1.0) w.2 p.1.1).1))
        | inl b ↦ inl (a.0, (b.0, record { word = w.0; rest = w.1; parted = w.2; first = a.1; behind = b.1 }))
      ]
    ]
  ]

abbrev Last : Type 0
Last = ℕ × List ℕ

abbrev Middle : Type 0
Middle = Addr × Last

abbrev IsLast : List ℕ → Last → Type 0
IsLast words last = Parts words (λ word. IsNextHeaderWord word last.0) (λ word. IsBytesWord word last.1)

abbrev IsMiddle : List ℕ → Middle → Type 0
IsMiddle words middle = Parts words (λ word. IsAddressWord word middle.0) (λ last. IsLast last middle.1)

header_or : (word : List ℕ) → Decided ((n : ℕ) × IsNextHeaderWord word n)
header_or word = number_or 256 word

last_or : (words : List ℕ) → Decided ((last : Last) × IsLast words last)
last_or words = elim (parts_or (λ word n. IsNextHeaderWord word n) (λ word bytes. IsBytesWord word bytes) header_or bytes_or words) [
  | inl p ↦ inl ((p.0, p.1.0), p.1.1)
  | inr none ↦ inr (λ p. none (p.0.0, (p.0.1, p.1)))
]

middle_or : (words : List ℕ) → Decided ((middle : Middle) × IsMiddle words middle)
middle_or words = elim (parts_or (λ word a. IsAddressWord word a) IsLast address_or last_or words) [
  | inl p ↦ inl ((p.0, p.1.0), p.1.1)
  | inr none ↦ inr (λ p. none (p.0.0, (p.0.1, p.1)))
]

pub packet_or : (words : List ℕ) → Decided ((source : Addr) × ((middle : Addr × (ℕ × List ℕ)) × IsPacket words source middle.0 middle.1.0 middle.1.1))
packet_or words = parts_or (λ word a. IsAddressWord word a) IsMiddle address_or middle_or words

-- ---- a whole packet

whole_or : (bytes : List ℕ) (read : Result PacketParts Why) → packet_of bytes ≡ read → Decided ((packet : PacketParts) × IsWholePacket bytes packet)
whole_or bytes (Err why) is = inr (λ p. let other = sym is ∙ p.1.read in absurd (let no : ⊥ = cc in no))
whole_or bytes (Ok packet) is = elim (eqb_tells (length bytes) (40 + length packet.payload)) [
  | inl e ↦ inl (packet, record { read = is; all = e.1 })
  | inr d ↦ inr (λ p.
      let same : packet ≡ p.0 = (let both = sym is ∙ p.1.read in cc) in
      d.1 (p.1.all ∙ ap (λ (q : PacketParts). 40 + length q.payload) (sym same)))
]

pub whole_packet_or : (word : List ℕ) → Decided ((packet : PacketParts) × IsPacketWord word packet)
whole_packet_or word = elim (bytes_or word) [
  | inr none ↦ inr (λ p. none (p.1.0, p.1.1))
  | inl b ↦ elim (whole_or b.0 (packet_of b.0) refl) [
    | inl w ↦ inl (w.0, (b.0, b.1, w.1))
    | inr none ↦ inr (λ p. none (p.0, subst (λ (bytes : List ℕ). IsWholePacket bytes p.0) (one_bytes word p.1.0 b.0 p.1.1 b.1) p.1.2))
  ]
]
