-- What comes of a frame that is carried: a row that is gained, and how the frames of detection are heard at a node.
use Rattle.std.proofs.Common.{◌≡◌, inl, inr, ℕ, ◌-◌, ◌+◌, Bool, true, false, List, ◌∷◌, ◌++◌, drop, refl, sym, ◌∙◌, ap, subst}
use Rattle.std.specs.Prelude.{◌≢◌, ◌⊎◌, ◌==◌, ◌||◌, ◌&&◌, not, bytes_eq, if◌then◌else◌}
use Rattle.std.proofs.lemmas.Bool.Decides.{Decides-eqb}
use Rattle.std.proofs.lemmas.Slice.Eq.{bytes_eq-Decides}
use Rattle.std.proofs.lemmas.Bool.{cases_Bool}
use Rattle.nd_addr.specs.Bytes.{AreBytes, IsBytes}
use Rattle.nd_addr.specs.Ip6.{ipv6_header_length, payload_length_of}
use Rattle.nd_addr.specs.Number.{addr_at, number_of}
use Rattle.nd_addr.specs.Places.{packet_in, payload_in}
use Rattle.nd_addr.specs.declared.addr.Addr.{Addr}
use Rattle.nd_addr.proofs.ByteLists.{IsBytes-drop, IsBytes-take}
use Rattle.nd_addr.proofs.Numbered.{addr_back}
use Rattle.nd_decode.specs.Message.{Parts}
use Rattle.nd_decode.specs.declared.body.Body.{Body}
use Rattle.nd_decode.specs.declared.body.Body.TheVariants as bodies
use Rattle.nd_message.specs.Fitting.{FitsBody}
use Rattle.nd_message.specs.WellFormed.{MayBeSent}
use Rattle.nd_message.proofs.Formed.{body_fits}
use Rattle.nd_table.proofs.Pasts.{past_self}
use Rattle.nd_compose.specs.Frames.{all_nodes, defence_frame, solicited_node, unspecified}
use Rattle.nd_compose.specs.Meaning.{IsDefence, IsDetection, IsUnicast}
use Rattle.nd_slaac.specs.History.{Conflict, Story}
use Rattle.nd_slaac.specs.State as states
use Rattle.nd_slaac.proofs.Dues.{tentative_parts}
use Rattle.nd_chronicle.specs.Start.{Policies, Start, link_local, link_local_key}
use Rattle.nd_chronicle.specs.Happening.{Address, Chronicle, Heard, Sent}
use Rattle.nd_chronicle.specs.Histories.{neighbour_history}
use Rattle.nd_chronicle.specs.Reading.{read_message}
use Rattle.nd_chronicle.specs.Hearing.{conflicts_with, is_allowed, is_awake, is_foreign}
use Rattle.nd_chronicle.specs.Message.{leaving, releasing, said}
use Rattle.nd_chronicle.specs.NeighborAdvertisement.{conflicting, ends_in_list, then_neighbor_advertised}
use Rattle.nd_chronicle.specs.NeighborSolicitation.{is_router, then_tried}
use Rattle.nd_chronicle.specs.OwnAddress.{is_assigned, is_own, is_tentative, is_up, story_of}
use Rattle.nd_chronicle.specs.Event.{FrameAdds}
use Rattle.nd_chronicle.proofs.Growth.{leaving_grows, releasing_grows, stays}
use Rattle.nd_chronicle.proofs.Grounded.{own_behind, own_known}
use Rattle.nd_chronicle.proofs.OwnKeys.{IsUsable, own_usable}
use Rattle.nd_chronicle.proofs.Reading.{read_by_none}
use Rattle.nd_chronicle.proofs.Rivals.{told, tried}
use Rattle.nd_link_log.proofs.Lives.{Lives}

-- ---- the target of a frame of bytes is an address

payload_bytes : (frame : List ℕ) → IsBytes frame → IsBytes (payload_in frame)
payload_bytes frame bytes =
    let packet = packet_in frame in
    IsBytes-take (ipv6_header_length + payload_length_of packet - ipv6_header_length) (drop ipv6_header_length packet) (IsBytes-drop ipv6_header_length packet (IsBytes-drop 14 frame bytes))

module _ (frame : List ℕ) (address : Addr) (bytes : IsBytes frame) where
  pub tries_address : IsDetection frame address → AreBytes 16 address.0
  tries_address t = subst FitsBody t.body_is (body_fits (payload_in frame) t.message.body (payload_bytes frame bytes) t.carried.packet.spelled.fields t.carried.packet.spelled.body (subst MayBeSent (sym t.body_is) tt)).0

  pub claims_address : IsDefence frame address → AreBytes 16 address.0
  claims_address t = subst FitsBody t.body_is (body_fits (payload_in frame) t.message.body (payload_bytes frame bytes) t.carried.packet.spelled.fields t.carried.packet.spelled.body (subst MayBeSent (sym t.body_is) tt)).0

-- ---- a node that has the address, or tries it

not_assigned : (s : Story) → states.is_tentative s ≡ true → states.is_assigned s ≡ false
not_assigned s t = let p = tentative_parts s t in rw (p.0, p.1, p.2) refl

awake_by : (t a k : Bool) → (t || a) ≡ true → k ≡ true → (a || (t && k)) ≡ true
awake_by t true k h e = refl
awake_by true false k h e = e
awake_by false false k h e = absurd (let no : ⊥ = cc in no)

module _ (Bytes : Type 0) (b : Bytes) (start : Start) (c : Chronicle) (now : ℕ) (l : Lives Bytes start c now) (address : Addr) (bytes : AreBytes 16 address.0) (own : is_own c address.0 ≡ true) where
  unicast : IsUnicast address
  unicast =
      let u : IsUsable (number_of address.0) = own_usable start (l.mac b) l.events c c (number_of address.0) (l.bytes b) l.runs (past_self c) (own_known (story_of c (number_of address.0)) own) in
      subst IsUnicast (addr_back address bytes) u.unicast

  -- it hears what makes its link-local address a duplicate, and all else where that is assigned
  awake : (source : Addr) (body : Body) → (address ≡ link_local start → conflicts_with (link_local start).0 source body ≡ true) → is_awake start c source body ≡ true
  awake source body conflicts = by (cases_Bool (number_of address.0 == link_local_key start))
    where
      by : ((number_of address.0 == link_local_key start) ≡ true) ⊎ ((number_of address.0 == link_local_key start) ≡ false) → is_awake start c source body ≡ true
      by (inl e) =
          let key : number_of address.0 ≡ link_local_key start = (Decides-eqb (number_of address.0) (link_local_key start)).0 e in
          let same : address ≡ link_local start = sym (addr_back address bytes) ∙ ap addr_at key in
          let up : is_assigned c address.0 ≡ is_up start c = ap (λ (n : ℕ). states.is_assigned (story_of c n)) key in
          let trying : is_tentative c address.0 ≡ is_tentative c (link_local start).0 = ap (λ (a : Addr). is_tentative c a.0) same in
          let k : Bool = conflicts_with (link_local start).0 source body in
          subst (λ (u : Bool). (u || (is_tentative c (link_local start).0 && k)) ≡ true) up
          (subst (λ (t : Bool). (is_assigned c address.0 || (t && k)) ≡ true) trying
          (awake_by (is_tentative c address.0) (is_assigned c address.0) k own (conflicts same)))
      by (inr e) =
          let other : number_of address.0 ≢ link_local_key start = λ key. let is = (Decides-eqb (number_of address.0) (link_local_key start)).1 key in let no : ⊥ = cc in no in
          ap (λ (u : Bool). u || (is_tentative c (link_local start).0 && conflicts_with (link_local start).0 source body)) (own_behind start l.events c (l.bytes b) l.runs c address.0 (past_self c) other own)

  -- nodes of a link have no policies
  foreign : (source : Addr) → is_foreign start (is_assigned c) source ≡ true
  foreign source = ap (λ (p : Policies). not (p.own && is_assigned c source.0)) l.policies

  allowed : (source destination : Addr) (message : Parts) → is_allowed start.policies source destination message ≡ true
  allowed source destination message = ap (λ (p : Policies). is_allowed p source destination message) l.policies

  as_said : (message : Parts) → read_message start.policies start.mac message ≡ message
  as_said message = ap (λ (p : Policies). read_message p start.mac message) l.policies ∙ read_by_none start.mac message

  itself : address ≡ link_local start → bytes_eq address.0 (link_local start).0 ≡ true
  itself same = (bytes_eq-Decides address.0 (link_local start).0).1 (ap (λ (a : Addr). a.0) same)

  module _ (frame : List ℕ) (d : Chronicle) (adds : FrameAdds start now frame c d) where
    by_state : (t : IsDetection frame address) (assigned : Bool) → is_assigned c address.0 ≡ assigned
        → d ≡ (if assigned then (now, Sent (defence_frame (is_router start.role) start.mac address)) ∷ (now, Heard unspecified (solicited_node address) t.message) ∷ c
        else (now, Address (number_of address.0) Conflict) ∷ (now, Heard unspecified (solicited_node address) t.message) ∷ c)
    by_state t assigned e =
        tried start c now frame address bytes d unicast t own (awake unspecified (bodies.Ns (record { target = address })) (λ same. ap (λ (k : Bool). k && true) (itself same))) (foreign unspecified)
        (allowed unspecified (solicited_node address) (read_message start.policies start.mac t.message)) adds
        ∙ ap (λ (m : Parts). then_tried start now address ((now, Heard unspecified (solicited_node address) m) ∷ c)) (as_said t.message)
        ∙ ap (λ (k : Bool). if k then (now, Sent (defence_frame (is_router start.role) start.mac address)) ∷ (now, Heard unspecified (solicited_node address) t.message) ∷ c
        else (now, Address (number_of address.0) Conflict) ∷ (now, Heard unspecified (solicited_node address) t.message) ∷ c) e

    -- who has the address tells all nodes
    pub defends : (t : IsDetection frame address) → is_assigned c address.0 ≡ true
        → d ≡ (now, Sent (defence_frame (is_router start.role) start.mac address)) ∷ (now, Heard unspecified (solicited_node address) t.message) ∷ c
    defends t assigned = by_state t true assigned

    -- who tries it finds it a duplicate
    pub gives_way : (t : IsDetection frame address) → is_tentative c address.0 ≡ true
        → d ≡ (now, Address (number_of address.0) Conflict) ∷ (now, Heard unspecified (solicited_node address) t.message) ∷ c
    gives_way t trying = by_state t false (not_assigned (story_of c (number_of address.0)) trying)

    -- and so it does where another node has it
    pub yields : (t : IsDefence frame address) → is_tentative c address.0 ≡ true
        → (newer : Chronicle) × (d ≡ newer ++ ((now, Address (number_of address.0) Conflict) ∷ (now, Heard address all_nodes t.message) ∷ c))
    yields t trying =
        let heard : Chronicle = (now, Heard address all_nodes t.message) ∷ c in
        let conflict : Chronicle = (now, Address (number_of address.0) Conflict) ∷ heard in
        let more : Chronicle → Chronicle = λ x. leaving now (ends_in_list start now c (said c address t.message)) (number_of address.0) (releasing now (said c address t.message) (neighbour_history c) x) in
        let g = leaving_grows now start (ends_in_list start now c (said c address t.message)) (number_of address.0) _
        (releasing_grows now start (said c address t.message) (neighbour_history c) conflict (stays now conflict)) in (
          g.newer,
          told start c now frame address bytes d unicast t (awake address (bodies.Na (record { router = t.router; solicited = false; override_flag = t.overrides; target = address })) itself) (foreign address)
              (allowed address all_nodes (read_message start.policies start.mac t.message)) adds
              ∙ ap (λ (m : Parts). then_neighbor_advertised start now address all_nodes address m c) (as_said t.message)
              ∙ ap (λ (t : Bool). more (conflicting now t (number_of address.0) heard)) trying ∙ g.all,
        )
