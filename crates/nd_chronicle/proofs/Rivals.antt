-- What it brings to hear that another node tries one of the node's addresses, or has it.
use Rattle.std.proofs.Common.{◌≡◌, ℕ, Bool, true, false, List, ◌∷◌, None, refl, sym, ap, subst, inl, inr}
use Rattle.std.specs.Prelude.{◌||◌, ◌&&◌, not, if◌then◌else◌}
use Rattle.nd_addr.specs.declared.addr.Addr.{Addr}
use Rattle.nd_addr.specs.Bytes.{AreBytes}
use Rattle.nd_addr.specs.Kind.{solicited_node_of}
use Rattle.nd_addr.specs.Number.{number_of}
use Rattle.nd_addr.proofs.Numbered.{addr_back}
use Rattle.nd_decode.specs.Message.{Parts}
use Rattle.nd_decode.specs.declared.body.Body.{Body}
use Rattle.nd_decode.specs.declared.body.Body.TheVariants as bodies
use Rattle.nd_decode.specs.declared.neighbor_advertisement.NeighborAdvertisement.{NeighborAdvertisement}
use Rattle.nd_validity.specs.Hearing.{Hears, valid}
use Rattle.nd_compose.specs.Frames.{unspecified, all_nodes, solicited_node}
use Rattle.nd_compose.specs.Meaning.{IsUnicast, IsDetection, IsDefence}
use Rattle.nd_compose.proofs.Meant.{detection_heard, defence_heard}
use Rattle.nd_chronicle.specs.Start.{Start}
use Rattle.nd_chronicle.specs.Happening.{Chronicle, Heard}
use Rattle.nd_chronicle.specs.Reading.{read_message}
use Rattle.nd_chronicle.specs.Solicited.{asks}
use Rattle.nd_chronicle.specs.Hearing.{hears, is_allowed, is_awake, is_foreign, IsTaken}
use Rattle.nd_chronicle.specs.NeighborSolicitation.{then_tried}
use Rattle.nd_chronicle.specs.NeighborAdvertisement.{then_neighbor_advertised}
use Rattle.nd_chronicle.specs.OwnAddress.{is_assigned, is_own}
use Rattle.nd_chronicle.specs.Event.{FrameAdds}
use Rattle.nd_chronicle.proofs.Events.{one_frame}

own_is_taken : (t a : Bool) → (t || a) ≡ true → (a || (t && true)) ≡ true
own_is_taken true true e = refl
own_is_taken true false e = refl
own_is_taken false true e = refl
own_is_taken false false e = e

-- an advertisement that answers nobody says so however it is read
unasked_stays : (router overrides : Bool) (address : Addr) (unasked : Bool)
    → (let na : NeighborAdvertisement = record { router = router; solicited = false; override_flag = overrides; target = address } in (if unasked then record na { solicited = false } else na) ≡ na)
unasked_stays router overrides address true = refl
unasked_stays router overrides address false = refl

module _ (start : Start) (c : Chronicle) (now : ℕ) (frame : List ℕ) (address : Addr) (bytes : AreBytes 16 address.0) where
  abbrev as_read : Parts → Parts
  as_read message = read_message start.policies start.mac message

  -- a solicitation from :: for one of the node's addresses
  tried_by : (message : Parts) → message.body ≡ bodies.Ns (record { target = address }) → is_own c address.0 ≡ true → is_awake start c unspecified (bodies.Ns (record { target = address })) ≡ true
      → is_foreign start (is_assigned c) unspecified ≡ true → is_allowed start.policies unspecified (solicited_node address) (as_read message) ≡ true → Hears frame start.role (valid unspecified (solicited_node address) message)
      → FrameAdds start now frame c (then_tried start now address ((now, Heard unspecified (solicited_node address) (as_read message)) ∷ c))
  tried_by message e own awake foreign allowed heard =
      subst (λ (m : Parts). is_allowed start.policies unspecified (solicited_node address) (as_read m) ≡ true → Hears frame start.role (valid unspecified (solicited_node address) m) → FrameAdds start now frame c (then_tried start now address ((now, Heard unspecified (solicited_node address) (as_read m)) ∷ c)))
      (sym (ap (λ (b : Body). let m : Parts = record { body = b; options = message.options } in m) e))
      (λ allowed' h. record {
        verdict = hears unspecified (solicited_node address) (as_read (record { body = bodies.Ns (record { target = address }); options = message.options }));
        heard = record {
          outcome = valid unspecified (solicited_node address) (as_read (record { body = bodies.Ns (record { target = address }); options = message.options }));
          by_frame = record {
            read = valid unspecified (solicited_node address) (as_read (record { body = bodies.Ns (record { target = address }); options = message.options }));
            by_frame = record { said = valid unspecified (solicited_node address) (record { body = bodies.Ns (record { target = address }); options = message.options }); by_frame = h; as_read = refl };
            at_moment = refl;
          };
          by_node = IsTaken (record {
            destination_is = inr (inr (record {
              key = number_of address.0;
              counted = subst (λ (a : Addr). is_own c a.0 ≡ true) (sym (addr_back address bytes)) own;
              to = inr (ap (λ (a : Addr). solicited_node_of a.0) (sym (addr_back address bytes)));
            }));
            target = own_is_taken _ _ own;
            awake = awake;
            foreign = foreign;
            allowed = allowed';
          }) tt;
        };
        adds = (None, record { neighbours = true; placed = refl; first = refl }, refl);
      }) allowed heard

  pub tried : (d : Chronicle) → IsUnicast address → (t : IsDetection frame address) → is_own c address.0 ≡ true → is_awake start c unspecified (bodies.Ns (record { target = address })) ≡ true
      → is_foreign start (is_assigned c) unspecified ≡ true → is_allowed start.policies unspecified (solicited_node address) (as_read t.message) ≡ true
      → FrameAdds start now frame c d → d ≡ then_tried start now address ((now, Heard unspecified (solicited_node address) (as_read t.message)) ∷ c)
  tried d unicast t own awake foreign allowed adds = one_frame start c now frame d _ adds (tried_by t.message t.body_is own awake foreign allowed (detection_heard frame address start.role unicast t))

  -- an advertisement of an address to all nodes
  held_by : (message : Parts) (router overrides : Bool) → message.body ≡ bodies.Na (record { router = router; solicited = false; override_flag = overrides; target = address })
      → is_awake start c address (bodies.Na (record { router = router; solicited = false; override_flag = overrides; target = address })) ≡ true
      → is_foreign start (is_assigned c) address ≡ true → is_allowed start.policies address all_nodes (as_read message) ≡ true → Hears frame start.role (valid address all_nodes message)
      → FrameAdds start now frame c (then_neighbor_advertised start now address all_nodes address (as_read message) c)
  held_by message router overrides e awake foreign allowed heard =
      subst (λ (m : Parts). is_allowed start.policies address all_nodes (as_read m) ≡ true → Hears frame start.role (valid address all_nodes m) → FrameAdds start now frame c (then_neighbor_advertised start now address all_nodes address (as_read m) c))
      (sym (ap (λ (b : Body). let m : Parts = record { body = b; options = message.options } in m) e))
      (λ allowed' h. record {
        verdict = hears address all_nodes (as_read (record { body = bodies.Na (record { router = router; solicited = false; override_flag = overrides; target = address }); options = message.options }));
        heard = record {
          outcome = valid address all_nodes (as_read (record { body = bodies.Na (record { router = router; solicited = false; override_flag = overrides; target = address }); options = message.options }));
          by_frame = record {
            read = valid address all_nodes (as_read (record { body = bodies.Na (record { router = router; solicited = false; override_flag = overrides; target = address }); options = message.options }));
            by_frame = record { said = valid address all_nodes (record { body = bodies.Na (record { router = router; solicited = false; override_flag = overrides; target = address }); options = message.options }); by_frame = h; as_read = refl };
            at_moment =
                ap (λ (na : NeighborAdvertisement). valid address all_nodes (as_read (record { body = bodies.Na na; options = message.options })))
                (sym (unasked_stays router overrides address (start.policies.asked && not (asks c now (number_of address.0)))));
          };
          by_node = IsTaken (record { destination_is = inl refl; target = refl; awake = awake; foreign = foreign; allowed = allowed' }) tt;
        };
        adds = (None, record { neighbours = true; placed = λ enters full. (let no : ⊥ = cc in no); first = refl }, (c, record { pushed = None; place = refl; with_it = refl }, refl));
      }) allowed heard

  pub told : (d : Chronicle) → IsUnicast address → (t : IsDefence frame address)
      → is_awake start c address (bodies.Na (record { router = t.router; solicited = false; override_flag = t.overrides; target = address })) ≡ true
      → is_foreign start (is_assigned c) address ≡ true → is_allowed start.policies address all_nodes (as_read t.message) ≡ true
      → FrameAdds start now frame c d → d ≡ then_neighbor_advertised start now address all_nodes address (as_read t.message) c
  told d unicast t awake foreign allowed adds = one_frame start c now frame d _ adds (held_by t.message t.router t.overrides t.body_is awake foreign allowed (defence_heard frame address start.role unicast t))
