-- Frames that are sent carry their messages, and are heard as they are meant.
use Rattle.std.proofs.Common.{◌≡◌, ℕ, Bool, true, false, ◌&&◌, List, [], ◌∷◌, None, refl, sym, ap, subst, ◌∙◌}
use Rattle.std.specs.Prelude.{bytes_eq}
use Rattle.std.specs.List.{list_any}
use Rattle.std.proofs.lemmas.Slice.Eq.{bytes_eq-Decides}
use Rattle.nd_addr.specs.Bytes.{AreBytes}
use Rattle.nd_addr.specs.Frame.{addressed}
use Rattle.nd_addr.specs.Kind.{unspecified_address}
use Rattle.nd_addr.specs.declared.addr.Addr.{Addr}
use Rattle.nd_addr.specs.declared.mac.Mac.{Mac}
use Rattle.nd_addr.specs.declared.role.Role.{Role}
use Rattle.nd_addr.specs.declared.role.Role.TheVariants.{Host, Router}
use Rattle.nd_decode.specs.Carried.{Carries}
use Rattle.nd_decode.specs.Option.{Said, slla}
use Rattle.nd_decode.specs.declared.body.Body.{Body}
use Rattle.nd_decode.specs.declared.body.Body.TheVariants as bodies
use Rattle.nd_message.proofs.Framing.{frame_carries, readdressed_carries}
use Rattle.nd_validity.specs.Hearing.{valid, Hears}
use Rattle.nd_validity.specs.Validity.{is_slla, is_solicited_node, fault_of, is_not_for}
use Rattle.nd_validity.proofs.Carried.{heard}
use Rattle.nd_compose.specs.Frames.{unspecified, all_nodes, all_routers, solicited_node, open_mac, detection_frame, solicitation, resolution_frame, probe_frame, router_solicitation_frame, advertisement, defence_frame, answer_frame}
use Rattle.nd_compose.proofs.Formed.{bare_formed, solicitation_formed, router_solicitation_formed, advertisement_formed}
use Rattle.nd_compose.specs.Meaning.{IsUnicast, IsDetection, IsDefence}

-- ---- what is sent

module _ (mac : Mac) (m : AreBytes 6 mac.0) where
  pub detection_sent : (address : Addr) → AreBytes 16 address.0 → IsDetection (detection_frame mac address) address
  detection_sent address h = record {
    message = record { body = bodies.Ns (record { target = address }); options = [] };
    carried = frame_carries _ mac unspecified (solicited_node address) (record { body = bodies.Ns (record { target = address }); options = [] }) refl m.len_is refl refl (bare_formed address h);
    body_is = refl;
    no_slla = refl;
  }

  pub defence_sent : (router : Bool) (address : Addr) → AreBytes 16 address.0 → IsDefence (defence_frame router mac address) address
  defence_sent router address h = record {
    message = advertisement router false mac address;
    router = router;
    overrides = true;
    carried = frame_carries _ mac address all_nodes (advertisement router false mac address) refl m.len_is h.len_is refl (advertisement_formed router false mac address m h);
    body_is = refl;
  }

  pub resolution_carries : (source target : Addr) → AreBytes 16 source.0 → AreBytes 16 target.0
      → Carries (resolution_frame mac source target) source (solicited_node target) (solicitation mac target)
  resolution_carries source target s t = frame_carries _ mac source (solicited_node target) (solicitation mac target) refl m.len_is s.len_is refl (solicitation_formed mac target m t)

  pub probe_carries : (source : Addr) (to : Mac) (target : Addr) → AreBytes 16 source.0 → AreBytes 6 to.0 → AreBytes 16 target.0
      → Carries (probe_frame mac source to target) source target (solicitation mac target)
  probe_carries source to target s d t = frame_carries to mac source target (solicitation mac target) d.len_is m.len_is s.len_is t.len_is (solicitation_formed mac target m t)

  pub router_solicitation_carries : (source : Addr) → AreBytes 16 source.0
      → Carries (router_solicitation_frame mac source) source all_routers (record { body = bodies.Rs; options = slla mac ∷ [] })
  router_solicitation_carries source s =
      frame_carries _ mac source all_routers (record { body = bodies.Rs; options = slla mac ∷ [] }) refl m.len_is s.len_is refl (router_solicitation_formed mac m)

  pub answer_carries : (router : Bool) (target asker : Addr) (to : Mac) → AreBytes 16 target.0 → AreBytes 16 asker.0 → AreBytes 6 to.0
      → Carries (addressed to (answer_frame router mac target asker)) target asker (advertisement router true mac target)
  answer_carries router target asker to t a d =
      readdressed_carries to (answer_frame router mac target asker) target asker (advertisement router true mac target) d.len_is
      (frame_carries open_mac mac target asker (advertisement router true mac target) refl m.len_is t.len_is a.len_is (advertisement_formed router true mac target m t))

-- ---- and heard

solicited_again : (address : Addr) → is_solicited_node (solicited_node address) ≡ true
solicited_again address = (bytes_eq-Decides (solicited_node address).0 (solicited_node address).0).1 refl

solicits_without_fault : (address : Addr) (options : List Said) → IsUnicast address → list_any is_slla options ≡ false
    → fault_of unspecified (solicited_node address) (record { body = bodies.Ns (record { target = address }); options = options }) ≡ None
solicits_without_fault address options unicast none = rw (unicast, none, solicited_again address) refl

taken_by_all : (role : Role) (address : Addr) → is_not_for role (bodies.Ns (record { target = address })) ≡ false
taken_by_all Host address = refl
taken_by_all Router address = refl

module _ (frame : List ℕ) (address : Addr) (role : Role) (unicast : IsUnicast address) where
  pub detection_heard : (d : IsDetection frame address) → Hears frame role (valid unspecified (solicited_node address) d.message)
  detection_heard d = (heard frame role unspecified (solicited_node address) d.message).1 (
    d.carried,
    subst (λ (b : Body). fault_of unspecified (solicited_node address) (record { body = b; options = d.message.options }) ≡ None) (sym d.body_is)
        (solicits_without_fault address d.message.options unicast d.no_slla),
    ap (is_not_for role) d.body_is ∙ taken_by_all role address,
  )

  no_solicitation : (unspecified has_slla : Bool) → (unspecified && false && has_slla) ≡ false
  no_solicitation true has_slla = refl
  no_solicitation false has_slla = refl

  advertises_without_fault : (router overrides : Bool) (options : List Said)
      → fault_of address all_nodes (record { body = bodies.Na (record { router = router; solicited = false; override_flag = overrides; target = address }); options = options }) ≡ None
  advertises_without_fault router overrides options = rw (unicast, no_solicitation (bytes_eq address.0 unspecified_address) (list_any is_slla options)) refl

  taken_too : (r : Role) (router overrides : Bool) → is_not_for r (bodies.Na (record { router = router; solicited = false; override_flag = overrides; target = address })) ≡ false
  taken_too Host router overrides = refl
  taken_too Router router overrides = refl

  pub defence_heard : (d : IsDefence frame address) → Hears frame role (valid address all_nodes d.message)
  defence_heard d = (heard frame role address all_nodes d.message).1 (
    d.carried,
    subst (λ (b : Body). fault_of address all_nodes (record { body = b; options = d.message.options }) ≡ None) (sym d.body_is) (advertises_without_fault d.router d.overrides d.message.options),
    ap (is_not_for role) d.body_is ∙ taken_too role d.router d.overrides,
  )
