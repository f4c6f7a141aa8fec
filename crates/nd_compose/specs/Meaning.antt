-- What the frames of duplicate address detection mean, for every sender: by what they carry, not by their bytes.
use Rattle.std.specs.Prelude.{◌≡◌, ℕ, Bool, false, List}
use Rattle.std.specs.List.{list_any}
use Rattle.nd_addr.specs.declared.addr.Addr.{Addr}
use Rattle.nd_addr.specs.Kind.{multicast_prefix}
use Rattle.nd_addr.specs.Number.{holds}
use Rattle.nd_decode.specs.Carried.{Carries}
use Rattle.nd_decode.specs.Message.{Parts}
use Rattle.nd_decode.specs.declared.body.Body.TheVariants as bodies
use Rattle.nd_validity.specs.Validity.{is_slla}
use Rattle.nd_compose.specs.Frames.{unspecified, all_nodes, solicited_node}

-- the address is no multicast address
abbrev pub IsUnicast : Addr → Type 0
IsUnicast address = holds multicast_prefix address.0 ≡ false

-- the frame tries the address: a solicitation for it from ::, to its solicited-node address (RFC 4862, section 5.4.2)
pub record IsDetection (frame : List ℕ) (address : Addr) : Type 0 where
  pub message : Parts
  pub carried : Carries frame unspecified (solicited_node address) message
  pub body_is : message.body ≡ bodies.Ns (record { target = address })
  pub no_slla : list_any is_slla message.options ≡ false

-- the frame announces to all nodes that the address is held: an advertisement for it (RFC 4861, section 7.2.4)
pub record IsDefence (frame : List ℕ) (address : Addr) : Type 0 where
  pub message : Parts
  pub router : Bool
  pub overrides : Bool
  pub carried : Carries frame address all_nodes message
  pub body_is : message.body ≡ bodies.Na (record { router = router; solicited = false; override_flag = overrides; target = address })
