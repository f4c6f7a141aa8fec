-- What a program in C reads of a frame.
use Rattle.std.specs.Prelude.{ℕ, ◌+◌, ◌-◌, Bool, true, false, List, ◌==◌, if◌then◌else◌, replicate}
use Rattle.nd_addr.specs.Ip6.{next_header_icmpv6, payload_length_of}
use Rattle.nd_addr.specs.Places.{packet_in}
use Rattle.nd_addr.specs.Why.{number_of}
use Rattle.nd_addr.specs.declared.preference.Preference.{Preference}
use Rattle.nd_addr.specs.declared.preference.Preference.TheVariants.{Medium, High, Low}
use Rattle.nd_addr.specs.declared.role.Role.{Role}
use Rattle.nd_addr.specs.declared.role.Role.TheVariants.{Host, Router}
use Rattle.nd_decode.specs.Message.{least_length}
use Rattle.nd_decode.specs.declared.body.Body.{Body}
use Rattle.nd_decode.specs.declared.body.Body.TheVariants as bodies
use Rattle.nd_validity.specs.Hearing.{Outcome, valid, other, dropped}
use Rattle.nd_heard.specs.declared.heard.Heard.{Heard}

-- the roles by their numbers
abbrev pub role_of : ℕ → Role
role_of role = if role == 0 then Host else Router

-- the preferences by their numbers
abbrev pub preference_number : Preference → ℕ
preference_number Medium = 0
preference_number High = 1
preference_number Low = 2

abbrev pub flag : Bool → ℕ
flag true = 1
flag false = 0

abbrev pub zeros : List ℕ
zeros = replicate 16 0

-- no field
abbrev pub nothing : Heard
nothing = record {
  source = zeros;
  destination = zeros;
  target = zeros;
  redirected = zeros;
  hearing = 0;
  why = 0;
  message_type = 0;
  next_header = 0;
  options = 0;
  options_bytes = 0;
  reachable_time = 0;
  retrans_timer = 0;
  router_lifetime = 0;
  hop_limit = 0;
  managed = 0;
  other = 0;
  preference = 0;
  router = 0;
  solicited = 0;
  override_flag = 0;
  reserved = 0;
}

-- the fields of a message (RFC 4861, sections 4.1 to 4.5)
abbrev pub with_body : Body → Heard
with_body bodies.Rs = record nothing { message_type = 133 }
with_body (bodies.Ra ra) = record nothing {
  message_type = 134;
  reachable_time = ra.reachable_time;
  retrans_timer = ra.retrans_timer;
  router_lifetime = ra.router_lifetime;
  hop_limit = ra.hop_limit;
  managed = flag ra.managed;
  other = flag ra.other;
  preference = preference_number ra.preference;
}
with_body (bodies.Ns ns) = record nothing { message_type = 135; target = ns.target.0 }
with_body (bodies.Na na) = record nothing {
  message_type = 136;
  target = na.target.0;
  router = flag na.router;
  solicited = flag na.solicited;
  override_flag = flag na.override_flag;
}
with_body (bodies.Redirect r) = record nothing { message_type = 137; target = r.target.0; redirected = r.destination.0 }

-- what is written of a frame: of a valid message its fields, and where its options begin, behind the Ethernet header, the IPv6 header and the
-- fields; of another packet its addresses and its next header; of a frame to be dropped the reason
abbrev pub heard_of : List ℕ → Outcome → Heard
heard_of frame (valid source destination message) =
    let fields = with_body message.body in
    record fields {
      source = source.0;
      destination = destination.0;
      hearing = 1;
      next_header = next_header_icmpv6;
      options = 54 + least_length fields.message_type;
      options_bytes = payload_length_of (packet_in frame) - least_length fields.message_type;
    }
heard_of frame (other packet) = record nothing {
  source = packet.header.source.0;
  destination = packet.header.destination.0;
  hearing = 2;
  next_header = packet.header.next_header;
}
heard_of frame (dropped why) = record nothing { hearing = 3; why = number_of why }
