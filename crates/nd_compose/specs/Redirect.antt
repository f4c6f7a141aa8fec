-- The Redirect that a router sends (RFC 4861, sections 4.5 and 8.2).
use Rattle.std.specs.Prelude.{ℕ, ◌+◌, ◌-◌, ◌*◌, ◌%◌, List, [], ◌∷◌, ◌++◌, length, replicate, take, Option, Some, None}
use Rattle.nd_addr.specs.declared.addr.Addr.{Addr}
use Rattle.nd_addr.specs.declared.mac.Mac.{Mac}
use Rattle.nd_addr.specs.Ip6.{ipv6_header_length, least_mtu}
use Rattle.nd_decode.specs.Message.{Parts}
use Rattle.nd_decode.specs.Option.{Said, tlla, redirected}
use Rattle.nd_decode.specs.declared.body.Body.TheVariants as bodies
use Rattle.nd_message.specs.Frame.{message_frame}
use Rattle.nd_compose.specs.Frames.{open_mac}

-- "Target Link-Layer Address: the link-layer address for the target. It SHOULD be included (if known)"
abbrev pub target_options : Option Mac → List Said
target_options None = []
target_options (Some mac) = tlla mac ∷ []

-- how many bytes the fields of a Redirect have, and a unit in which the lengths of options are counted
abbrev pub redirect_length : ℕ
redirect_length = 40

abbrev pub option_unit : ℕ
option_unit = 8

-- "as much as possible of the IP packet that triggered the sending of the Redirect without making the redirect packet exceed the minimum MTU":
-- the rest behind the headers, the fields, the options before it, and what the option begins with
abbrev pub most_quoted : List Said → ℕ
most_quoted options = least_mtu - (ipv6_header_length + redirect_length + option_unit * length options + option_unit)

-- with zeros up to a whole unit (section 4.6.3)
abbrev pub padded : List ℕ → List ℕ
padded bytes = bytes ++ replicate ((option_unit - length bytes % option_unit) % option_unit) 0

-- the link-layer address of the target, if it is known, the target, the destination that has it as its first hop, and the packet
abbrev pub redirect_message : Option Mac → Addr → Addr → List ℕ → Parts
redirect_message mac target destination packet = record {
  body = bodies.Redirect (record { target = target; destination = destination });
  options = target_options mac ++ redirected (padded (take (most_quoted (target_options mac)) packet)) ∷ [];
}

-- from one of the node's own addresses to the sender of the packet, addressed when it is sent
abbrev pub redirect_frame : Mac → Addr → Addr → Option Mac → Addr → Addr → List ℕ → List ℕ
redirect_frame mac source to target_mac target destination packet =
    message_frame open_mac mac source to (redirect_message target_mac target destination packet)
