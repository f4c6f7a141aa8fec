-- Only what is kept, in the code's terms: what an option that is borrowed says.
use Rattle.nd_search_list.specs.NamesLeft.{names_left}
use Rattle.nd_decode.specs.declared.option_ref.OptionRef.{OptionRef}
use Rattle.nd_decode.specs.declared.option_ref.OptionRef.TheVariants.{Slla, Tlla, Prefix, Redirected, Mtu, Rdnss, Dnssl, Other}
use Rattle.nd_decode.specs.ServersKept.{servers_left}
use Rattle.nd_decode.specs.Option.{Said, slla, tlla, prefix, redirected, mtu, rdnss, dnssl, other}

-- the same of a borrowed option
abbrev pub view : OptionRef → Said
view (Slla mac) = slla mac
view (Tlla mac) = tlla mac
view (Prefix p) = prefix p
view (Redirected packet) = redirected packet.now
view (Mtu n) = mtu n
view (Rdnss lifetime servers) = rdnss lifetime (servers_left servers)
view (Dnssl lifetime names) = dnssl lifetime (names_left names)
view (Other kind rest) = other kind rest.now
