-- The texts of options.
use Rattle.std.specs.Prelude.{ℕ, List, ◌++◌, length, codes}
use Rattle.std.specs.Fmt.{decimal}
use Rattle.std.specs.List.{flat_map}
use Rattle.nd_text.specs.Digits.{hex_text}
use Rattle.nd_text.specs.Flags.{flags_text}
use Rattle.nd_addr.specs.Text.{address_text, mac_text, prefix_text}
use Rattle.nd_addr.specs.declared.addr.Addr.{Addr}
use Rattle.nd_search_list.specs.Text.{name_text}
use Rattle.nd_decode.specs.Option.{Said, slla, tlla, prefix, redirected, mtu, rdnss, dnssl, other}
use Rattle.nd_decode.specs.declared.prefix_info.PrefixInfo.{PrefixInfo}

-- the two times of a Prefix Information, with a space before each
abbrev pub lifetimes_text : PrefixInfo → List ℕ
lifetimes_text p = codes " " ++ decimal p.valid_lifetime ++ codes " " ++ decimal p.preferred_lifetime

-- the flags and the times of a Prefix Information, with a space before each
abbrev pub behind_prefix_text : PrefixInfo → List ℕ
behind_prefix_text p = codes " " ++ flags_text p.on_link p.autonomous (codes "l") (codes "a") ++ lifetimes_text p

-- the address of a DNS server, with a space before it
abbrev pub server_text : Addr → List ℕ
server_text server = codes " " ++ address_text server.0

-- a name of a search list, with a space before it
abbrev pub search_text : List ℕ → List ℕ
search_text name = codes " " ++ name_text name

-- the text of an option, with a space before it
abbrev pub option_text : Said → List ℕ
option_text (slla mac) = codes " slla " ++ mac_text mac.0
option_text (tlla mac) = codes " tlla " ++ mac_text mac.0
option_text (prefix p) = codes " prefix " ++ prefix_text p.prefix ++ behind_prefix_text p
option_text (redirected packet) = codes " redirected " ++ decimal (length packet)
option_text (mtu n) = codes " mtu " ++ decimal n
option_text (rdnss lifetime servers) = codes " rdnss " ++ decimal lifetime ++ codes " " ++ decimal (length servers) ++ flat_map server_text servers
option_text (dnssl lifetime names) = codes " dnssl " ++ decimal lifetime ++ codes " " ++ decimal (length names) ++ flat_map search_text names
option_text (other kind bytes) = codes " opt " ++ decimal kind ++ codes " " ++ hex_text bytes
