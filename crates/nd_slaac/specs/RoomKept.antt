-- Only what is kept, in the code's terms: which options would form other addresses than those before them.
use Rattle.std.specs.Prelude.{ℕ, Bool, ◌&&◌, ◌==◌, not, List}
use Rattle.std.specs.List.{list_any}
use Rattle.nd_addr.specs.declared.addr.Addr.{Addr}
use Rattle.nd_addr.specs.declared.mac.Mac.{Mac}
use Rattle.nd_addr.specs.Number.{number_of}
use Rattle.nd_decode.specs.declared.prefix_info.PrefixInfo.{PrefixInfo}
use Rattle.nd_slaac.specs.PrefixOption.{named_by}
use Rattle.nd_slaac.specs.Room.{would_form}

-- the address is one of these
abbrev pub is_listed : ℕ → List Addr → Bool
is_listed key addrs = list_any (λ a. number_of a.0 == key) addrs

-- the option would form an address, which isn't one that was formed before it
abbrev pub is_new : Mac → List ℕ → List Addr → PrefixInfo → Bool
is_new mac keys formed info = would_form mac keys info && not (is_listed (named_by mac info) formed)
