-- Only what is kept, in the code's terms: what an iterator over the prefixes has left.
use Rattle.std.specs.Prelude.{ℕ, List}
use Rattle.nd_addr.specs.Prefix.{PrefixValue}
use Rattle.nd_decode.specs.Pieces.{options_left}
use Rattle.nd_routers.specs.declared.on_link_prefixes.OnLink.{OnLink}
use Rattle.nd_routers.specs.OnLinkPrefixes.{prefixes_in}

-- what an iterator over them has left
abbrev pub prefixes_left : OnLink → List (PrefixValue × ℕ)
prefixes_left o = prefixes_in (options_left o.options)
