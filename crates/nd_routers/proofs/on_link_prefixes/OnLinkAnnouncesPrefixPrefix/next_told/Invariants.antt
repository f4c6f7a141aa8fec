use Rattle.std.proofs.Common.{◌≡◌, length}
use Rattle.nd_decode.specs.Pieces.{options_left}
use Rattle.nd_routers.specs.OnLinkPrefixesKept.{prefixes_left}
use Rattle.nd_routers.proofs.on_link_prefixes.OnLinkAnnouncesPrefixPrefix.next_told.Given as goal

-- what is left is the same at each step
abbrev pub invariant-loop-info : goal.invariant-loop-info
invariant-loop-info l = prefixes_left l.self ≡ prefixes_left l.initial.self

abbrev pub decreases-loop-info : goal.decreases-loop-info
decreases-loop-info l = length (options_left l.self.options)
