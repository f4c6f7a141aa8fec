use Rattle.std.proofs.Common.{◌≡◌, length}
use Rattle.nd_decode.specs.Pieces.{options_left}
use Rattle.nd_params.specs.RouterAdvertisement.{first_mtu}
use Rattle.nd_params.proofs.router_advertisement.first_mtu.Given as goal

-- the first of the rest is the first of all
abbrev pub invariant-loop-option : goal.invariant-loop-option
invariant-loop-option l = first_mtu (options_left l.rest) ≡ first_mtu (options_left l.initial.rest)

abbrev pub decreases-loop-option : goal.decreases-loop-option
decreases-loop-option l = length (options_left l.rest)
