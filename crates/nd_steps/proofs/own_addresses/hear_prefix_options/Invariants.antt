use Rattle.std.proofs.Common.{◌≡◌, length}
use Rattle.std.specs.Prelude.{◌&&◌}
use Rattle.nd_decode.specs.Pieces.{options_left}
use Rattle.nd_slaac.specs.PrefixOption.{prefixes_in}
use Rattle.nd_slaac.specs.Room.{with_room}
use Rattle.nd_slaac.specs.Calls.{keys_in}
use Rattle.nd_chronicle.specs.Start.{Start}
use Rattle.nd_chronicle.specs.Happening.{Chronicle}
use Rattle.nd_chronicle.specs.RouterAdvertisement.{then_options}
use Rattle.nd_steps.specs.DestinationCache.{forms_none}
use Rattle.nd_steps.specs.OwnAddresses.{Forms}
use Rattle.nd_steps.proofs.own_addresses.hear_prefix_options.Given as goal

-- What those of the options that are left add where the code is for which there is room there, all for which there is room add from the start. All form no
-- address where none was formed so far and the rest forms none.
abbrev pub invariant-loop-info : goal.invariant-loop-info
invariant-loop-info g l =
    ((start : Start) (c : Chronicle) → Forms start l.fn.addresses (g.R.Rng.stream l.fn.generator) l.retrans c → (mid : Chronicle) × Forms start l.addresses (g.R.Rng.stream l.generator) l.retrans mid
    × (then_options start l.now l.to_all (with_room l.fn.addresses.limit l.fn.addresses.mac (keys_in l.fn.addresses.addresses) (prefixes_in (options_left l.options))) c
    ≡ then_options start l.now l.to_all (with_room l.addresses.limit l.addresses.mac (keys_in l.addresses.addresses) (prefixes_in (options_left l.rest))) mid)) ×
    ((l.none_formed && forms_none l.addresses.mac (keys_in l.addresses.addresses) (with_room l.addresses.limit l.addresses.mac (keys_in l.addresses.addresses) (prefixes_in (options_left l.rest))))
    ≡ forms_none l.fn.addresses.mac (keys_in l.fn.addresses.addresses) (with_room l.fn.addresses.limit l.fn.addresses.mac (keys_in l.fn.addresses.addresses) (prefixes_in (options_left l.options))))

abbrev pub decreases-loop-info : goal.decreases-loop-info
decreases-loop-info g l = length (options_left l.rest)
