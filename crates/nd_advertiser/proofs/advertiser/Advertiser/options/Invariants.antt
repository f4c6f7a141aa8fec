use Rattle.std.proofs.Common.{◌≡◌, ◌≤◌, ◌+◌, ◌*◌, ◌++◌, length, map}
use Rattle.std.specs.List.{AllByRecursion, flat_map}
use Rattle.nd_decode.specs.Option.{prefix}
use Rattle.nd_message.specs.Fitting.{FitsOption}
use Rattle.nd_message.specs.Owned.{said}
use Rattle.nd_message.specs.Spelling.{piece_of}
use Rattle.nd_advertiser.specs.Contents.{options_of, options_length}
use Rattle.nd_advertiser.proofs.advertiser.Advertiser.options.Given as goal

-- what is written and what is left are the options, which fit so far, those that are left have 32 bytes each, and all have a place
abbrev pub invariant-loop-offer : goal.invariant-loop-offer
invariant-loop-offer g l =
    (map said l.options.items ++ map prefix l.offer-iterator ≡ options_of l.fn.mac l.fn.mtu l.self.offers) × AllByRecursion FitsOption (map said l.options.items)
    × (length (flat_map piece_of (map said l.options.items)) + 32 * length l.offer-iterator ≤ options_length l.self.limit)
    × (length l.options.items + length l.offer-iterator ≤ 18)
