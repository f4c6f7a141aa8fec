-- Which prefixes a router advertises (RFC 4861, section 6.2.1, AdvPrefixList). Each question looks back over what happened.
use Rattle.std.specs.Prelude.{ℕ, Bool, false, ◌&&◌, ◌||◌, not, nat_le, if◌then◌else◌, List, [], ◌∷◌, ◌++◌, length, Option, Some, None, option_to_list, Result, Ok, Err}
use Rattle.std.specs.List.{flat_map}
use Rattle.nd_addr.specs.Prefix.{PrefixValue}
use Rattle.nd_addr.specs.Same.{same_prefix}
use Rattle.nd_decode.specs.declared.prefix_info.PrefixInfo.{PrefixInfo}
use Rattle.nd_advertiser.specs.History.{Row, Offered}
use Rattle.nd_advertiser.specs.declared.offers.Full.{Full}

-- the greatest limit on the prefixes that are advertised (our choice)
abbrev pub max_offers : ℕ
max_offers = 16

-- the prefix is among them
abbrev pub is_among : PrefixValue → List PrefixValue → Bool
is_among prefix [] = false
is_among prefix (p ∷ ps) = same_prefix prefix p || is_among prefix ps

-- the prefixes that were offered, each once, in the order in which each was first offered
abbrev pub prefixes : List Row → List PrefixValue
prefixes [] = []
prefixes (Offered info ∷ history) = if is_among info.prefix (prefixes history) then prefixes history else prefixes history ++ info.prefix ∷ []
prefixes (_ ∷ history) = prefixes history

-- how a prefix was offered last
abbrev pub offer_of : PrefixValue → List Row → Option PrefixInfo
offer_of prefix [] = None
offer_of prefix (Offered info ∷ history) = if same_prefix prefix info.prefix then Some info else offer_of prefix history
offer_of prefix (_ ∷ history) = offer_of prefix history

-- the advertised prefixes: each as it was offered last, in the order in which each was first offered
abbrev pub offers_of : List Row → List PrefixInfo
offers_of history = flat_map (λ prefix. option_to_list (offer_of prefix history)) (prefixes history)

-- an offer of this prefix would be one too many besides those of these prefixes
abbrev pub is_one_too_many : ℕ → PrefixValue → List PrefixValue → Bool
is_one_too_many limit prefix ps = not (is_among prefix ps) && nat_le limit (length ps)

-- the answer to an offer of a prefix, where these are advertised
abbrev pub answer_to : ℕ → PrefixValue → List PrefixValue → Result (Unit {0}) Full
answer_to limit prefix ps = if is_one_too_many limit prefix ps then Err (record {}) else Ok tt
