-- What the Router Advertisements that were heard say of the link, the newest first (RFC 4861, section 6.3.4). Nothing here has a
-- state: each question looks back.
use Rattle.std.specs.Prelude.{ℕ, Bool, false, List, [], ◌∷◌, Option, Some, None}
use Rattle.nd_addr.specs.Frame.{ethernet_mtu}
use Rattle.nd_decode.specs.declared.router_advertisement.RouterAdvertisement.{RouterAdvertisement}
use Rattle.nd_decode.specs.Option.{Said}
use Rattle.nd_params.specs.RouterAdvertisement.{first_mtu, nonzero_or, valid_mtu_or}

-- a Router Advertisement is heard with its options, or ReachableTime is drawn, in milliseconds
pub data Row : Type 0 where
  Heard : (ra : RouterAdvertisement) (options : List Said) → Row
  Drew : (at value : ℕ) → Row

-- CurHopLimit until one is announced: the number of the registry of IP parameters (RFC 4861, section 6.3.2)
abbrev pub default_hop_limit : ℕ
default_hop_limit = 64

-- BaseReachableTime and RetransTimer until they are announced, in milliseconds (RFC 4861, section 10)
abbrev pub reachable_time : ℕ
reachable_time = 30000

abbrev pub retrans_timer : ℕ
retrans_timer = 1000

-- CurHopLimit: the last one that was announced
abbrev pub hop_limit_of : List Row → ℕ
hop_limit_of [] = default_hop_limit
hop_limit_of (Heard ra options ∷ history) = nonzero_or ra.hop_limit (hop_limit_of history)
hop_limit_of (Drew at value ∷ history) = hop_limit_of history

-- LinkMTU: the last one that was announced and the link can have
abbrev pub mtu_of : List Row → ℕ
mtu_of [] = ethernet_mtu
mtu_of (Heard ra options ∷ history) = valid_mtu_or (first_mtu options) (mtu_of history)
mtu_of (Drew at value ∷ history) = mtu_of history

-- BaseReachableTime in milliseconds: the last one that was announced
abbrev pub base_of : List Row → ℕ
base_of [] = reachable_time
base_of (Heard ra options ∷ history) = nonzero_or ra.reachable_time (base_of history)
base_of (Drew at value ∷ history) = base_of history

-- RetransTimer in milliseconds: the last one that was announced
abbrev pub retrans_of : List Row → ℕ
retrans_of [] = retrans_timer
retrans_of (Heard ra options ∷ history) = nonzero_or ra.retrans_timer (retrans_of history)
retrans_of (Drew at value ∷ history) = retrans_of history

-- the flags M and O of the last Router Advertisement
abbrev pub managed_of : List Row → Bool
managed_of [] = false
managed_of (Heard ra options ∷ history) = ra.managed
managed_of (Drew at value ∷ history) = managed_of history

abbrev pub other_of : List Row → Bool
other_of [] = false
other_of (Heard ra options ∷ history) = ra.other
other_of (Drew at value ∷ history) = other_of history

-- a Router Advertisement is heard, and ReachableTime drawn if this says so
abbrev pub then_heard : ℕ → RouterAdvertisement → List Said → Option ℕ → List Row → List Row
then_heard at ra options None history = Heard ra options ∷ history
then_heard at ra options (Some value) history = Drew at value ∷ Heard ra options ∷ history
