-- What happened to a router's advertising (RFC 4861, section 6.2), the newest first. Moments and times are in milliseconds.
use Rattle.std.specs.Prelude.{ℕ}
use Rattle.nd_decode.specs.declared.prefix_info.PrefixInfo.{PrefixInfo}
use Rattle.nd_advertiser.specs.Config.{Settings}

pub data Row : Type 0 where
  -- the interface is to advertise, with these settings: it becomes an advertising interface, or is one already (section 6.2.2)
  Advertises : (at : ℕ) (settings : Settings) → Row
  -- its link-local address was assigned, from which advertisements are sent (section 4.2)
  Assigned : (at : ℕ) → Row
  -- a solicitation came that has to be planned for, with the delay that was drawn for its answer (section 6.2.6)
  Solicited : (at delay : ℕ) → Row
  -- an advertisement was sent, with the time until the next one that was drawn for it (section 6.2.4)
  Sent : (at interval : ℕ) → Row
  -- the interface ceases to advertise (section 6.2.5)
  Ceased : (at : ℕ) → Row
  -- a prefix is to be advertised so, a new one or one that is there (section 6.2.1, AdvPrefixList)
  Offered : (info : PrefixInfo) → Row
