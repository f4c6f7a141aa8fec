-- What is drawn, by the words of the generator.
use Rattle.std.specs.Prelude.{ℕ, ◌+◌, ◌-◌, ◌%◌, [], ◌∷◌}
use Rattle.rand_core.specs.Stream.{Stream, next_u32}
use Rattle.nd_params.specs.ReachableTime.{reachable_range}
use Rattle.nd_advertiser.specs.Config.{Settings, interval_range}
use Rattle.nd_chronicle.specs.Start.{Start}
use Rattle.nd_chronicle.specs.Happening.{Chronicle, Drew}

-- what the generator will answer: that of the start, after as many words as were drawn
abbrev pub stream_left : Start → Chronicle → Stream
stream_left start [] = start.stream
stream_left start ((at, Drew what value) ∷ c) = (next_u32 (stream_left start c)).1
stream_left start ((at, _) ∷ c) = stream_left start c

-- a number of a range, both ends included, by the next word
abbrev pub drawn_from : ℕ → ℕ → Stream → ℕ
drawn_from least greatest stream = least + (next_u32 stream).0 % (greatest - least + 1)

-- ReachableTime for a base (RFC 4861, section 6.3.2)
abbrev pub reachable_drawn : ℕ → Stream → ℕ
reachable_drawn base stream = drawn_from (reachable_range base).0 (reachable_range base).1 stream

-- MAX_RTR_SOLICITATION_DELAY: how long the first solicitation for an address waits at most, in milliseconds (RFC 4861, section 10; RFC
-- 4862, section 5.4.2)
abbrev pub max_rtr_solicitation_delay : ℕ
max_rtr_solicitation_delay = 1000

-- that delay
abbrev pub delay_drawn : Stream → ℕ
delay_drawn stream = drawn_from 0 max_rtr_solicitation_delay stream

-- the time until the next Router Advertisement, in milliseconds: "uniformly distributed between the interface's configured MinRtrAdvInterval
-- and MaxRtrAdvInterval" (RFC 4861, section 6.2.4)
abbrev pub interval_drawn : Settings → Stream → ℕ
interval_drawn settings stream = drawn_from (interval_range settings).0 (interval_range settings).1 stream

-- MAX_RA_DELAY_TIME: how long the answer to a Router Solicitation waits at most, in milliseconds (RFC 4861, section 10)
abbrev pub max_ra_delay_time : ℕ
max_ra_delay_time = 500

-- that delay (section 6.2.6)
abbrev pub answer_delay_drawn : Stream → ℕ
answer_delay_drawn stream = drawn_from 0 max_ra_delay_time stream
