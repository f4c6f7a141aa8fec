-- What a node takes of what a frame says, by its policies.
use Rattle.std.specs.Prelude.{◌≡◌, ℕ, Bool, false, ◌&&◌, ◌||◌, nat_le, nat_lt, bytes_eq, slice_index, replicate, if◌then◌else◌, List, [], ◌∷◌, Option, Some, None}
use Rattle.nd_addr.specs.declared.mac.Mac.{Mac}
use Rattle.nd_addr.specs.declared.role.Role.{Role}
use Rattle.nd_decode.specs.Message.{Parts}
use Rattle.nd_decode.specs.Option.{Said, slla, tlla, is_set}
use Rattle.nd_decode.specs.declared.body.Body.{Body}
use Rattle.nd_decode.specs.declared.body.Body.TheVariants as bodies
use Rattle.nd_decode.specs.Reading.{options_read}
use Rattle.nd_decode.specs.declared.reading.Reading.{Reading}
use Rattle.nd_decode.specs.declared.router_advertisement.RouterAdvertisement.{RouterAdvertisement}
use Rattle.nd_advertiser.specs.Config.{greatest_lifetime, greatest_reachable_time}
use Rattle.nd_validity.specs.Hearing.{Outcome, valid, Hears}
use Rattle.nd_chronicle.specs.Start.{Policies}

-- ---- the policy `timers`

-- a number outside its range says nothing, as 0 does: "A value of zero means unspecified" (RFC 4861, section 4.2)
abbrev pub in_range : ℕ → ℕ → ℕ → ℕ
in_range least most number = if nat_le least number && nat_le number most then number else 0

-- an advertisement whose numbers say nothing outside their ranges: a Cur Hop Limit of at least 32, a Reachable Time of 1,000 ms to the most that a router
-- may advertise (section 6.2.1), and a Retrans Timer of 100 to 30,000 ms (our choice)
abbrev pub in_ranges : RouterAdvertisement → RouterAdvertisement
in_ranges ra = record ra {
  hop_limit = if nat_le 32 ra.hop_limit then ra.hop_limit else 0;
  reachable_time = in_range 1000 greatest_reachable_time ra.reachable_time;
  retrans_timer = in_range 100 30000 ra.retrans_timer;
}

abbrev pub read_timers : Policies → RouterAdvertisement → RouterAdvertisement
read_timers policies ra = if policies.timers then in_ranges ra else ra

-- ---- the policy `lifetimes`

-- a router lifetime, in seconds, of at most what a router may be set to (RFC 4861, section 6.2.1)
abbrev pub bounded_lifetime : ℕ → ℕ
bounded_lifetime seconds = if nat_lt greatest_lifetime seconds then greatest_lifetime else seconds

abbrev pub bounded : RouterAdvertisement → RouterAdvertisement
bounded ra = record ra { router_lifetime = bounded_lifetime ra.router_lifetime }

abbrev pub read_advertisement : Policies → RouterAdvertisement → RouterAdvertisement
read_advertisement policies ra = if policies.lifetimes then bounded (read_timers policies ra) else read_timers policies ra

-- ---- the body of a message

abbrev pub read_body : Policies → Body → Body
read_body policies (bodies.Ra ra) = bodies.Ra (read_advertisement policies ra)
read_body policies body = body

-- ---- the policy `self`

-- a group's link-layer address has the lowest bit of its first byte set (RFC 7042, section 2.1)
abbrev pub is_group : Mac → Bool
is_group mac = is_set (slice_index mac.0 0) 1

-- no other node has this link-layer address: a group's, zeros, or the node's own
abbrev pub is_of_no_other : Mac → Mac → Bool
is_of_no_other own mac = is_group mac || bytes_eq mac.0 (replicate 6 0) || bytes_eq mac.0 own.0

-- the node's own address, where options that give it are passed over: with the policy
abbrev pub own_address : Policies → Mac → Option Mac
own_address policies mac = if policies.own then Some mac else None

-- the address is passed over then
abbrev pub is_passed_over : Option Mac → Mac → Bool
is_passed_over None mac = false
is_passed_over (Some own) mac = is_of_no_other own mac

-- the option gives such an address
abbrev pub passes_over : Option Mac → Said → Bool
passes_over own (slla mac) = is_passed_over own mac
passes_over own (tlla mac) = is_passed_over own mac
passes_over own _ = false

-- the other options, as if those that are passed over weren't there
abbrev pub without : Option Mac → List Said → List Said
without own [] = []
without own (option ∷ options) = if passes_over own option then without own options else option ∷ without own options

abbrev pub read_options : Policies → Mac → List Said → List Said
read_options policies mac options = without (own_address policies mac) options

-- ---- the policies `unformed` and `lifetimes`

-- how the options are read: `unformed` reads the flag A of a Prefix Information as clear, and `lifetimes` each lifetime as at most a week
abbrev pub reading_of : Policies → Reading
reading_of policies = record { unformed = policies.unformed; bounded = policies.lifetimes }

-- ---- what is read

abbrev pub read_message : Policies → Mac → Parts → Parts
read_message policies mac message = record {
  body = read_body policies message.body;
  options = read_options policies mac (options_read (reading_of policies) message.options);
}

-- no policy reads a frame otherwise that is dropped, or another packet
abbrev pub read_outcome : Policies → Mac → Outcome → Outcome
read_outcome policies mac (valid source destination message) = valid source destination (read_message policies mac message)
read_outcome policies mac outcome = outcome

-- what a node with these policies and this link-layer address reads in the frame
pub record IsRead (policies : Policies) (mac : Mac) (frame : List ℕ) (role : Role) (outcome : Outcome) : Type 0 where
  pub said : Outcome
  pub by_frame : Hears frame role said
  pub as_read : outcome ≡ read_outcome policies mac said
