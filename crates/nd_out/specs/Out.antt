-- What a node reports: what happened, as values of Rust, with their moments, the oldest first, and their text.
use Rattle.std.specs.Prelude.{ℕ, List, [], map, string_bytes}
use Rattle.std.specs.List.{flat_map}
use Rattle.std.specs.Option.{option_map}
use Rattle.nd_addr.specs.Number.{number_of}
use Rattle.nd_slaac.specs.History as addresses
use Rattle.nd_neighbour.specs.History as neighbours
use Rattle.nd_out.specs.declared.out.Loss as losses
use Rattle.nd_out.specs.declared.out.Loss.TheVariants as loss
use Rattle.nd_out.specs.declared.out.Limit as limits
use Rattle.nd_out.specs.declared.out.Limit.TheVariants as limit
use Rattle.nd_out.specs.declared.out.Refusal as refusals
use Rattle.nd_out.specs.declared.out.Refusal.TheVariants as refusal
use Rattle.nd_out.specs.declared.out.Way as ways
use Rattle.nd_out.specs.declared.out.Way.TheVariants as way
use Rattle.nd_out.specs.declared.out.Out.{Out}
use Rattle.nd_out.specs.declared.out.Out.TheVariants as outs
use Rattle.nd_chronicle.specs.Happening as happenings
use Rattle.nd_chronicle.specs.Happening.{Happening}
use Rattle.nd_chronicle.specs.Told.{lines_of}

-- why a packet was lost
abbrev pub loss_of : losses.Loss → happenings.Loss
loss_of loss.Unreachable = happenings.Unreachable
loss_of loss.Replaced = happenings.Replaced
loss_of loss.Forgotten = happenings.Forgotten
loss_of loss.NoRoute = happenings.NoRoute
loss_of loss.HopLimit = happenings.HopLimit

-- the table that has no room
abbrev pub limit_of : limits.Limit → happenings.Limit
limit_of limit.Neighbours = happenings.Neighbours
limit_of limit.Routers = happenings.Routers
limit_of limit.Prefixes = happenings.Prefixes
limit_of limit.Addresses = happenings.Addresses
limit_of limit.Servers = happenings.Servers
limit_of limit.Names = happenings.Names
limit_of limit.Offers = happenings.Offers
limit_of limit.StaticRoutes = happenings.StaticRoutes

-- why an event was refused
abbrev pub refusal_of : refusals.Refusal → happenings.Refusal
refusal_of refusal.WrongRole = happenings.WrongRole
refusal_of refusal.Disabled = happenings.Disabled
refusal_of refusal.Tentative = happenings.Tentative
refusal_of (refusal.NotOurs source) = happenings.NotOurs source
refusal_of refusal.TooLong = happenings.TooLong
refusal_of (refusal.Full full) = happenings.Full (limit_of full)

-- where packets go
abbrev pub way_of : ways.Way → happenings.Way
way_of way.NoRoute = happenings.NoWay
way_of (way.To neighbour mac) = happenings.WayTo (number_of neighbour.0) (option_map (λ m. number_of m.0) mac)

-- what happened: of a message its fields, since its options aren't reported
abbrev pub happening : {A : Type 0} → Out A → Happening
happening (outs.Frame packet) = happenings.Sent packet
happening (outs.Heard source destination body) = happenings.Heard source destination (record { body = body; options = [] })
happening (outs.Dropped why) = happenings.Dropped why
happening (outs.Up packet) = happenings.Up packet.items
happening (outs.Duplicate addr) = happenings.Address (number_of addr.0) addresses.Conflict
happening (outs.Assigned addr) = happenings.Address (number_of addr.0) addresses.Assigned
happening (outs.EndedAddress addr) = happenings.Address (number_of addr.0) addresses.Ended
happening (outs.EndedRouter addr) = happenings.LeftRouter (number_of addr.0)
happening (outs.Failed addr) = happenings.Neighbour (number_of addr.0) (neighbours.Forgot neighbours.Failed)
happening (outs.Lost why packet) = happenings.Lost (loss_of why) packet
happening (outs.Path destination way) = happenings.Path destination (way_of way)
happening (outs.Resolved addr mac) = happenings.Resolved (number_of addr.0) (number_of mac.0)
happening (outs.Shown rows) = happenings.Shown (map string_bytes rows.items)
happening (outs.Refused why) = happenings.Refused (refusal_of why)
happening (outs.Ignored full) = happenings.Ignored (limit_of full)
happening (outs.Past last) = happenings.TooLate last

-- the lines of what happened at a moment
abbrev pub out_lines : {A : Type 0} → ℕ × Out A → List ℕ
out_lines out = lines_of (out.0, happening out.1)

-- the text of it all
abbrev pub told : {A : Type 0} → List (ℕ × Out A) → List ℕ
told outs = flat_map out_lines outs
