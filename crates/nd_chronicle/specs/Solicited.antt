-- Whether an advertisement answers the node (RFC 4861, section 7.2.5), by the policy `asked`.
use Rattle.std.specs.Prelude.{◌≡◌, ℕ, Bool, true, false, ◌&&◌, not, if◌then◌else◌, List, Option, Some, None}
use Rattle.nd_addr.specs.Number.{number_of}
use Rattle.nd_decode.specs.declared.body.Body.{Body}
use Rattle.nd_decode.specs.declared.body.Body.TheVariants as bodies
use Rattle.nd_decode.specs.declared.neighbor_advertisement.NeighborAdvertisement.{NeighborAdvertisement}
use Rattle.nd_neighbour.specs.History.{story}
use Rattle.nd_neighbour.specs.Shown.{Seen, seen_of}
use Rattle.nd_neighbour.specs.declared.shown.Reachability.{Reachability}
use Rattle.nd_neighbour.specs.declared.shown.Reachability.TheVariants.{Incomplete, Reachable, Stale, Delay, Probe}
use Rattle.nd_validity.specs.Hearing.{Outcome, valid}
use Rattle.nd_chronicle.specs.Start.{Start}
use Rattle.nd_chronicle.specs.Happening.{Chronicle}
use Rattle.nd_chronicle.specs.Histories.{neighbour_history}
use Rattle.nd_chronicle.specs.Reading.{IsRead}

-- in these states a solicitation of the node's is out (RFC 4861, section 7.3.2)
abbrev pub is_asking : Reachability → Bool
is_asking Incomplete = true
is_asking Reachable = false
is_asking Stale = false
is_asking Delay = false
is_asking Probe = true

-- the node asks for what is seen of a neighbour
abbrev pub is_asked : Option Seen → Bool
is_asked None = false
is_asked (Some neighbour) = is_asking neighbour.state

-- the node asks for the neighbour with this number at a moment
abbrev pub asks : Chronicle → ℕ → ℕ → Bool
asks c now key = is_asked (seen_of key (story key (neighbour_history c)) now)

-- with the policy `asked` the flag S of an advertisement of a neighbour that the node does not ask for is read as clear
abbrev pub read_answer : Start → Chronicle → ℕ → NeighborAdvertisement → NeighborAdvertisement
read_answer start c now na =
    if start.policies.asked && not (asks c now (number_of na.target.0)) then record na { solicited = false } else na

abbrev pub body_at : Start → Chronicle → ℕ → Body → Body
body_at start c now (bodies.Na na) = bodies.Na (read_answer start c now na)
body_at start c now body = body

abbrev pub outcome_at : Start → Chronicle → ℕ → Outcome → Outcome
outcome_at start c now (valid source destination message) = valid source destination (record message { body = body_at start c now message.body })
outcome_at start c now outcome = outcome

-- what the node reads in the frame at this moment
pub record IsReadAt (start : Start) (c : Chronicle) (now : ℕ) (frame : List ℕ) (outcome : Outcome) : Type 0 where
  pub read : Outcome
  pub by_frame : IsRead start.policies start.mac frame start.role read
  pub at_moment : outcome ≡ outcome_at start c now read
