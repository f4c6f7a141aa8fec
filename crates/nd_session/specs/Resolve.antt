-- How a session answers where packets to a destination go (RFC 4861, sections 5.2, 7.2.2 and 7.3.3).
use Rattle.std.specs.Prelude.{◌≡◌, ℕ, ◌<◌, ◌≤◌, List, Option, Some, None, Result, Ok, MatchResult}
use Rattle.std.specs.Global.{Global}
use Rattle.std.specs.declared.alloc.AllocError.{AllocError}
use Rattle.nd_addr.specs.declared.addr.Addr.{Addr}
use Rattle.nd_neighbour.specs.declared.shown.Reachability.{Reachability}
use Rattle.nd_chronicle.specs.Event as events
use Rattle.nd_chronicle.specs.Happening.{Chronicle, last_moment}
use Rattle.nd_chronicle.specs.Start.{Start}
use Rattle.nd_node.specs.declared.resolve.Resolution.{Resolution}
use Rattle.nd_node.specs.declared.resolve.Resolution.TheVariants as resolutions
use Rattle.nd_node.specs.Event.{FollowsBy}
use Rattle.nd_node.specs.Node.{last_of}
use Rattle.nd_node.specs.EventKept.{AddsEvent}
use Rattle.nd_node.specs.NodeKept.{Stands, next_of}
use Rattle.nd_out.specs.declared.out.Out.{Out}
use Rattle.nd_node.specs.Path.{IsPath, PathSeen}
use Rattle.nd_node.specs.PathKept.{InLease}
use Rattle.nd_node.specs.declared.node.Node.{Node}
use Rattle.nd_node.specs.Resolve.{answer_by, with_answer}
use Rattle.nd_node.specs.ResolveKept.{IfReached}
use Rattle.nd_node.specs.Time.{Leads, Onward}
use Rattle.nd_random.specs.declared.source.Source.{Source}
use Rattle.nd_random.specs.Source.{stream_of_source}
use Rattle.nd_session.specs.Event.{LedBy}
use Rattle.nd_session.specs.declared.resolve.PathAnswer.{PathAnswer}
use Rattle.nd_session.specs.declared.resolve.PathAnswer.TheVariants.{Past, Refused, Path}
use Rattle.nd_session.specs.declared.session.Session.{Session}

-- what the node answered, if it was asked
abbrev pub resolution_in : PathAnswer → Option Resolution
resolution_in (Past last) = None
resolution_in (Refused refusal) = Some (resolutions.Refused refusal)
resolution_in (Path way state until) = Some (resolutions.Path way)

-- What is said of a path besides its way: where nothing is due up to the moment then, the state of the neighbour and the end of the lease as they are by
-- all that happened; and else no state, and no lease.
pub record IsLeased (now : ℕ) (destination : Addr) (state : Option Reachability) (until : ℕ) (session : Session) : Type 0 where
  pub settled : now < next_of session.node → (start : Start) (c : Chronicle) → Stands stream_of_source start session.node c → last_moment start.at c ≤ now
      → (path : PathSeen) × IsPath start c now destination path × (state ≡ path.state) × (until ≡ path.until)
  pub due : next_of session.node ≤ now → (state ≡ None) × (until ≡ now)

-- a path has them
abbrev pub HasLease : ℕ → Addr → PathAnswer → Session → Type 0
HasLease now destination (Past last) session = Unit {0}
HasLease now destination (Refused refusal) session = Unit {0}
HasLease now destination (Path way state until) session = IsLeased now destination state until session

-- within the lease that is answered packets go to the neighbour and to the link-layer address that are answered
abbrev pub GoesThere : ℕ → Addr → PathAnswer → Node Source Global → Type 0
GoesThere now destination (Path way state until) node = IfReached way (λ to mac. now < until → InLease node now destination to mac)
GoesThere now destination (Refused refusal) node = Unit {0}
GoesThere now destination (Past last) node = Unit {0}

-- The question is the event, and its answer is returned by the call, and not reported: with that the reports would have all that is reported of it.
pub record AnsweredBy (now : ℕ) (destination : Addr) (answer : PathAnswer) (old new : Session) : Type 0 where
  pub resolution : Resolution
  pub is : resolution_in answer ≡ Some resolution
  pub leads : Leads stream_of_source old.node new.node old.reports.items (with_answer new.reports.items now destination resolution) (FollowsBy now (events.Resolves destination) (answer_by resolution))
  pub lease : HasLease now destination answer new
  pub goes : (start : Start) (c : Chronicle) → Stands stream_of_source start old.node c → GoesThere now destination answer new.node

-- The question is the event at a node at which nothing is due, its answer is returned by the call, and nothing is reported.
pub record AnsweredAtOnce (now : ℕ) (destination : Addr) (answer : PathAnswer) (old new : Session) : Type 0 where
  pub settled : now < next_of old.node
  pub resolution : Resolution
  pub is : resolution_in answer ≡ Some resolution
  pub adds : (outs : List (ℕ × Out Global)) → AddsEvent stream_of_source old.node new.node outs (with_answer outs now destination resolution) now (events.Resolves destination) (answer_by resolution)
  pub reports : new.reports.items ≡ old.reports.items
  pub lease : HasLease now destination answer new
  pub goes : GoesThere now destination answer new.node

-- A question of a past moment changes nothing. Before another one what is due up to it is done; then it adds what it adds, and is answered. When out of memory
-- a part of what is due is done, and the question adds nothing.
pub record Resolves (now : ℕ) (destination : Addr) (result : Result PathAnswer AllocError) (old new : Session) : Type 0 where
  pub past : now < last_of old.node → (result ≡ Ok (Past (last_of old.node))) × (new ≡ old)
  pub resolved : last_of old.node ≤ now
      → MatchResult result (λ answer. AnsweredBy now destination answer old new) (λ error. LedBy old new (Onward now))
