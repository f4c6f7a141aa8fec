-- Only what is kept, in the code's terms: the link-layer address that a question where packets go is answered with.
use Rattle.std.specs.Prelude.{◌≡◌, ℕ, Some, None}
use Rattle.nd_addr.specs.declared.addr.Addr.{Addr}
use Rattle.nd_addr.specs.declared.mac.Mac.{Mac}
use Rattle.nd_addr.specs.Number.{number_of}
use Rattle.nd_neighbour.specs.LeaseKept.{mac_at}
use Rattle.nd_neighbour.specs.TableKept.{entry_in}
use Rattle.nd_out.specs.declared.out.Way.{Way}
use Rattle.nd_out.specs.declared.out.Way.TheVariants as ways
use Rattle.nd_node.specs.declared.node.Node.{Node}
use Rattle.nd_node.specs.declared.resolve.Resolution.{Resolution}
use Rattle.nd_node.specs.declared.resolve.Resolution.TheVariants as answers
use Rattle.nd_node.specs.PathKept.{LeavesWays, path_kept, towards}

-- this of the neighbour and of its link-layer address, where both are known
abbrev pub IfReached : Way → (Addr → Mac → Type 0) → Type 0
IfReached (ways.To to (Some mac)) says = says to mac
IfReached (ways.To to None) says = Unit {0}
IfReached ways.NoRoute says = Unit {0}

-- the same of what is answered
abbrev pub IfAnswered : Resolution → (Addr → Mac → Type 0) → Type 0
IfAnswered (answers.Path way) says = IfReached way says
IfAnswered (answers.Refused refusal) says = Unit {0}

-- the neighbour and the link-layer address that are answered are those of the path
abbrev pub IsWay : {R A : Type 0} → Node R A → ℕ → Addr → Resolution → Type 0
IsWay node now destination answer =
    IfAnswered answer
    (λ to mac. (towards (path_kept node now destination).next destination ≡ number_of to.0) × ((path_kept node now destination).mac ≡ Some (number_of mac.0)))

-- the link-layer address that is answered is that of this neighbour, and the ways of all packets are what they were
abbrev pub LeadsTo : {R A : Type 0} → Addr → Node R A → Node R A → Resolution → Type 0
LeadsTo to old new answer =
    IfAnswered answer (λ reached mac. (reached ≡ to) × LeavesWays old new × (mac_at (entry_in (number_of to.0) new.neighbours.entries) ≡ Some (number_of mac.0)))
