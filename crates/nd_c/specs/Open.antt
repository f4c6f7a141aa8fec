-- How a node is opened.
use Rattle.std.specs.Prelude.{◌≡◌, ◌⊎◌, ℕ, List, [], ℤ, Option, None, Some, IsSomeAnd}
use Rattle.nd_chronicle.specs.History.{beginning}
use Rattle.nd_chronicle.specs.Start.{Start}
use Rattle.nd_node.specs.Node.{starting, with_policies}
use Rattle.nd_node.specs.NodeKept.{Stands}
use Rattle.nd_random.specs.Source.{seeded, stream_of_source}
use Rattle.nd_random.specs.declared.source.Source.{Source}
use Rattle.nd_random.specs.declared.source.Source.TheVariants.{Seeded, Constant}
use Rattle.nd_session.specs.Ready.{IsReady}
use Rattle.nd_session.specs.declared.session.Session.{Session}
use Rattle.nd_c_types.specs.Options.{options_in, opening_in, AreOptions}
use Rattle.nd_c_types.specs.declared.options.Draws.{Draws}
use Rattle.nd_c_types.specs.declared.options.Draws.TheVariants.{Seed, Word}
use Rattle.nd_c_types.specs.declared.options.Opening.{Opening}
use Rattle.nd_c.specs.Status.{done, no_memory, invalid}

-- where the random words come from
abbrev pub source_of : Draws → Source
source_of (Seed seed) = Seeded (seeded seed)
source_of (Word word) = Constant word

-- how the node starts
abbrev pub start_of : Opening → Start
start_of o = with_policies o.policies (starting o.start o.role o.mac o.transmits o.limits (stream_of_source (source_of o.draws)))

-- A session that has just been opened: its node stands for the beginning, nothing is reported yet, the version of its leases is the one that is asked
-- for, and the next thing that is due asks for no memory.
pub record Begins (opening : Opening) (s : Session) : Type 0 where
  pub stands : Stands stream_of_source (start_of opening) s.node (beginning (start_of opening))
  pub empty : s.reports.items ≡ []
  pub version : s.paths.leases ≡ opening.lease_version
  pub ready : IsReady s

-- A closed slot is opened as the bytes of the options say, if they say it.
pub record Opens (options : List ℕ) (status : ℤ) (old new : Option Session) : Type 0 where
  pub is_open : (s : Session) → old ≡ Some s → (status ≡ invalid) × (new ≡ old)
  pub bad : old ≡ None → (AreOptions options → ⊥) → (status ≡ invalid) × (new ≡ None)
  pub opens : old ≡ None → AreOptions options → ((status ≡ no_memory) × (new ≡ None)) ⊎ ((status ≡ done) × IsSomeAnd new (λ s. Begins (opening_in (options_in options)) s))
