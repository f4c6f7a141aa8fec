-- What an event does to a session.
use Rattle.std.specs.Prelude.{◌≡◌, ℕ, ◌<◌, ◌≤◌, Result, Ok, MatchResult}
use Rattle.std.specs.declared.alloc.AllocError.{AllocError}
use Rattle.nd_chronicle.specs.Event.{Event}
use Rattle.nd_chronicle.specs.Happening.{Chronicle}
use Rattle.nd_chronicle.specs.Start.{Start}
use Rattle.nd_node.specs.declared.answer.Answer.{Answer}
use Rattle.nd_node.specs.declared.answer.Answer.TheVariants.{Past}
use Rattle.nd_node.specs.Answer.{answer_of}
use Rattle.nd_node.specs.Event.{FollowsBy}
use Rattle.nd_node.specs.Node.{last_of}
use Rattle.nd_node.specs.Time.{Leads, Onward}
use Rattle.nd_random.specs.Source.{stream_of_source}
use Rattle.nd_session.specs.declared.session.Session.{Session}

-- From each history that the node stood for, the call leads to one that the relation gives, and the reports gain what is reported of the difference.
abbrev pub LedBy : Session → Session → (Start → Chronicle → Chronicle → Type 0) → Type 0
LedBy old new To = Leads stream_of_source old.node new.node old.reports.items new.reports.items To

-- An event of a past moment changes nothing, and isn't reported. Before another one what is due up to it is done; then it adds what it adds, and is
-- answered. When out of memory a part of what is due is done, and the event adds nothing.
pub record Takes (now : ℕ) (event : Event) (result : Result Answer AllocError) (old new : Session) : Type 0 where
  pub past : now < last_of old.node → (result ≡ Ok (Past (last_of old.node))) × (new ≡ old)
  pub taken : last_of old.node ≤ now
      → MatchResult result (λ answer. LedBy old new (FollowsBy now event (answer_of answer))) (λ error. LedBy old new (Onward now))
