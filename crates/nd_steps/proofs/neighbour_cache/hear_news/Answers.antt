use Rattle.std.proofs.Common.{◌≡◌, ℕ, ◌++◌, [], ◌∷◌, map, refl, sym, ◌∙◌, subst}
use Rattle.std.specs.Prelude.{if◌then◌else◌}
use Rattle.nd_addr.specs.Frame.{addressed}
use Rattle.nd_addr.specs.Number.{number_of}
use Rattle.nd_chronicle.specs.Happening.{Resolved, Sent}
use Rattle.nd_steps.specs.Outputs.{at_moment, happenings}
use Rattle.nd_neighbour.specs.News.{news_key}
use Rattle.nd_neighbour.specs.TableKept.{entry_in}
use Rattle.nd_steps.proofs.Released.{hears_given, hears_none}
use Rattle.nd_steps.proofs.Resolved.{news_may_remember, was_resolved}
use Rattle.nd_steps.proofs.neighbour_cache.hear_news.Goals as goal

pub returns-in-Some-clause-hears : goal.returns-in-Some-clause-hears
returns-in-Some-clause-hears g c =
    hears_given c.args.neighbours.now.limit c.args.now c.args.news c.args.times c.args.neighbours.now.entries c.heard.new.self.entries c.args.outs.now.items c.tell_known.new.outs.items _ _ _ c.in-Ok.ensures.stands c.in-Ok.ensures.told
    (λ s. c.released_to_the_given_address.ensures.given c.args.now c.args.news c.args.times s)
    (λ s. c.released_to_the_given_address.ensures.awaited c.args.now c.args.news c.args.times s)
    c.in-Some.mac (c.addresses_are_told_by_numbers.ensures.mac c.in-Some.mac c.in-Some.ensures.bytes) (sym c.mac-mac.ensures.value ∙ c.in-Some.is)
    (subst (λ (k : ℕ). happenings c.tell_known.new.outs.items ≡ happenings c.args.outs.now.items
    ++ at_moment c.args.now (map (λ packet. Sent (addressed c.in-Some.mac packet)) c.in-Ok.touched.released ++ (if c.in-Ok.touched.was_wanted then Resolved k (number_of c.in-Some.mac.0) ∷ [] else [])))
    c.neighbour_in.ensures c.tell_known.ensures.told)

pub returns-in-None-clause-hears : goal.returns-in-None-clause-hears
returns-in-None-clause-hears g c =
    hears_none c.args.neighbours.now.limit c.args.now c.args.news c.args.times c.args.neighbours.now.entries c.heard.new.self.entries c.args.outs.now.items c.args.outs.now.items _ _ _ c.in-Ok.ensures.stands c.in-Ok.ensures.told
    (λ s. c.released_to_the_given_address.ensures.given c.args.now c.args.news c.args.times s)
    (λ s. c.released_to_the_given_address.ensures.awaited c.args.now c.args.news c.args.times s)
    (sym c.mac-mac.ensures.value ∙ c.in-None.is) refl

pub returns-in-Some-clause-remembers : goal.returns-in-Some-clause-remembers
returns-in-Some-clause-remembers g c =
    news_may_remember c.in-Ok.touched.was_known c.args.choice.now c.keep_if.new.choice c.args.neighbours.now.limit c.args.now c.args.news c.args.times c.args.neighbours.now.entries c.heard.new.self.entries (c.in-Ok.ensures.was_known ∙ was_resolved (entry_in (news_key c.args.news) c.args.neighbours.now.entries)) c.keep_if.ensures c.in-Ok.ensures.stands

pub returns-in-None-clause-remembers : goal.returns-in-None-clause-remembers
returns-in-None-clause-remembers g c =
    news_may_remember c.in-Ok.touched.was_known c.args.choice.now c.keep_if.new.choice c.args.neighbours.now.limit c.args.now c.args.news c.args.times c.args.neighbours.now.entries c.heard.new.self.entries (c.in-Ok.ensures.was_known ∙ was_resolved (entry_in (news_key c.args.news) c.args.neighbours.now.entries)) c.keep_if.ensures c.in-Ok.ensures.stands
