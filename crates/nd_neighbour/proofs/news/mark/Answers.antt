use Rattle.std.proofs.Common.{◌∙◌, sym, ap}
use Rattle.std.specs.Prelude.{◌&&◌, not}
use Rattle.nd_addr.specs.Number.{number_of}
use Rattle.nd_neighbour.specs.EntryKept.{with_mark, released}
use Rattle.nd_neighbour.proofs.Finds.{alters, knew, releases, turns, wished_for, nothing_by}
use Rattle.nd_neighbour.proofs.news.mark.Goals as goal

pub returns-clause-alters : goal.returns-clause-alters
returns-clause-alters g c =
    alters (number_of c.args.addr.0) (λ n. with_mark c.args.router n) c.args.entries.now.items c.deref.result.now c.in-Some.i c.index_mut-entry.result.now c.mark.new.self c.deref.ensures.value c.in-Some.ensures.within c.in-Some.ensures.found c.index_mut-entry.ensures.value c.mark.ensures

pub returns-clause-released : goal.returns-clause-released
returns-clause-released g c =
    releases (number_of c.args.addr.0) (λ n. with_mark c.args.router n) c.args.entries.now.items c.deref.result.now c.in-Some.i c.index_mut-entry.result.now c.mark.new.self c.deref.ensures.value c.in-Some.ensures.within c.in-Some.ensures.found c.index_mut-entry.ensures.value c.mark.ensures
    _ (c.new.ensures.released ∙ (c.none.ensures ∙ sym (ap (released c.index_mut-entry.result.now) c.mark.ensures ∙ nothing_by c.index_mut-entry.result.now.stage)))

pub returns-clause-was_known : goal.returns-clause-was_known
returns-clause-was_known g c =
    knew (number_of c.args.addr.0) (λ n. with_mark c.args.router n) c.args.entries.now.items c.deref.result.now c.in-Some.i c.index_mut-entry.result.now c.mark.new.self c.deref.ensures.value c.in-Some.ensures.within c.in-Some.ensures.found c.index_mut-entry.ensures.value c.mark.ensures
    _ (c.new.ensures.was_known ∙ c.is_known-was_known.ensures)

pub returns-clause-was_wanted : goal.returns-clause-was_wanted
returns-clause-was_wanted g c =
    wished_for (number_of c.args.addr.0) (λ n. with_mark c.args.router n) c.args.entries.now.items c.deref.result.now c.in-Some.i c.index_mut-entry.result.now c.mark.new.self c.deref.ensures.value c.in-Some.ensures.within c.in-Some.ensures.found c.index_mut-entry.ensures.value c.mark.ensures
    _ (c.new.ensures.was_wanted ∙ c.is_wanted-was_wanted.ensures)

pub returns-clause-ends_router : goal.returns-clause-ends_router
returns-clause-ends_router g c =
    turns (number_of c.args.addr.0) (λ n. with_mark c.args.router n) c.args.entries.now.items c.deref.result.now c.in-Some.i c.index_mut-entry.result.now c.mark.new.self c.deref.ensures.value c.in-Some.ensures.within c.in-Some.ensures.found c.index_mut-entry.ensures.value c.mark.ensures
    _ (c.new.ensures.ends_router ∙ (ap (λ b. b && not c.router.result) c.router-was_router.ensures ∙ ap (λ b. c.index_mut-entry.result.now.router && not b) c.router.ensures))
