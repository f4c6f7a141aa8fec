use Rattle.std.proofs.Common.{◌∙◌, ap, refl}
use Rattle.std.specs.Prelude.{◌&&◌, not}
use Rattle.nd_addr.specs.Number.{number_of}
use Rattle.nd_neighbour.specs.LinkLayerAddressKept.{given}
use Rattle.nd_neighbour.proofs.NewsCalls.{given_key}
use Rattle.nd_neighbour.proofs.Finds.{alters, knew, releases, turns, wished_for}
use Rattle.nd_neighbour.proofs.Planning.{had_date, changed_planned, no_room}
use Rattle.nd_neighbour.proofs.link_layer_address.give.Goals as goal

pub returns-clause-alters : goal.returns-clause-alters
returns-clause-alters g c =
    alters (number_of c.args.addr.0) (λ n. given c.args.now (number_of c.args.mac.0) c.args.mark n) c.args.entries.now.items c.args.entries.now.items c.args.i c.index_mut-entry.result.now c.given-released.new.self refl c.requires.within c.requires.found c.index_mut-entry.ensures.value c.given-released.ensures.entry

pub returns-clause-released : goal.returns-clause-released
returns-clause-released g c =
    releases (number_of c.args.addr.0) (λ n. given c.args.now (number_of c.args.mac.0) c.args.mark n) c.args.entries.now.items c.args.entries.now.items c.args.i c.index_mut-entry.result.now c.given-released.new.self refl c.requires.within c.requires.found c.index_mut-entry.ensures.value c.given-released.ensures.entry
    _ (c.new.ensures.released ∙ c.given-released.ensures.released)

pub returns-clause-was_known : goal.returns-clause-was_known
returns-clause-was_known g c =
    knew (number_of c.args.addr.0) (λ n. given c.args.now (number_of c.args.mac.0) c.args.mark n) c.args.entries.now.items c.args.entries.now.items c.args.i c.index_mut-entry.result.now c.given-released.new.self refl c.requires.within c.requires.found c.index_mut-entry.ensures.value c.given-released.ensures.entry
    _ (c.new.ensures.was_known ∙ c.is_known-was_known.ensures)

pub returns-clause-was_wanted : goal.returns-clause-was_wanted
returns-clause-was_wanted g c =
    wished_for (number_of c.args.addr.0) (λ n. given c.args.now (number_of c.args.mac.0) c.args.mark n) c.args.entries.now.items c.args.entries.now.items c.args.i c.index_mut-entry.result.now c.given-released.new.self refl c.requires.within c.requires.found c.index_mut-entry.ensures.value c.given-released.ensures.entry
    _ (c.new.ensures.was_wanted ∙ c.is_wanted-was_wanted.ensures)

pub returns-clause-ends_router : goal.returns-clause-ends_router
returns-clause-ends_router g c =
    turns (number_of c.args.addr.0) (λ n. given c.args.now (number_of c.args.mac.0) c.args.mark n) c.args.entries.now.items c.args.entries.now.items c.args.i c.index_mut-entry.result.now c.given-released.new.self refl c.requires.within c.requires.found c.index_mut-entry.ensures.value c.given-released.ensures.entry
    _ (c.new.ensures.ends_router ∙ (ap (λ b. b && not c.router.result) c.router-was_router.ensures ∙ ap (λ b. c.index_mut-entry.result.now.router && not b) c.router.ensures))

pub change-requires-clause-was : goal.change-requires-clause-was
change-requires-clause-was g c =
    had_date (number_of c.args.addr.0) (λ n. given c.args.now (number_of c.args.mac.0) c.args.mark n) (λ n. given_key c.args.now (number_of c.args.mac.0) c.args.mark n n.stage) c.args.entries.now.items c.args.entries.now.items c.args.i c.index_mut-entry.result.now c.given-released.new.self refl c.requires.within c.requires.found c.index_mut-entry.ensures.value c.given-released.ensures.entry
    c.args.dates.now c.date-was.result c.requires.planned c.date-was.ensures

pub change-requires-clause-room : goal.change-requires-clause-room
change-requires-clause-room g c = no_room _ c.date-was.result _ c.date-was.ensures

pub returns-clause-planned : goal.returns-clause-planned
returns-clause-planned g c =
    changed_planned (number_of c.args.addr.0) (λ n. given c.args.now (number_of c.args.mac.0) c.args.mark n) (λ n. given_key c.args.now (number_of c.args.mac.0) c.args.mark n n.stage) c.args.entries.now.items c.args.entries.now.items c.args.i c.index_mut-entry.result.now c.given-released.new.self refl c.requires.within c.requires.found c.index_mut-entry.ensures.value c.given-released.ensures.entry
    c.args.dates.now c.change.new.self c.date.result c.requires.planned c.date.ensures c.change.ensures.dates c.change.ensures.room
