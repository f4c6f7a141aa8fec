use Rattle.std.proofs.Common.{◌≡◌, ◌≤◌, ℕ, refl, sym, subst, false}
use Rattle.std.specs.Prelude.{OnOk, IfOk}
use Rattle.std.specs.Option.{option_map}
use Rattle.std.proofs.lemmas.Result.{on_ok_weaker, IfOk-weaker}
use Rattle.nd_addr.specs.Number.{number_of}
use Rattle.nd_neighbour.specs.EntryKept.{NeighbourEntry, with_mark, stale_entry}
use Rattle.nd_neighbour.specs.LinkLayerAddressKept.{given, mark_or}
use Rattle.nd_neighbour.specs.NeighborAdvertisementKept.{advertised}
use Rattle.nd_neighbour.specs.TableKept.{Table, entry_in, Alters}
use Rattle.nd_neighbour.specs.PlaceKept.{Gives}
use Rattle.nd_neighbour.specs.NewsKept.{told_released, told_turned, was_known, was_wanted}
use Rattle.nd_neighbour.proofs.Results.{if_ok_three}
use Rattle.nd_neighbour.proofs.NewsCalls.{given_key, given_hears, advertised_gains, marked_gains, given_tells, advertised_tells, marked_tells, few_released}
use Rattle.nd_neighbour.proofs.Second.{gives_there}
use Rattle.nd_neighbour.proofs.Planning.{marked_planned}
use Rattle.nd_neighbour.proofs.Waiting.{news_within, marked_within}
use Rattle.nd_neighbour.proofs.cache.Cache.heard.Goals as goal

pub returns-in-Given-clause-stands : goal.returns-in-Given-clause-stands
returns-in-Given-clause-stands g c =
    let key = number_of c.in-Given.addr.0 in
    let mac = number_of c.in-Given.mac.0 in
    let mark = c.in-Given.mark in
    let new = c.give_or_enter.new.entries.items in
    rw c.in-Given.is (on_ok_weaker c.give_or_enter.result (λ gives. record { stands = given_hears c.args.self.now.limit c.args.now key mac mark c.args.self.now.entries new gives })
    (subst (λ (t : Table). OnOk c.give_or_enter.result (Gives t.limit c.args.now key (λ n. given c.args.now mac mark n) (stale_entry key (mark_or mark false) c.args.now mac) t.entries new)) c.self.view_is c.give_or_enter.ensures.gives))

pub returns-in-Given-clause-told : goal.returns-in-Given-clause-told
returns-in-Given-clause-told g c =
    let key = number_of c.in-Given.addr.0 in
    let mac = number_of c.in-Given.mac.0 in
    let mark = c.in-Given.mark in
    rw c.in-Given.is (if_ok_three c.give_or_enter.result _ _ _ _ (λ t p q a. given_tells key c.args.now mac mark c.args.self.now.entries t.released t.ends_router t.was_wanted p q a)
    (subst (λ (t : Table). IfOk c.give_or_enter.result (λ touched. touched.released ≡ told_released (λ n. given c.args.now mac mark n) (entry_in key t.entries))) c.self.view_is c.give_or_enter.ensures.released)
    (subst (λ (t : Table). IfOk c.give_or_enter.result (λ touched. touched.ends_router ≡ told_turned (λ n. given c.args.now mac mark n) (entry_in key t.entries))) c.self.view_is c.give_or_enter.ensures.ends_router)
    (subst (λ (t : Table). IfOk c.give_or_enter.result (λ touched. touched.was_wanted ≡ was_wanted (entry_in key t.entries))) c.self.view_is c.give_or_enter.ensures.was_wanted))

pub returns-in-Advert-clause-stands : goal.returns-in-Advert-clause-stands
returns-in-Advert-clause-stands g c =
    let key = number_of c.in-Advert.addr.0 in
    let mac = option_map (λ m. number_of m.0) c.in-Advert.mac in
    let new = c.advertise.new.entries.items in
    let gains = advertised_gains key c.args.now c.in-Advert.flags mac c.args.times.reachable c.args.self.now.entries new
    (subst (λ (t : Table). Alters key (λ n. advertised c.args.now c.in-Advert.flags mac c.args.times.reachable n) t.entries new) c.self.view_is c.advertise.ensures.alters) in
    rw c.in-Advert.is (record { stands = λ history s. (history, refl, gains.stands history s) })

pub returns-in-Advert-clause-told : goal.returns-in-Advert-clause-told
returns-in-Advert-clause-told g c =
    let key = number_of c.in-Advert.addr.0 in
    let mac = option_map (λ m. number_of m.0) c.in-Advert.mac in
    rw c.in-Advert.is (advertised_tells key c.args.now c.in-Advert.flags mac c.args.times.reachable c.args.self.now.entries c.advertise.result.released c.advertise.result.ends_router c.advertise.result.was_wanted
    (subst (λ (t : Table). c.advertise.result.released ≡ told_released (λ n. advertised c.args.now c.in-Advert.flags mac c.args.times.reachable n) (entry_in key t.entries)) c.self.view_is c.advertise.ensures.released)
    (subst (λ (t : Table). c.advertise.result.ends_router ≡ told_turned (λ n. advertised c.args.now c.in-Advert.flags mac c.args.times.reachable n) (entry_in key t.entries)) c.self.view_is c.advertise.ensures.ends_router)
    (subst (λ (t : Table). c.advertise.result.was_wanted ≡ was_wanted (entry_in key t.entries)) c.self.view_is c.advertise.ensures.was_wanted))

pub returns-in-Marked-clause-stands : goal.returns-in-Marked-clause-stands
returns-in-Marked-clause-stands g c =
    let key = number_of c.in-Marked.addr.0 in
    let new = c.mark.new.entries.items in
    let gains = marked_gains key c.args.now c.in-Marked.router c.args.self.now.entries new
    (subst (λ (t : Table). Alters key (λ n. with_mark c.in-Marked.router n) t.entries new) c.self.view_is c.mark.ensures.alters) in
    rw c.in-Marked.is (record { stands = λ history s. (history, refl, gains.stands history s) })

pub returns-in-Marked-clause-told : goal.returns-in-Marked-clause-told
returns-in-Marked-clause-told g c =
    let key = number_of c.in-Marked.addr.0 in
    rw c.in-Marked.is (marked_tells key c.args.now c.in-Marked.router c.args.self.now.entries c.mark.result.released c.mark.result.ends_router c.mark.result.was_wanted
    (subst (λ (t : Table). c.mark.result.released ≡ told_released (λ n. with_mark c.in-Marked.router n) (entry_in key t.entries)) c.self.view_is c.mark.ensures.released)
    (subst (λ (t : Table). c.mark.result.ends_router ≡ told_turned (λ n. with_mark c.in-Marked.router n) (entry_in key t.entries)) c.self.view_is c.mark.ensures.ends_router)
    (subst (λ (t : Table). c.mark.result.was_wanted ≡ was_wanted (entry_in key t.entries)) c.self.view_is c.mark.ensures.was_wanted))

pub returns-in-Given-clause-there : goal.returns-in-Given-clause-there
returns-in-Given-clause-there g c =
    let key = number_of c.in-Given.addr.0 in
    let mac = number_of c.in-Given.mac.0 in
    let mark = c.in-Given.mark in
    let change : NeighbourEntry → NeighbourEntry = λ n. given c.args.now mac mark n in
    let new = c.give_or_enter.new.entries.items in
    rw c.in-Given.is (on_ok_weaker c.give_or_enter.result (λ gives _. gives_there c.args.self.now.limit c.args.now key change (stale_entry key (mark_or mark false) c.args.now mac) c.args.self.now.entries new (λ n. given_key c.args.now mac mark n n.stage) refl gives)
    (subst (λ (t : Table). OnOk c.give_or_enter.result (Gives t.limit c.args.now key change (stale_entry key (mark_or mark false) c.args.now mac) t.entries new)) c.self.view_is c.give_or_enter.ensures.gives))

pub returns-in-Given-clause-few : goal.returns-in-Given-clause-few
returns-in-Given-clause-few g c =
    let key = number_of c.in-Given.addr.0 in
    let change : NeighbourEntry → NeighbourEntry = λ n. given c.args.now (number_of c.in-Given.mac.0) c.in-Given.mark n in
    rw c.in-Given.is (IfOk-weaker c.give_or_enter.result _ _ (λ t p. few_released change (entry_in key c.args.self.now.entries) t.released p)
    (subst (λ (t : Table). IfOk c.give_or_enter.result (λ touched. touched.released ≡ told_released change (entry_in key t.entries))) c.self.view_is c.give_or_enter.ensures.released))

pub returns-in-Advert-clause-few : goal.returns-in-Advert-clause-few
returns-in-Advert-clause-few g c =
    let key = number_of c.in-Advert.addr.0 in
    let change : NeighbourEntry → NeighbourEntry = λ n. advertised c.args.now c.in-Advert.flags (option_map (λ m. number_of m.0) c.in-Advert.mac) c.args.times.reachable n in
    rw c.in-Advert.is (few_released change (entry_in key c.args.self.now.entries) c.advertise.result.released
    (subst (λ (t : Table). c.advertise.result.released ≡ told_released change (entry_in key t.entries)) c.self.view_is c.advertise.ensures.released))

pub returns-in-Marked-clause-few : goal.returns-in-Marked-clause-few
returns-in-Marked-clause-few g c =
    let key = number_of c.in-Marked.addr.0 in
    let change : NeighbourEntry → NeighbourEntry = λ n. with_mark c.in-Marked.router n in
    rw c.in-Marked.is (few_released change (entry_in key c.args.self.now.entries) c.mark.result.released
    (subst (λ (t : Table). c.mark.result.released ≡ told_released change (entry_in key t.entries)) c.self.view_is c.mark.ensures.released))

pub invariant_of-self-in-Marked : goal.invariant_of-self-in-Marked
invariant_of-self-in-Marked g c =
    let was = c.self.invariant in (
      subst (λ (n : ℕ). n ≤ c.self.inside.limit) (sym c.mark.ensures.len) was.0,
      subst (λ (n : ℕ). c.self.inside.limit ≤ n) (sym c.mark.ensures.capacity) was.1,
      was.2,
      marked_planned (number_of c.in-Marked.addr.0) c.in-Marked.router c.self.inside.entries.items c.mark.new.entries.items c.self.inside.dates c.mark.ensures.alters was.3,
      marked_within c.self.inside.rings.room (number_of c.in-Marked.addr.0) c.in-Marked.router c.self.inside.entries.items c.mark.new.entries.items c.mark.ensures.alters was.4,
    )

pub invariant_of-self : goal.invariant_of-self
invariant_of-self g c =
    let was = c.self.invariant in (
      c.give_or_enter.ensures.few,
      subst (λ (n : ℕ). c.self.inside.limit ≤ n) (sym c.give_or_enter.ensures.capacity) was.1,
      subst (λ (n : ℕ). c.self.inside.limit ≤ n) (sym c.give_or_enter.ensures.room) was.2,
      c.give_or_enter.ensures.planned,
      news_within c.self.inside.rings.room c.self.inside.limit c.args.now (number_of c.in-Given.addr.0) (number_of c.in-Given.mac.0) c.in-Given.mark _ _ c.give_or_enter.result c.give_or_enter.ensures.gives c.give_or_enter.ensures.same was.4,
    )

pub returns-in-Given-clause-was_known : goal.returns-in-Given-clause-was_known
returns-in-Given-clause-was_known g c =
    rw c.in-Given.is (subst (λ (t : Table). IfOk c.give_or_enter.result (λ touched. touched.was_known ≡ was_known (entry_in (number_of c.in-Given.addr.0) t.entries))) c.self.view_is c.give_or_enter.ensures.was_known)

pub returns-in-Advert-clause-was_known : goal.returns-in-Advert-clause-was_known
returns-in-Advert-clause-was_known g c =
    rw c.in-Advert.is (subst (λ (t : Table). c.advertise.result.was_known ≡ was_known (entry_in (number_of c.in-Advert.addr.0) t.entries)) c.self.view_is c.advertise.ensures.was_known)

pub returns-in-Marked-clause-was_known : goal.returns-in-Marked-clause-was_known
returns-in-Marked-clause-was_known g c =
    rw c.in-Marked.is (subst (λ (t : Table). c.mark.result.was_known ≡ was_known (entry_in (number_of c.in-Marked.addr.0) t.entries)) c.self.view_is c.mark.ensures.was_known)

pub returns-in-Given-clause-was_wanted : goal.returns-in-Given-clause-was_wanted
returns-in-Given-clause-was_wanted g c =
    rw c.in-Given.is (subst (λ (t : Table). IfOk c.give_or_enter.result (λ touched. touched.was_wanted ≡ was_wanted (entry_in (number_of c.in-Given.addr.0) t.entries))) c.self.view_is c.give_or_enter.ensures.was_wanted)

pub returns-in-Advert-clause-was_wanted : goal.returns-in-Advert-clause-was_wanted
returns-in-Advert-clause-was_wanted g c =
    rw c.in-Advert.is (subst (λ (t : Table). c.advertise.result.was_wanted ≡ was_wanted (entry_in (number_of c.in-Advert.addr.0) t.entries)) c.self.view_is c.advertise.ensures.was_wanted)

pub returns-in-Marked-clause-was_wanted : goal.returns-in-Marked-clause-was_wanted
returns-in-Marked-clause-was_wanted g c =
    rw c.in-Marked.is (subst (λ (t : Table). c.mark.result.was_wanted ≡ was_wanted (entry_in (number_of c.in-Marked.addr.0) t.entries)) c.self.view_is c.mark.ensures.was_wanted)
