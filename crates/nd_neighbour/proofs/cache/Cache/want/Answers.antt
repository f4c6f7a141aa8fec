use Rattle.std.specs.Prelude.{is_some}
use Rattle.std.proofs.lemmas.Bool.{cond-true, true≢false}
use Rattle.std.proofs.Common.{◌≡◌, ◌≤◌, ◌-◌, ◌∙◌, ℕ, max, sym, ap, subst, arith, Option, None}
use Rattle.nd_addr.specs.Number.{number_of}
use Rattle.nd_neighbour.specs.EntryKept.{NeighbourEntry}
use Rattle.nd_neighbour.specs.TableKept.{Alters, Rises, Table, entry_in}
use Rattle.nd_neighbour.specs.PlaceKept.{Gives}
use Rattle.nd_neighbour.specs.WantingKept.{wanting_in, wished, wished_entry}
use Rattle.nd_neighbour.specs.Rings.{Rings, RoomWithin}
use Rattle.nd_neighbour.specs.View.{wanting_of}
use Rattle.nd_neighbour.proofs.Finds.{was_there, not_there, no_rings, holding, has_place_there}
use Rattle.nd_neighbour.proofs.WishCalls.{takes_wish, wanting_by_history}
use Rattle.nd_neighbour.proofs.Leases.{wished_leaves}
use Rattle.nd_neighbour.proofs.Waiting.{begun_by_wish_within}
use Rattle.nd_neighbour.proofs.cache.Cache.want.Goals as goal

pub returns-in-Ok-clause-stands : goal.returns-in-Ok-clause-stands
returns-in-Ok-clause-stands g c =
    let key = number_of c.args.addr.0 in
    let old = c.args.self.now.entries in
    let new = c.wish.new.entries.items in
    let change : NeighbourEntry → NeighbourEntry = λ n. wished c.args.now c.args.times.retrans n in
    takes_wish key c.args.now c.args.times.retrans c.args.self.now.waiting c.args.self.now.limit old new
    (was_there c.args.self.now.limit c.args.now key old c.deref.result.now c.in-Ok.i (c.deref.ensures.value ∙ ap (λ (t : Table). t.entries) c.self.view_is) c.in-Ok.ensures.within c.in-Ok.ensures.found
    change (wished_entry key c.args.now c.args.times.retrans c.args.self.now.waiting) new (subst (λ (t : Table). Alters key change t.entries new) c.self.view_is c.wish.ensures.alters))

pub returns-in-Ok-clause-value : goal.returns-in-Ok-clause-value
returns-in-Ok-clause-value g c =
    subst (λ (t : Table). wanting_of c.wish.result ≡ wanting_in (entry_in (number_of c.args.addr.0) t.entries)) c.self.view_is c.wish.ensures.want

pub returns-in-Ok-clause-history : goal.returns-in-Ok-clause-history
returns-in-Ok-clause-history g c = λ history s.
    let key = number_of c.args.addr.0 in
    subst (λ (t : Table). wanting_of c.wish.result ≡ wanting_in (entry_in key t.entries)) c.self.view_is c.wish.ensures.want
    ∙ wanting_by_history key c.args.self.now.entries history s

pub returns-in-Err-take_or_make-clause-memory : goal.returns-in-Err-take_or_make-clause-memory
returns-in-Err-take_or_make-clause-memory g c = λ _.
    let key = number_of c.args.addr.0 in
    let old = c.args.self.now.entries in (
      sym (ap (λ (t : Table). t.rings) c.self.view_is) ∙ no_rings _ c.in-Err-take_or_make.ensures.in_hand,
      not_there c.args.self.now.limit c.args.now key old c.deref.result.now (c.deref.ensures.value ∙ ap (λ (t : Table). t.entries) c.self.view_is) c.in-Err.ensures.absent,
    )

pub returns-clause-stands : goal.returns-clause-stands
returns-clause-stands g c =
    let key = number_of c.args.addr.0 in
    let new = c.begin_wished.new.entries.items in
    takes_wish key c.args.now c.args.times.retrans c.args.self.now.waiting c.args.self.now.limit c.args.self.now.entries new
    (subst (λ (t : Table). Gives t.limit c.args.now key (λ n. wished c.args.now c.args.times.retrans n) (wished_entry key c.args.now c.args.times.retrans t.waiting) t.entries new) c.self.view_is
    (subst (λ (room : ℕ). Gives c.self.inside.limit c.args.now key (λ n. wished c.args.now c.args.times.retrans n) (wished_entry key c.args.now c.args.times.retrans room) c.self.inside.entries.items new) c.in-Ok-take_or_make.ensures.room c.begin_wished.ensures.gives))

pub returns-clause-value : goal.returns-clause-value
returns-clause-value g c =
    let key = number_of c.args.addr.0 in
    let old = c.args.self.now.entries in
    let none : entry_in key old ≡ None = not_there c.args.self.now.limit c.args.now key old c.deref.result.now (c.deref.ensures.value ∙ ap (λ (t : Table). t.entries) c.self.view_is) c.in-Err.ensures.absent in
    sym (ap (λ (o : Option NeighbourEntry). wanting_in o) none)

pub returns-clause-history : goal.returns-clause-history
returns-clause-history g c = λ history s.
    let key = number_of c.args.addr.0 in
    let old = c.args.self.now.entries in
    let none : entry_in key old ≡ None = not_there c.args.self.now.limit c.args.now key old c.deref.result.now (c.deref.ensures.value ∙ ap (λ (t : Table). t.entries) c.self.view_is) c.in-Err.ensures.absent in
    sym (ap (λ (o : Option NeighbourEntry). wanting_in o) none) ∙ wanting_by_history key old history s

pub returns-in-Ok-clause-full : goal.returns-in-Ok-clause-full
returns-in-Ok-clause-full g c = (
  (λ e. absurd (cc)),
  λ np. absurd (has_place_there c.args.self.now.limit c.args.now (number_of c.args.addr.0) c.args.self.now.entries c.deref.result.now c.in-Ok.i (c.deref.ensures.value ∙ ap (λ (t : Table). t.entries) c.self.view_is) c.in-Ok.ensures.within c.in-Ok.ensures.found np),
)

pub returns-in-Ok-clause-rings : goal.returns-in-Ok-clause-rings
returns-in-Ok-clause-rings g c =
    let held = holding c.args.self.now.limit c.args.now (number_of c.args.addr.0) c.args.self.now.entries c.deref.result.now c.in-Ok.i (c.deref.ensures.value ∙ ap (λ (t : Table). t.entries) c.self.view_is) c.in-Ok.ensures.within c.in-Ok.ensures.found in
    ap (λ (t : Table). t.rings) c.self.view_is ∙ sym (cond-true (is_some (entry_in (number_of c.args.addr.0) c.args.self.now.entries)) c.args.self.now.rings (c.args.self.now.rings - 1) held)

pub invariant_of-self-2 : goal.invariant_of-self-2
invariant_of-self-2 g c =
    let was = c.self.invariant in
    let key = number_of c.args.addr.0 in
    let same : c.take_or_make.new.self.room ≡ c.self.inside.rings.room = ap (λ (r : Rings). r.room) c.in-Ok-take_or_make.ensures.fewer in
    let least : 1 ≤ c.self.inside.rings.room = c.take_or_make.ensures.least in
    let fit : max 1 c.in-Ok-take_or_make.ring.waiting.room ≤ c.self.inside.rings.room = omega (arith, least, c.in-Ok-take_or_make.ensures.room) in (
      c.begin_wished.ensures.few,
      subst (λ (n : ℕ). c.self.inside.limit ≤ n) (sym c.begin_wished.ensures.capacity) was.1,
      subst (λ (n : ℕ). c.self.inside.limit ≤ n) (sym c.begin_wished.ensures.room) was.2,
      c.begin_wished.ensures.planned,
      subst (λ (n : ℕ). RoomWithin n c.begin_wished.new.entries.items) (sym same)
          (begun_by_wish_within c.self.inside.rings.room c.self.inside.limit c.args.now key c.args.times.retrans (wished_entry key c.args.now c.args.times.retrans c.in-Ok-take_or_make.ring.waiting.room) _ _ fit c.begin_wished.ensures.gives was.4),
    )

pub returns-in-Ok-clause-macs : goal.returns-in-Ok-clause-macs
returns-in-Ok-clause-macs g c = λ _.
    let key = number_of c.args.addr.0 in
    let new = c.wish.new.entries.items in
    wished_leaves c.args.now c.args.times.retrans key c.args.self.now.entries new (subst (λ (t : Table). Rises t.entries) c.self.view_is c.self.invariant.3.order)
    (subst (λ (t : Table). Alters key (λ n. wished c.args.now c.args.times.retrans n) t.entries new) c.self.view_is c.wish.ensures.alters)

pub returns-clause-macs : goal.returns-clause-macs
returns-clause-macs g c = λ there.
    let key = number_of c.args.addr.0 in
    let old = c.args.self.now.entries in
    let none : entry_in key old ≡ None = not_there c.args.self.now.limit c.args.now key old c.deref.result.now (c.deref.ensures.value ∙ ap (λ (t : Table). t.entries) c.self.view_is) c.in-Err.ensures.absent in
    absurd (true≢false (sym there ∙ ap is_some none))
