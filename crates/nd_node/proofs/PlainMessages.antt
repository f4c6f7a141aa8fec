-- A message that says something of a neighbour, and perhaps redirects a destination, and the chronicle that a node stands for.
use Rattle.std.proofs.Common.{map, ◌≡◌, ℕ, ◌<◌, ◌≤◌, Bool, true, false, List, [], ◌∷◌, ◌++◌, append-nil, Option, Some, None, refl, sym, ◌∙◌, ap, subst}
use Rattle.std.specs.Prelude.{◌&&◌, MatchBool, if◌then◌else◌}
use Rattle.std.specs.Option.{option_map}
use Rattle.rand_core.specs.Stream.{Stream, next_u32}
use Rattle.nd_addr.specs.declared.addr.Addr.{Addr}
use Rattle.nd_addr.specs.declared.role.Role.{Role}
use Rattle.nd_advertiser.specs.Advertising.{wants_draw_of}
use Rattle.nd_advertiser.specs.Calls.{wants_draw}
use Rattle.nd_advertiser.specs.History as advertising_rows
use Rattle.nd_advertiser.specs.Table as advertising
use Rattle.nd_advertiser.proofs.ByRows.{draw_wanted}
use Rattle.nd_decode.specs.Message.{Parts}
use Rattle.nd_decode.specs.Option.{Said}
use Rattle.nd_decode.specs.declared.body.Body.TheVariants as bodies
use Rattle.nd_decode.specs.declared.body.Body.{Body}
use Rattle.nd_decode.specs.declared.redirect.Redirect.{Redirect}
use Rattle.nd_neighbour.specs.declared.news.News.{News}
use Rattle.nd_neighbour.specs.declared.news.Times.{Times}
use Rattle.nd_neighbour.specs.History as rows
use Rattle.nd_forwarding.specs.History as route_rows
use Rattle.nd_chronicle.specs.Start.{Policies, Start}
use Rattle.nd_chronicle.specs.Happening.{Chronicle, Drew, ForAnswer, Heard, Ignored, Passed, Planned, Refused, Full, Limit, Neighbours, last_moment}
use Rattle.nd_chronicle.specs.Histories.{advertising_history, neighbour_history, router_history, said_of_neighbour}
use Rattle.nd_chronicle.specs.Full.{entering, needs, Placed, MessageFills, Fills}
use Rattle.nd_chronicle.specs.Packet.{no_place}
use Rattle.nd_chronicle.specs.Message.{said, RoomFor, failing_for, makes_way, releasing}
use Rattle.nd_chronicle.specs.Event.{MessageAdds, PartAdds}
use Rattle.nd_chronicle.specs.Parts.{Taken, TakenOfMessage, IsTakenInPart, as_placed, ignoring, passed_over}
use Rattle.nd_chronicle.specs.Advertising.{planning, wants_answer}
use Rattle.nd_chronicle.specs.Generator.{answer_delay_drawn, stream_left}
use Rattle.nd_chronicle.specs.NeighborSolicitation.{is_router}
use Rattle.nd_chronicle.specs.Told.{items}
use Rattle.nd_out.specs.declared.out.Out.{Out}
use Rattle.nd_steps.specs.NeighbourCache.{said_by}
use Rattle.nd_steps.specs.RouterTables.{Plans, plans}
use Rattle.nd_steps.specs.declared.router_tables.RouterTables.{RouterTables}
use Rattle.nd_steps.specs.Outputs.{Tells, at_moment, happenings}
use Rattle.nd_chronicle.specs.Answer as answers
use Rattle.nd_chronicle.proofs.Answering.{message_done}
use Rattle.nd_node.specs.declared.node.Node.{Node}
use Rattle.nd_node.specs.Hearing.{AddsMessage}
use Rattle.nd_node.specs.NodeKept.{Stands, next_of}
use Rattle.nd_node.specs.Frame.{AddsAlone}
use Rattle.nd_steps.proofs.Telling.{Tells-then}
use Rattle.nd_node.proofs.Ignoring.{in_part_adds, stands_limits, tells_limits}
use Rattle.nd_node.proofs.Givers.{TakesGiver, message_of, said_is}
use Rattle.nd_node.proofs.RouterRows.{DrawsDelay, PlansAnswer, aside, aside_same, aside_then, stands_advertising, stands_aside}
use Rattle.nd_node.proofs.Standing.{Apart}
use Rattle.nd_chronicle.proofs.Events.{one_placed}
use Rattle.nd_node.proofs.Turns.{advertisement_before}

-- a message that wants room for a neighbour alone, concerns the neighbours and the redirects alone, and has something happen behind it
pub record IsPlain (now : ℕ) (source destination : Addr) (body : Body) (options : List Said) (behind : Start → Chronicle → Chronicle → Chronicle) : Type 0 where
  pub needs_is : (c : Chronicle) → needs c source (message_of body options) body ≡ entering (said c source (message_of body options))
  pub fills : (start : Start) (c : Chronicle) (limit : Option Limit) → MessageFills start c now source (message_of body options) limit → Fills start c now source (message_of body options) body limit
  pub adds : (start : Start) (c : Chronicle) (gone : Option ℕ) (placed : Chronicle) → RoomFor start c now (said c source (message_of body options)) gone placed
      → MessageAdds start now source destination (message_of body options) body c
      (behind start c (releasing now (said c source (message_of body options)) (neighbour_history placed)
      (failing_for now gone (neighbour_history c) ((now, Heard source destination (message_of body options)) ∷ placed))))
  pub needs_too : (said_options : List Said) (c : Chronicle) → needs c source (message_of body said_options) body ≡ entering (said c source (message_of body said_options))
  pub fills_too : (said_options : List Said) (start : Start) (c : Chronicle) (limit : Option Limit) → MessageFills start c now source (message_of body said_options) limit → Fills start c now source (message_of body said_options) body limit
  pub is_part : (start : Start) (c : Chronicle) (said : List Said) (taken : Taken) → TakenOfMessage start c now source (message_of body said) taken → IsTakenInPart start c now source (message_of body said) body taken
  pub part_adds : (start : Start) (c d : Chronicle) (said : Parts) (taken : Taken) → MessageAdds start now source destination taken.message body c d → PartAdds start now source destination said taken body c d
  pub apart : (c : Chronicle) → Apart c ((now, Heard source destination (message_of body options)) ∷ c)
  pub routers : (c : Chronicle) → router_history ((now, Heard source destination (message_of body options)) ∷ c) ≡ router_history c

-- nothing happens behind it
abbrev pub nothing : Start → Chronicle → Chronicle → Chronicle
nothing start before c = c

-- the answer to a Router Solicitation is planned, where it has to be
abbrev pub planned : ℕ → Start → Chronicle → Chronicle → Chronicle
planned now start before c = planning start now (wants_answer start before) c

pub plain_redirect : (now : ℕ) (source destination : Addr) (r : Redirect) (options : List Said) → IsPlain now source destination (bodies.Redirect r) options nothing
plain_redirect now source destination r options = record {
  needs_is = λ c. refl;
  fills = λ start c limit f. f;
  adds = λ start c gone placed room. (gone, placed, room, refl);
  needs_too = λ said_options c. refl;
  fills_too = λ said_options start c limit f. f;
  is_part = λ start c said taken t. t;
  part_adds = λ start c d said taken adds. adds;
  apart = λ c. record { parameters = refl; prefixes = refl; servers = refl; names = refl; assigned = λ k. refl; solicited = refl; router = λ start'. refl; stream = λ start. refl };
  routers = λ c. refl;
}

pub plain_solicitation : (now : ℕ) (source destination : Addr) (options : List Said) → IsPlain now source destination bodies.Rs options (planned now)
plain_solicitation now source destination options = record {
  needs_is = λ c. refl;
  fills = λ start c limit f. f;
  adds = λ start c gone placed room. (gone, placed, room, refl);
  needs_too = λ said_options c. refl;
  fills_too = λ said_options start c limit f. f;
  is_part = λ start c said taken t. t;
  part_adds = λ start c d said taken adds. adds;
  apart = λ c. record { parameters = refl; prefixes = refl; servers = refl; names = refl; assigned = λ k. refl; solicited = refl; router = λ start'. refl; stream = λ start. refl };
  routers = λ c. refl;
}

-- time that passed makes no place
pub passed_placed : (start : Start) (c : Chronicle) (now : ℕ) (way : Bool) (need : Option (ℕ × Bool)) (place : Bool) → Placed start c now way need place → Placed start ((now, Passed) ∷ c) now way need place
passed_placed start c now way None place h = h
passed_placed start c now true (Some need) true h = h
passed_placed start c now true (Some need) false h = h
passed_placed start c now false (Some need) true h = h
passed_placed start c now false (Some need) false h = h

pub placed_later : (start : Start) (c : Chronicle) (now : ℕ) (o : Option (ℕ × rows.RowKind)) (place : Bool) → Placed start c now (makes_way start o) (entering o) place → Placed start ((now, Passed) ∷ c) now (makes_way start o) (entering o) place
placed_later start c now o place h = passed_placed start c now (makes_way start o) (entering o) place h

-- what is reported of a chronicle is reported of one with the same items
told_too : {A : Type 0} {c d : Chronicle} {x z : List (ℕ × Out A)} (e : Chronicle) → items e ≡ items d → Tells c d x z → Tells c e x z
told_too e same t = record { newer = t.newer; told = same ∙ t.told; outs = t.outs }

-- ---- the answer to a Router Solicitation

pub items_planned : (now : ℕ) (start : Start) (before c : Chronicle) → items (planned now start before c) ≡ items c
items_planned now start before c = by (wants_answer start before)
  where
    by : (wants : Bool) → items (planning start now wants c) ≡ items c
    by true = append-nil (items c ++ []) ∙ append-nil (items c)
    by false = refl

pub moment_planned : (now : ℕ) (start : Start) (before c : Chronicle) → last_moment start.at c ≡ now → last_moment start.at (planned now start before c) ≡ now
moment_planned now start before c at = by (wants_answer start before)
  where
    by : (wants : Bool) → last_moment start.at (planning start now wants c) ≡ now
    by true = refl
    by false = at

-- a node that planned it, or had none to plan, stands for the chronicle
pub stands_planned : {R A : Type 0} (stream : R → Stream) (start : Start) (old new : Node R A) (before c : Chronicle) (now : ℕ) (r : RouterTables A) (g : R) → new ≡ record old { router = r; generator = g } → advertising_history start c ≡ advertising_history start before
    → Plans now (plans old.role old.router) (stream old.generator) (stream g) old.router r → last_moment start.at c ≡ now → Stands stream start old c → Stands stream start new (planned now start before c)
stands_planned {R} {A} stream start old new before c now r g is same p at s = rw (is, sym wants_are) (by (plans old.role old.router) p.advertiser p.drawn)
  where
    wants_are : plans old.role old.router ≡ wants_answer start before
    wants_are = ap (λ (role : Role). is_router role && wants_draw old.router.advertiser.advertising) s.role
        ∙ ap (λ (wants : Bool). is_router start.role && wants) (draw_wanted old.router.advertiser (advertising_history start c) s.router.advertiser
        ∙ ap wants_draw_of same)

    by : (wants : Bool) → MatchBool wants (advertising.GainsRow old.router.advertiser r.advertiser (advertising_rows.Solicited now (answer_delay_drawn (stream old.generator)))) (r.advertiser ≡ old.router.advertiser)
        → stream g ≡ (if wants then (next_u32 (stream old.generator)).1 else stream old.generator) → Stands stream start (record old { router = r; generator = g }) (planning start now wants c)
    by true gains left =
        let delay = answer_delay_drawn (stream_left start c) in
        let drew : answer_delay_drawn (stream old.generator) ≡ delay = ap answer_delay_drawn s.generator in
        let below : Chronicle = (now, Drew ForAnswer delay) ∷ c in
        let d : Chronicle = (now, Planned delay) ∷ below in
        stands_advertising stream start old c d
        (aside_then start.at c below d (aside (DrawsDelay delay) now start.at c at) (aside (PlansAnswer delay) now start.at below refl)) s r g (advertising_rows.Solicited now delay) (sym at)
        (subst (λ (x : ℕ). advertising.GainsRow old.router.advertiser r.advertiser (advertising_rows.Solicited now x)) drew gains) p.limit p.routes refl refl (left ∙ ap (λ (x : Stream). (next_u32 x).1) s.generator)
    by false kept left = stands_aside stream start old c c (aside_same start.at c) s r g
        (record { advertiser = rw kept s.router.advertiser; routes = rw p.routes s.router.routes; offer_limit = rw kept s.router.offer_limit; route_limit = rw p.routes s.router.route_limit; spaced = s.router.spaced }) (left ∙ s.generator)
        (rw kept (advertisement_before old (last_moment start.at c) s.in_time))

module _ {R A : Type 0} (stream : R → Stream) (old : Node R A) (now : ℕ) (source destination : Addr) (body : Body) (options : List Said) (behind : Start → Chronicle → Chronicle → Chronicle) (plain : IsPlain now source destination body options behind)
    (settled : now < next_of old) (times : Times) (news : Option News)
    (news_is : option_map (said_by times) news ≡ said_of_neighbour source body options times.reachable) (reachable_is : times.reachable ≡ old.params.reachable_time) where
  -- what is said is that of the chronicle
  this_is : (start : Start) (c : Chronicle) → Stands stream start old c → option_map (said_by times) news ≡ said c source (message_of body options)
  this_is start c s = said_is stream old now source destination body options settled times news news_is reachable_is start c s

  -- its target has no room
  pub message_refused : (new : Node R A) (x y : List (ℕ × Out A)) → old.policies.parts ≡ false
      → ((start : Start) (c : Chronicle) → Stands stream start old c → Placed start c now (makes_way start (option_map (said_by times) news)) (entering (option_map (said_by times) news)) false)
      → AddsAlone stream old new x y now (Refused (Full Neighbours))
      → AddsMessage stream old new x y now source destination (message_of body options) (answers.Refused (Full Neighbours))
  message_refused new x y whole placed adds = record {
    each = λ start c s le takes.
        let later : Chronicle = (now, Passed) ∷ c in
        let a = adds.each start c s le in
        let placed' : Placed start later now (makes_way start (said later source (message_of body options))) (entering (said later source (message_of body options))) false =
        subst (λ (o : Option (ℕ × rows.RowKind)). Placed start later now (makes_way start o) (entering o) false) (this_is start c s) (placed_later start c now (option_map (said_by times) news) false (placed start c s)) in (
          (now, Refused (Full Neighbours)) ∷ later,
          (Some Neighbours, plain.fills start later (Some Neighbours) (record { neighbours = false; placed = rw (plain.needs_is later) placed'; first = refl }), rw (ap (λ (p : Policies). p.parts) (sym s.policies) ∙ whole) refl),
          a.0,
          a.1,
          refl,
        );
  }

  -- its target has room, so that no table is full
  pub none_full : ((start : Start) (c : Chronicle) → Stands stream start old c → Placed start c now (makes_way start (option_map (said_by times) news)) (entering (option_map (said_by times) news)) true)
      → (start : Start) (c : Chronicle) (limit : Limit) → Stands stream start old c → MessageFills start ((now, Passed) ∷ c) now source (message_of body options) (Some limit) → ⊥
  none_full placed start c limit s fills =
      let later : Chronicle = (now, Passed) ∷ c in
      let placed' : Placed start later now (makes_way start (said later source (message_of body options))) (entering (said later source (message_of body options))) true =
      subst (λ (o : Option (ℕ × rows.RowKind)). Placed start later now (makes_way start o) (entering o) true) (this_is start c s) (placed_later start c now (option_map (said_by times) news) true (placed start c s)) in
      let way : Bool = makes_way start (said later source (message_of body options)) in
      let here : Placed start later now way (needs later source (message_of body options) body) true = rw (plain.needs_is later) placed' in
      let same : fills.neighbours ≡ true = one_placed start later now way (needs later source (message_of body options) body) fills.neighbours true fills.placed here in
      let first : Some limit ≡ no_place fills.neighbours = fills.first in
      let never : ⊥ = cc in
      never

  module _ (new final : Node R A) (gone : Option ℕ) (x z : List (ℕ × Out A))
      (placed : (start : Start) (c : Chronicle) → Stands stream start old c → Placed start c now (makes_way start (option_map (said_by times) news)) (entering (option_map (said_by times) news)) true)
      (takes : (start : Start) (c : Chronicle) → Stands stream start old c → last_moment start.at c ≤ now → TakesGiver stream old now source destination body options settled times news news_is reachable_is new gone x z start c)
      (follows : (start : Start) (before d : Chronicle) → advertising_history start d ≡ advertising_history start before → last_moment start.at d ≡ now → Stands stream start new d → Stands stream start final (behind start before d))
      (silent : (start : Start) (before d : Chronicle) → items (behind start before d) ≡ items d) where
    pub adds_message : AddsMessage stream old final x z now source destination (message_of body options) answers.Done
    adds_message = record {
      each = λ start c s le heard.
          let later : Chronicle = (now, Passed) ∷ c in
          let message : Parts = message_of body options in
          let this : Option (ℕ × rows.RowKind) = said later source message in
          let t = takes start c s le in
          let after : Chronicle = releasing now this (neighbour_history t.placed) (failing_for now gone (neighbour_history c) ((now, Heard source destination message) ∷ t.placed)) in
          let adds = plain.adds start later gone t.placed t.room in
          let placed' : Placed start later now (makes_way start this) (entering this) true =
          subst (λ (o : Option (ℕ × rows.RowKind)). Placed start later now (makes_way start o) (entering o) true) (this_is start c s) (placed_later start c now (option_map (said_by times) news) true (placed start c s)) in (
            behind start later after,
            (None, plain.fills start later None (record { neighbours = true; placed = rw (plain.needs_is later) placed'; first = refl }), adds),
            follows start later after (ap (λ (p : List advertising_rows.Row × List route_rows.Row). p.0) (t.apart.router start)) (t.last start.at) t.stands,
            told_too {d = after} (behind start later after) (silent start later after) t.tells,
            sym (message_done start now source destination message later (behind start later after) refl adds),
          );
    }

-- what is reported of a chronicle is reported with reports that say the same
told_alike : {A : Type 0} (c d : Chronicle) (x z w : List (ℕ × Out A)) → happenings w ≡ happenings z ++ [] → Tells c d x z → Tells c d x w
told_alike c d x z w is t = record { newer = t.newer; told = t.told; outs = is ∙ (append-nil (happenings z) ∙ t.outs) }

module _ {R A : Type 0} (stream : R → Stream) (old : Node R A) (now : ℕ) (source destination : Addr) (body : Body) (options : List Said) (behind : Start → Chronicle → Chronicle → Chronicle) (settled : now < next_of old) (times : Times)
    (news : Option News) (news_is : option_map (said_by times) news ≡ said_of_neighbour source body options times.reachable) (reachable_is : times.reachable ≡ old.params.reachable_time) (new final : Node R A) (gone : Option ℕ) (x z w : List (ℕ × Out A)) where
  -- what becomes of a message whose neighbour has a place, or with the policy `parts` has none
  pub adds_in_place : (place : Bool) → (place ≡ false → old.policies.parts ≡ true)
      → ((start : Start) (c : Chronicle) → Stands stream start old c → Placed start c now (makes_way start (option_map (said_by times) news)) (entering (option_map (said_by times) news)) place)
      → (plain : IsPlain now source destination body (as_placed place options) behind)
      → (taken : Option News) (taken_is : option_map (said_by times) taken ≡ said_of_neighbour source body (as_placed place options) times.reachable)
      → ((start : Start) (c : Chronicle) → Stands stream start old c → last_moment start.at c ≤ now
      → TakesGiver stream old now source destination body (as_placed place options) settled times taken taken_is reachable_is new gone x z start c)
      → ((start : Start) (before d : Chronicle) → advertising_history start d ≡ advertising_history start before → last_moment start.at d ≡ now → Stands stream start new d → Stands stream start final (behind start before d))
      → ((start : Start) (before d : Chronicle) → last_moment start.at d ≡ now → last_moment start.at (behind start before d) ≡ now)
      → ((start : Start) (before d : Chronicle) → items (behind start before d) ≡ items d)
      → happenings w ≡ happenings z ++ at_moment now (map (λ l. Ignored l) (passed_over place Neighbours))
      → AddsMessage stream old final x w now source destination (message_of body options) answers.Done
  adds_in_place true whole placed plain taken taken_is takes follows moment silent ignored = record {
    each = λ start c s le target.
        let a = (adds_message stream old now source destination body options behind plain settled times taken taken_is reachable_is new final gone x z
        (λ start' c' s'. subst (λ (o : Option (ℕ × rows.RowKind)). Placed start' c' now (makes_way start' o) (entering o) true) (news_is ∙ sym taken_is) (placed start' c' s')) takes follows silent).each start c s le target in
        (a.0, a.1, a.2, told_alike c a.0 x z w ignored a.3, a.4);
  }
  adds_in_place false whole placed plain taken taken_is takes follows moment silent ignored =
      in_part_adds stream old final x w now source destination (message_of body options) Neighbours (whole refl) fills (record {
        each = λ start c s le target.
            let later : Chronicle = (now, Passed) ∷ c in
            let message : Parts = message_of body (as_placed false options) in
            let this : Option (ℕ × rows.RowKind) = said later source message in
            let t = takes start c s le in
            let after : Chronicle = releasing now this (neighbour_history t.placed) (failing_for now gone (neighbour_history c) ((now, Heard source destination message) ∷ t.placed)) in
            let told : Chronicle = behind start later after in
            let part : Taken = record { place = false; message = message; listed = true; ignored = Neighbours ∷ [] } in (
              ignoring now (Neighbours ∷ []) told,
              record {
                taken = part;
                is_taken = plain.is_part start later options part (record { placed = not_placed start c s; message_is = refl; listed_is = refl; ignored_is = refl });
                told = told;
                adds = plain.part_adds start later told (message_of body options) part (plain.adds start later gone t.placed t.room);
                all = refl;
              },
              stands_limits stream start final now (Neighbours ∷ []) told (moment start later after (t.last start.at)) (follows start later after (ap (λ (p : List advertising_rows.Row × List route_rows.Row). p.0) (t.apart.router start)) (t.last start.at) t.stands),
              Tells-then c told (ignoring now (Neighbours ∷ []) told) x z w (told_too {d = after} told (silent start later after) t.tells) (tells_limits now (Neighbours ∷ []) told z w ignored),
            );
      })
    where
      -- it has none once time has passed
      not_placed : (start : Start) (c : Chronicle) → Stands stream start old c → Placed start ((now, Passed) ∷ c) now (makes_way start (said ((now, Passed) ∷ c) source (message_of body options))) (needs ((now, Passed) ∷ c) source (message_of body options) body) false
      not_placed start c s = rw (plain.needs_too options ((now, Passed) ∷ c)) (subst (λ (o : Option (ℕ × rows.RowKind)). Placed start ((now, Passed) ∷ c) now (makes_way start o) (entering o) false)
          (said_is stream old now source destination body options settled times news news_is reachable_is start c s)
          (placed_later start c now (option_map (said_by times) news) false (placed start c s)))

      fills : (start : Start) (c : Chronicle) → Stands stream start old c → last_moment start.at c ≤ now → Fills start ((now, Passed) ∷ c) now source (message_of body options) body (Some Neighbours)
      fills start c s le = plain.fills_too options start ((now, Passed) ∷ c) (Some Neighbours) (record { neighbours = false; placed = not_placed start c s; first = refl })
