-- A message that is heard and says something of a neighbour, to which another one may give way, and the chronicle that a node stands for.
use Rattle.std.proofs.Common.{◌≡◌, ℕ, ◌<◌, ◌≤◌, Bool, List, [], ◌∷◌, ◌++◌, append-nil, append_assoc, Option, Some, None, refl, sym, ◌∙◌, ap, subst, arith}
use Rattle.std.specs.Prelude.{◌&&◌, IfNone, IfSome, MatchBool}
use Rattle.std.specs.List.{flat_map}
use Rattle.std.specs.Option.{option_map}
use Rattle.rand_core.specs.Stream.{Stream}
use Rattle.nd_addr.specs.declared.addr.Addr.{Addr}
use Rattle.nd_decode.specs.Message.{Parts}
use Rattle.nd_decode.specs.Option.{Said}
use Rattle.nd_decode.specs.declared.body.Body.{Body}
use Rattle.nd_neighbour.specs.declared.news.News.{News}
use Rattle.nd_neighbour.specs.declared.news.Times.{Times}
use Rattle.nd_neighbour.specs.GivingWay.{GivesWay}
use Rattle.nd_neighbour.specs.History as rows
use Rattle.nd_neighbour.specs.Place.{pushing}
use Rattle.nd_neighbour.specs.TableKept as neighbours
use Rattle.nd_params.specs.ReachableTime.{reachable_of}
use Rattle.nd_routers.specs.History as router_rows
use Rattle.nd_routers.specs.RoutersKept as routers
use Rattle.nd_nexthop.specs.History as redirect_rows
use Rattle.nd_nexthop.specs.Choice as choice
use Rattle.nd_nexthop.specs.Memo.{Memory, forgotten}
use Rattle.nd_slaac.specs.TableKept as addresses
use Rattle.nd_chronicle.specs.Start.{Start}
use Rattle.nd_chronicle.specs.Happening.{Chronicle, Heard, Passed, last_moment}
use Rattle.nd_chronicle.specs.Histories.{neighbour_history, router_history, redirect_history, said_of_neighbour, then_neighbour, then_redirect}
use Rattle.nd_chronicle.specs.Due.{assigned_at}
use Rattle.nd_chronicle.specs.Message as message
use Rattle.nd_chronicle.specs.Message.{said, RoomFor, WayFor, failing_for, releasing}
use Rattle.nd_chronicle.specs.Told.{items_at, items}
use Rattle.nd_out.specs.declared.out.Out.{Out}
use Rattle.nd_out.specs.Out.{happening}
use Rattle.nd_steps.specs.DestinationCache.{MayRemember}
use Rattle.nd_steps.specs.GivingWay.{HearsGiver, NotesWay, WayBy, told_of_way, with_router_gone, with_target_gone}
use Rattle.nd_steps.specs.NeighbourCache.{released_rows, said_by}
use Rattle.nd_steps.specs.Outputs.{at_moment, happenings, Tells}
use Rattle.nd_steps.proofs.Failing.{Fails, fails, with_failed}
use Rattle.nd_steps.proofs.GivingWay.{EndsOnce, giver_placed, none_before_giver, stands_failed}
use Rattle.nd_steps.proofs.Quiet.{Quiet}
use Rattle.nd_steps.proofs.Saying.{NoneOverdueStill, OneGoes, Others, OverdueByTable, items_of_both, released_kept, releasing_is_quiet, releasing_items}
use Rattle.nd_steps.proofs.Telling.{one, Tells-then, one_more}
use Rattle.nd_node.specs.declared.node.Node.{Node}
use Rattle.nd_node.specs.NodeKept.{Stands, next_of}
use Rattle.nd_node.proofs.Quiet.{stands_quiet}
use Rattle.nd_node.proofs.Recalling.{Recalls, forgets as forgets_of, may_recall, may_redirects, may_until, redirects_stand}
use Rattle.nd_node.proofs.Standing.{Apart, Still, apart_then, stands_at}
use Rattle.nd_node.proofs.Turns.{addresses_before, neighbours_before, routers_before}

-- a message
abbrev pub message_of : Body → List Said → Parts
message_of body options = record { body = body; options = options }

pub apart_passed : (now : ℕ) (c : Chronicle) → Apart c ((now, Passed) ∷ c)
apart_passed now c = record { parameters = refl; prefixes = refl; servers = refl; names = refl; assigned = λ k. refl; solicited = refl; router = λ start'. refl; stream = λ start. refl }

apart_others : {c d : Chronicle} → Others c d → Apart c d
apart_others o = record {
  parameters = o.parameters;
  prefixes = o.prefixes;
  servers = o.servers;
  names = o.names;
  assigned = λ key. ap (λ l. assigned_at key l) o.addresses;
  solicited = o.solicited;
  router = o.router;
  stream = o.stream;
}

apart_failing : {at : ℕ} {gone : Option ℕ} {history : List rows.Row} {c d : Chronicle} → Fails at gone history c d → Apart c d
apart_failing f = record {
  parameters = f.parameters;
  prefixes = f.prefixes;
  servers = f.servers;
  names = f.names;
  assigned = λ key. ap (λ l. assigned_at key l) f.addresses;
  solicited = f.solicited;
  router = f.router;
  stream = f.stream;
}

-- where nothing is remembered before one gave way, nothing is behind it
pub still_nothing : {X : Type 0} (P : Type 0) (found : Option X) (a b : choice.Table) → IfNone found (P × (b ≡ a)) → IfSome found (λ _. b.memory ≡ forgotten a.memory) → a.memory.hops ≡ [] → b.memory.hops ≡ []
still_nothing P None a b same forgets none = ap (λ (t : choice.Table). t.memory.hops) same.1 ∙ none
still_nothing P (Some x) a b same forgets none = ap (λ (m : Memory). m.hops) forgets

-- who gives way by the policy of the node gives way by that of the start
pub way_for : (start : Start) (c : Chronicle) (now : ℕ) (speakers : Bool) (news : Option (ℕ × rows.RowKind)) (gone : Option ℕ) → speakers ≡ start.policies.speakers
    → WayBy speakers start.limits.neighbours now news (neighbour_history c) gone → WayFor start c now news gone
way_for start c now speakers None way_of is way = way
way_for start c now speakers (Some news) way_of is way =
    subst (λ (b : Bool). MatchBool (message.lets_enter news.1 && b) (GivesWay start.limits.neighbours now news.0 (neighbour_history c) way_of) (way_of ≡ None)) is way

module _ {R A : Type 0} (stream : R → Stream) (old : Node R A) (now : ℕ) (source destination : Addr) (body : Body) (options : List Said)
    (settled : now < next_of old) (times : Times) (news : Option News)
    (news_is : option_map (said_by times) news ≡ said_of_neighbour source body options times.reachable) (reachable_is : times.reachable ≡ old.params.reachable_time) where
  -- what is said is that of the chronicle
  pub said_is : (start : Start) (c : Chronicle) → Stands stream start old c → option_map (said_by times) news ≡ said c source (message_of body options)
  said_is start c s = news_is ∙ ap (λ (t : ℕ). said_of_neighbour source body options t) (reachable_is ∙ s.params.reachable_time)

  -- what the message adds, as the node stands for it
  pub record TakesGiver (new : Node R A) (gone : Option ℕ) (x z : List (ℕ × Out A)) (start : Start) (c : Chronicle) : Type 0 where
    pub placed : Chronicle
    pub room : RoomFor start ((now, Passed) ∷ c) now (said ((now, Passed) ∷ c) source (message_of body options)) gone placed
    pub stands : Stands stream start new (releasing now (said ((now, Passed) ∷ c) source (message_of body options)) (neighbour_history placed)
        (failing_for now gone (neighbour_history c) ((now, Heard source destination (message_of body options)) ∷ placed)))
    pub tells : Tells c (releasing now (said ((now, Passed) ∷ c) source (message_of body options)) (neighbour_history placed)
        (failing_for now gone (neighbour_history c) ((now, Heard source destination (message_of body options)) ∷ placed))) x z
    -- it leaves what only a router has, and time has passed
    pub apart : Apart c (releasing now (said ((now, Passed) ∷ c) source (message_of body options)) (neighbour_history placed)
        (failing_for now gone (neighbour_history c) ((now, Heard source destination (message_of body options)) ∷ placed)))
    pub last : (at : ℕ) → last_moment at (releasing now (said ((now, Passed) ∷ c) source (message_of body options)) (neighbour_history placed)
        (failing_for now gone (neighbour_history c) ((now, Heard source destination (message_of body options)) ∷ placed))) ≡ now

  module _ (new : Node R A) (gone : Option ℕ) (x room y z : List (ℕ × Out A)) (heard : Out A)
      (still : NoneOverdueStill) (table : OverdueByTable) (one_goes : OneGoes) (once : EndsOnce) (same : Still old new now)
      (apart : (c : Chronicle) → Apart c ((now, Heard source destination (message_of body options)) ∷ c))
      (unlisted : (c : Chronicle) → router_history ((now, Heard source destination (message_of body options)) ∷ c) ≡ router_history c)
      (listed : (history : List router_rows.RouterRow) → routers.Stands old.routers history → routers.Stands new.routers (with_router_gone now gone history)) (entries_same : new.routers.entries ≡ old.routers.entries)
      (addresses_same : new.addresses ≡ old.addresses)
      (recalls : (start : Start) (c : Chronicle) → Stands stream start old c → last_moment start.at c ≤ now → Recalls now new)
      (reserved : room ≡ x) (told : y ≡ room ++ (now, heard) ∷ []) (heard_is : happening heard ≡ Heard source destination (record { body = body; options = [] }))
      (redirects : (history : List redirect_rows.RedirectRow) → choice.Stands old.choice history → choice.Stands new.choice (with_target_gone now gone (then_redirect now body history)))
      (hears : HearsGiver old.policies.speakers old.neighbours.limit now (option_map (said_by times) news) old.neighbours.entries new.neighbours.entries y z gone) where
    pub takes_giver : (start : Start) (c : Chronicle) → Stands stream start old c → last_moment start.at c ≤ now → TakesGiver new gone x z start c
    takes_giver start c s le =
        let later : Chronicle = (now, Passed) ∷ c in
        let message : Parts = message_of body options in
        let history : List rows.Row = neighbour_history c in
        let limit : ℕ = start.limits.neighbours in
        let speakers : Bool = old.policies.speakers in
        let this : Option (ℕ × rows.RowKind) = said later source message in
        let hears' : HearsGiver speakers limit now this old.neighbours.entries new.neighbours.entries y z gone =
        subst (λ (l : ℕ). HearsGiver speakers l now this old.neighbours.entries new.neighbours.entries y z gone) s.limits.neighbours
        (subst (λ (o : Option (ℕ × rows.RowKind)). HearsGiver speakers old.neighbours.limit now o old.neighbours.entries new.neighbours.entries y z gone) (said_is start c s) hears) in
        let h = hears'.each history s.neighbours in
        let made : List rows.Row = h.1.0 in
        let p = giver_placed start later now speakers this gone made one_goes (λ a. refl) h.0 h.1.1 in
        let o : Others later p.placed = p.others in
        let row : Chronicle = (now, Heard source destination message) ∷ p.placed in
        let before : Chronicle = failing_for now gone history row in
        let f : Fails now gone history row before = fails now gone history row (λ a. refl) in
        let after : Chronicle = releasing now this (neighbour_history p.placed) before in
        let q : Quiet before after = releasing_is_quiet now this (neighbour_history p.placed) before f.last in
        let not_past : now ≤ next_of old = omega (arith, settled) in
        let said_now : neighbour_history row ≡ then_neighbour now this made =
        ap (λ (t : ℕ). then_neighbour now (said_of_neighbour source body options t) (neighbour_history p.placed)) (ap (λ l. reachable_of l) o.parameters)
        ∙ ap (λ (l : List rows.Row). then_neighbour now this l) p.history in
        let neighbours' : neighbours.Stands new.neighbours.entries (neighbour_history before) =
        subst (λ (l : List rows.Row). neighbours.Stands new.neighbours.entries l) (sym (f.neighbours ∙ ap (λ (l : List rows.Row). with_failed now gone l) said_now))
        (stands_failed once one_goes speakers limit now this gone new.neighbours.entries history made h.0 h.1.1 h.1.2) in
        let none = none_before_giver table still one_goes limit now this gone old.neighbours.entries new.neighbours.entries history made s.neighbours h.1.1 h.1.2 (neighbours_before old now not_past) in
        let apart' : Apart c before = apart_then c later before (apart_passed now c) (apart_then later p.placed before (apart_others o) (apart_then p.placed row before (apart p.placed) (apart_failing f))) in
        let routers' : routers.Stands new.routers (router_history before) =
        subst (λ l. routers.Stands new.routers l) (sym (f.routers ∙ ap (λ (l : List router_rows.RouterRow). with_router_gone now gone l) (unlisted p.placed ∙ o.routers))) (listed (router_history c) s.routers) in
        let redirects' : choice.Stands new.choice (redirect_history before) =
        subst (λ l. choice.Stands new.choice l) (sym (f.redirects ∙ ap (λ (l : List redirect_rows.RedirectRow). with_target_gone now gone (then_redirect now body l)) o.redirects)) (redirects (redirect_history c) s.redirects) in
        let stands_before : Stands stream start new before = stands_at stream start old new c before now same apart' s le not_past (f.last start.at)
        routers' (rw entries_same (routers_before old now not_past))
        (subst (λ l. addresses.Stands new.addresses.addresses l) (sym (f.addresses ∙ o.addresses)) (rw addresses_same s.addresses)) (rw addresses_same (addresses_before old now not_past))
        neighbours' none redirects' (recalls start c s le) in
        let base_history : List rows.Row = pushing now gone history in
        let kept : released_rows now this (neighbour_history p.placed) ≡ released_rows now this base_history =
        ap (λ (l : List rows.Row). released_rows now this l) p.history ∙ released_kept limit now this base_history made h.1.1 in
        let heard_items : Tells c row x y = record {
          newer = (now, Heard source destination (record { body = body; options = [] })) ∷ [];
          told = ap (λ t. t ++ items_at (now, Heard source destination message)) (o.told ∙ append-nil (items c)) ∙ one (items c) (items_at (now, Heard source destination message));
          outs = ap happenings told ∙ (ap (λ l. happenings (l ++ (now, heard) ∷ [])) reserved ∙ (one_more x (x ++ (now, heard) ∷ []) now heard refl ∙ ap (λ w. happenings x ++ (now, w) ∷ []) heard_is));
        } in
        let way = told_of_way gone history in
        let rest = released_rows now this (neighbour_history p.placed) in
        let rest_items : Tells row after y z = record {
          newer = at_moment now (way ++ rest);
          told = releasing_items now this (neighbour_history p.placed) before
              ∙ (ap (λ l. l ++ flat_map items_at (at_moment now rest)) f.told
              ∙ (append_assoc (items row) (flat_map items_at (at_moment now way)) (flat_map items_at (at_moment now rest))
              ∙ ap (λ l. items row ++ l) (sym (items_of_both now way rest))));
          outs = h.2 ∙ ap (λ l. happenings y ++ at_moment now (way ++ l)) (sym kept);
        } in
        record {
          placed = p.placed;
          room = record { way = way_for start later now speakers this gone (ap (λ (p : _). p.speakers) s.policies) h.0; place = p.place };
          stands = stands_quiet stream start new before after q stands_before;
          tells = Tells-then c row after x y z heard_items rest_items;
          apart = apart_then c before after apart' (record { parameters = q.parameters; prefixes = q.prefixes; servers = q.servers; names = q.names; assigned = λ key. ap (λ l. assigned_at key l) q.addresses; solicited = q.solicited; router = q.router; stream = q.stream });
          last = λ at. q.last at ∙ f.last at;
        }

  -- the same where the message itself redirects nothing: what is remembered is kept, or forgotten
  module _ {X : Type 0} (found : Option X) (new : Node R A) (between : choice.Table) (gone : Option ℕ) (x room y z : List (ℕ × Out A)) (heard : Out A)
      (still : NoneOverdueStill) (table : OverdueByTable) (one_goes : OneGoes) (once : EndsOnce) (same : Still old new now)
      (apart : (c : Chronicle) → Apart c ((now, Heard source destination (message_of body options)) ∷ c))
      (unlisted : (c : Chronicle) → router_history ((now, Heard source destination (message_of body options)) ∷ c) ≡ router_history c)
      (notes : NotesWay gone old.routers new.routers between new.choice) (entries_same : new.routers.entries ≡ old.routers.entries) (addresses_same : new.addresses ≡ old.addresses)
      (unchanged : IfNone found ((new.routers ≡ old.routers) × (new.choice ≡ between))) (forgets : IfSome found (λ _. new.choice.memory ≡ forgotten between.memory))
      (may : MayRemember old.choice between old.neighbours.entries new.neighbours.entries)
      (reserved : room ≡ x) (told : y ≡ room ++ (now, heard) ∷ []) (heard_is : happening heard ≡ Heard source destination (record { body = body; options = [] }))
      (unredirected : (history : List redirect_rows.RedirectRow) → then_redirect now body history ≡ history)
      (hears : HearsGiver old.policies.speakers old.neighbours.limit now (option_map (said_by times) news) old.neighbours.entries new.neighbours.entries y z gone) where
    may_until_kept : (o : Option X) → IfNone o ((new.routers ≡ old.routers) × (new.choice ≡ between)) → IfSome o (λ _. new.choice.memory ≡ forgotten between.memory)
        → (start : Start) (c : Chronicle) → Stands stream start old c → last_moment start.at c ≤ now → Recalls now new
    may_until_kept None u f start c s le =
        may_recall old new old.last now (omega (arith, s.last, le)) s.memo same.prefixes (subst (λ (t : choice.Table). MayRemember old.choice t old.neighbours.entries new.neighbours.entries) (sym u.1) may) u.0 (λ key. rw addresses_same refl)
        (neighbour_history c) s.neighbours
    may_until_kept (Some key) u f start c s le =
        forgets_of old new old.last now (omega (arith, s.last, le)) s.memo same.prefixes
        (ap (λ (m : Memory). m.hops) f) (ap (λ (m : Memory). m.until) f ∙ may_until old.choice between old.neighbours.entries new.neighbours.entries may)

    pub takes_plainly : (start : Start) (c : Chronicle) → Stands stream start old c → last_moment start.at c ≤ now → TakesGiver new gone x z start c
    takes_plainly = takes_giver new gone x room y z heard still table one_goes once same apart unlisted (notes.routers now) entries_same addresses_same (may_until_kept found unchanged forgets) reserved told heard_is
        (λ history s. subst (λ (l : List redirect_rows.RedirectRow). choice.Stands new.choice (with_target_gone now gone l)) (sym (unredirected history))
        (notes.redirects now history (redirects_stand old.choice between history (may_redirects old.choice between old.neighbours.entries new.neighbours.entries may) s))) hears
