-- What comes of an event, by what its parts lead to.
use Rattle.std.proofs.Common.{◌≡◌, ℕ, ◌<◌, ◌≤◌, true, List, [], ◌∷◌, ◌++◌, length, append-nil, Some, None, Err, refl, sym, ◌∙◌, ap, subst, arith}
use Rattle.std.specs.Prelude.{◌==◌, nat_lt, MatchBool, slice_get, Result, IsErrOf, OnErr, ⊤}
use Rattle.std.proofs.lemmas.Bool.{le-ltb, lt-ltb, ne_eqb}
use Rattle.std.proofs.lemmas.Bool.Decides.{Decides-eqb}
use Rattle.std.proofs.lemmas.Option.{slice_get_within}
use Rattle.rand_core.specs.Stream.{Stream}
use Rattle.nd_addr.specs.declared.mac.Mac.{Mac}
use Rattle.nd_addr.specs.declared.role.Role.{Role}
use Rattle.nd_table.proofs.Tests.{by_true, by_false}
use Rattle.nd_chronicle.specs.History.{beginning}
use Rattle.nd_chronicle.specs.Event as nodes
use Rattle.nd_node.specs.declared.node.Node.{Node}
use Rattle.nd_node.specs.NodeKept as node
use Rattle.nd_node.specs.Limits.{usual_limits}
use Rattle.nd_node.specs.Node.{starting}
use Rattle.nd_link_log.specs.Log.{Log, Carries, Refuses, TooLate, NoNode, NoFrame, Own, last_moment, nodes, sent}
use Rattle.nd_link_log.specs.Event as links
use Rattle.nd_link_log.specs.Event.{AddsRows, Event, max_nodes}
use Rattle.nd_link_log.specs.Told.{reports, reports_of}
use Rattle.nd_wire.specs.Wire.{IsFaithfulTo}
use Rattle.nd_link.specs.declared.fault.LinkFault.{LinkFault}
use Rattle.nd_link.specs.declared.link.Link.{Link}
use Rattle.nd_link.specs.declared.told.Told.{Told}
use Rattle.nd_link.specs.Arrival.{Arrives, Happens, IsRefused, reached}
use Rattle.nd_link.specs.Frames.{Arrived, kept_frames}
use Rattle.nd_link.specs.Link.{NodesStand, Stands}
use Rattle.nd_link.specs.Run.{FollowsBy}
use Rattle.nd_link.specs.Time.{Leads, Onward, Passes, TellsOf}
use Rattle.nd_link.specs.declared.sent_frame.SentFrame.{SentFrame}
use Rattle.nd_link.specs.declared.refusal.Refusal.{Refusal}
use Rattle.nd_link.specs.declared.refusal.Refusal.TheVariants as refusals
use Rattle.nd_link.specs.Delivery.{Goes, IsKept, IsWay}
use Rattle.nd_link.specs.Told.{Tells, TellsReports, refusal_of}
use Rattle.nd_link.proofs.Lists.{get_same}
use Rattle.nd_link.proofs.Arriving.{nodes_refused}
use Rattle.nd_link.proofs.Passage.{frames_reached, moment_reached, nodes_reached, reports_reached}
use Rattle.nd_link.proofs.Sending.{count_frames, kept_at, kept_length, named}
use Rattle.nd_link.proofs.Starting.{frames_started, nodes_started, started, reports_started}
use Rattle.nd_link.proofs.Walks.{told_of_reports, told_same, told_then}

-- what holds at an error holds at this one
of_err : {T E : Type 0} (r : Result T E) (e : E) (P : Type 0) → IsErrOf r e → OnErr r P → P
of_err r e P is holds = subst (λ (x : Result _ _). OnErr x P) is holds

module _ {W R A : Type 0} (stream : R → Stream) where
  -- the same for one of the relations that follow from another
  pub leads_to : (old new : Link W R A) (x y : List (Told A)) (P Q : Log → Log → Type 0) → ((log d : Log) → Stands stream old log → P log d → Q log d) → Leads stream old new x y P → Leads stream old new x y Q
  leads_to old new x y P Q f l = record { each = λ log s. let m = l.each log s in (m.0, f log m.0 s m.1, m.2, m.3) }

  -- a call that changes no node, no frame and no moment
  pub same_stands : (old new : Link W R A) → new.nodes ≡ old.nodes → new.frames ≡ old.frames → new.last ≡ old.last → (log : Log) → Stands stream old log → Stands stream new log
  same_stands old new nodes_are frames_are last_is log s = record {
    nodes = subst (λ v. NodesStand stream v.items log (last_moment log)) (sym nodes_are) s.nodes;
    frames = ap (λ f. kept_frames f.items) frames_are ∙ s.frames;
    last = last_is ∙ s.last;
  }

  pub leads_from : (old mid new : Link W R A) (x y : List (Told A)) (P : Log → Log → Type 0) → ((log : Log) → Stands stream old log → Stands stream mid log) → Leads stream mid new x y P → Leads stream old new x y P
  leads_from old mid new x y P stands l = record { each = λ log s. l.each log (stands log s) }

  -- ---- time passes

  pub passes_leads : (old new : Link W R A) (x : List (Told A)) (now : ℕ) → ((log : Log) → Stands stream old log → Stands stream new (reached now log)) → Leads stream old new x x (Happens now links.Passes)
  passes_leads old new x now reaches = record {
    each = λ log s. (reached now log, refl, reaches log s, record { newer = []; told = reports_reached now log ∙ sym (append-nil (reports log)); all = sym (append-nil x) });
  }

  -- ---- a node starts

  pub count_reached : (link : Link W R A) (now : ℕ) (log : Log) → Stands stream link log → nodes (reached now log) ≡ length link.nodes.items
  count_reached link now log s = nodes_reached now log ∙ sym s.nodes.count

  pub start_leads : (old mid new : Link W R A) (x : List (Told A)) (n : Node R A) (now : ℕ) (role : Role) (mac : Mac) (transmits : ℕ) (words : Stream) → length old.nodes.items < max_nodes
      → ((log : Log) → Stands stream old log → Stands stream mid (reached now log)) → node.Stands stream (starting now role mac transmits usual_limits words) n (beginning (starting now role mac transmits usual_limits words))
      → new.nodes.items ≡ mid.nodes.items ++ n ∷ [] → new.frames ≡ mid.frames → new.last ≡ mid.last → Leads stream old new x x (Happens now (links.Starts role mac transmits words))
  start_leads old mid new x n now role mac transmits words few reaches stands nodes_are frames_are last_are = record {
    each = λ log s.
        let base = reached now log in
        let m = reaches log s in
        let start = starting now role mac transmits usual_limits words in
        let at = moment_reached now log in
        let d : Log = started (nodes base) start base in (
          d,
          by_true (nat_lt (nodes base) max_nodes) _ _ (lt-ltb (nodes base) max_nodes (let e = count_reached old now log s in omega (arith, e, few))) refl,
          record {
            nodes = subst (λ (l : List (Node R A)). NodesStand stream l d now) (sym nodes_are)
                (nodes_started stream mid.nodes.items n base start (subst (NodesStand stream mid.nodes.items base) at m.nodes) stands);
            frames = ap (λ f. kept_frames f.items) frames_are ∙ (m.frames ∙ sym (frames_started (nodes base) start base));
            last = last_are ∙ (m.last ∙ at);
          },
          record { newer = []; told = reports_started (nodes base) start base ∙ (reports_reached now log ∙ sym (append-nil (reports log))); all = sym (append-nil x) },
        );
  }

  -- ---- an event comes to a node, or a frame

  pub no_node_leads : (old new : Link W R A) (x y : List (Told A)) (now number : ℕ) (event : nodes.Event) → length old.nodes.items ≤ number → Leads stream old new x y (IsRefused now NoNode)
      → Leads stream old new x y (Happens now (links.Comes number event))
  no_node_leads old new x y now number event past =
      leads_to old new x y (IsRefused now NoNode) (Happens now (links.Comes number event))
      (λ log d s is. by_false (nat_lt number (nodes (reached now log))) _ _ (le-ltb number (nodes (reached now log)) (let e = count_reached old now log s in omega (arith, e, past))) is)

  pub come_leads : (old new : Link W R A) (x y : List (Told A)) (now number place : ℕ) (event : nodes.Event) → place ≡ number → place < length old.nodes.items → Leads stream old new x y (Arrives now place event None)
      → Leads stream old new x y (Happens now (links.Comes number event))
  come_leads old new x y now number place event same there =
      leads_to old new x y (Arrives now place event None) (Happens now (links.Comes number event))
      (λ log d s is. by_true (nat_lt number (nodes (reached now log))) _ _ (lt-ltb number (nodes (reached now log)) (let e = count_reached old now log s in omega (arith, e, there, same)))
      (subst (λ (k : ℕ). AddsRows usual_limits now k event (reached now log) d) same is))

  -- a frame is to be carried
  pub sent_reached : (link : Link W R A) (now : ℕ) (log : Log) → Stands stream link log → sent (reached now log) ≡ length link.frames.items
  sent_reached link now log s = sym (count_frames (reached now log)) ∙ (ap length (frames_reached now log ∙ sym s.frames) ∙ kept_length link.frames.items)

  module _ (old new : Link W R A) (x y : List (Told A)) (now to number : ℕ) where
    receiver : to < length old.nodes.items → (log : Log) → Stands stream old log → nat_lt to (nodes (reached now log)) ≡ true
    receiver there log s = lt-ltb to (nodes (reached now log)) (let e = count_reached old now log s in omega (arith, e, there))

    -- it is carried to a node, which isn't its sender, or is
    delivery : to < length old.nodes.items → (frame : IsKept old.frames.items number) → (log d : Log) → Stands stream old log
        → MatchBool (frame.sent.sender == to) (d ≡ Refuses now Own ∷ reached now log) (AddsRows usual_limits now to (nodes.Receives frame.sent.frame.items) (Carries to now number ∷ reached now log) d)
        → Happens now (links.Delivers to number) log d
    delivery there frame log d s m =
        let kept = ap (λ l. slice_get l number) (frames_reached now log ∙ sym s.frames) ∙ kept_at old.frames.items number frame.sent frame.is in
        let n = named (reached now log) number frame.sent.sender frame.sent.frame.items kept in
        let within = slice_get_within old.frames.items number frame.sent frame.is in
        by_true (nat_lt to (nodes (reached now log))) _ _ (receiver there log s)
        (by_true (nat_lt number (sent (reached now log))) _ _ (lt-ltb number (sent (reached now log)) (let e = sent_reached old now log s in omega (arith, e, within)))
        (record { sender = frame.sent.sender; at = n.at; frame = frame.sent.frame.items; is_frame = n.is_frame; adds = m }))

    pub refused_delivery : (why : Refusal) → IsWay (length old.nodes.items) old.frames.items to number (Err why) → Leads stream old new x y (IsRefused now (refusal_of why)) → Leads stream old new x y (Happens now (links.Delivers to number))
    refused_delivery refusals.NoNode past =
        leads_to old new x y (IsRefused now NoNode) (Happens now (links.Delivers to number))
        (λ log d s is. by_false (nat_lt to (nodes (reached now log))) _ _ (le-ltb to (nodes (reached now log)) (let e = count_reached old now log s in omega (arith, e, past))) is)
    refused_delivery refusals.NoFrame past =
        let more = past.1 in
        leads_to old new x y (IsRefused now NoFrame) (Happens now (links.Delivers to number))
        (λ log d s is. by_true (nat_lt to (nodes (reached now log))) _ _ (receiver past.0 log s)
        (by_false (nat_lt number (sent (reached now log))) _ _ (le-ltb number (sent (reached now log)) (let e = sent_reached old now log s in omega (arith, e, more))) is))
    refused_delivery refusals.Own own =
        leads_to old new x y (IsRefused now Own) (Happens now (links.Delivers to number))
        (λ log d s is. delivery own.0 own.1 log d s (by_true (own.1.sent.sender == to) _ _ ((Decides-eqb own.1.sent.sender to).1 own.2) is))
    refused_delivery refusals.Full none = absurd none
    refused_delivery (refusals.TooLate last) none = absurd none

    -- over a wire that is faithful to the node what arrives is what was sent
    pub delivered : (arrives : ℕ → List ℕ → List ℕ → Type 0) (way : ℕ × ℕ) (bytes : List ℕ) → IsFaithfulTo to arrives → Goes (length old.nodes.items) old.frames.items to number way → Arrived arrives way.0 old.frames.items way.1 bytes
        → Leads stream old new x y (Arrives now way.0 (nodes.Receives bytes) (Some number)) → Leads stream old new x y (Happens now (links.Delivers to number))
    delivered arrives way bytes faithful goes arrived =
        let there = subst (λ (k : ℕ). slice_get old.frames.items k ≡ Some arrived.sent) goes.number_is arrived.is in
        let same = get_same old.frames.items number arrived.sent goes.frame.sent there goes.frame.is in
        let here = subst (λ (k : ℕ). arrives k arrived.sent.frame.items bytes) goes.place arrived.arrived in
        let bytes_are : bytes ≡ goes.frame.sent.frame.items = faithful arrived.sent.frame.items bytes here ∙ ap (λ (f : SentFrame A). f.frame.items) same in
        leads_to old new x y (Arrives now way.0 (nodes.Receives bytes) (Some number)) (Happens now (links.Delivers to number))
        (λ log d s is. delivery goes.there goes.frame log d s (by_false (goes.frame.sent.sender == to) _ _ (ne_eqb goes.frame.sent.sender to goes.other)
        (subst (λ (k : ℕ). AddsRows usual_limits now k (nodes.Receives goes.frame.sent.frame.items) (Carries k now number ∷ reached now log) d) goes.place
        (subst (λ (b : List ℕ). AddsRows usual_limits now way.0 (nodes.Receives b) (Carries way.0 now number ∷ reached now log) d) bytes_are is))))

  -- ---- the event

  pub late_leads : (old : Link W R A) (x y : List (Told A)) (now : ℕ) (event : Event) → now < old.last → TellsReports x y (reports_of (Refuses now (TooLate old.last))) → Leads stream old old x y (FollowsBy now event)
  late_leads old x y now event late t = record {
    each = λ log s.
        let is = s.last in
        let d : Log = Refuses now (TooLate (last_moment log)) ∷ log in (
          d,
          by_true (nat_lt now (last_moment log)) _ _ (lt-ltb now (last_moment log) (omega (arith, late, is))) refl,
          record { nodes = nodes_refused stream old.nodes.items log (last_moment log) (last_moment log) now (TooLate (last_moment log)) refl s.nodes; frames = s.frames; last = s.last },
          told_of_reports log d x y (reports_of (Refuses now (TooLate (last_moment log)))) (subst (λ (m : ℕ). TellsReports x y (reports_of (Refuses now (TooLate m)))) is t) refl,
        );
  }

  pub follows_leads : (old mid new : Link W R A) (x y z : List (Told A)) (now : ℕ) (event : Event) → old.last ≤ now → Leads stream old mid x y (Passes now) → Leads stream mid new y z (Happens now event)
      → Leads stream old new x z (FollowsBy now event)
  follows_leads old mid new x y z now event in_time passes happens = record {
    each = λ log s.
        let p = passes.each log s in
        let h = happens.each p.0 p.2 in
        let is = s.last in (
          h.0,
          by_false (nat_lt now (last_moment log)) _ _ (le-ltb now (last_moment log) (omega (arith, in_time, is))) (p.0, p.1, h.1),
          h.2,
          told_then log p.0 h.0 x y z p.3 h.3,
        );
  }

  -- ---- an error

  pub told_nothing : (old : Link W R A) (x y : List (Told A)) (now : ℕ) → y ≡ x → TellsOf stream old x y (Onward now)
  told_nothing old x y now same = record { each = λ log s. (log, λ e w. w, subst (Tells log log x) (sym same) (told_same log x)) }

  -- nothing is reported behind the milliseconds that passed
  pub told_so_far : (old mid : Link W R A) (x y z : List (Told A)) (now : ℕ) → Leads stream old mid x y (Onward now) → z ≡ y → TellsOf stream old x z (Onward now)
  told_so_far old mid x y z now passed same = record { each = λ log s. let m = passed.each log s in (m.0, m.1, subst (Tells log m.0 x) (sym same) m.3) }

  -- the wire failed, and the milliseconds passed
  pub passed_so_far : (old mid new : Link W R A) (x y z : List (Told A)) (now : ℕ) (r : Result ⊤ LinkFault) (e : LinkFault) → Leads stream old mid x y (Passes now) → ((log : Log) → Stands stream mid log → Stands stream new log)
      → IsErrOf r e → OnErr r (z ≡ y) → Leads stream old new x z (Passes now)
  passed_so_far old mid new x y z now r e passed stands is told = record {
    each = λ log s. let m = passed.each log s in (m.0, m.1, stands m.0 m.2, subst (Tells log m.0 x) (sym (of_err r e (z ≡ y) is told)) m.3);
  }
