-- What a link doesn't refuse.
use Rattle.std.proofs.Common.{◌≡◌, ℕ, ◌<◌, Bool, true, false, [], ◌∷◌, length, refl, sym, ◌∙◌, ap, arith}
use Rattle.std.specs.Prelude.{◌==◌, nat_lt, MatchBool}
use Rattle.std.proofs.lemmas.Bool.{lt-ltb, ne_eqb}
use Rattle.std.proofs.lemmas.Option.{slice_get_within}
use Rattle.std.specs.Prelude.{slice_get}
use Rattle.rand_core.specs.Stream.{Stream}
use Rattle.nd_addr.specs.declared.mac.Mac.{Mac}
use Rattle.nd_addr.specs.declared.role.Role.{Role}
use Rattle.nd_chronicle.specs.Event as events
use Rattle.nd_chronicle.specs.Happening.{Chronicle, Sent}
use Rattle.nd_link_log.specs.Event as links
use Rattle.nd_link_log.specs.Event.{AddsDelivery, AddsRows, max_nodes}
use Rattle.nd_link_log.specs.Log as logs
use Rattle.nd_link_log.specs.Log.{Log, Adds, Carries, Entry, Refuses, adding, nodes, sent}
use Rattle.nd_link_log.proofs.Frames.{one_frame}
use Rattle.nd_node.specs.Limits.{usual_limits}
use Rattle.nd_link.specs.declared.link.Link.{Link}
use Rattle.nd_link.specs.Arrival.{Happens, reached}
use Rattle.nd_link.specs.Delivery.{Goes}
use Rattle.nd_link.specs.Link.{Stands}
use Rattle.nd_link.proofs.Answering.{count_reached, sent_reached}
use Rattle.nd_link.proofs.Passage.{frames_reached}
use Rattle.nd_link.proofs.Sending.{kept_at, named}

-- the newest entry is a refusal
abbrev is_refused : Log → Bool
is_refused [] = false
is_refused (Refuses at why ∷ log) = true
is_refused (_ ∷ log) = false

longer : (entry : Entry) (log : Log) → entry ∷ log ≡ log → ⊥
longer entry log e = let l = ap length e in omega (arith, l)

not_refused : (at : ℕ) (why : logs.Refusal) (log d : Log) → is_refused d ≡ false → Refuses at why ∷ log ≡ d → ⊥
not_refused at why log d other e = let never : true ≡ false = ap is_refused e ∙ other in let absurdity : ⊥ = cc in absurdity

by_it : (b : Bool) (X Y : Type 0) → b ≡ true → MatchBool b X Y → X
by_it true X Y e h = h
by_it false X Y e h = let never : ⊥ = cc in absurd never

by_other : (b : Bool) (X Y : Type 0) → b ≡ false → MatchBool b X Y → Y
by_other true X Y e h = let never : ⊥ = cc in absurd never
by_other false X Y e h = h

module _ (now : ℕ) (why : logs.Refusal) (node : ℕ) (event : events.Event) (log : Log) where
  rows_left : (rows : Chronicle) → Refuses now why ∷ log ≡ adding node rows log → ⊥
  rows_left [] e = longer (Refuses now why) log e
  rows_left (row ∷ rows) e = not_refused now why log (adding node (row ∷ rows) log) refl e

  carried_left : (number : ℕ) (rows : Chronicle) → Refuses now why ∷ log ≡ adding node rows (Carries node now number ∷ log) → ⊥
  carried_left number [] e = not_refused now why log (Carries node now number ∷ log) refl e
  carried_left number (row ∷ rows) e = not_refused now why log (adding node (row ∷ rows) (Carries node now number ∷ log)) refl e

module _ {W R A : Type 0} (stream : R → Stream) (link : Link W R A) (now : ℕ) (why : logs.Refusal) (log : Log) (s : Stands stream link log) where
  -- a node starts where there is room for it
  pub start_left : (role : Role) (mac : Mac) (transmits : ℕ) (words : Stream) → length link.nodes.items < max_nodes → Happens now (links.Starts role mac transmits words) log (Refuses now why ∷ reached now log) → ⊥
  start_left role mac transmits words few h =
      let place = lt-ltb (nodes (reached now log)) max_nodes (let e = count_reached stream link now log s in omega (arith, e, few)) in
      not_refused now why (reached now log) _ refl (by_it (nat_lt (nodes (reached now log)) max_nodes) _ _ place h)

  there : (to : ℕ) → to < length link.nodes.items → nat_lt to (nodes (reached now log)) ≡ true
  there to within = lt-ltb to (nodes (reached now log)) (let e = count_reached stream link now log s in omega (arith, e, within))

  -- an event comes to a node that is there
  pub come_left : (to : ℕ) (event : events.Event) → to < length link.nodes.items → Happens now (links.Comes to event) log (Refuses now why ∷ reached now log) → ⊥
  come_left to event within h =
      let adds : AddsRows usual_limits now to event (reached now log) (Refuses now why ∷ reached now log) = by_it (nat_lt to (nodes (reached now log))) _ _ (there to within) h in
      rows_left now why to event (reached now log) adds.rows adds.all

  -- a frame is carried to a node that isn't its sender, where both are there
  pub deliver_left : (to number : ℕ) (way : ℕ × ℕ) → Goes (length link.nodes.items) link.frames.items to number way → Happens now (links.Delivers to number) log (Refuses now why ∷ reached now log) → ⊥
  deliver_left to number way goes h =
      let base : Log = reached now log in
      let within = slice_get_within link.frames.items number goes.frame.sent goes.frame.is in
      let kept = ap (λ l. slice_get l number) (frames_reached now log ∙ sym s.frames) ∙ kept_at link.frames.items number goes.frame.sent goes.frame.is in
      let n = named base number goes.frame.sent.sender goes.frame.sent.frame.items kept in
      let sent_there = lt-ltb number (sent base) (let e = sent_reached stream link now log s in omega (arith, e, within)) in
      let adds : AddsDelivery usual_limits now to number base (Refuses now why ∷ base) =
      by_it (nat_lt number (sent base)) _ _ sent_there (by_it (nat_lt to (nodes base)) _ _ (there to goes.there) h) in
      let same : Adds adds.sender adds.at (Sent adds.frame) ∷ adds.is_frame.before ≡ Adds goes.frame.sent.sender n.at (Sent goes.frame.sent.frame.items) ∷ n.is_frame.before =
      one_frame adds.sender goes.frame.sent.sender adds.at n.at adds.frame goes.frame.sent.frame.items adds.is_frame.before n.is_frame.before base adds.is_frame.there n.is_frame.there (adds.is_frame.number_is ∙ sym n.is_frame.number_is) in
      let sender_is : adds.sender ≡ goes.frame.sent.sender = cc in
      let other : (adds.sender == to) ≡ false = ne_eqb adds.sender to (λ e. goes.other (sym sender_is ∙ e)) in
      let rows : AddsRows usual_limits now to (events.Receives adds.frame) (Carries to now number ∷ base) (Refuses now why ∷ base) = by_other (adds.sender == to) _ _ other adds.adds in
      carried_left now why to (events.Receives adds.frame) base number rows.rows rows.all
