-- The answer to an event that took place.
use Rattle.std.proofs.Common.{◌≡◌, ℕ, Bool, true, false, List, [], ◌∷◌, ◌++◌, Some, None, refl, sym, ◌∙◌, ap, ⊎_elim}
use Rattle.nd_addr.specs.declared.addr.Addr.{Addr}
use Rattle.nd_decode.specs.Message.{Parts}
use Rattle.nd_neighbour.specs.EntryKept.{NeighbourEntry, waiting_in}
use Rattle.nd_neighbour.specs.Sending.{Sending, Sends, Queues}
use Rattle.std.specs.List.{AllByRecursion}
use Rattle.nd_chronicle.specs.Start.{Start}
use Rattle.nd_chronicle.specs.Happening.{Chronicle, Forgotten, Happening, Loss, Lost, Passed, Refused, Refusal}
use Rattle.nd_chronicle.specs.Event.{Event, EventAdds, InPart, MessageAdds, clearing}
use Rattle.nd_chronicle.specs.Packet.{Goes, losing, then_packet}
use Rattle.nd_chronicle.specs.Refused.{GrowsUnrefused, is_refusal}
use Rattle.nd_chronicle.specs.Happening as rows
use Rattle.nd_chronicle.specs.Answer as answers
use Rattle.nd_chronicle.specs.Answer.{Done, answer_after, answer_by, answer_to_loss, is_packet}
use Rattle.nd_chronicle.proofs.Keeping.{in_part_keeps, is_plain, message_keeps}
use Rattle.nd_chronicle.proofs.Refusals.{refused_or_not}

loss_done : (why : Loss) → answer_to_loss why false ≡ Done
loss_done rows.NoRoute = refl
loss_done why = refl

plain_done : (what : Happening) → is_plain what ≡ true → answer_by what false ≡ Done
plain_done (Refused refusal) is = absurd (let never : ⊥ = cc in never)
plain_done (Lost why frame) is = loss_done why
plain_done what is = refl

-- a message that was heard
pub message_done : (start : Start) (now : ℕ) (source destination : Addr) (message : Parts) (c d : Chronicle) → answer_after c false ≡ Done
    → MessageAdds start now source destination message message.body c d → answer_after d false ≡ Done
message_done start now source destination message c d before adds =
    message_keeps start now (λ e. answer_after e false ≡ Done) (λ what e is k. plain_done what is) (λ key delay lifetimes e k. refl) (λ key lifetimes e k. refl)
    (λ from to other e none k. refl) (λ from to target other e targets k. refl) source destination message message.body refl c d adds before

-- and one that was taken in part
pub in_part_done : (start : Start) (now : ℕ) (source destination : Addr) (message : Parts) (c d : Chronicle) → answer_after c false ≡ Done
    → InPart start now source destination message c d → answer_after d false ≡ Done
in_part_done start now source destination message c d before adds =
    in_part_keeps start now (λ e. answer_after e false ≡ Done) (λ what e is k. plain_done what is) (λ key delay lifetimes e k. refl) (λ key lifetimes e k. refl)
    (λ from to other e none k. refl) (λ from to target other e targets k. refl) source destination message c d adds before

packet_done : (start : Start) (at key retrans : ℕ) (packet : List ℕ) (s : Sending) (c : Chronicle) (sends : Bool) → answer_after (then_packet start at key retrans packet s c) sends ≡ Done
packet_done start at key retrans packet (Sends mac frame) c sends = refl
packet_done start at key retrans packet (Queues true replaced) c sends = refl
packet_done start at key retrans packet (Queues false None) c sends = refl
packet_done start at key retrans packet (Queues false (Some oldest)) c sends = refl

-- a packet that went to a neighbour
pub goes_done : (start : Start) (c : Chronicle) (at key : ℕ) (packet : List ℕ) (d : Chronicle) (sends : Bool) → Goes start c at key packet d → answer_after d sends ≡ Done
goes_done start c at key packet d sends g = ap (λ (e : Chronicle). answer_after e sends) g.goes ∙ packet_done start at key _ packet _ g.placed sends

-- packets that wait no longer
pub losing_done : (at : ℕ) (why : Loss) (packets : List (List ℕ)) (c : Chronicle) → answer_after c false ≡ Done → answer_after (losing at why packets c) false ≡ Done
losing_done at why [] c before = before
losing_done at why (packet ∷ packets) c before = losing_done at why packets ((at, Lost why packet) ∷ c) (loss_done why)

-- all neighbours go
pub clearing_done : (start : Start) (at : ℕ) (entries : List NeighbourEntry) (c : Chronicle) → answer_after c false ≡ Done → answer_after (clearing start at entries c) false ≡ Done
clearing_done start at [] c before = before
clearing_done start at (n ∷ entries) c before = clearing_done start at entries _ (losing_done at Forgotten (waiting_in n.stage) _ refl)

-- ---- an answer says what was added

-- what is no refusal isn't answered as one
no_refusal : (what : Happening) (packet : Bool) (refusal : Refusal) → is_refusal what ≡ false → answer_by what packet ≡ answers.Refused refusal → ⊥
no_refusal (Refused why) packet refusal none is = let never : ⊥ = cc in never
no_refusal (Lost why frame) packet refusal none is = lost why packet is
  where
    lost : (why : Loss) (packet : Bool) → answer_to_loss why packet ≡ answers.Refused refusal → ⊥
    lost rows.NoRoute true is = let never : ⊥ = cc in never
    lost rows.NoRoute false is = let never : ⊥ = cc in never
    lost why packet is = let never : ⊥ = cc in never
no_refusal what packet refusal none is = let never : ⊥ = cc in never

unrefused : (now : ℕ) (c d : Chronicle) (packet : Bool) (refusal : Refusal) → GrowsUnrefused ((now, Passed) ∷ c) d → answer_after d packet ≡ answers.Refused refusal → ⊥
unrefused now c d packet refusal g is = by g.newer g.none (sym (ap (λ (e : Chronicle). answer_after e packet) g.all) ∙ is)
  where
    by : (newer : Chronicle) → AllByRecursion (λ row. is_refusal row.1 ≡ false) newer → answer_after (newer ++ (now, Passed) ∷ c) packet ≡ answers.Refused refusal → ⊥
    by [] none is = let never : ⊥ = cc in never
    by (row ∷ newer) none is = no_refusal row.1 packet refusal none.0 is

module _ (start : Start) (now : ℕ) (event : Event) (c d : Chronicle) (adds : EventAdds start now event ((now, Passed) ∷ c) d) where
  -- a refusal alone
  pub refusal_added : (refusal : Refusal) → answer_after d (is_packet event) ≡ answers.Refused refusal → d ≡ (now, Refused refusal) ∷ (now, Passed) ∷ c
  refusal_added refusal is = ⊎_elim
      (λ r. (let same : r.0 ≡ refusal = (let answered : answers.Refused r.0 ≡ answers.Refused refusal = sym (ap (λ (e : Chronicle). answer_after e (is_packet event)) r.1) ∙ is in cc) in
      r.1 ∙ ap (λ (why : Refusal). (now, Refused why) ∷ (now, Passed) ∷ c) same))
      (λ g. absurd (unrefused now c d (is_packet event) refusal g is))
      (refused_or_not start now event ((now, Passed) ∷ c) d adds)

  -- no refusal
  pub none_refused : answer_after d (is_packet event) ≡ Done → GrowsUnrefused ((now, Passed) ∷ c) d
  none_refused is = ⊎_elim
      (λ r. absurd (let answered : answers.Refused r.0 ≡ Done = sym (ap (λ (e : Chronicle). answer_after e (is_packet event)) r.1) ∙ is in let never : ⊥ = cc in never))
      (λ g. g)
      (refused_or_not start now event ((now, Passed) ∷ c) d adds)
