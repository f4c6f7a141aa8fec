-- What each frame that was carried has brought.
use Rattle.std.proofs.Common.{◌≡◌, ◌⊎◌, inl, inr, ℕ, Bool, true, false, List, [], ◌∷◌, ◌++◌, refl, sym, ◌∙◌, ap, subst, ⊎_elim}
use Rattle.std.proofs.lemmas.Bool.{true≢false, or_right, or_left}
use Rattle.std.proofs.lemmas.List.{append_assoc, append_cancel_right}
use Rattle.nd_addr.specs.Bytes.{IsBytes}
use Rattle.nd_addr.specs.Number.{number_of}
use Rattle.nd_addr.specs.declared.addr.Addr.{Addr}
use Rattle.nd_table.specs.History.{Past}
use Rattle.nd_table.proofs.Pasts.{past_self, past_then}
use Rattle.nd_compose.specs.Frames.{all_nodes, defence_frame, solicited_node, unspecified}
use Rattle.nd_compose.specs.Meaning.{IsDefence, IsDetection}
use Rattle.nd_compose.proofs.Meant.{defence_sent}
use Rattle.nd_slaac.specs.History.{Conflict}
use Rattle.nd_slaac.specs.State as states
use Rattle.nd_chronicle.specs.Start.{Start}
use Rattle.nd_chronicle.specs.Happening.{Address, Chronicle, Happening, Heard, Sent}
use Rattle.nd_chronicle.specs.NeighborSolicitation.{is_router}
use Rattle.nd_chronicle.specs.OwnAddress.{is_assigned, is_own, is_tentative, story_of}
use Rattle.nd_chronicle.specs.Event.{FrameAdds}
use Rattle.nd_link_log.specs.Log.{Entry, Log, Adds, Carries, IsFrame, adding, chronicle_of}
use Rattle.nd_link_log.specs.Holding.{Holds, IsTrying}
use Rattle.nd_link_log.specs.Attempt.{Claims, Tries}
use Rattle.nd_link_log.specs.Sound.{Answers, Brings, Gains}
use Rattle.nd_link_log.proofs.Chronicles.{past_with}
use Rattle.nd_link_log.proofs.Lives.{Lives}
use Rattle.nd_link_log.proofs.Rivals.{claims_address, defends, gives_way, tries_address, yields}

-- ---- one frame

module _ (node now number : ℕ) (before : Log) (rows : Chronicle) where
  abbrev carrying : Log
  carrying = Carries node now number ∷ before

  abbrev after : Log
  after = adding node rows carrying

  in_newer : (what : Happening) (newer more : Chronicle) → Past (Adds node now what ∷ adding node more carrying) (adding node (newer ++ ((now, what) ∷ more)) carrying)
  in_newer what [] more = inl refl
  in_newer what (row ∷ newer) more = inr (in_newer what newer more)

  -- a row above the chronicle of the node is one of the event
  all_rows : (what : Happening) (newer more : Chronicle) → rows ++ chronicle_of node before ≡ newer ++ ((now, what) ∷ (more ++ chronicle_of node before))
      → Past (Adds node now what ∷ adding node more carrying) after
  all_rows what newer more e =
      let all : rows ≡ newer ++ ((now, what) ∷ more) =
      append_cancel_right rows (newer ++ ((now, what) ∷ more)) (chronicle_of node before) (e ∙ sym (append_assoc newer ((now, what) ∷ more) (chronicle_of node before))) in
      subst (λ (r : Chronicle). Past (Adds node now what ∷ adding node more carrying) (adding node r carrying)) (sym all) (in_newer what newer more)

  gives : (answer : List ℕ) (newer more : Chronicle) → rows ++ chronicle_of node before ≡ newer ++ ((now, Sent answer) ∷ (more ++ chronicle_of node before))
      → Answers after before node now number answer
  gives answer newer more e = record { rows = more; sends = all_rows (Sent answer) newer more e }

  -- and so it is gained
  gains : (what : Happening) (newer more : Chronicle) → rows ++ chronicle_of node before ≡ newer ++ ((now, what) ∷ (more ++ chronicle_of node before)) → Gains after before node now what
  gains what newer more e = record {
    below = adding node more carrying;
    gained = all_rows what newer more e;
    above = past_then before carrying (adding node more carrying) (inr (past_self before)) (past_with node more carrying);
  }

  module _ (Bytes : Type 0) (b : Bytes) (start : Start) (l : Lives Bytes start (chronicle_of node before) now) (frame : List ℕ) (bytes : IsBytes frame)
      (adds : FrameAdds start now frame (chronicle_of node before) (rows ++ chronicle_of node before)) where
    abbrev c : Chronicle
    c = chronicle_of node before

    answers : (key : ℕ) → Tries key frame → Holds node key before → (answer : List ℕ) × Claims key answer × Answers after before node now number answer
    answers key tries holds =
        let address : Addr = tries.0 in
        let t : IsDetection frame address = tries.2 in
        let whole = tries_address frame address bytes t in
        let assigned : is_assigned c address.0 ≡ true = subst (λ (n : ℕ). states.is_assigned (story_of c n) ≡ true) (sym tries.1) holds in
        let own : is_own c address.0 ≡ true = or_right (is_tentative c address.0) (is_assigned c address.0) assigned in
        let answer : List ℕ = defence_frame (is_router start.role) start.mac address in (
          answer,
          (address, tries.1, defence_sent start.mac (l.mac b) (is_router start.role) address whole),
          gives answer [] ((now, Heard unspecified (solicited_node address) t.message) ∷ []) (defends Bytes b start c now l address whole own frame (rows ++ c) adds t assigned),
        )

    clashes : (key : ℕ) → Tries key frame ⊎ Claims key frame → IsTrying node key before → Gains after before node now (Address key Conflict)
    clashes key (inl tries) trying =
        let address : Addr = tries.0 in
        let t : IsDetection frame address = tries.2 in
        let whole = tries_address frame address bytes t in
        let tentative : is_tentative c address.0 ≡ true = subst (λ (n : ℕ). states.is_tentative (story_of c n) ≡ true) (sym tries.1) trying in
        let own : is_own c address.0 ≡ true = or_left (is_tentative c address.0) (is_assigned c address.0) tentative in
        subst (λ (n : ℕ). Gains after before node now (Address n Conflict)) tries.1
        (gains (Address (number_of address.0) Conflict) [] ((now, Heard unspecified (solicited_node address) t.message) ∷ []) (gives_way Bytes b start c now l address whole own frame (rows ++ c) adds t tentative))
    clashes key (inr claims) trying =
        let address : Addr = claims.0 in
        let t : IsDefence frame address = claims.2 in
        let whole = claims_address frame address bytes t in
        let tentative : is_tentative c address.0 ≡ true = subst (λ (n : ℕ). states.is_tentative (story_of c n) ≡ true) (sym claims.1) trying in
        let own : is_own c address.0 ≡ true = or_left (is_tentative c address.0) (is_assigned c address.0) tentative in
        let y = yields Bytes b start c now l address whole own frame (rows ++ c) adds t tentative in
        subst (λ (n : ℕ). Gains after before node now (Address n Conflict)) claims.1
        (gains (Address (number_of address.0) Conflict) y.0 ((now, Heard address all_nodes t.message) ∷ []) y.1)

    pub brings : (sender at : ℕ) → IsFrame before number sender at frame → Brings after node now number before
    brings sender at f = record { sender = sender; sent_at = at; frame = frame; is_frame = f; answers = answers; clashes = clashes }

-- ---- all that were carried

abbrev pub AllBring : Log → Type 0
AllBring log = (node at number : ℕ) (before : Log) → Past (Carries node at number ∷ before) log → Brings log node at number before

answers_later : {log d before : Log} {node at number : ℕ} {answer : List ℕ} → Past log d → Answers log before node at number answer → Answers d before node at number answer
answers_later {log = log} {d = d} p a = record { rows = a.rows; sends = past_then _ log d a.sends p }

gains_later : {log d before : Log} {node at : ℕ} {what : Happening} → Past log d → Gains log before node at what → Gains d before node at what
gains_later {log = log} {d = d} p g = record { below = g.below; gained = past_then _ log d g.gained p; above = g.above }

brings_later : {log d : Log} {node at number : ℕ} {before : Log} → Past log d → Brings log node at number before → Brings d node at number before
brings_later p b = record {
  sender = b.sender;
  sent_at = b.sent_at;
  frame = b.frame;
  is_frame = b.is_frame;
  answers = λ key tries holds. let a = b.answers key tries holds in (a.0, a.1, answers_later p a.2);
  clashes = λ key says trying. gains_later p (b.clashes key says trying);
}

abbrev carries : Entry → Bool
carries (Carries node at number) = true
carries _ = false

-- rows are no frames that are carried
carried_below : (node : ℕ) (rows : Chronicle) (log : Log) (i at number : ℕ) (before : Log) → Past (Carries i at number ∷ before) (adding node rows log)
    → Past (Carries i at number ∷ before) log
carried_below node [] log i at number before p = p
carried_below node (row ∷ rows) log i at number before p = ⊎_elim
    (λ same. absurd (let e : Carries i at number ≡ Adds node row.0 row.1 = cc in true≢false (ap carries e)))
    (λ below. carried_below node rows log i at number before below) p

pub bring_with : (node : ℕ) (rows : Chronicle) (log : Log) → AllBring log → AllBring (adding node rows log)
bring_with node rows log all i at number before p = brings_later (past_with node rows log) (all i at number before (carried_below node rows log i at number before p))

-- and so are entries of the link
pub bring_entry : (entry : Entry) (log : Log) → carries entry ≡ false → AllBring log → AllBring (entry ∷ log)
bring_entry entry log none all i at number before p = ⊎_elim
    (λ same. absurd (let e : Carries i at number ≡ entry = cc in true≢false (ap carries e ∙ none)))
    (λ below. brings_later (inr (past_self log)) (all i at number before below)) p

abbrev BringsFirst : Log → Log → Type 0
BringsFirst d (Carries node at number ∷ before) = Brings d node at number before
BringsFirst d _ = Unit {0}

pub bring_carried : (node at number : ℕ) (rows : Chronicle) (log : Log) → AllBring log → Brings (adding node rows (Carries node at number ∷ log)) node at number log
    → AllBring (adding node rows (Carries node at number ∷ log))
bring_carried node at number rows log all brought i when other before p = ⊎_elim
    (λ same. subst (BringsFirst (adding node rows (Carries node at number ∷ log))) (sym same) brought)
    (λ below. brings_later (past_then log (Carries node at number ∷ log) _ (inr (past_self log)) (past_with node rows (Carries node at number ∷ log))) (all i when other before below))
    (carried_below node rows (Carries node at number ∷ log) i when other before p)
