-- The nodes of a link send bytes, so that no address is held twice where its log is timely.
use Rattle.std.proofs.Common.{ℕ, List, [], ◌∷◌, ◌++◌, sym, subst, ⊎_elim}
use Rattle.std.specs.List.{AllByRecursion}
use Rattle.std.proofs.lemmas.List.Elements.{All-append}
use Rattle.rand_core.specs.Stream.{Stream}
use Rattle.nd_addr.specs.Bytes.{IsBytes}
use Rattle.nd_steps.specs.Outputs.{frame_sent}
use Rattle.nd_chronicle.specs.Happening.{Sent}
use Rattle.nd_node.specs.Limits.{usual_limits}
use Rattle.nd_link_log.specs.Log.{Log, Begins, Adds, Carries, Reaches, Refuses}
use Rattle.nd_link_log.specs.Event.{Event}
use Rattle.nd_link_log.specs.Bytes.{AreOfBytes, IsOfBytes, SendsBytes}
use Rattle.nd_link_log.specs.Sound.{IsSound}
use Rattle.nd_link_log.proofs.Holding.{one_holder}
use Rattle.nd_link_log.proofs.Sound.{sound}
use Rattle.nd_link_log.proofs.Timely.{one_holder as timely_holder}
use Rattle.nd_link.specs.declared.sent_frame.SentFrame.{SentFrame}
use Rattle.nd_link.specs.declared.link.Link.{Link}
use Rattle.nd_link.specs.declared.told.Told.{Told}
use Rattle.nd_link.specs.Frames.{frames, kept_frames, of_sender}
use Rattle.nd_link.specs.Holder.{KeepsOneHolder, KeepsOneHolderWithLosses, StandsForEvents}
use Rattle.nd_link.specs.Link.{Stands}
use Rattle.nd_link.specs.Run.{RunsBy}
use Rattle.nd_link.specs.Time.{Leads}
use Rattle.nd_link.proofs.Coming.{runs_then}

abbrev AreOfFrames : List (ℕ × List ℕ) → Type 0
AreOfFrames sent = AllByRecursion (λ s. IsBytes s.1) sent

front : (xs ys : List (ℕ × List ℕ)) → AreOfFrames (xs ++ ys) → AreOfFrames xs
front [] ys all = tt
front (x ∷ xs) ys all = (all.0, front xs ys all.1)

back : (xs ys : List (ℕ × List ℕ)) → AreOfFrames (xs ++ ys) → AreOfFrames ys
back [] ys all = all
back (x ∷ xs) ys all = back xs ys all.1

-- each frame that is kept is bytes, as its type says
kept_bytes : {A : Type 0} (kept : List (SentFrame A)) → AreOfFrames (kept_frames kept)
kept_bytes [] = tt
kept_bytes (k ∷ kept) = (k.bytes, kept_bytes kept)

-- and so is each that was sent
sent_bytes : (log : Log) → AreOfFrames (frames log) → SendsBytes log
sent_bytes [] all node at frame before p = absurd (let no : ⊥ = cc in no)
sent_bytes (Adds i when what ∷ log) all node at frame before p = ⊎_elim
    (λ same.
    let last = subst (λ (d : Log). AreOfFrames (frames d)) (sym same) all in
    (back (frames before) (of_sender node (frame_sent (Sent frame))) last).0)
    (λ below. sent_bytes log (front (frames log) (of_sender i (frame_sent what)) all) node at frame before below) p
sent_bytes (Begins i start ∷ log) all node at frame before p = ⊎_elim (λ same. absurd (let no : ⊥ = cc in no)) (λ below. sent_bytes log all node at frame before below) p
sent_bytes (Carries i when number ∷ log) all node at frame before p = ⊎_elim (λ same. absurd (let no : ⊥ = cc in no)) (λ below. sent_bytes log all node at frame before below) p
sent_bytes (Reaches when ∷ log) all node at frame before p = ⊎_elim (λ same. absurd (let no : ⊥ = cc in no)) (λ below. sent_bytes log all node at frame before below) p
sent_bytes (Refuses when why ∷ log) all node at frame before p = ⊎_elim (λ same. absurd (let no : ⊥ = cc in no)) (λ below. sent_bytes log all node at frame before below) p

module _ {W R A : Type 0} (stream : R → Stream) where
  pub stands_for_bytes : (link : Link W R A) (log : Log) → Stands stream link log → SendsBytes log
  stands_for_bytes link log s = sent_bytes log (subst AreOfFrames s.frames (kept_bytes link.frames.items))

  -- the log of all events that came, which is sound
  module _ (old new : Link W R A) (x y : List (Told A)) (events : List (ℕ × Event)) (bytes : AreOfBytes events) (leads : Leads stream old new x y (RunsBy events)) where
    log_of : (before : List (ℕ × Event)) (log : Log) → StandsForEvents stream old before log → (d : Log) × StandsForEvents stream new (before ++ events) d × IsSound d
    log_of before log s =
        let l = leads.each log s.stands in
        let d : Log = l.0 in
        let whole = before ++ events in
        let all : AreOfBytes whole = All-append (λ (v : ℕ × Event). IsOfBytes v.1) before events s.bytes bytes in
        let runs = runs_then before events [] log d s.runs l.1 in
        (d, record { bytes = all; runs = runs; stands = l.2 }, sound usual_limits whole d runs (all, stands_for_bytes new d l.2))

    pub keeps_one_holder : KeepsOneHolder stream old new events
    keeps_one_holder = record {
      each = λ before log s. let l = log_of before log s in (l.0, l.1, λ within timely. timely_holder l.0 l.2 within timely);
    }

    pub keeps_one_holder_with_losses : KeepsOneHolderWithLosses stream old new events
    keeps_one_holder_with_losses = record {
      each = λ before log s. let l = log_of before log s in (l.0, l.1, λ within little. one_holder l.0 l.2 within little);
    }
