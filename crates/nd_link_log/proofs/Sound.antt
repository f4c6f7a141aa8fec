-- The log of each link is sound.
use Rattle.std.proofs.Common.{◌≡◌, ℕ, Bool, true, false, List, [], ◌∷◌, Option, Some, None, refl, sym, ◌∙◌, ap, subst, arith}
use Rattle.std.specs.Prelude.{is_some, nat_lt, MatchBool}
use Rattle.std.specs.List.{AllByRecursion}
use Rattle.std.proofs.lemmas.Bool.{true≢false}
use Rattle.std.proofs.lemmas.List.Elements.{recursion_from_All}
use Rattle.nd_table.specs.History.{Past}
use Rattle.nd_table.proofs.Pasts.{past_tail, past_then}
use Rattle.nd_chronicle.specs.Start.{Limits, Start}
use Rattle.nd_chronicle.specs.Happening.{Chronicle}
use Rattle.nd_slaac.specs.History.{Lifetimes}
use Rattle.nd_slaac.specs.State as states
use Rattle.nd_chronicle.specs.OwnAddress.{story_of}
use Rattle.nd_link_log.specs.Log.{Log, TooLate, Reaches, Refuses, chronicle_of, last_moment, nodes, start_of}
use Rattle.nd_link_log.specs.Event.{Event, EventHappens, passing}
use Rattle.nd_link_log.specs.Bytes.{AreOfBytes, IsOfBytes, SendsBytes}
use Rattle.nd_link_log.specs.History.{IsLog, Runs, Walk}
use Rattle.nd_link_log.specs.Holding.{Holds}
use Rattle.nd_link_log.specs.Attempt.{formed_entry}
use Rattle.nd_link_log.specs.Sound.{IsSound, Tried}
use Rattle.nd_link_log.proofs.Carried.{bring_entry}
use Rattle.nd_link_log.proofs.Chronicles.{past_of}
use Rattle.nd_link_log.proofs.Moments.{by_then, in_order}
use Rattle.nd_link_log.proofs.Nodes.{no_rows, there_at}
use Rattle.nd_link_log.proofs.Seen.{seen}
use Rattle.nd_link_log.proofs.Tried.{formed_unknown, tried}
use Rattle.nd_link_log.proofs.Growth.{runs_past}
use Rattle.nd_link_log.proofs.Standing.{Stands, reaching, stands_seen}

module _ (Bytes : Type 0) (limits : Limits) where
  pub late : (log : Log) (now : ℕ) → Stands Bytes log → Stands Bytes (Refuses now (TooLate (last_moment log)) ∷ log)
  late log now s =
      let g = s.kept in record {
        kept = record {
          rises = record { rising = (omega arith, g.rises.rising); by = omega arith };
          numbered = g.numbered;
          there = g.there;
          bring = λ b. bring_entry (Refuses now (TooLate (last_moment log))) log refl (g.bring b);
        };
        lives = s.lives;
      }

  pub stands_follows : (log : Log) (now : ℕ) (event : Event) (d : Log) (t : Bool) → nat_lt now (last_moment log) ≡ t → (Bytes → IsOfBytes event) → (Bytes → SendsBytes d) → Stands Bytes log
      → MatchBool t (d ≡ Refuses now (TooLate (last_moment log)) ∷ log) ((e : Log) × Walk log (last_moment log) now e × EventHappens limits now event (passing now (nodes e) (Reaches now ∷ e)) d)
      → Stands Bytes d
  stands_follows log now event d true in_time bytes sends s h = subst (Stands Bytes) (sym h) (late log now s)
  stands_follows log now event d false in_time bytes sends s h =
      stands_seen Bytes now (passing now (nodes h.0) (Reaches now ∷ h.0)) (reaching Bytes log h.0 now in_time h.1 s) d sends (seen Bytes limits now _ d event bytes h.2)

  stands_runs : (events : List (ℕ × Event)) (log d : Log) → (Bytes → AllByRecursion (λ event. IsOfBytes event.1) events) → (Bytes → SendsBytes d) → Runs limits log events d
      → Stands Bytes log
      → Stands Bytes d
  stands_runs [] log d bytes sends h s = subst (Stands Bytes) (sym h) s
  stands_runs (event ∷ events) log d bytes sends h s =
      let more : Bytes → SendsBytes h.0 = λ b i at frame before p. sends b i at frame before (past_then _ h.0 d p (runs_past limits events h.0 d h.2)) in
      stands_runs events h.0 d (λ b. (bytes b).1) sends h.2 (stands_follows log event.0 event.1 h.0 (nat_lt event.0 (last_moment log)) refl (λ b. (bytes b).0) more s h.1)

  pub empty : Stands Bytes []
  empty = record {
    kept = record {
      rises = record { rising = tt; by = omega arith };
      numbered = tt;
      there = tt;
      bring = λ b i at number before p. absurd (let no : ⊥ = cc in no);
    };
    lives = λ i start e. absurd (let no : ⊥ = cc in no);
  }

module _ (limits : Limits) (events : List (ℕ × Event)) (log : Log) (runs : IsLog limits events log) where
  -- what is passed in and sent is bytes
  abbrev pub AreBytes : Type 0
  AreBytes = AreOfBytes events × SendsBytes log

  pub stands : Stands AreBytes log
  stands = stands_runs AreBytes limits events [] log (λ b. recursion_from_All _ events b.0) (λ b. b.1) runs (empty AreBytes limits)

  module _ (bytes : AreBytes) where
    -- who holds an address is there
    holder : (i key : ℕ) (d : Log) → Past d log → Holds i key d → (o : Option Start) → start_of i log ≡ o → Tried i key d
    holder i key d p holds (Some start) is = tried AreBytes bytes log i start (last_moment log) (stands.lives i start is) key d p holds
    holder i key d p holds None is =
        let none : chronicle_of i log ≡ [] = no_rows i log stands.kept.there (ap is_some is) in
        let rows : chronicle_of i d ≡ [] = subst (Past (chronicle_of i d)) none (past_of i d log p) in
        absurd (true≢false (sym holds ∙ ap (λ (c : Chronicle). states.is_assigned (story_of c key)) rows))

    -- and so is who forms one
    forming : (i key at delay retrans : ℕ) (lifetimes : Option Lifetimes) (below : Log) → Past (formed_entry i key at delay retrans lifetimes ∷ below) log → (o : Option Start) → start_of i log ≡ o
        → states.is_known (story_of (chronicle_of i below) key) ≡ false
    forming i key at delay retrans lifetimes below p (Some start) is =
        formed_unknown AreBytes log i start (last_moment log) (stands.lives i start is) key at delay retrans lifetimes below p
    forming i key at delay retrans lifetimes below p None is =
        let none : chronicle_of i log ≡ [] = no_rows i log stands.kept.there (ap is_some is) in
        let rows : chronicle_of i below ≡ [] = subst (Past (chronicle_of i below)) none (past_of i below log (past_tail _ below log p)) in
        ap (λ (c : Chronicle). states.is_known (story_of c key)) rows

    pub sound : IsSound log
    sound = record {
      in_order = in_order log stands.kept.rises.rising;
      by_then = by_then log stands.kept.rises.rising;
      there = there_at log stands.kept.there;
      brings = stands.kept.bring bytes;
      tried = λ i key d p holds. holder i key d p holds (start_of i log) refl;
      forms = λ i key at delay retrans lifetimes below p. forming i key at delay retrans lifetimes below p (start_of i log) refl;
    }
