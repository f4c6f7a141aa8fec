-- What a wish for a neighbour's address does to the table that stands for the history, and what becomes of it.
use Rattle.std.proofs.Common.{◌≡◌, ℕ, Bool, true, List, Option, Some, None, refl, sym, ◌∙◌, ap, subst}
use Rattle.std.specs.Prelude.{is_some}
use Rattle.nd_neighbour.specs.AddressResolution.{Resolution, resolution_of, waiting_of}
use Rattle.nd_neighbour.specs.EntryKept.{NeighbourEntry, Stage, Resolving, Known}
use Rattle.nd_neighbour.specs.History.{Row, Story, story, Used, Wanted}
use Rattle.nd_neighbour.specs.PlaceKept.{Gives, Was, Came}
use Rattle.nd_neighbour.specs.ReachabilityConfirmation.{Evidence}
use Rattle.nd_neighbour.specs.Story.{is_present, mac_of, evidence_of, use_of}
use Rattle.nd_neighbour.specs.StoryKept.{stage_by, entry_of}
use Rattle.nd_neighbour.specs.TableKept.{entry_in, Stands, Alters}
use Rattle.nd_neighbour.specs.UnreachabilityDetection.{Use}
use Rattle.nd_neighbour.specs.Wanting.{then_wanted, wanting_by}
use Rattle.nd_neighbour.specs.WantingKept.{GainsWish, wanting_in, wanting_to, wished, wished_entry, wished_to}
use Rattle.nd_neighbour.proofs.Changes.{first_wished, when_used_by_wish, when_wished}
use Rattle.nd_neighbour.proofs.Entering.{place_made}
use Rattle.nd_neighbour.proofs.NewsCalls.{no_place_needed, place_needed}
use Rattle.nd_neighbour.proofs.PacketCalls.{begun_stands, known_key, row_stands}
use Rattle.nd_neighbour.proofs.Steps.{entry_absent, entry_present}

pub wished_key : (at retrans : ℕ) (n : NeighbourEntry) (k : Stage) → (wished_to k at retrans n).key ≡ n.key
wished_key at retrans n (Resolving r t b ws) = refl
wished_key at retrans n (Known mac c since p) = known_key mac c since p at retrans n

module _ (key now retrans room : ℕ) where
  -- of a neighbour that is there
  wished_stands : (old new : List NeighbourEntry) (history : List Row) (mac : Option ℕ) → Stands old history → mac_of (story key history) ≡ mac → Alters key (λ n. wished now retrans n) old new → is_some (entry_in key old) ≡ true → Stands new (then_wanted true mac now key retrans room history)
  wished_stands old new history None s mac_eq a some =
      row_stands key now (λ n. wished now retrans n) (λ n. wished_key now retrans n n.stage) Wanted old new history refl s a some (λ s' p e. when_wished key now s' p retrans (e ∙ mac_eq))
  wished_stands old new history (Some mac) s mac_eq a some =
      row_stands key now (λ n. wished now retrans n) (λ n. wished_key now retrans n n.stage) (Used retrans) old new history refl s a some (λ s' p e. when_used_by_wish key now s' p retrans mac (e ∙ mac_eq))

  pub takes_wish : (limit : ℕ) (old new : List NeighbourEntry) → Gives limit now key (λ n. wished now retrans n) (wished_entry key now retrans room) old new → GainsWish limit now key retrans room old new
  takes_wish limit old new (Was n found a) = record {
    stands = λ history s.
        let known = entry_present key (story key history) n (sym (s.each key) ∙ found) in
        let st = wished_stands old new history (mac_of (story key history)) s refl a (ap is_some found) in (
          history,
          no_place_needed limit now key true history known.0,
          subst (λ (b : Bool). Stands new (then_wanted b (mac_of (story key history)) now key retrans room history)) (sym known.0) st,
        );
  }
  takes_wish limit old new (Came mid none places is) = record {
    stands = λ history s.
        let gone = entry_absent key (story key history) (sym (s.each key) ∙ none) in
        let place = place_made limit now key old mid history s none places in
        let st = begun_stands key now retrans room Wanted (wished_entry key now retrans room) refl refl (λ story' absent. first_wished key now story' absent retrans room) mid new place.0 place.2 place.3 is in (
          place.0,
          place_needed limit now key history place.0 gone place.1,
          subst (λ (b : Bool). Stands new (then_wanted b (mac_of (story key history)) now key retrans room place.0)) (sym gone) st,
        );
  }

wanting_by_stage : (mac : Option ℕ) (w : Option Evidence) (u : Option Use) (r : Option Resolution) (ws : List (List ℕ)) → wanting_to (stage_by mac w u r ws) ≡ wanting_by true mac
wanting_by_stage None w u r ws = refl
wanting_by_stage (Some mac) w u r ws = refl

-- what becomes of a wish is what the history says
wanting_told : (key : ℕ) (s : Story) (o : Option NeighbourEntry) → o ≡ entry_of key s → wanting_in o ≡ wanting_by (is_present s) (mac_of s)
wanting_told key s None is = ap (λ b. wanting_by b (mac_of s)) (sym (entry_absent key s (sym is)))
wanting_told key s (Some n) is =
    let known = entry_present key s n (sym is) in
    ap (λ (m : NeighbourEntry). wanting_to m.stage) known.1
    ∙ (wanting_by_stage (mac_of s) (evidence_of s) (use_of s) (resolution_of s) (waiting_of s) ∙ ap (λ b. wanting_by b (mac_of s)) (sym known.0))

pub wanting_by_history : (key : ℕ) (old : List NeighbourEntry) (history : List Row) → Stands old history → wanting_in (entry_in key old) ≡ wanting_by (is_present (story key history)) (mac_of (story key history))
wanting_by_history key old history s = wanting_told key (story key history) (entry_in key old) (s.each key)
