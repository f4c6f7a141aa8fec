-- The rows of a table, written from what the node knows.
use Rattle.std.proofs.Common.{◌≡◌, ◌≤◌, ℕ, Bool, List, ◌∷◌, map, Ok, Err, refl, sym, ◌∙◌, ap, subst}
use Rattle.std.specs.Prelude.{Result, IfOk}
use Rattle.rand_core.specs.Stream.{Stream}
use Rattle.nd_addr.specs.declared.role.Role.{Role}
use Rattle.nd_addr.specs.declared.role.Role.TheVariants.{Host, Router}
use Rattle.nd_decode.specs.declared.prefix_info.PrefixInfo.{PrefixInfo}
use Rattle.nd_advertiser.specs.Advertising.{is_on}
use Rattle.nd_advertiser.specs.History as advertising
use Rattle.nd_advertiser.specs.Offers.{offers_of}
use Rattle.nd_chronicle.specs.Start.{Start}
use Rattle.nd_chronicle.specs.Happening.{Chronicle, last_moment}
use Rattle.nd_chronicle.specs.Shown.{Table, AreRows, advertise_rows, offer_row, on_text}
use Rattle.nd_out.specs.Advertised.{advertise_rows_of}
use Rattle.nd_node.specs.declared.node.Node.{Node}
use Rattle.nd_node.specs.NodeKept.{Stands}

module _ {R A V E : Type 0} (stream : R → Stream) (node : Node R A) (now : ℕ) (shown table : Table) (same : shown ≡ table) (bytes : V → List (List ℕ)) where
  -- texts that are the rows of a node's chronicle are those of the table that is shown
  pub rows_shown : (texts : List (List ℕ)) (result : Result V E) → IfOk result (λ rows. bytes rows ≡ texts)
      → ((start : Start) (c : Chronicle) → Stands stream start node c → last_moment start.at c ≤ now → AreRows start c now table texts)
      → IfOk result (λ rows. (start : Start) (c : Chronicle) → Stands stream start node c → last_moment start.at c ≤ now → AreRows start c now shown (bytes rows))
  rows_shown texts (Ok rows) is are = λ start c s le.
      subst (λ (t : Table). AreRows start c now t (bytes rows)) (sym same) (subst (λ (rs : List (List ℕ)). AreRows start c now table rs) (sym is) (are start c s le))
  rows_shown texts (Err e) is are = tt

  -- the same by a clause on rows of all moments
  pub rows_shown_always : (Given : Start → Chronicle → Type 0) (result : Result V E) → IfOk result (λ rows. (start : Start) (c : Chronicle) (now : ℕ) → Given start c → AreRows start c now table (bytes rows))
      → ((start : Start) (c : Chronicle) → Stands stream start node c → last_moment start.at c ≤ now → Given start c)
      → IfOk result (λ rows. (start : Start) (c : Chronicle) → Stands stream start node c → last_moment start.at c ≤ now → AreRows start c now shown (bytes rows))
  rows_shown_always Given (Ok rows) are given = λ start c s le. subst (λ (t : Table). AreRows start c now t (bytes rows)) (sym same) (are start c now (given start c s le))
  rows_shown_always Given (Err e) are given = tt

-- what a router advertises, by its history
pub advertised_are : (role : Role) (on : Bool) (offers : List PrefixInfo) (history : List advertising.Row) → on ≡ is_on history → offers ≡ offers_of history → advertise_rows_of role on offers ≡ advertise_rows role history
advertised_are Host on offers history is are = refl
advertised_are Router on offers history is are =
    ap (λ (b : Bool). on_text b ∷ map offer_row offers) is ∙ ap (λ (os : List PrefixInfo). on_text (is_on history) ∷ map offer_row os) are
