-- What is advertised, as it is kept and as it happened.
use Rattle.std.proofs.Common.{◌≡◌, ℕ, Bool, true, false, List, Some, None, refl, ◌∙◌, ap, arith}
use Rattle.std.proofs.lemmas.Bool.Decides.{nat_tests}
use Rattle.std.specs.Prelude.{◌==◌, ◌&&◌, if◌then◌else◌, is_none, min, not, option_map}
use Rattle.nd_addr.specs.declared.mac.Mac.{Mac}
use Rattle.nd_advertiser.specs.History.{Row}
use Rattle.nd_advertiser.specs.Advertising.{advertised_by, answer_of, began_of, is_on, max_initial_rtr_advertisements, planned_of, sent_of, settings_of, wants_draw_of}
use Rattle.nd_advertiser.specs.Offers.{offers_of}
use Rattle.nd_advertiser.specs.Calls.{settings_in, wants_draw}
use Rattle.nd_advertiser.specs.Table.{Table, Advertising, Stands}
use Rattle.nd_advertiser.specs.Contents.{contents, contents_of}

settings_kept : (b : Bool) (a : Advertising) → settings_in (if b then Some a else None) ≡ (if b then a.settings else None)
settings_kept true a = refl
settings_kept false a = refl

pub settings_are : (table : Table) (history : List Row) → Stands table history → settings_in table.advertising ≡ advertised_by history
settings_are table history s = ap settings_in s.advertising ∙ settings_kept (is_on history) _

pub contents_are : (mac : Mac) (table : Table) (history : List Row) → Stands table history → option_map (contents mac table.offers) (settings_in table.advertising) ≡ contents_of mac history
contents_are mac table history s = ap (λ os. option_map (contents mac os) (settings_in table.advertising)) s.offers ∙ ap (option_map (contents mac (offers_of history))) (settings_are table history s)

few_sent : (n : ℕ) → (min max_initial_rtr_advertisements n == 0) ≡ (n == 0)
few_sent n = grind (arith, nat_tests)

pub draw_wanted : (table : Table) (history : List Row) → Stands table history → wants_draw table.advertising ≡ wants_draw_of history
draw_wanted table history s = ap wants_draw s.advertising ∙ by (is_on history)
  where
    by : (on : Bool) → wants_draw (if on then Some (record {
      began = began_of history;
      settings = settings_of history;
      sent = min max_initial_rtr_advertisements (sent_of history);
      planned = planned_of history;
      answer = answer_of history;
    }) else None) ≡ (on && not (sent_of history == 0) && is_none (answer_of history))
    by true = ap (λ (b : Bool). not b && is_none (answer_of history)) (few_sent (sent_of history))
    by false = refl
