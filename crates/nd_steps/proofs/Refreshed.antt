-- What is remembered behind the parts of an advertisement.
use Rattle.std.proofs.Common.{◌≡◌, ℕ, Bool, true, false, List, [], refl, sym, ◌∙◌, ap, inl, inr}
use Rattle.std.specs.Prelude.{◌==◌, not, is_some, if◌then◌else◌}
use Rattle.std.proofs.lemmas.Bool.Decides.{eqb_tells}
use Rattle.nd_addr.specs.Prefix.{PrefixValue}
use Rattle.nd_addr.specs.Same.{same_prefix}
use Rattle.nd_table.specs.declared.lasting.Lasting.{Lasting}
use Rattle.nd_table.specs.Listing.{announced, end_in, open_at}
use Rattle.nd_table.specs.ListingKept.{announced_all}
use Rattle.nd_table.proofs.Behind.{open_all}
use Rattle.nd_addr.specs.declared.preference.Preference.{Preference}
use Rattle.nd_routers.specs.declared.preferred.Preferred.{Preferred}
use Rattle.nd_routers.specs.Preferences.{preference_among, with_preference}
use Rattle.nd_table.specs.Refreshing.{only_refreshes}
use Rattle.nd_routers.specs.RoutersKept as routers
use Rattle.nd_routers.specs.Routers.{same}
use Rattle.nd_routers.specs.RoutersKept.{IsSettled}
use Rattle.nd_routers.proofs.Preferring.{same_preferences}
use Rattle.nd_table.proofs.Refreshing.{announced_keys, keys_of, refreshed_keys}
use Rattle.nd_routers.proofs.Refreshing.{held_by_keys}
use Rattle.nd_routers.proofs.Settled.{open_each}
use Rattle.nd_nexthop.specs.Choice.{Stands, Table}
use Rattle.nd_nexthop.specs.History.{RedirectRow}
use Rattle.nd_nexthop.specs.Memo.{forgotten}
use Rattle.nd_steps.specs.DestinationCache.{AsListed, AsStanding, Recollects, Refreshes}

-- nothing is remembered
pub nothing : (old new : Table) (Same : Type 0) → new.memory.hops ≡ [] → new.memory.until ≡ old.memory.until → Recollects old new Same
nothing old new Same none until = record { hops = inl none; until = until }

-- it is kept or not
pub kept_or : (keep : Bool) (old new : Table) (Same : Type 0) → new ≡ (if keep then old else record old { memory = forgotten old.memory }) → (keep ≡ true → Same) → Recollects old new Same
kept_or true old new Same is same = record { hops = inr (ap (λ (t : Table). t.memory.hops) is, same refl); until = ap (λ (t : Table). t.memory.until) is }
kept_or false old new Same is same = nothing old new Same (ap (λ (t : Table). t.memory.hops) is) (ap (λ (t : Table). t.memory.until) is)

pub kept_redirects : (keep : Bool) (old new : Table) → new ≡ (if keep then old else record old { memory = forgotten old.memory }) → new.redirects ≡ old.redirects
kept_redirects true old new is = ap (λ (t : Table). t.redirects) is
kept_redirects false old new is = ap (λ (t : Table). t.redirects) is

pub kept_stand : (keep : Bool) (old new : Table) → new ≡ (if keep then old else record old { memory = forgotten old.memory }) → (history : List RedirectRow) → Stands old history → Stands new history
kept_stand keep old new is history s = record { entries_are = rw (kept_redirects keep old new is) s.entries_are }

pub kept_until : (keep : Bool) (old new : Table) → new ≡ (if keep then old else record old { memory = forgotten old.memory }) → new.memory.until ≡ old.memory.until
kept_until true old new is = ap (λ (t : Table). t.memory.until) is
kept_until false old new is = ap (λ (t : Table). t.memory.until) is

-- ---- the list of routers

pub listed : (refreshes : Bool) (now key lifetime : ℕ) (preference : Preference) (old_choice new_choice : Table) (old new : routers.Table) → (refreshes ≡ true → Refreshes now key lifetime preference old)
    → new_choice ≡ (if refreshes then old_choice else record old_choice { memory = forgotten old_choice.memory }) → IsSettled old.entries now
    → new.entries ≡ announced same now key lifetime old.entries
    → (not (lifetime == 0) ≡ true → new.preferences ≡ with_preference (is_some (end_in same key old.entries)) key preference old.preferences)
    → (not (lifetime == 0) ≡ true → new.failed ≡ old.failed) → Recollects old_choice new_choice (AsListed old_choice new_choice old new)
listed refreshes now key lifetime preference old_choice new_choice old new only choice_is settled entries preferences failed =
    kept_or refreshes old_choice new_choice (AsListed old_choice new_choice old new) choice_is (λ yes.
    let r = only yes in
    let open_is = open_all same eqb_tells old.entries now (open_each old.entries now settled) in
    let there : is_some (end_in same key old.entries) ≡ true = sym (ap (λ (l : List (Lasting ℕ)). is_some (end_in same key l)) open_is) ∙ r.listed in record {
      redirects = kept_redirects refreshes old_choice new_choice choice_is;
      keys = ap (λ (l : List (Lasting ℕ)). keys_of l) entries ∙ ((announced_keys same now key lifetime old.entries r.goes_on r.listed).0 ∙ ap (λ (l : List (Lasting ℕ)). keys_of l) open_is);
      preferences = λ k. ap (λ (ps : List Preferred). preference_among k ps) (preferences r.goes_on) ∙ same_preferences key preference (is_some (end_in same key old.entries)) old.preferences there r.preferred k;
      failed = failed r.goes_on;
    })

-- ---- the prefixes

pub linked : (refreshes : Bool) (now : ℕ) (all : List (PrefixValue × ℕ)) (old_choice new_choice : Table) (old new : List (Lasting PrefixValue)) → refreshes ≡ only_refreshes same_prefix now all old
    → new_choice ≡ (if refreshes then old_choice else record old_choice { memory = forgotten old_choice.memory }) → new ≡ announced_all same_prefix now all old → Recollects old_choice new_choice (AsStanding now old new)
linked refreshes now all old_choice new_choice old new is choice_is new_is =
    kept_or refreshes old_choice new_choice (AsStanding now old new) choice_is (λ yes address.
    held_by_keys address (open_at now new) (open_at now old) (ap (λ (l : List (Lasting PrefixValue)). keys_of (open_at now l)) new_is ∙ refreshed_keys same_prefix now all old (sym is ∙ yes)))
