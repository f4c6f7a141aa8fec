-- The settings of a chronicle, and the time that they leave between two Router Advertisements.
use Rattle.std.proofs.Common.{◌≡◌, ℕ, ◌+◌, ◌<◌, Bool, true, false, cond, eqb, List, [], ◌∷◌, Option, Some, None, refl, sym, ◌∙◌, subst, arith}
use Rattle.std.proofs.lemmas.Bool.Decides.{nat_tests}
use Rattle.std.proofs.lemmas.Bool.{cond_both, cond-true, true≢false}
use Rattle.std.proofs.lemmas.Option.{same_Some}
use Rattle.rand_core.specs.Stream.{Stream}
use Rattle.nd_advertiser.specs.History as advertising
use Rattle.nd_advertiser.specs.Advertising.{is_on, settings_of, advertised_by, sent_of, next_of, interval_after}
use Rattle.nd_advertiser.specs.Config.{Settings, is_max_interval, is_min_interval, config_fault}
use Rattle.nd_advertiser.specs.declared.config_fault.ConfigFault.{ConfigFault}
use Rattle.nd_advertiser.proofs.Dates.{interval_stays}
use Rattle.nd_slaac.specs.History as addresses
use Rattle.nd_chronicle.specs.Start.{Start, is_host, link_local_key}
use Rattle.nd_chronicle.specs.Happening.{Chronicle, Passed, Drew, Heard, Dropped, Up, Neighbour, Address, LeftRouter, Unlisted, ClearedPrefixes, ClearedRedirects, ClearedDns, SolicitedRouters, Configured, Offered, Ceased, Advertised, Planned, RoutePut, RedirectMade, Sent, Lost, Path, Resolved, Refused, Ignored, Shown, TooLate}
use Rattle.nd_chronicle.specs.Histories.{advertising_history, then_assigned}
use Rattle.nd_chronicle.specs.Generator.{stream_left, interval_drawn}
use Rattle.nd_chronicle.specs.Advertising.{advertising_by, then_advertising}
use Rattle.nd_chronicle.specs.Due.{router_advertisement_date}
use Rattle.nd_existence.specs.Intervals.{AreTimed}

-- of a list that may have a row of an assignment on top
assigned_settings : (own at key : ℕ) (kind : addresses.RowKind) (h : List advertising.Row) → settings_of (then_assigned own at key kind h) ≡ settings_of h
assigned_settings own at key addresses.Assigned h = cond_both (eqb key own) (advertising.Assigned at ∷ h) h (λ rows. settings_of rows ≡ settings_of h) (λ _. refl) (λ _. refl)
assigned_settings own at key (addresses.Formed delay retrans lifetimes) h = refl
assigned_settings own at key (addresses.SetByHand lifetimes) h = refl
assigned_settings own at key (addresses.Announced lifetimes) h = refl
assigned_settings own at key addresses.Solicited h = refl
assigned_settings own at key addresses.Conflict h = refl
assigned_settings own at key addresses.Ended h = refl

-- the settings in force leave some time between two advertisements
pub timed : (start : Start) (c : Chronicle) (s : Settings) → AreTimed c → settings_of (advertising_history start c) ≡ Some s → 0 < s.min_interval
timed start [] s t is = absurd (let no : ⊥ = cc in no)
timed start ((at, Configured settings) ∷ c) s t is = subst (λ (x : Settings). 0 < x.min_interval) (same_Some settings s is) t.0
timed start ((at, Address key kind) ∷ c) s t is = timed start c s t (sym (assigned_settings (link_local_key start) at key kind (advertising_history start c)) ∙ is)
timed start ((at, Passed) ∷ c) s t is = timed start c s t is
timed start ((at, Drew what value) ∷ c) s t is = timed start c s t is
timed start ((at, Heard source destination message) ∷ c) s t is = timed start c s t is
timed start ((at, Dropped why) ∷ c) s t is = timed start c s t is
timed start ((at, Up packet) ∷ c) s t is = timed start c s t is
timed start ((at, Neighbour key kind) ∷ c) s t is = timed start c s t is
timed start ((at, LeftRouter key) ∷ c) s t is = timed start c s t is
timed start ((at, Unlisted key) ∷ c) s t is = timed start c s t is
timed start ((at, ClearedPrefixes) ∷ c) s t is = timed start c s t is
timed start ((at, ClearedRedirects) ∷ c) s t is = timed start c s t is
timed start ((at, ClearedDns) ∷ c) s t is = timed start c s t is
timed start ((at, SolicitedRouters) ∷ c) s t is = timed start c s t is
timed start ((at, Offered info) ∷ c) s t is = timed start c s t is
timed start ((at, Ceased) ∷ c) s t is = timed start c s t is
timed start ((at, Advertised interval) ∷ c) s t is = timed start c s t is
timed start ((at, Planned delay) ∷ c) s t is = timed start c s t is
timed start ((at, RoutePut prefix route) ∷ c) s t is = timed start c s t is
timed start ((at, RedirectMade) ∷ c) s t is = timed start c s t is
timed start ((at, Sent frame) ∷ c) s t is = timed start c s t is
timed start ((at, Lost why packet) ∷ c) s t is = timed start c s t is
timed start ((at, Path destination way) ∷ c) s t is = timed start c s t is
timed start ((at, Resolved neighbour mac) ∷ c) s t is = timed start c s t is
timed start ((at, Refused refusal) ∷ c) s t is = timed start c s t is
timed start ((at, Ignored limit) ∷ c) s t is = timed start c s t is
timed start ((at, Shown rows) ∷ c) s t is = timed start c s t is
timed start ((at, TooLate last) ∷ c) s t is = timed start c s t is

-- an advertising interface has settings
on_settings : (h : List advertising.Row) → is_on h ≡ true → (s : Settings) × (settings_of h ≡ Some s)
on_settings [] on = absurd (true≢false (sym on))
on_settings (advertising.Advertises at settings ∷ h) on = (settings, refl)
on_settings (advertising.Ceased at ∷ h) on = absurd (true≢false (sym on))
on_settings (advertising.Assigned at ∷ h) on = on_settings h on
on_settings (advertising.Solicited at delay ∷ h) on = on_settings h on
on_settings (advertising.Sent at interval ∷ h) on = on_settings h on
on_settings (advertising.Offered info ∷ h) on = on_settings h on

-- where an advertisement has a date the interface advertises
pub dated_on : (h : List advertising.Row) (m : ℕ) → next_of h ≡ Some m → is_on h ≡ true
dated_on h m is = cond_both (is_on h) _ None (λ (o : Option ℕ). o ≡ Some m → is_on h ≡ true) (λ on _. on) (λ off none. absurd (let no : ⊥ = cc in no)) is

drawn_above : (s : Settings) (stream : Stream) → 0 < s.min_interval → 0 < interval_drawn s stream
drawn_above s stream some = omega (arith, some)

later_is : (a m : ℕ) → m < a → Some a ≡ Some m → ⊥
later_is a m lt e = let same : a ≡ m = cc in absurd (omega (arith, lt, same))

-- behind one that was sent, the next one comes later
next_later : (h : List advertising.Row) (m interval : ℕ) → is_on h ≡ true → 0 < interval → next_of (advertising.Sent m interval ∷ h) ≡ Some m → ⊥
next_later h m interval on some is =
    let date : next_of (advertising.Sent m interval ∷ h) ≡ Some (m + interval_after (sent_of h) interval) = rw on refl in
    later_is (m + interval_after (sent_of h) interval) m (let lt = interval_stays (sent_of h) interval some in omega (arith, lt)) (sym date ∙ is)

pub of_router : (host : Bool) (next : Option ℕ) (m : ℕ) → cond host None next ≡ Some m → next ≡ Some m
of_router true next m is = absurd (let no : ⊥ = cc in no)
of_router false next m is = is

-- behind an advertisement that is due the next one comes later
pub once : (start : Start) (m : ℕ) (c : Chronicle) → AreTimed c → router_advertisement_date start c ≡ Some m → router_advertisement_date start (then_advertising start m c) ≡ Some m → ⊥
once start m c t date again =
    let h = advertising_history start c in
    let on : is_on h ≡ true = dated_on h m (of_router (is_host start.role) (next_of h) m date) in
    let s = on_settings h on in
    let by : advertised_by h ≡ Some s.0 = cond-true (is_on h) (settings_of h) None on ∙ s.1 in
    let sent = subst (λ (o : Option Settings). router_advertisement_date start (advertising_by start m o c) ≡ Some m) by again in
    next_later h m (interval_drawn s.0 (stream_left start c)) on (drawn_above s.0 (stream_left start c) (timed start c s.0 t s.1))
    (of_router (is_host start.role) (next_of (advertising.Sent m (interval_drawn s.0 (stream_left start c)) ∷ h)) m sent)

-- settings without a fault have an interval above 0
by_least : (a b : Bool) (rest : Option ConfigFault) (x y : ConfigFault) → cond a (cond b rest (Some x)) (Some y) ≡ None → b ≡ true
by_least true true rest x y none = refl
by_least true false rest x y none = absurd (let never : ⊥ = cc in never)
by_least false b rest x y none = absurd (let never : ⊥ = cc in never)

pub faultless : (s : Settings) → config_fault s ≡ None → 0 < s.min_interval
faultless s none =
    let least : is_min_interval s.min_interval s.max_interval ≡ true = by_least (is_max_interval s.max_interval) (is_min_interval s.min_interval s.max_interval) _ _ _ none in
    grind (arith, nat_tests, least)
