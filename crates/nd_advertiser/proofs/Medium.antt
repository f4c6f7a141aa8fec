-- A configuration that breaks no rule has no preference where it is no default router.
use Rattle.std.proofs.Common.{◌≡◌, ℕ, Bool, true, false, Some, None, refl, subst, if◌then◌else◌}
use Rattle.std.specs.Prelude.{◌||◌, ◌==◌, not}
use Rattle.nd_addr.specs.declared.preference.Preference.{Preference}
use Rattle.nd_addr.specs.declared.preference.Preference.TheVariants.{High, Medium, Low}
use Rattle.nd_message.specs.WellFormed.{IsMediumAtZero}
use Rattle.nd_advertiser.specs.Config.{Settings, config_fault, is_max_interval, is_min_interval, is_mtu, is_reachable_time, is_router_lifetime, may_prefer}
use Rattle.nd_advertiser.specs.declared.config_fault.ConfigFault.{ConfigFault}
use Rattle.nd_advertiser.specs.declared.config_fault.ConfigFault.TheVariants as faults

last_rule : (a b c d e f : Bool) (u v w x y z : ConfigFault)
    → (if a then (if b then (if c then (if d then (if e then (if f then None else Some z) else Some y) else Some x) else Some w) else Some v) else Some u) ≡ None → f ≡ true
last_rule true true true true true true u v w x y z h = refl
last_rule true true true true true false u v w x y z h = cc
last_rule true true true true false f u v w x y z h = cc
last_rule true true true false e f u v w x y z h = cc
last_rule true true false d e f u v w x y z h = cc
last_rule true false c d e f u v w x y z h = cc
last_rule false b c d e f u v w x y z h = cc

at_zero : (lifetime : ℕ) (preference : Preference) → may_prefer lifetime preference ≡ true → lifetime ≡ 0 → preference ≡ Medium
at_zero lifetime Medium h zero_is = refl
at_zero lifetime High h zero_is = let no : false ≡ true = subst (λ (n : ℕ). (not (n == 0) || false) ≡ true) zero_is h in cc
at_zero lifetime Low h zero_is = let no : false ≡ true = subst (λ (n : ℕ). (not (n == 0) || false) ≡ true) zero_is h in cc

pub medium_at_zero : (s : Settings) → config_fault s ≡ None → IsMediumAtZero s.fields
medium_at_zero s right =
    at_zero s.fields.router_lifetime s.fields.preference
    (last_rule (is_max_interval s.max_interval) (is_min_interval s.min_interval s.max_interval) (is_router_lifetime s.max_interval s.fields.router_lifetime) (is_reachable_time s.fields.reachable_time) (is_mtu s.mtu) (may_prefer s.fields.router_lifetime s.fields.preference)
    faults.Max faults.Min faults.Lifetime faults.Reachable faults.Mtu faults.Preference right)
