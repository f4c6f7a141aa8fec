-- Values that break no rule.
use Rattle.std.proofs.Common.{◌≡◌, ◌<◌, ◌^◌, ℕ, Bool, true, false, Some, None, refl, if◌then◌else◌, arith}
use Rattle.std.specs.Prelude.{Option, IfSome}
use Rattle.std.specs.Result.{result_ok}
use Rattle.std.proofs.lemmas.Bool.Decides.{nat_tests}
use Rattle.nd_advertiser.specs.Config.{Settings, config_fault, is_router_lifetime, unless}
use Rattle.nd_advertiser.specs.declared.config_fault.ConfigFault.{ConfigFault}

pub made : {X : Type 0} (fault : Option ConfigFault) (x : X) → fault ≡ None → result_ok (unless fault x) ≡ Some x
made None x none = refl
made (Some why) x none = cc

pub if_made : {X : Type 0} (fault : Option ConfigFault) (x : X) (P : X → Type 0) → (fault ≡ None → P x) → IfSome (result_ok (unless fault x)) P
if_made None x P right = right refl
if_made (Some why) x P right = tt

third_rule : (a b c : Bool) (rest : Option ConfigFault) (x y z : ConfigFault) → (if a then (if b then (if c then rest else Some z) else Some y) else Some x) ≡ None → c ≡ true
third_rule true true true rest x y z e = refl
third_rule true true false rest x y z e = cc
third_rule true false c rest x y z e = cc
third_rule false b c rest x y z e = cc

short : (max lifetime : ℕ) → is_router_lifetime max lifetime ≡ true → lifetime < 2 ^ 16
short max lifetime e = grind (arith, nat_tests)

-- the lifetime of settings that break no rule
pub short_lifetime : (s : Settings) → config_fault s ≡ None → s.fields.router_lifetime < 2 ^ 16
short_lifetime s right = short s.max_interval s.fields.router_lifetime (third_rule _ _ (is_router_lifetime s.max_interval s.fields.router_lifetime) _ _ _ _ right)
