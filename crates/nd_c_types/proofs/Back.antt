-- A row that is written describes what it was written from.
use Rattle.std.proofs.Common.{◌≡◌, Bool, true, false, Option, Some, None, refl}
use Rattle.std.specs.Result.{result_ok}
use Rattle.nd_addr.specs.declared.preference.Preference.{Preference}
use Rattle.nd_addr.specs.declared.preference.Preference.TheVariants.{Medium, High, Low}
use Rattle.nd_advertiser.specs.Config.{Settings, config_fault, unless}
use Rattle.nd_advertiser.specs.declared.config_fault.ConfigFault.{ConfigFault}
use Rattle.nd_heard.specs.Heard.{preference_number}
use Rattle.nd_c_types.specs.Numbers.{flag_number, flag_in, is_flag, preference_in, is_preference}
use Rattle.nd_c_types.specs.Advertising as advertisings
use Rattle.nd_c_types.specs.declared.advertising.Advertising.{Advertising}

flag_back : (b : Bool) → flag_in (flag_number b) ≡ b
flag_back true = refl
flag_back false = refl

flag_good : (b : Bool) → is_flag (flag_number b) ≡ true
flag_good true = refl
flag_good false = refl

preference_back : (p : Preference) → preference_in (preference_number p) ≡ p
preference_back Medium = refl
preference_back High = refl
preference_back Low = refl

preference_good : (p : Preference) → is_preference (preference_number p) ≡ true
preference_good Medium = refl
preference_good High = refl
preference_good Low = refl

-- what breaks no rule is taken
taken : {X : Type 0} (fault : X → Option ConfigFault) (x y : X) → x ≡ y → fault y ≡ None → result_ok (unless (fault x) x) ≡ Some y
taken fault x y e right = rw (e, right) refl

config_back : (s : Settings) → config_fault s ≡ None → advertisings.config_of (advertisings.advertising_of s) ≡ Some s
config_back s right =
    let good : advertisings.is_well_formed (advertisings.advertising_of s) ≡ true =
    rw (flag_good s.fields.managed, flag_good s.fields.other, preference_good s.fields.preference) refl in
    let same : advertisings.settings_in (advertisings.advertising_of s) ≡ s =
    rw (flag_back s.fields.managed, flag_back s.fields.other, preference_back s.fields.preference) refl in
    rw good (taken config_fault _ s same right)

pub config_back_at : (a : Advertising) (s : Settings) → a ≡ advertisings.advertising_of s → config_fault s ≡ None → advertisings.config_of a ≡ Some s
config_back_at a s e right = rw e (config_back s right)
