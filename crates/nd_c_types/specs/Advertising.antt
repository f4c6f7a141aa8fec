-- What a router advertises of itself and of its link, from and to C (RFC 4861, section 6.2.1; RFC 4191, section 2.2).
use Rattle.std.specs.Prelude.{◌==◌, ◌&&◌, nat_le, Bool, if◌then◌else◌, Option, None}
use Rattle.std.specs.Result.{result_ok}
use Rattle.nd_advertiser.specs.Config.{Settings, config_fault, unless}
use Rattle.nd_heard.specs.Heard.{preference_number}
use Rattle.nd_c_types.specs.Numbers.{flag_number, flag_in, is_flag, preference_in, is_preference}
use Rattle.nd_c_types.specs.declared.advertising.Advertising.{Advertising}

abbrev pub advertising_of : Settings → Advertising
advertising_of s = record {
  min_interval = s.min_interval;
  max_interval = s.max_interval;
  lifetime = s.fields.router_lifetime;
  reachable_time = s.fields.reachable_time;
  retrans_timer = s.fields.retrans_timer;
  mtu = s.mtu;
  hop_limit = s.fields.hop_limit;
  managed = flag_number s.fields.managed;
  other = flag_number s.fields.other;
  preference = preference_number s.fields.preference;
  reserved = 0;
}

-- flags of 0 or 1, a preference, and nothing in the reserved field
abbrev pub is_well_formed : Advertising → Bool
is_well_formed a = is_flag a.managed && is_flag a.other && is_preference a.preference && (a.reserved == 0)

-- the numbers of seconds are below 2^16
abbrev pub fits : Advertising → Bool
fits a = nat_le a.min_interval 65535 && nat_le a.max_interval 65535 && nat_le a.lifetime 65535

-- what its fields say
abbrev pub settings_in : Advertising → Settings
settings_in a = record {
  min_interval = a.min_interval;
  max_interval = a.max_interval;
  fields = record {
    hop_limit = a.hop_limit;
    managed = flag_in a.managed;
    other = flag_in a.other;
    preference = preference_in a.preference;
    router_lifetime = a.lifetime;
    reachable_time = a.reachable_time;
    retrans_timer = a.retrans_timer;
  };
  mtu = a.mtu;
}

-- the configuration, if the fields are well formed and it breaks no rule
abbrev pub config_of : Advertising → Option Settings
config_of a = if is_well_formed a then result_ok (unless (config_fault (settings_in a)) (settings_in a)) else None
