-- The row of the parameters of the link, by their values.
use Rattle.std.specs.Prelude.{ℕ, List, ◌++◌, codes}
use Rattle.std.specs.Fmt.{decimal}
use Rattle.nd_params.specs.ParamsKept.{Values}
use Rattle.nd_chronicle.specs.Shown.{flag_text}

-- the hop limit and the MTU
unfoldable pub limits_in : Values → List ℕ
limits_in v = codes "params hop " ++ decimal v.hop_limit ++ codes " mtu " ++ decimal v.mtu

-- the times
unfoldable pub times_in : Values → List ℕ
times_in v = codes " reachable " ++ decimal v.base_reachable_time ++ codes " " ++ decimal v.reachable_time ++ codes " retrans " ++ decimal v.retrans_timer

-- the flags
unfoldable pub flags_in : Values → List ℕ
flags_in v = codes " managed " ++ flag_text v.managed ++ codes " other " ++ flag_text v.other

-- the row
abbrev pub parameters_in : Values → List ℕ
parameters_in v = limits_in v ++ times_in v ++ flags_in v
