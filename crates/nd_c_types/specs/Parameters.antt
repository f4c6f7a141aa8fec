-- The parameters of the link, as C sees them (RFC 4861, section 6.3.2).
use Rattle.nd_params.specs.ParamsKept.{Values}
use Rattle.nd_c_types.specs.Numbers.{flag_number}
use Rattle.nd_c_types.specs.declared.parameters.ParametersRow.{ParametersRow}

abbrev pub parameters_row : Values → ParametersRow
parameters_row p = record {
  reachable_time = p.reachable_time;
  base_reachable_time = p.base_reachable_time;
  retrans_timer = p.retrans_timer;
  mtu = p.mtu;
  hop_limit = p.hop_limit;
  managed = flag_number p.managed;
  other = flag_number p.other;
  reserved = 0;
}
