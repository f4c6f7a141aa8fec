-- A prefix on the link, as C sees it (RFC 4861, section 5.1).
use Rattle.nd_addr.specs.Prefix.{PrefixValue}
use Rattle.nd_table.specs.declared.with_lifetime.WithLifetime.{WithLifetime}
use Rattle.nd_c_types.specs.Numbers.{left_number}
use Rattle.nd_c_types.specs.declared.prefix.PrefixRow.{PrefixRow}

abbrev pub prefix_row : WithLifetime PrefixValue → PrefixRow
prefix_row p = record { left = left_number p.left; prefix = p.key.now.address.0; bits = p.key.now.length; reserved = 0 }
