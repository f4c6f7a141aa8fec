-- DNS servers and search names, as C sees them (RFC 8106, section 6.1).
use Rattle.std.specs.Prelude.{ℕ, List, length}
use Rattle.nd_addr.specs.declared.addr.Addr.{Addr}
use Rattle.nd_table.specs.declared.with_lifetime.WithLifetime.{WithLifetime}
use Rattle.nd_search_list.specs.Text.{name_text}
use Rattle.nd_c_types.specs.NameText.{padded}
use Rattle.nd_c_types.specs.Numbers.{left_number}
use Rattle.nd_c_types.specs.declared.dns.ServerRow.{ServerRow}
use Rattle.nd_c_types.specs.declared.dns.NameRow.{NameRow}

abbrev pub server_row : WithLifetime Addr → ServerRow
server_row s = record { left = left_number s.left; address = s.key.now.0 }

-- the text of the name, its labels with dots between them (RFC 1035, section 2.3.1)
abbrev pub name_row : WithLifetime (List ℕ) → NameRow
name_row n = record { left = left_number n.left; length = length (name_text n.key.now); reserved = 0; text = padded (name_text n.key.now) }
