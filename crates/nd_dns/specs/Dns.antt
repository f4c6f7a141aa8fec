-- How many servers and search names a host has room for (RFC 8106, section 5.3.1).
use Rattle.std.specs.Prelude.{ℕ}

-- the greatest limits on the servers and on the search names (our choice)
abbrev pub max_servers : ℕ
max_servers = 32

abbrev pub max_names : ℕ
max_names = 32
