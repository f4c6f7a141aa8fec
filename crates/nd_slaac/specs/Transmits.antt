-- How many solicitations a duplicate address detection sends (RFC 4862, section 5.1, DupAddrDetectTransmits).
use Rattle.std.specs.Prelude.{ℕ, ◌≤◌}

-- at most (our choice)
abbrev pub max_transmits : ℕ
max_transmits = 8

abbrev pub IsTransmits : ℕ → Type 0
IsTransmits number = (1 ≤ number) × (number ≤ max_transmits)
