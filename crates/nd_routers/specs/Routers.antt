-- How many default routers there may be, and when two are the same.
use Rattle.std.specs.Prelude.{ℕ, Bool, ◌==◌}

-- the most that a table of routers may have room for (our choice)
abbrev pub max_routers : ℕ
max_routers = 64

-- two keys are the same
abbrev pub same : ℕ → ℕ → Bool
same a b = a == b
