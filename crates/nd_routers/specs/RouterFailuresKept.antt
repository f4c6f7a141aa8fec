-- Only what is kept, in the code's terms: a list of keys without one.
use Rattle.std.specs.Prelude.{ℕ, not, ◌==◌, List, filter}

-- the keys without this one
abbrev pub others : ℕ → List ℕ → List ℕ
others key keys = filter (λ k. not (k == key)) keys
