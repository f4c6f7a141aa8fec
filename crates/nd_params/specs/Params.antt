-- Whether a Router Advertisement has ReachableTime drawn anew (RFC 4861, section 6.3.4).
use Rattle.std.specs.Prelude.{ℕ, Bool, ◌&&◌, not, ◌==◌}

-- a base that is announced, and is another one
abbrev pub redraws : ℕ → ℕ → Bool
redraws base told = not (told == 0) && not (told == base)
