-- ReachableTime: the value that was drawn, the range of a draw, and when the next draw is due (RFC 4861, sections 6.3.2 and 6.3.4).
use Rattle.std.specs.Prelude.{ℕ, ◌+◌, ◌*◌, ◌/◌, ◌≤◌, List, [], ◌∷◌}
use Rattle.nd_params.specs.History.{Row, Heard, Drew}

-- the least and the greatest ReachableTime that may be drawn for a base, all in milliseconds: half of it and one and a half of it
-- (RFC 4861, section 6.3.2), both rounded down
abbrev pub reachable_range : ℕ → ℕ × ℕ
reachable_range base = (base / 2, 3 * base / 2)

-- a value that may be drawn for a base
abbrev pub MayBeDrawn : ℕ → ℕ → Type 0
MayBeDrawn base value = ((reachable_range base).0 ≤ value) × (value ≤ (reachable_range base).1)

-- ReachableTime in milliseconds: the last one that was drawn
abbrev pub reachable_of : List Row → ℕ
reachable_of [] = 0
reachable_of (Heard ra options ∷ history) = reachable_of history
reachable_of (Drew at value ∷ history) = value

-- the moment at which it was drawn
abbrev pub last_draw : List Row → ℕ
last_draw [] = 0
last_draw (Heard ra options ∷ history) = last_draw history
last_draw (Drew at value ∷ history) = at

-- how long after a draw of ReachableTime the next one comes, in milliseconds (RFC 4861, section 6.3.4: every few hours)
abbrev pub redraw_after : ℕ
redraw_after = 7200000

-- when ReachableTime is drawn again
abbrev pub next_draw : List Row → ℕ
next_draw history = last_draw history + redraw_after
