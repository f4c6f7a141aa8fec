-- What happens to the redirects of a host, the newest first (RFC 4861, section 8.3). Nothing here has a state: each question looks back.
use Rattle.std.specs.Prelude.{ℕ, Bool, true, false, ◌||◌, not, ◌==◌, nat_lt, if◌then◌else◌, List, [], ◌∷◌, ◌++◌, length, map, take, filter, Option, Some, None, option_map, option_to_list}

-- the greatest limit on the destinations whose redirects are kept (our choice)
abbrev pub max_redirects : ℕ
max_redirects = 64

-- A Redirect announces the better first hop of a destination, its target; a target is gone, since it can't be reached or is no longer
-- a router; all redirects are cleared. Destinations and targets are named by the numbers that their addresses are.
pub data RedirectRow : Type 0 where
  Redirected : (at destination target : ℕ) → RedirectRow
  TargetGone : (at target : ℕ) → RedirectRow
  Cleared : (at : ℕ) → RedirectRow

-- the target of the destination's last Redirect
abbrev pub target_of : ℕ → List RedirectRow → Option ℕ
target_of key [] = None
target_of key (Redirected at destination target ∷ history) = if destination == key then Some target else target_of key history
target_of key (TargetGone at target ∷ history) = target_of key history
target_of key (Cleared at ∷ history) = target_of key history

-- what happened since then
abbrev pub since : ℕ → List RedirectRow → List RedirectRow
since key [] = []
since key (Redirected at destination target ∷ history) =
    if destination == key then [] else Redirected at destination target ∷ since key history
since key (TargetGone at target ∷ history) = TargetGone at target ∷ since key history
since key (Cleared at ∷ history) = Cleared at ∷ since key history

-- a redirect to the target ends in what happened: the target was gone, or all were cleared
abbrev pub ends : ℕ → List RedirectRow → Bool
ends target [] = false
ends target (Redirected at destination other ∷ history) = ends target history
ends target (TargetGone at gone ∷ history) = (gone == target) || ends target history
ends target (Cleared at ∷ history) = true

-- the destinations without this one
abbrev pub others : ℕ → List ℕ → List ℕ
others key keys = filter (λ k. not (k == key)) keys

-- the destinations that were redirected, each once, the one that was redirected last first
abbrev pub destinations : List RedirectRow → List ℕ
destinations [] = []
destinations (Redirected at destination target ∷ history) = destination ∷ others destination (destinations history)
destinations (TargetGone at target ∷ history) = destinations history
destinations (Cleared at ∷ history) = destinations history

-- the target, unless a redirect to it ended in what happened
abbrev pub unless_ended : Option ℕ → List RedirectRow → Option ℕ
unless_ended None history = None
unless_ended (Some target) history = if ends target history then None else Some target

-- what is left of the destination's last redirect: its target, until it ended
abbrev pub target_left : ℕ → List RedirectRow → Option ℕ
target_left key history = unless_ended (target_of key history) (since key history)

-- The kept redirect of a destination: what is left of its last one, unless as many other destinations as the limit were redirected since
-- then. Those whose redirects ended count too.
abbrev pub kept : ℕ → ℕ → List RedirectRow → Option ℕ
kept limit key history = if nat_lt (length (destinations (since key history))) limit then target_left key history else None

-- as many destinations as the limit, those that were redirected last, each with what is left of its redirect
abbrev pub remembered : ℕ → List RedirectRow → List (ℕ × Option ℕ)
remembered limit history = map (λ key. (key, target_left key history)) (take limit (destinations history))

-- those of which something is left
abbrev pub those_left : List (ℕ × Option ℕ) → List (ℕ × ℕ)
those_left [] = []
those_left (e ∷ es) = option_to_list (option_map (λ target. (e.0, target)) e.1) ++ those_left es

-- the kept redirects, each a destination and its target, the newest first
abbrev pub redirects : ℕ → List RedirectRow → List (ℕ × ℕ)
redirects limit history = those_left (remembered limit history)
