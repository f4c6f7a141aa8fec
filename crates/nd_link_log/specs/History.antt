-- What happened on a link, by its events: each millisecond is walked at all nodes.
use Rattle.std.specs.Prelude.{◌≡◌, ℕ, suc, ◌<◌, ◌≤◌, nat_lt, MatchBool, List, [], ◌∷◌, ◌++◌, Some, None}
use Rattle.nd_chronicle.specs.Start.{Limits, Start}
use Rattle.nd_chronicle.specs.Happening.{Chronicle}
use Rattle.nd_chronicle.specs.Due.{What, Due, comes}
use Rattle.nd_link_log.specs.Log.{Log, TooLate, Reaches, Refuses, nodes, start_of, chronicle_of, adding, last_moment}
use Rattle.nd_link_log.specs.Event.{Event, EventHappens, passing}

-- nothing is due at a node at the moment
abbrev pub IsIdle : ℕ → Log → ℕ → Type 0
IsIdle node log moment = (start : Start) → start_of node log ≡ Some start → Due start (chronicle_of node log) moment None

-- From the moment on up to the last one, each millisecond adds what is due in it, at the node of the least number first, until nothing is.
pub data Walk : Log → ℕ → ℕ → Log → Type 0 where
  over : {log : Log} {moment end : ℕ} → end < moment → Walk log moment end log
  adds : {log d : Log} {moment end : ℕ} (node : ℕ) (start : Start) (what : What) (rows : Chronicle) → moment ≤ end → start_of node log ≡ Some start
      → Due start (chronicle_of node log) moment (Some what) → ((other : ℕ) → other < node → IsIdle other log moment)
      → comes start moment what (chronicle_of node log) ≡ rows ++ chronicle_of node log → Walk (adding node rows log) moment end d → Walk log moment end d
  passes : {log d : Log} {moment end : ℕ} → moment ≤ end → ((node : ℕ) → IsIdle node log moment) → Walk log (suc moment) end d → Walk log moment end d

module _ (limits : Limits) where
  -- The milliseconds up to an event come first, its own included, and it is a moment at each node; then it adds what it adds. One that is too
  -- late is only refused.
  abbrev pub Follows : Log → ℕ → Event → Log → Type 0
  Follows log now event d =
      MatchBool (nat_lt now (last_moment log))
      (d ≡ Refuses now (TooLate (last_moment log)) ∷ log)
      ((e : Log) × Walk log (last_moment log) now e × EventHappens limits now event (passing now (nodes e) (Reaches now ∷ e)) d)

  abbrev pub Runs : Log → List (ℕ × Event) → Log → Type 0
  Runs log [] d = d ≡ log
  Runs log (event ∷ events) d = (e : Log) × Follows log event.0 event.1 e × Runs e events d

  -- it is the log of the events
  abbrev pub IsLog : List (ℕ × Event) → Log → Type 0
  IsLog events log = Runs [] events log
