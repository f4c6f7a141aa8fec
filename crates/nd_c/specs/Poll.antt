-- What is taken of the reports of a session.
use Rattle.std.specs.Prelude.{◌≡◌, ◌<◌, ◌≤◌, ◌++◌, ◌∷◌, [], ℕ, ℤ, List, drop, length}
use Rattle.nd_out.specs.declared.out.Out.{Out}
use Rattle.nd_session.specs.Leases.{KeepsLeases}
use Rattle.nd_session.specs.declared.session.Session.{Session}
use Rattle.nd_c_types.specs.Record.{record_of, bytes_in}
use Rattle.nd_c_types.specs.declared.«record».Record.{Record}
use Rattle.nd_c.specs.Status.{done, nothing, no_room}

-- The oldest report is written as a record, and its bytes at the beginning of the buffer; then the report is gone, and nothing else has changed. If
-- the buffer is too short, only the record is written. If there is no report, nothing is. Each lease holds as it did.
pub record Polls (old new : Session) (status : ℤ) (out_old out_new : Record) (buffer_old buffer_new : List ℕ) : Type 0 where
  pub none : old.reports.items ≡ [] → (status ≡ nothing) × (new ≡ old) × (out_new ≡ out_old) × (buffer_new ≡ buffer_old)
  pub writes : (at : ℕ) (report : Out _) (rest : List (ℕ × Out _)) → old.reports.items ≡ (at, report) ∷ rest → out_new ≡ record_of at report
  pub fits : (at : ℕ) (report : Out _) (rest : List (ℕ × Out _)) → old.reports.items ≡ (at, report) ∷ rest → length (bytes_in report) ≤ length buffer_old
      → (status ≡ done) × (new.node ≡ old.node) × (new.reports.items ≡ rest) × (buffer_new ≡ bytes_in report ++ drop (length (bytes_in report)) buffer_old)
  pub short : (at : ℕ) (report : Out _) (rest : List (ℕ × Out _)) → old.reports.items ≡ (at, report) ∷ rest → length buffer_old < length (bytes_in report)
      → (status ≡ no_room) × (new ≡ old) × (buffer_new ≡ buffer_old)
  pub leases : KeepsLeases old new
