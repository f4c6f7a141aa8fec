-- What a question about the node in a slot returns and writes.
use Rattle.std.specs.Prelude.{◌≡◌, ℕ, ◌<◌, ◌≤◌, ◌^◌, ℤ, Option, None, Some}
use Rattle.nd_node.specs.Node.{last_of}
use Rattle.nd_session.specs.declared.session.Session.{Session}
use Rattle.nd_c.specs.Status.{done, nothing, closed, invalid, past}

module _ {Row : Type 0} where
  -- the row that is found is written
  abbrev pub Writes : Option Row → ℤ → Row → Row → Type 0
  Writes None status old new = (status ≡ nothing) × (new ≡ old)
  Writes (Some row) status old new = (status ≡ done) × (new ≡ row)

  -- A session is asked for a row at a moment. A question about the past isn't answered.
  pub record Tells (now : ℕ) (Holds : Session → Option Row → Type 0) (session : Session) (status : ℤ) (old new : Row) : Type 0 where
    pub early : now < last_of session.node → (status ≡ past) × (new ≡ old)
    pub row : last_of session.node ≤ now → (found : Option Row) × Holds session found × Writes found status old new

  -- A slot is asked. A question changes nothing but the row.
  pub record Asked (now : ℕ) (Holds : Session → Option Row → Type 0) (status : ℤ) (before after : Option Session) (old new : Row) : Type 0 where
    pub bad_moment : 2 ^ 62 ≤ now → (status ≡ invalid) × (after ≡ before) × (new ≡ old)
    pub no_node : now < 2 ^ 62 → before ≡ None → (status ≡ closed) × (after ≡ None) × (new ≡ old)
    pub node : now < 2 ^ 62 → (s : Session) → before ≡ Some s → (after ≡ Some s) × Tells now Holds s status old new
