-- What a question about all rows of a table returns and writes.
use Rattle.std.specs.Prelude.{◌≡◌, ℕ, ◌<◌, ◌≤◌, ◌++◌, ◌^◌, ◌⊎◌, ℤ, Option, None, Some, List, drop, length, slice_get}
use Rattle.nd_node.specs.Node.{last_of}
use Rattle.nd_session.specs.declared.session.Session.{Session}
use Rattle.nd_c.specs.Status.{done, closed, invalid, no_room, past}

module _ {Row : Type 0} where
  -- The rows at the first indices go to the front of a list, as many as there are or have room, and `count` is their number. The status says whether
  -- there is one more.
  pub record Fills (At : ℕ → Option Row → Type 0) (status : ℤ) (count : ℕ) (old new : List Row) : Type 0 where
    pub rows : (written : List Row) × (length written ≡ count) × (new ≡ written ++ drop count old) × ((index : ℕ) → index < count → At index (slice_get written index))
    pub ends : ((status ≡ done) × At count None) ⊎ ((status ≡ no_room) × (count ≡ length old) × (row : Row) × At count (Some row))

  -- A session is asked for all rows at a moment. A question about the past isn't answered.
  pub record TellsAll (now : ℕ) (At : ℕ → Session → Option Row → Type 0) (session : Session) (status : ℤ) (count_old count_new : ℕ) (old new : List Row) : Type 0 where
    pub early : now < last_of session.node → (status ≡ past) × (new ≡ old) × (count_new ≡ count_old)
    pub rows : last_of session.node ≤ now → Fills (λ index row. At index session row) status count_new old new

  -- A slot is asked. A question changes nothing but the list and the number.
  pub record AskedAll (now : ℕ) (At : ℕ → Session → Option Row → Type 0) (status : ℤ) (before after : Option Session) (count_old count_new : ℕ) (old new : List Row) : Type 0 where
    pub bad_moment : 2 ^ 62 ≤ now → (status ≡ invalid) × (after ≡ before) × (new ≡ old) × (count_new ≡ count_old)
    pub no_node : now < 2 ^ 62 → before ≡ None → (status ≡ closed) × (after ≡ None) × (new ≡ old) × (count_new ≡ count_old)
    pub node : now < 2 ^ 62 → (s : Session) → before ≡ Some s → (after ≡ Some s) × TellsAll now At s status count_old count_new old new
