-- What happened to the addresses of an interface, the newest first, and the part of it that one address's story is.
use Rattle.std.specs.Prelude.{ℕ, Bool, true, false, ◌==◌, if◌then◌else◌, List, [], ◌∷◌, Option}

-- the lifetimes that a router announces for a prefix (RFC 4861, section 4.6.2), or that an address is given by hand, in seconds
pub record Lifetimes : Type 0 where
  pub valid : ℕ
  pub preferred : ℕ

-- what happened to one address: each is something that came or was done, and no state
pub data RowKind : Type 0 where
  -- it was formed: how long its first solicitation waits, the RetransTimer in force then, and its lifetimes, those of the
  -- announcement that it was formed from or those given by hand; the link-local address has none (RFC 4862, sections 5.3, 5.4 and 5.5.3)
  Formed : (delay retrans : ℕ) (lifetimes : Option Lifetimes) → RowKind
  -- its lifetimes were set by hand, in seconds from then on (our choice)
  SetByHand : (lifetimes : Lifetimes) → RowKind
  -- its prefix was announced again (RFC 4862, section 5.5.3 e)
  Announced : (lifetimes : Lifetimes) → RowKind
  -- a solicitation for it was sent (RFC 4862, section 5.4.2)
  Solicited : RowKind
  -- another node turned out to have it, or to try for it (RFC 4862, sections 5.4.3 and 5.4.4)
  Conflict : RowKind
  -- it was assigned to the interface (RFC 4862, section 5.4)
  Assigned : RowKind
  -- its valid lifetime ended (RFC 4862, section 5.5.4), or it was withdrawn
  Ended : RowKind

-- a moment, which address it happened to, and what it was
abbrev pub Row : Type 0
Row = ℕ × ℕ × RowKind

-- the story of one address: moments and what happened, the newest first
abbrev pub Story : Type 0
Story = List (ℕ × RowKind)

abbrev pub is_end : RowKind → Bool
is_end Ended = true
is_end _ = false

-- what happened to the address since it last ended
abbrev pub story : ℕ → List Row → Story
story key [] = []
story key ((at, k, kind) ∷ history) =
    if k == key then (if is_end kind then [] else (at, kind) ∷ story key history) else story key history
