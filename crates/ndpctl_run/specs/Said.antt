-- What lines say, up to the first malformed one, whatever the kind of their events.
use Rattle.std.specs.Prelude.{◌≡◌, ◌≤◌, ℕ, ◌+◌, List, [], ◌∷◌, length, Option, Some, None}
use Rattle.nd_lines.specs.Lines.{longest_line}

-- by the grammar of a line
module _ {E : Type 0} (IsLine : List ℕ → ℕ → E → Type 0) where
  -- the line says that there is an event at a moment
  pub record Says (line : List ℕ) (at : ℕ) (event : E) : Type 0 where
    pub short : length line ≤ longest_line
    pub spelled : IsLine line at event

  -- a malformed line says nothing
  abbrev pub SaysNothing : List ℕ → Type 0
  SaysNothing line = (at : ℕ) (event : E) → Says line at event → ⊥

  -- What lines say from one on that has the number n: nothing where it is malformed, else its event, and then what the later ones say.
  pub data SayFrom (n : ℕ) (line : List ℕ) (Later : List (ℕ × E) → Option ℕ → Type 0) : List (ℕ × E) → Option ℕ → Type 0 where
    stops : SaysNothing line → SayFrom n line Later [] (Some n)
    says : (at : ℕ) (event : E) {later : List (ℕ × E)} {found : Option ℕ} → Says line at event → Later later found → SayFrom n line Later ((at, event) ∷ later) found

  -- Which events the lines say, up to the first malformed one, whose number is `found`, where the first line has the number n.
  abbrev pub Say : ℕ → List (List ℕ) → List (ℕ × E) → Option ℕ → Type 0
  Say n [] said found = (said ≡ []) × (found ≡ None)
  Say n (line ∷ lines) said found = SayFrom n line (Say (n + 1) lines) said found
