-- Lines say one history, and the first few of them its beginning.
use Rattle.std.proofs.Common.{◌≡◌, ◌+◌, ℕ, List, [], ◌∷◌, ◌++◌, Option, None, refl, sym, ap, subst, ◌∙◌}
use Rattle.ndpctl_run.specs.Said.{SayFrom, stops, says, Say}

module _ {E : Type 0} (IsLine : List ℕ → ℕ → E → Type 0) where
  -- a line says one event
  abbrev pub OneReading : Type 0
  OneReading = (line : List ℕ) (at other_at : ℕ) (event other_event : E) → IsLine line at event → IsLine line other_at other_event → (at ≡ other_at) × (event ≡ other_event)

  -- the one are the first of the other, and the rest is said by the later lines
  abbrev pub Begins : List (List ℕ) → Option ℕ → List (ℕ × E) → List (ℕ × E) → Type 0
  Begins later found few all = (rest : List (ℕ × E)) × (all ≡ few ++ rest) × ((m : ℕ) × Say IsLine m later rest found)

  abbrev IsOne : (A B : List (ℕ × E) → Option ℕ → Type 0) → Type 0
  IsOne A B = (a b : List (ℕ × E)) (f g : Option ℕ) → A a f → B b g → (a ≡ b) × (f ≡ g)

  module _ (one : OneReading) where
    line_says : (n : ℕ) (line : List ℕ) (A B : List (ℕ × E) → Option ℕ → Type 0) → IsOne A B → (a b : List (ℕ × E)) (f g : Option ℕ)
        → SayFrom IsLine n line A a f → SayFrom IsLine n line B b g → (a ≡ b) × (f ≡ g)
    line_says n line A B later a b f g (stops nothing) (stops other_nothing) = (refl, refl)
    line_says n line A B later a b f g (stops nothing) (says at event s l) = absurd (nothing at event s)
    line_says n line A B later a b f g (says at event s l) (stops nothing) = absurd (nothing at event s)
    line_says n line A B later a b f g (says at event {later = x} s l) (says at' event' {later = y} s' l') =
        let same = one line at at' event event' s.spelled s'.spelled in
        let rest = later x y f g l l' in
        ((cc), rest.1)

    -- lines say one history, with one malformed line at most
    pub say_one : (lines : List (List ℕ)) (n : ℕ) → IsOne (Say IsLine n lines) (Say IsLine n lines)
    say_one [] n a b f g p q = (p.0 ∙ sym q.0, p.1 ∙ sym q.1)
    say_one (line ∷ lines) n a b f g p q = line_says n line (Say IsLine (n + 1) lines) (Say IsLine (n + 1) lines) (say_one lines (n + 1)) a b f g p q

    line_begins : (n : ℕ) (line : List ℕ) (behind : List (List ℕ)) (All Few : List (ℕ × E) → Option ℕ → Type 0) (all few : List (ℕ × E)) (found other : Option ℕ)
        → ((a f : List (ℕ × E)) → All a found → Few f None → Begins behind found f a)
        → SayFrom IsLine n line All all found → SayFrom IsLine n line Few few other → other ≡ None → Begins behind found few all
    line_begins n line behind All Few all few found other later (stops nothing) (stops other_nothing) e = let no : ⊥ = cc in absurd no
    line_begins n line behind All Few all few found other later (stops nothing) (says at event s l) e = absurd (nothing at event s)
    line_begins n line behind All Few all few found other later (says at event s l) (stops nothing) e = let no : ⊥ = cc in absurd no
    line_begins n line behind All Few all few found other later (says at event {later = a} s l) (says at' event' {later = f} s' l') e =
        let same = one line at at' event event' s.spelled s'.spelled in
        let begins = later a f l (subst (λ (o : Option ℕ). Few f o) e l') in
        (begins.0, cc, begins.2)

    pub say_begins : (first later : List (List ℕ)) (n : ℕ) (all few : List (ℕ × E)) (found : Option ℕ) → Say IsLine n (first ++ later) all found → Say IsLine n first few None → Begins later found few all
    say_begins [] later n all few found f g = (all, ap (λ l. l ++ all) (sym g.0), (n, f))
    say_begins (line ∷ first) later n all few found f g =
        line_begins n line later (Say IsLine (n + 1) (first ++ later)) (Say IsLine (n + 1) first) all few found None (λ a f'. say_begins first later (n + 1) a f' found) f g refl
