-- The text of what happened on a link only grows.
use Rattle.std.proofs.Common.{◌≡◌, ℕ, List, [], ◌∷◌, ◌++◌, sym, ◌∙◌, ap}
use Rattle.std.proofs.lemmas.List.{append-nil, append_assoc}
use Rattle.nd_link_log.specs.Log.{Entry}
use Rattle.nd_link_log.specs.Told.{lines_of, text}

pub grows : (newer log : List Entry) → text (newer ++ log) ≡ text log ++ text newer
grows [] log = sym (append-nil (text log))
grows (entry ∷ newer) log = ap (λ (t : List ℕ). t ++ lines_of entry) (grows newer log) ∙ append_assoc (text log) (text newer) (lines_of entry)
