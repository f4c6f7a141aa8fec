-- The words by which a node starts (the texts are this project's own).
use Rattle.std.specs.Prelude.{◌≡◌, ℕ, List, [], ◌∷◌}
use Rattle.nd_addr.specs.declared.mac.Mac.{Mac}
use Rattle.nd_addr.specs.declared.role.Role.{Role}
use Rattle.nd_addr.specs.Spelling.{SpellsMac}
use Rattle.nd_random.specs.declared.source.Source.{Source}
use Rattle.ndpctl_run.specs.Source.{IsSource}
use Rattle.ndpctl_run.specs.Transmits.{IsTransmitsWord}
use Rattle.ndpctl_run.specs.Words.{Parts, words_of}
use Rattle.ndpctl_link.specs.Role.{role_word}

-- the last words are the source of its random words, and how many solicitations it sends for an address, one where that isn't said
abbrev pub SpellEnd : List (List ℕ) → ℕ → Source → Type 0
SpellEnd (word ∷ []) transmits source = IsSource word source × (transmits ≡ 1)
SpellEnd (word ∷ number ∷ []) transmits source = IsSource word source × IsTransmitsWord number transmits
SpellEnd _ transmits source = ⊥

-- the words are its role, its Ethernet address, and those
abbrev pub IsStart : List ℕ → Role → Mac → ℕ → Source → Type 0
IsStart words role mac transmits source =
    Parts words (λ word. word ≡ role_word role) (λ behind. Parts behind (λ word. SpellsMac word mac.0) (λ rest. SpellEnd (words_of rest) transmits source))
