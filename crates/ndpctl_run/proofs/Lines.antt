-- A line is determined by its moment and its command.
use Rattle.std.proofs.Common.{◌≡◌, ◌∙◌, ◌<◌, ◌^◌, ◌∷◌, ◌++◌, ℕ, List, ap, refl, arith}
use Rattle.std.specs.Fmt.{decimal}
use Rattle.std.proofs.lemmas.Fmt.{decimal_injective}
use Rattle.ndpctl_run.specs.Number.{IsNumberWord}
use Rattle.ndpctl_run.specs.Words.{IsParted, Parts}
use Rattle.ndpctl_run.specs.Command.{IsCommand}
use Rattle.ndpctl_run.specs.Line.{IsLine}
use Rattle.nd_chronicle.specs.Event.{Event}
use Rattle.ndpctl_run.proofs.Partings.{one_parting, decimal_no_space}
use Rattle.ndpctl_run.proofs.CommandWords.{one_command}

-- a number below 2^62 is one below 2^64
pub wider : (text : List ℕ) (at : ℕ) (Rest : List ℕ → Type 0) → Parts text (λ word. IsNumberWord (2 ^ 62) word at) Rest → Parts text (λ word. IsNumberWord (2 ^ 64) word at) Rest
wider text at Rest p = record { word = p.word; rest = p.rest; parted = p.parted; first = ((omega (arith, p.first.0)), p.first.1); behind = p.behind }

pub earlier : (text : List ℕ) (at : ℕ) (Rest : List ℕ → Type 0) → at < 2 ^ 62 → Parts text (λ word. IsNumberWord (2 ^ 64) word at) Rest → Parts text (λ word. IsNumberWord (2 ^ 62) word at) Rest
earlier text at Rest early p = record { word = p.word; rest = p.rest; parted = p.parted; first = (early, p.first.1); behind = p.behind }

line_parted : (bytes : List ℕ) (at : ℕ) (event : Event) (l : IsLine bytes at event) → IsParted bytes (decimal at) l.words
line_parted bytes at event l = record { text_is = l.bytes_are; no_space = decimal_no_space at (omega (arith, l.early)) }

-- a line begins with its moment
pub moment_in : (bytes : List ℕ) (at : ℕ) (event : Event) (l : IsLine bytes at event) → Parts bytes (λ word. IsNumberWord (2 ^ 62) word at) (λ rest. rest ≡ l.words)
moment_in bytes at event l = record { word = decimal at; rest = l.words; parted = line_parted bytes at event l; first = (l.early, refl); behind = refl }

-- the first word of a line, and the rest
line_words : (bytes word rest : List ℕ) (at : ℕ) (event : Event) (l : IsLine bytes at event) → IsParted bytes word rest → (word ≡ decimal at) × IsCommand rest event
line_words bytes word rest at event l p =
    let one = one_parting bytes word rest (decimal at) l.words p (line_parted bytes at event l) in
    (one.0, rw (one.1) l.spelled)

pub one_line : (bytes : List ℕ) (at at' : ℕ) (event event' : Event) → IsLine bytes at event → IsLine bytes at' event' → (at ≡ at') × (event ≡ event')
one_line bytes at at' event event' l m =
    let same = line_words bytes (decimal at) l.words at' event' m (line_parted bytes at event l) in
    (decimal_injective at at' (omega (arith, l.early)) (omega (arith, m.early)) same.0, one_command l.words event event' l.spelled same.1)

-- what the parts of a line make
pub is_line : (bytes rest : List ℕ) (at : ℕ) (event : Event) → Parts bytes (λ word. IsNumberWord (2 ^ 62) word at) (λ r. r ≡ rest) → IsCommand rest event → IsLine bytes at event
is_line bytes rest at event p spelled =
    record { words = rest; bytes_are = p.parted.text_is ∙ (ap (λ (l : List ℕ). l ++ 32 ∷ p.rest) p.first.1 ∙ ap (λ (r : List ℕ). decimal at ++ 32 ∷ r) p.behind); early = p.first.0; spelled = spelled }
