-- Words that are parted by exactly one space (the texts are this project's own).
use Rattle.std.specs.Prelude.{◌≡◌, ◌≢◌, ◌==◌, ℕ, ◌<◌, List, ◌∷◌, ◌++◌, length, slice_index}
use Rattle.std.specs.List.{slice_split}

-- there is no space in the text
abbrev pub HasNoSpace : List ℕ → Type 0
HasNoSpace text = (k : ℕ) → k < length text → slice_index text k ≢ 32

-- the text is its first word, one space, and the rest
pub record IsParted (text word rest : List ℕ) : Type 0 where
  pub text_is : text ≡ word ++ 32 ∷ rest
  pub no_space : HasNoSpace word

-- its first word is such a one, and so is the rest
pub record Parts (text : List ℕ) (First Rest : List ℕ → Type 0) : Type 0 where
  pub word : List ℕ
  pub rest : List ℕ
  pub parted : IsParted text word rest
  pub first : First word
  pub behind : Rest rest

-- the words of a text: each space parts two, and between two spaces in a row stands an empty one
unfoldable pub words_of : List ℕ → List (List ℕ)
words_of text = slice_split (λ byte. byte == 32) text
