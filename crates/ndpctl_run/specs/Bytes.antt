-- The words that stand for bytes (the texts are this project's own).
use Rattle.std.specs.Prelude.{◌≡◌, ℕ, List, [], ◌∷◌, Ok, codes}
use Rattle.hex.specs.Hex.{decode_of}

-- the word spells the bytes: `-` spells none, and else two hexadecimal digits in either case each byte
abbrev pub IsBytesWord : List ℕ → List ℕ → Type 0
IsBytesWord word [] = word ≡ codes "-"
IsBytesWord word (byte ∷ bytes) = decode_of word ≡ Ok (byte ∷ bytes)
