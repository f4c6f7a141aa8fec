-- The text of a domain name in an array (RFC 1035, section 2.3.1).
use Rattle.std.specs.Prelude.{ℕ, ◌-◌, List, ◌++◌, length, replicate}

-- a text, and zeros up to 256 bytes
abbrev pub padded : List ℕ → List ℕ
padded text = text ++ replicate (256 - length text) 0
