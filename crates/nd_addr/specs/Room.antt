-- Bytes that are put at the end of a `Vec`, into room that is there.
use Rattle.std.specs.Prelude.{◌≡◌, ℕ, ◌+◌, ◌≤◌, List, ◌++◌, length, vec_len, vec_capacity}
use Rattle.std.specs.declared.vec.Vec.{Vec}

-- room for so many bytes more
abbrev pub HasRoom : {A : Type 0} → Vec ℕ A → ℕ → Type 0
HasRoom out more = vec_len out + more ≤ vec_capacity out

-- the bytes stand behind what was there, and no room was given up
abbrev pub Puts : {A : Type 0} → Vec ℕ A → Vec ℕ A → List ℕ → Type 0
Puts old new bytes = (new.items ≡ old.items ++ bytes) × (vec_len new ≡ vec_len old + length bytes) × (vec_capacity old ≤ vec_capacity new)
