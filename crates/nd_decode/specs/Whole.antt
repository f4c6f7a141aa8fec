-- Bytes as pieces, each an option with its type and its length (RFC 4861, section 4.6), and where they are whole.
use Rattle.std.specs.Prelude.{ℕ, zero, suc, ◌*◌, Bool, ◌&&◌, nat_le, List, length, drop, slice_index, if◌then◌else◌}

-- how many bytes the first piece has
abbrev pub piece_length : List ℕ → ℕ
piece_length bytes = 8 * slice_index bytes 1

-- the bytes begin with a whole piece
abbrev pub begins_whole : List ℕ → Bool
begins_whole bytes = nat_le 2 (length bytes) && nat_le 1 (slice_index bytes 1) && nat_le (piece_length bytes) (length bytes)

-- the bytes from the first option that is not whole, behind at most n
abbrev pub rest_from : ℕ → List ℕ → List ℕ
rest_from zero bytes = bytes
rest_from (suc n) bytes = if begins_whole bytes then rest_from n (drop (piece_length bytes) bytes) else bytes

-- the bytes from the first option that is not whole
unfoldable pub rest_in : List ℕ → List ℕ
rest_in bytes = rest_from (length bytes) bytes
