-- Reading a name as functions of the bytes, which decide the relations of `Name`.
use Rattle.std.specs.Prelude.{ℕ, zero, suc, ◌+◌, ◌-◌, Bool, true, false, ◌&&◌, not, nat_eq, nat_le, nat_lt, List, [], ◌∷◌, length, slice_index, if◌then◌else◌}
use Rattle.std.specs.Char.{is_ascii_uppercase, to_ascii_lowercase}
use Rattle.nd_search_list.specs.Label.{is_sign}

-- How many bytes whole labels have in front of some bytes, where so many came before and so many of a label are still to come. Where
-- a label has another byte or runs out, it is 0.
abbrev pub labels_from : ℕ → ℕ → List ℕ → ℕ
labels_from before left [] = if nat_eq left 0 then before else 0
labels_from before left (byte ∷ bytes) =
    if nat_eq left 0 then
    (if nat_le 1 byte && nat_le byte 63 then labels_from (before + 1) byte bytes else before)
    else (if is_sign byte then labels_from (before + 1) (left - 1) bytes else 0)

-- the same where the first label begins
unfoldable pub labels_length : List ℕ → ℕ
labels_length bytes = labels_from 0 0 bytes

-- how many bytes the labels of the first name have, before its zero byte; 0 where the bytes begin with none
unfoldable pub name_length : List ℕ → ℕ
name_length bytes =
    if nat_le (labels_length bytes) 254 && nat_lt (labels_length bytes) (length bytes) && nat_eq (slice_index bytes (labels_length bytes)) 0
    then labels_length bytes else 0

-- zeros to the end
abbrev pub are_zeros : List ℕ → Bool
are_zeros [] = true
are_zeros (byte ∷ bytes) = nat_eq byte 0 && are_zeros bytes

-- How many bytes there are before the first zero byte in the place of a label's length, where so many bytes of a label are still to come. The
-- bytes of a label are passed over.
abbrev pub end_from : ℕ → List ℕ → ℕ
end_from left [] = 0
end_from zero (byte ∷ bytes) = if nat_eq byte 0 then 0 else end_from byte bytes + 1
end_from (suc left) (byte ∷ bytes) = end_from left bytes + 1

-- no capital letters
abbrev pub are_small : List ℕ → Bool
are_small [] = true
are_small (byte ∷ bytes) = not (is_ascii_uppercase byte) && are_small bytes

-- the labels of a name and nothing behind them
unfoldable pub is_spelled : List ℕ → Bool
is_spelled bytes = nat_le 1 (length bytes) && nat_le (length bytes) 254 && nat_eq (labels_length bytes) (length bytes)

-- a name in small letters
abbrev pub is_name : List ℕ → Bool
is_name bytes = is_spelled bytes && are_small bytes

-- the bytes in small letters are the others
abbrev pub lowers_to : List ℕ → List ℕ → Bool
lowers_to [] [] = true
lowers_to [] (other ∷ others) = false
lowers_to (byte ∷ bytes) [] = false
lowers_to (byte ∷ bytes) (other ∷ others) = nat_eq (to_ascii_lowercase byte) other && lowers_to bytes others
