-- Reading groups as functions of the text, which decide the relations of `Spelling`.
use Rattle.std.specs.Prelude.{ℕ, zero, suc, ◌+◌, ◌-◌, ◌&&◌, ◌==◌, nat_le, nat_lt, nat_eq, List, [], ◌∷◌, ◌++◌, length, take, drop, slice_index, replicate, Option, Some, None, Bool, true, if◌then◌else◌}
use Rattle.std.specs.Option.{option_map}
use Rattle.std.specs.Char.{digit_value}
use Rattle.std.specs.Str.Parse.{digits_value}

-- the bytes before the first colon
abbrev pub word_of : List ℕ → List ℕ
word_of [] = []
word_of (b ∷ bytes) = if b == 58 then [] else b ∷ word_of bytes

-- the bytes behind the first colon
abbrev pub behind_of : List ℕ → Option (List ℕ)
behind_of [] = None
behind_of (b ∷ bytes) = if b == 58 then Some bytes else behind_of bytes

abbrev pub all_digits : List ℕ → Bool
all_digits [] = true
all_digits (b ∷ bytes) = nat_lt (digit_value b) 16 && all_digits bytes

-- the group that a word spells
abbrev pub group_of : List ℕ → Option ℕ
group_of word = if nat_le 1 (length word) && nat_le (length word) 4 && all_digits word then Some (digits_value 16 word) else None

abbrev pub group_before : Option ℕ → Option (List ℕ) → Option (List ℕ)
group_before (Some group) (Some groups) = Some (group ∷ groups)
group_before (Some group) None = None
group_before None groups = None

-- the groups behind a colon, and none where there is none
abbrev pub groups_after : (List ℕ → Option (List ℕ)) → Option (List ℕ) → Option (List ℕ)
groups_after read None = Some []
groups_after read (Some rest) = read rest

-- the groups that a text spells, n of them at most
unfoldable pub groups_within : ℕ → List ℕ → Option (List ℕ)
groups_within zero text = None
groups_within (suc n) text = group_before (group_of (word_of text)) (groups_after (groups_within n) (behind_of text))

-- some groups, and those that follow
abbrev pub groups_and : List ℕ → Option (List ℕ) → Option (List ℕ)
groups_and before None = None
groups_and before (Some groups) = Some (before ++ groups)

-- where the first two colons are
abbrev pub gap_at : List ℕ → Option ℕ
gap_at [] = None
gap_at (a ∷ bytes) = if a == 58 && slice_index bytes 0 == 58 then Some 0 else option_map suc (gap_at bytes)

-- the groups that a text spells, of which there may be none
abbrev pub some_groups : List ℕ → Option (List ℕ)
some_groups text = if nat_eq (length text) 0 then Some [] else groups_within 8 text

abbrev pub all_eight : Option (List ℕ) → Option (List ℕ)
all_eight None = None
all_eight (Some groups) = if nat_eq (length groups) 8 then Some groups else None

-- the groups before a gap and behind it, with zeros between them
abbrev pub around_gap : Option (List ℕ) → Option (List ℕ) → Option (List ℕ)
around_gap (Some before) (Some after) = if nat_le (length before + length after) 7 then Some (before ++ replicate (8 - (length before + length after)) 0 ++ after) else None
around_gap (Some before) None = None
around_gap None after = None

abbrev pub groups_by : Option ℕ → List ℕ → Option (List ℕ)
groups_by None text = all_eight (groups_within 8 text)
groups_by (Some place) text = around_gap (some_groups (take place text)) (some_groups (drop (place + 2) text))

-- the groups of the address that a text spells
unfoldable pub address_groups : List ℕ → Option (List ℕ)
address_groups text = groups_by (gap_at text) text
