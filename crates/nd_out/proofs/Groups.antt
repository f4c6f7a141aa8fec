-- The groups of an address whose last bytes may be missing: those of the bytes with zeros in their place.
use Rattle.std.proofs.Common.{◌≡◌, ℕ, ◌+◌, ◌-◌, ◌<◌, List, get_or, drop, sym, ◌∙◌, arith}
use Rattle.std.specs.List.{slice_range}
use Rattle.std.proofs.lemmas.List.{get_or-drop, get_or-take}
use Rattle.nd_addr.specs.Text.{group_at, groups_of}

-- a group of the same two bytes
group_alike : (a b : List ℕ) → ((k : ℕ) → k < 16 → get_or a k 0 ≡ get_or b k 0) → (i : ℕ) → i + 1 < 16 → group_at a i ≡ group_at b i
group_alike a b same i h =
    let first : get_or (drop i a) 0 0 ≡ get_or (drop i b) 0 0 = get_or-drop i a 0 0 ∙ same (i + 0) (omega arith) ∙ sym (get_or-drop i b 0 0) in
    let second : get_or (drop i a) 1 0 ≡ get_or (drop i b) 1 0 = get_or-drop i a 1 0 ∙ same (i + 1) h ∙ sym (get_or-drop i b 1 0) in
    cc

-- the same of eight groups
pub groups_alike : (a b : List ℕ) → ((k : ℕ) → k < 16 → get_or a k 0 ≡ get_or b k 0) → groups_of a ≡ groups_of b
groups_alike a b same =
    let g0 : group_at a 0 ≡ group_at b 0 = group_alike a b same 0 (omega arith) in
    let g2 : group_at a 2 ≡ group_at b 2 = group_alike a b same 2 (omega arith) in
    let g4 : group_at a 4 ≡ group_at b 4 = group_alike a b same 4 (omega arith) in
    let g6 : group_at a 6 ≡ group_at b 6 = group_alike a b same 6 (omega arith) in
    let g8 : group_at a 8 ≡ group_at b 8 = group_alike a b same 8 (omega arith) in
    let g10 : group_at a 10 ≡ group_at b 10 = group_alike a b same 10 (omega arith) in
    let g12 : group_at a 12 ≡ group_at b 12 = group_alike a b same 12 (omega arith) in
    let g14 : group_at a 14 ≡ group_at b 14 = group_alike a b same 14 (omega arith) in
    cc

-- a byte of a part of a list
pub part_at : (xs : List ℕ) (place k : ℕ) → k < 16 → get_or (slice_range xs place (place + 16)) k 0 ≡ get_or xs (place + k) 0
part_at xs place k h =
    let n : place + 16 - place ≡ 16 = omega arith in
    rw n (get_or-take 16 (drop place xs) k 0 h ∙ get_or-drop place xs k 0)
