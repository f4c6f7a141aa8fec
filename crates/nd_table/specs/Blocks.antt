-- The dates of a table in blocks, one behind the other.
use Rattle.std.specs.Prelude.{ℕ, ◌+◌, ◌-◌, ◌*◌, ◌/◌, ◌<◌, ◌≤◌, max, zero, suc, List, [], ◌∷◌, ◌++◌, length}
use Rattle.nd_table.specs.Date.{Date}
use Rattle.nd_table.specs.declared.block.TheConstants.{BLOCK}
use Rattle.nd_table.specs.Keyed.{AllAbove, Rises}
use Rattle.nd_table.specs.Dates.{rank, AllAddresses}

-- the dates of all blocks
abbrev pub all_of : List (List Date) → List Date
all_of [] = []
all_of (b ∷ bs) = b ++ all_of bs

-- each block has room for one more date
abbrev pub AllShort : List (List Date) → Type 0
AllShort [] = Unit {0}
AllShort (b ∷ bs) = (length b < BLOCK) × AllShort bs

-- a block and the next one, if there is one, would fill a block
abbrev pub FillsWith : List Date → List (List Date) → Type 0
FillsWith b [] = Unit {0}
FillsWith b (c ∷ bs) = BLOCK ≤ length b + length c

-- any two adjacent blocks would fill a block
abbrev pub Filled : List (List Date) → Type 0
Filled [] = Unit {0}
Filled (b ∷ bs) = FillsWith b bs × Filled bs

-- what each list of blocks in use keeps: there is a first block, none is full, and no two adjacent ones could be one
pub record Kept (bs : List (List Date)) : Type 0 where
  pub some : 0 < length bs
  pub short : AllShort bs
  pub filled : Filled bs

-- the rank of the first date
abbrev pub first_rank : List Date → ℕ
first_rank [] = 0
first_rank (d ∷ ds) = rank d

-- each date has a lower rank than this
abbrev pub AllBelow : ℕ → List Date → Type 0
AllBelow k [] = Unit {0}
AllBelow k (d ∷ ds) = (rank d < k) × AllBelow k ds

-- the dates before the block at this place have lower ranks, and those behind it greater ones
abbrev pub BelongsAt : ℕ → List (List Date) → ℕ → Type 0
BelongsAt k [] i = ⊥
BelongsAt k (b ∷ bs) zero = AllAbove rank k (all_of bs)
BelongsAt k (b ∷ bs) (suc i) = AllBelow k b × BelongsAt k bs i

-- the blocks in use, and how many there are to spare
pub record Blocked : Type 0 where
  pub blocks : List (List Date)
  pub spare : ℕ

-- One block has room for one date less than fill it, and half of the blocks, rounded down, for as many as fill these. Adjacent blocks would fill a block, so
-- this many dates never need all of them, nor a second one where one has room for them.
abbrev pub EnoughFor : ℕ → Blocked → Type 0
EnoughFor room b = room ≤ max (BLOCK - 1) (BLOCK * ((length b.blocks + b.spare) / 2))

-- what a schedule with room for this many dates keeps
pub record IsPlan (room : ℕ) (b : Blocked) : Type 0 where
  pub order : Rises rank (all_of b.blocks)
  pub addresses : AllAddresses (all_of b.blocks)
  pub fits : length (all_of b.blocks) ≤ room
  pub kept : Kept b.blocks
  pub enough : EnoughFor room b
