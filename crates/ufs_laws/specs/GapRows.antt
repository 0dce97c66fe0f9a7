-- The worked rows of a gap: three writes follow a first mark, of which the second is torn; the third stands there whole
-- and is not kept. What the next life makes of it: a mark with a fence, a repair, a mark without one, and a write.
use Rattle.std.specs.Prelude.{◌≡◌, ℕ, List, [], ◌∷◌, Some, None, if◌then◌else◌, replicate}
use Rattle.ufs_spec.specs.Cells.{Cell, Cells, GroupPage, Mark, MarkPage, Nothing, same_place}
use Rattle.ufs_spec.specs.Plain.{zero_block}
use Rattle.ufs_spec.specs.declared.configs.Numbers.{Numbers}
use Rattle.ufs_spec.specs.declared.flash.Place.{Place}

-- Cells by list

-- a cell with the place where it stands
pub record Standing : Type 0 where
  pub place : Place
  pub cell : Cell

-- nothing stands at a place that the list does not name
abbrev pub cells_of : List Standing → Cells
cells_of [] p = Nothing
cells_of (s ∷ rest) p = if same_place s.place p then s.cell else cells_of rest p

-- a cell at the place of this die, block and page
abbrev pub at : ℕ → ℕ → ℕ → Cell → Standing
at die block page cell = record { place = record { die = die; block = block; page = page }; cell = cell }

-- Pages

-- a block of which each byte is this one
unfoldable pub block_of : ℕ → List ℕ
block_of byte = replicate 4096 byte

-- a write of one block at an address of unit 0: its number, its address, the frontier that it records, and the block
abbrev pub write_page : ℕ → ℕ → ℕ → List ℕ → Cell
write_page number address frontier body =
    GroupPage (record {
      kind = 1;
      unit = 0;
      address = address;
      number = number;
      index = 0;
      size = 1;
      frontier = frontier;
    }) body

-- the mark of a new device
abbrev pub first_mark : Numbers → Mark
first_mark n = record { number = 1; records = 0; fence = None; numbers = n }

-- the mark that fences the second and the third write
abbrev pub fence_mark : Numbers → Mark
fence_mark n = record { number = 2; records = 3; fence = Some (record { first = 2; last = 3 }); numbers = n }

-- the mark after the repair: it has no fence, and records the number of the repair
abbrev pub last_mark : Numbers → Mark
last_mark n = record { number = 3; records = 4; fence = None; numbers = n }

-- Arrays

-- 4 dies of 16 blocks of 64 pages
pub record HasSize (n : Numbers) : Type 0 where
  pub dies : n.dies ≡ 4
  pub blocks : n.blocks ≡ 16
  pub pages : n.pages ≡ 64

-- after the stop: the second write, at die 1, is torn
abbrev pub gap_pages : Numbers → List Standing
gap_pages n =
    at 0 0 0 (MarkPage (first_mark n))
    ∷ at 0 0 1 (write_page 1 0 0 (block_of 0x11))
    ∷ at 2 0 0 (write_page 3 2 0 (block_of 0x33))
    ∷ []

-- the pages of all dies after that stop: number 2 is missing
abbrev pub gap : Numbers → Cells
gap n = cells_of (gap_pages n)

-- the next life has written the mark with the fence
abbrev pub fenced_pages : Numbers → List Standing
fenced_pages n = at 0 1 0 (MarkPage (fence_mark n)) ∷ gap_pages n

-- the pages of all dies once the mark with the fence is finished
abbrev pub gap_fenced : Numbers → Cells
gap_fenced n = cells_of (fenced_pages n)

-- it has written the repair of address 2, the mark without a fence, and a write at address 3
abbrev pub write_pages : Numbers → List Standing
write_pages n =
    at 1 1 0 (write_page 4 2 3 zero_block)
    ∷ at 2 1 0 (MarkPage (last_mark n))
    ∷ at 3 1 0 (write_page 5 3 4 (block_of 0x44))
    ∷ fenced_pages n

-- the pages of all dies once the gap is mended and the new write is finished
abbrev pub gap_then_write : Numbers → Cells
gap_then_write n = cells_of (write_pages n)
