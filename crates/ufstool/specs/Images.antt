-- The bytes of an image, in which all dies stand in a row (this profile).
use Rattle.std.specs.Prelude.{◌≡◌, ◌<◌, ◌≤◌, ◌+◌, ◌*◌, ℕ, List, ◌∷◌, ◌++◌, Option, length, slice_index, take, ⊤}
use Rattle.std.specs.Io.KnownBytes.{Consumes}
use Rattle.byteorder.specs.Endian.{big_bytes}
use Rattle.ufstool.specs.declared.images.ImageFault.{ImageFault}
use Rattle.ufstool.specs.declared.images.ImageFault.TheVariants.{File, Malformed, Output}
use Rattle.ufstool.specs.declared.images.Sizes.{Sizes}
use Rattle.ufstool.specs.declared.images.Trouble.{Trouble}
use Rattle.ufstool.specs.declared.images.Trouble.TheVariants.{Short}

-- the fourteen bytes before the dies: UFSIMAGE, the count of dies, a zero byte, the blocks of a die, and the pages of a
-- block
abbrev pub head_bytes : Sizes → List ℕ
head_bytes s =
    85 ∷ 70 ∷ 83 ∷ 73 ∷ 77 ∷ 65 ∷ 71 ∷ 69 ∷ s.dies ∷ 0 ∷ big_bytes 2 s.blocks ++ big_bytes 2 s.pages

-- what a device may have
pub record AreInRange (s : Sizes) : Type 0 where
  pub some_dies : 1 ≤ s.dies
  pub few_dies : s.dies ≤ 8
  pub some_blocks : 16 ≤ s.blocks
  pub few_blocks : s.blocks ≤ 1024
  pub some_pages : 16 ≤ s.pages
  pub few_pages : s.pages ≤ 256

-- how many bytes the pages of a block have, each with 4096 of data and 96 spare ones
abbrev pub pages_length : Sizes → ℕ
pages_length s = s.pages * 4192

-- how many blocks all dies have
abbrev pub block_count : Sizes → ℕ
block_count s = s.dies * s.blocks

-- where a block begins, counted over all dies: with a byte that says whether it is bad, and behind it are its pages
abbrev pub block_place : Sizes → ℕ → ℕ
block_place s number = 14 + number * (1 + pages_length s)

-- how many bytes the image has
abbrev pub image_length : Sizes → ℕ
image_length s = block_place s (block_count s)

-- each of the first blocks, so many of them, begins with 0, or with 1 if it is bad
abbrev pub AreTold : Sizes → ℕ → List ℕ → Type 0
AreTold s count bytes = (number : ℕ) → number < count → slice_index bytes (block_place s number) ≤ 1

-- the bytes are an image of dies of these sizes
pub record IsImage (s : Sizes) (bytes : List ℕ) : Type 0 where
  pub head : take 14 bytes ≡ head_bytes s
  pub in_range : AreInRange s
  pub long : length bytes ≡ image_length s
  pub told : AreTold s (block_count s) bytes

-- where an image is wrong: one that is too short at its end, else at one of its bytes
abbrev pub IsPlace : Trouble → ℕ → List ℕ → Type 0
IsPlace (Short needed) place bytes = place ≡ length bytes
IsPlace trouble place bytes = place < length bytes

-- what is told of bytes that are malformed: the place, and that they are no image of any sizes
pub record IsTold (trouble : Trouble) (place : ℕ) (bytes : List ℕ) : Type 0 where
  pub stands : IsPlace trouble place bytes
  pub no_image : (s : Sizes) → IsImage s bytes → ⊥

-- what a fault says of the bytes
abbrev pub IsFault : ImageFault → List ℕ → Type 0
IsFault (Malformed place trouble) bytes = IsTold trouble place bytes
IsFault File bytes = ⊤
IsFault Output bytes = ⊤

-- where a head is wrong that is none: one that is cut off at its end, else at one of its bytes
abbrev pub IsHeadPlace : Trouble → ℕ → List ℕ → Type 0
IsHeadPlace (Short needed) place head = (place ≡ length head) × (length head < 14)
IsHeadPlace trouble place head = place < length head

-- a fault of a head: it has its place, and the head is that of no sizes
abbrev pub IsHeadFault : ImageFault → List ℕ → Type 0
IsHeadFault (Malformed place trouble) head =
    IsHeadPlace trouble place head × ((s : Sizes) → AreInRange s → head ≡ head_bytes s → ⊥)
IsHeadFault fault head = ⊥

-- while it is read: the head and the first blocks came, so many of them, and they are right
pub record IsReadTo (s : Sizes) (count : ℕ) (start now : Option (List ℕ)) : Type 0 where
  pub seen : List ℕ
  pub consumed : Consumes start now seen
  pub long : length seen ≡ block_place s count
  pub head : take 14 seen ≡ head_bytes s
  pub told : AreTold s count seen
