-- The bytes of an image, in which all dies stand in a row (this profile).
use Rattle.std.specs.Prelude.{◌≡◌, ◌≢◌, ◌<◌, ℕ, zero, suc, Bool, true, false, List, [], ◌∷◌, ◌++◌, Option, None, length, replicate}
use Rattle.std.specs.Prelude.{IfSome, Result, Ok, Err}
use Rattle.std.specs.Io.KnownBytes.{Appends, Consumes}
use Rattle.std.specs.List.{flat_map}
use Rattle.byteorder.specs.Endian.{big_bytes}
use Rattle.ufs_spec.specs.Dies.{DieState, is_bad_block, pages_of, with_bad}
use Rattle.ufs_spec.specs.declared.flash.Page.{Page}
use Rattle.ufsim.specs.declared.image.ImageFault.{ImageFault}
use Rattle.ufsim.specs.declared.image.ImageFault.TheVariants.{Malformed}

-- a page: its data, and then its spare bytes
abbrev pub page_bytes : Page → List ℕ
page_bytes page = page.body ++ page.spare

-- the byte before the pages of a block, which says whether it is bad
abbrev pub bad_byte : Bool → ℕ
bad_byte true = 1
bad_byte false = 0

-- a block: its byte, and then its pages
abbrev pub block_bytes : DieState → ℕ → List ℕ
block_bytes die block = bad_byte (is_bad_block die block) ∷ flat_map page_bytes (pages_of die block)

-- the first blocks of a die, so many of them
abbrev pub blocks_bytes : DieState → ℕ → List ℕ
blocks_bytes die zero = []
blocks_bytes die (suc block) = blocks_bytes die block ++ block_bytes die block

-- a die: all its blocks
abbrev pub die_bytes : DieState → List ℕ
die_bytes die = blocks_bytes die (length die.blocks)

-- the first bytes: UFSIMAGE, the count of dies, a zero byte, the blocks of a die, and the pages of a block
abbrev pub head_bytes : ℕ → ℕ → ℕ → List ℕ
head_bytes dies blocks pages =
    85 ∷ 70 ∷ 83 ∷ 73 ∷ 77 ∷ 65 ∷ 71 ∷ 69 ∷ dies ∷ 0 ∷ big_bytes 2 blocks ++ big_bytes 2 pages

-- the whole image of dies
abbrev pub image_bytes : ℕ → ℕ → ℕ → List DieState → List ℕ
image_bytes dies blocks pages all = head_bytes dies blocks pages ++ flat_map die_bytes all

-- the image of some dies was added behind what was there
abbrev pub AppendsImage : Option (List ℕ) → Option (List ℕ) → Type 0
AppendsImage before after =
    (dies blocks pages : ℕ) × ((all : List DieState) × Appends before after (image_bytes dies blocks pages all))

-- ## Which bytes are an image

-- so many bytes
abbrev pub IsLong : ℕ → List ℕ → Type 0
IsLong count bytes = length bytes ≡ count

-- bytes that `First` names, and behind them such as `Rest` names
abbrev pub InTurn : (List ℕ → Type 0) → (List ℕ → Type 0) → List ℕ → Type 0
InTurn First Rest bytes = (first rest : List ℕ) × (bytes ≡ first ++ rest) × First first × Rest rest

-- so many parts in a row, each of which `Is` names
abbrev pub AreParts : (List ℕ → Type 0) → ℕ → List ℕ → Type 0
AreParts Is zero bytes = bytes ≡ []
AreParts Is (suc count) bytes = InTurn Is (AreParts Is count) bytes

-- a page: 4096 bytes of data, and 96 spare bytes
abbrev pub IsPage : List ℕ → Type 0
IsPage = InTurn (IsLong 4096) (IsLong 96)

-- a byte that is 0 or 1
abbrev pub IsBadByte : List ℕ → Type 0
IsBadByte bytes = (bad : Bool) × (bytes ≡ bad_byte bad ∷ [])

-- a block of so many pages: such a byte, and then the pages
abbrev pub IsBlock : ℕ → List ℕ → Type 0
IsBlock pages = InTurn IsBadByte (AreParts IsPage pages)

-- a die of so many such blocks
abbrev pub IsDie : ℕ → ℕ → List ℕ → Type 0
IsDie blocks pages = AreParts (IsBlock pages) blocks

-- the first bytes
abbrev pub IsHead : ℕ → ℕ → ℕ → List ℕ → Type 0
IsHead dies blocks pages bytes = bytes ≡ head_bytes dies blocks pages

-- an image of so many such dies
abbrev pub IsImage : ℕ → ℕ → ℕ → List ℕ → Type 0
IsImage dies blocks pages = InTurn (IsHead dies blocks pages) (AreParts (IsDie blocks pages) dies)

-- an image of dies of some sizes
abbrev pub IsSomeImage : List ℕ → Type 0
IsSomeImage bytes = (dies blocks pages : ℕ) × IsImage dies blocks pages bytes

-- ## What is read

-- bytes that `Is` names were read
abbrev pub Took : (List ℕ → Type 0) → Option (List ℕ) → Option (List ℕ) → Type 0
Took Is before after = (bytes : List ℕ) × Is bytes × Consumes before after bytes

-- what is left does not begin with bytes that `Is` names
abbrev pub Lacks : (List ℕ → Type 0) → Option (List ℕ) → Type 0
Lacks Is left = IfSome left (λ all. (bytes rest : List ℕ) → Is bytes → all ≡ bytes ++ rest → ⊥)

-- bytes that `Is` names were read, and what was left is told as malformed only where it does not begin with such bytes
abbrev pub Reads : {T : Type 0} → (List ℕ → Type 0) → Option (List ℕ) → Option (List ℕ) → Result T ImageFault → Type 0
Reads Is before after (Ok value) = Took Is before after
Reads Is before after (Err fault) = fault ≡ Malformed → Lacks Is before

-- ## A die that is read

-- the die where the block is bad from now on, if it is to be
abbrev pub marked : DieState → ℕ → Bool → DieState
marked die block true = with_bad die block
marked die block false = die

-- all of the die but the pages of this block is as it was
abbrev pub IsElseSame : DieState → ℕ → DieState → Type 0
IsElseSame before block after =
    (after.bad ≡ before.bad)
    × (length after.blocks ≡ length before.blocks)
    × (length (pages_of after block) ≡ length (pages_of before block))
    × ((other : ℕ) → other ≢ block → pages_of after other ≡ pages_of before other)

-- all other blocks of the die are as they were, and all have as many pages
abbrev pub IsBlockRead : DieState → ℕ → DieState → Type 0
IsBlockRead before block after =
    (length after.blocks ≡ length before.blocks)
    × ((other : ℕ) → length (pages_of after other) ≡ length (pages_of before other))
    × ((other : ℕ) → other ≢ block → is_bad_block after other ≡ is_bad_block before other)
    × ((other : ℕ) → other ≢ block → block_bytes after other ≡ block_bytes before other)
    × (length after.bad ≡ length before.bad)

-- a die of an image: so many blocks of so many pages, none of which may be programmed before an erase
abbrev pub IsOfImage : ℕ → ℕ → DieState → Type 0
IsOfImage blocks pages die =
    (length die.blocks ≡ blocks)
    × ((block : ℕ) → block < blocks → length (pages_of die block) ≡ pages)
    × (die.ready ≡ replicate (length die.ready) None)
