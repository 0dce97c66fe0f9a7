-- Which blocks with something in them are free when a device is opened: those of which no page is needed any more, gone
-- through by age (this profile).
use Rattle.std.specs.Prelude.{◌≡◌, ◌≢◌, ◌⊎◌, ◌+◌, ◌*◌, ℕ, ◌<◌, ◌≤◌, ◌&&◌, Bool, true, false, List, Option, Some, None}
use Rattle.std.specs.Prelude.{if◌then◌else◌, length, nat_lt, not, slice_get, slice_index_or}
use Rattle.ufs_spec.specs.Cells.{key_of}
pub use Rattle.ufs_spec.specs.Openings.{IsLatestIn, IsLowerSpot, IsOlder, Overwrites, recorded_by}
pub use Rattle.power_loss.specs.FreeBlocks.{AreFoundFree, HasCopyOutside, IsItOrFoundFree, IsOverwrittenIn, MayGoWith}
use Rattle.ufs_spec.specs.Disk.{Spot}
use Rattle.ufs_spec.specs.Plain.{Shape}
use Rattle.ufs_spec.specs.declared.configs.Numbers.{Numbers}
use Rattle.ufs_spec.specs.declared.flash.Fence.{Fence}
use Rattle.ufs_spec.specs.declared.flash.Place.{Place}
use Rattle.ufs_spec.specs.declared.flash.Tag.{Tag}
use Rattle.geometry.specs.Keys.{IsIndex}
use Rattle.recovery.specs.KeysInOrder.{is_fenced}
use Rattle.recovery.specs.declared.free.Aged.{Aged}
use Rattle.recovery.specs.declared.pages.FoundMark.{FoundMark}
use Rattle.recovery.specs.declared.pages.FoundPage.{FoundPage}

-- ## Lists with something for each block

-- where the block of the place stands in a list of all blocks, die by die
abbrev pub block_number : ℕ → Place → ℕ
block_number blocks p = p.die * blocks + p.block

-- where the page stands so
abbrev pub block_of : ℕ → FoundPage → ℕ
block_of blocks e = block_number blocks e.place

-- whether the list says of no free block that the page lies in it
abbrev pub is_outside : ℕ → List Bool → FoundPage → Bool
is_outside blocks free e = not (slice_index_or free (block_of blocks e) false)

-- the same of a block
abbrev pub spot_number : ℕ → Spot → ℕ
spot_number blocks s = s.die * blocks + s.block

-- whether the block lies on the dies
abbrev pub has_spot : Numbers → Spot → Bool
has_spot n s = nat_lt s.die n.dies && nat_lt s.block n.blocks

-- whether the block is free by a list with an answer for each block. Outside the dies, where nothing is, each is that is
-- not bad
abbrev pub is_free_in : Numbers → (Spot → Bool) → List Bool → Spot → Bool
is_free_in n bad items s =
    if has_spot n s then slice_index_or items (spot_number n.blocks s) false else not (bad s)

-- ## What blocks record

-- one of the first pages of the list, in this block, records the frontier
abbrev pub PagesRecord : ℕ → List FoundPage → ℕ → ℕ → ℕ → Type 0
PagesRecord blocks pages n block x =
    (i : ℕ) × (e : FoundPage)
    × (i < n) × (slice_get pages i ≡ Some e) × (block_of blocks e ≡ block) × (e.tag.frontier ≡ x)

-- one of the first marks of the list, in this block, records it
abbrev pub MarksRecord : ℕ → List FoundMark → ℕ → ℕ → ℕ → Type 0
MarksRecord blocks marks n block x =
    (i : ℕ) × (e : FoundMark)
    × (i < n) × (slice_get marks i ≡ Some e) × (block_number blocks e.place ≡ block) × (e.records ≡ x)

-- for each block the greatest of what it is told to record; 0 if that is nothing
pub record AreGreatest (Records : ℕ → ℕ → Type 0) (latests : List ℕ) : Type 0 where
  pub within : (k x : ℕ) → slice_get latests k ≡ Some x → (y : ℕ) → Records k y → y ≤ x
  pub reached : (k x : ℕ) → slice_get latests k ≡ Some x → (x ≡ 0) ⊎ Records k x

-- what all pages and the first marks record
abbrev pub RecordsUpTo : ℕ → List FoundPage → List FoundMark → ℕ → ℕ → ℕ → Type 0
RecordsUpTo blocks pages marks n block x =
    PagesRecord blocks pages (length pages) block x ⊎ MarksRecord blocks marks n block x

-- the first blocks in their own order, each with what it records last
pub record AreAged (latests : List ℕ) (n : ℕ) (order : List Aged) : Type 0 where
  pub long : length order ≡ n
  pub each : (k : ℕ) (a : Aged) → slice_get order k ≡ Some a →
      (a.block ≡ k) × (slice_get latests k ≡ Some a.latest)

-- the blocks from the oldest on: each with what it records last, and of those that record as much the lower first
pub record AreByAge (latests : List ℕ) (order : List Aged) : Type 0 where
  pub each : (i : ℕ) (a : Aged) → slice_get order i ≡ Some a → slice_get latests a.block ≡ Some a.latest
  pub all : (k x : ℕ) → slice_get latests k ≡ Some x →
      (i : ℕ) × (slice_get order i ≡ Some (record { latest = x; block = k }))
  pub rising : (i j : ℕ) (a b : Aged) → slice_get order i ≡ Some a → slice_get order j ≡ Some b → i ≤ j →
      (a.latest < b.latest) ⊎ ((a.latest ≡ b.latest) × (a.block ≤ b.block))

-- ## Blocks that are held whatever their pages of groups are

-- which blocks are bad, or hold one of the first marks of the list with a number that is not below this one
pub record AreHeld (blocks : ℕ) (bad : List Bool) (marks : List FoundMark) (n number : ℕ) (held : List Bool) : Type 0
  where
    pub long : length held ≡ length bad
    pub holds : (k : ℕ) → slice_get held k ≡ Some true →
        (slice_get bad k ≡ Some true)
        ⊎ ((i : ℕ) × (e : FoundMark)
        × (slice_get marks i ≡ Some e) × (block_number blocks e.place ≡ k) × (number ≤ e.number))
    pub lets_go : (k : ℕ) → slice_get held k ≡ Some false →
        (slice_get bad k ≡ Some false)
        × ((i : ℕ) (e : FoundMark) → i < n → slice_get marks i ≡ Some e → block_number blocks e.place ≡ k →
        e.number < number)

-- which blocks are not bad and hold none of the first pages
pub record AreUnused (blocks : ℕ) (bad : List Bool) (pages : List FoundPage) (n : ℕ) (free : List Bool) : Type 0 where
  pub long : length free ≡ length bad
  pub unused : (k : ℕ) → slice_get free k ≡ Some true →
      (slice_get bad k ≡ Some false)
      × ((i : ℕ) (e : FoundPage) → i < n → slice_get pages i ≡ Some e → block_of blocks e ≢ k)
  pub used : (k : ℕ) → slice_get free k ≡ Some false →
      (slice_get bad k ≡ Some true)
      ⊎ ((i : ℕ) × (e : FoundPage) × (slice_get pages i ≡ Some e) × (block_of blocks e ≡ k))

-- ## Blocks of which a page opens

-- which blocks hold one of the first pages, or one of the first marks
pub record AreOpening (blocks : ℕ) (pages : List FoundPage) (n : ℕ) (marks : List FoundMark) (m : ℕ)
    (opening : List Bool) : Type 0 where
  pub opens : (k : ℕ) → slice_get opening k ≡ Some true →
      ((i : ℕ) × (e : FoundPage) × (slice_get pages i ≡ Some e) × (block_of blocks e ≡ k))
      ⊎ ((i : ℕ) × (e : FoundMark) × (slice_get marks i ≡ Some e) × (block_number blocks e.place ≡ k))
  pub holds_none : (k : ℕ) → slice_get opening k ≡ Some false →
      ((i : ℕ) (e : FoundPage) → i < n → slice_get pages i ≡ Some e → block_of blocks e ≢ k)
      × ((i : ℕ) (e : FoundMark) → i < m → slice_get marks i ≡ Some e → block_number blocks e.place ≢ k)

-- ## Pages that are needed

-- the page of the key is newer than one with this tag
abbrev pub is_older : Tag → Option FoundPage → Bool
is_older t None = false
is_older t (Some e) = nat_lt t.number e.tag.number

-- a page with this tag is needed, where this one is the newest of its key that is recorded and counts: its number is not
-- in the fence, and it is not older
abbrev pub is_needed : Option Fence → Tag → Option FoundPage → Bool
is_needed fence t newest = not (is_fenced fence t.number) && not (is_older t newest)

-- what is told of a page with this tag is whether it is needed, by the newest page of each key
abbrev pub TellsNeed : Shape → Option Fence → List (Option FoundPage) → Tag → Bool → Type 0
TellsNeed s fence contents t told =
    (i : ℕ) (e : Option FoundPage) → IsIndex s (key_of t) i → slice_get contents i ≡ Some e →
    told ≡ is_needed fence t e

-- for each of the first pages whether it is needed
abbrev pub AreNeeded : Shape → Option Fence → List (Option FoundPage) → List FoundPage → ℕ → List Bool → Type 0
AreNeeded s fence contents pages n needed =
    (i : ℕ) (e : FoundPage) → i < n → slice_get pages i ≡ Some e →
    (told : Bool) × (slice_get needed i ≡ Some told) × TellsNeed s fence contents e.tag told

-- ## Copies

-- the same pages in another order
pub record AreSamePages (pages named : List FoundPage) : Type 0 where
  pub each : (i : ℕ) (e : FoundPage) → slice_get named i ≡ Some e → (j : ℕ) × (slice_get pages j ≡ Some e)
  pub all : (i : ℕ) (e : FoundPage) → slice_get pages i ≡ Some e → (j : ℕ) × (slice_get named j ≡ Some e)

-- the numbers of what stands in the list never fall
abbrev pub AreRising : {X : Type 0} → (X → ℕ) → List X → Type 0
AreRising {X} of xs =
    (i j : ℕ) (a b : X) → slice_get xs i ≡ Some a → slice_get xs j ≡ Some b → i ≤ j → of a ≤ of b

-- what stands before this place in the list has a smaller number, and what stands from it on has none that is smaller
pub record IsCutAt {X : Type 0} (of : X → ℕ) (xs : List X) (x at : ℕ) : Type 0 where
  pub before : (i : ℕ) (e : X) → slice_get xs i ≡ Some e → i < at → of e < x
  pub behind : (i : ℕ) (e : X) → slice_get xs i ≡ Some e → at ≤ i → x ≤ of e

-- the first is a page of the second's name in another block
pub record IsElsewhere (blocks : ℕ) (q e : FoundPage) : Type 0 where
  pub number : q.tag.number ≡ e.tag.number
  pub index : q.tag.index ≡ e.tag.index
  pub apart : block_of blocks q ≢ block_of blocks e

-- another page of the group is one of the same index in another block that is not free by this list
pub record IsKeptCopy (blocks : ℕ) (free : List Bool) (q e : FoundPage) : Type 0 where
  pub index : q.tag.index ≡ e.tag.index
  pub apart : block_of blocks q ≢ block_of blocks e
  pub stays : slice_index_or free (block_of blocks q) false ≡ false

-- a page of this name stands in another block that is not free by this list
abbrev pub HasOther : ℕ → List FoundPage → List Bool → FoundPage → Type 0
HasOther blocks named free e =
    (i : ℕ) × (q : FoundPage)
    × (slice_get named i ≡ Some q) × (q.tag.number ≡ e.tag.number) × IsKeptCopy blocks free q e

-- the first block is older by what blocks record
abbrev pub IsBefore : List ℕ → ℕ → ℕ → Type 0
IsBefore latests a b =
    (x : ℕ) × (y : ℕ)
    × (slice_get latests a ≡ Some x) × (slice_get latests b ≡ Some y) × ((x < y) ⊎ ((x ≡ y) × (a < b)))

-- a page of this name stands in another block that is not both free and older
abbrev pub HasOtherThen : ℕ → List ℕ → List FoundPage → List Bool → FoundPage → Type 0
HasOtherThen blocks latests named free e =
    (i : ℕ) × (q : FoundPage)
    × (slice_get named i ≡ Some q) × IsElsewhere blocks q e
    × (slice_index_or free (block_of blocks q) false ≡ true → IsBefore latests (block_of blocks q) (block_of blocks e)
    → ⊥)

-- the page stands there in the list, is needed, and lies in the block
pub record IsNeededIn (blocks : ℕ) (pages : List FoundPage) (needed : List Bool) (block i : ℕ) (e : FoundPage) : Type 0
  where
    pub there : slice_get pages i ≡ Some e
    pub needed_there : slice_get needed i ≡ Some true
    pub inside : block_of blocks e ≡ block

-- ## The rule at work

-- what the list says of one block is right: it is free if it is not held and each needed page in it has another, and
-- else it is held or one of them has none
pub record IsDecided (blocks : ℕ) (latests : List ℕ) (held : List Bool) (pages : List FoundPage) (needed : List Bool)
    (named : List FoundPage) (free : List Bool) (k : ℕ) : Type 0 where
  pub goes : slice_get free k ≡ Some true →
      (slice_get held k ≡ Some false)
      × ((i : ℕ) (e : FoundPage) → IsNeededIn blocks pages needed k i e → HasOtherThen blocks latests named free e)
  pub stays : slice_get free k ≡ Some false →
      (slice_get held k ≡ Some true)
      ⊎ ((i : ℕ) × (e : FoundPage)
      × IsNeededIn blocks pages needed k i e × (HasOtherThen blocks latests named free e → ⊥))

-- what the list says of each block is right
abbrev pub AreDecided : ℕ → List ℕ → List Bool → List FoundPage → List Bool → List FoundPage → List Bool → Type 0
AreDecided blocks latests held pages needed named free =
    (k x : ℕ) → slice_get latests k ≡ Some x → IsDecided blocks latests held pages needed named free k
