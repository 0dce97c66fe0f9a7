-- What the calls of the layer tell of the layer that is specified.
use Rattle.std.specs.Prelude.{◌≡◌, ℕ, ◌+◌, ◌==◌, ◌||◌, Bool, true, false, List, [], ◌∷◌, Contains}
use Rattle.std.specs.Prelude.{find, length, map, slice_get, None, Option, Some}
use Rattle.std.specs.List.{list_any}
use Rattle.ufs_spec.specs.Keys.{Group, Item, below}
use Rattle.ufs_spec.specs.Ledger.{all_contents}
use Rattle.ufs_spec.specs.Moves.{Keep, Move, is_pin_of, look_now}
use Rattle.ufs_spec.specs.Translation as layer
use Rattle.ufs_spec.specs.Translation.{FromPage, Translation, is_in_part}
use Rattle.ufs_spec.specs.declared.flash.Key.{Key}
use Rattle.ufs_spec.specs.declared.flash.Place.{Place}
use Rattle.ufs_spec.specs.declared.layer.Looked.{Looked}
use Rattle.ufs_spec.specs.declared.layer.Looked.TheVariants.{OnPage}
use Rattle.ufs_spec.specs.declared.layer.Name.{Name}
use Rattle.ufs_spec.specs.declared.layer.Reader.{Reader}
use Rattle.ufs_spec.specs.declared.layer.Reader.TheVariants.{ForNobody, ForRest, ForStep, ForTask}
use Rattle.write_cache.specs.declared.slots.Claimed.{Claimed}
use Rattle.write_cache.specs.Rests.{with_part_of}
use Rattle.ftl_core.specs.declared.books.Brought.{Brought}

-- the pin is one of this reader
abbrev pub keeps_for : ℕ → layer.Pin → Bool
keeps_for reader pin = pin.tag == reader

-- where the pin looks
abbrev pub looked_of : layer.Pin → Looked
looked_of pin = pin.looked

-- whether the page of what a reader keeps of a block is still to be read, if it keeps something
abbrev pub is_page_wanted : Option layer.Pin → Bool
is_page_wanted None = false
is_page_wanted (Some pin) = pin.wanted

-- the reader keeps the page there and waits for it
pub record IsAwaited (t : Translation) (tag index : ℕ) (place : Place) : Type 0 where
  pub pin : layer.Pin
  pub kept : find (is_pin_of tag index) t.pins ≡ Some pin
  pub wanted : pin.wanted ≡ true
  pub name : Name
  pub looks : pin.looked ≡ OnPage name place

-- a read in flight is for a reader who waits for it, for the step under way, for nobody, or for a rest that is owed
abbrev pub IsReadOf : Translation → Place → Reader → Type 0
IsReadOf t place (ForTask tag index) = IsAwaited t tag index place
IsReadOf t place ForStep = Unit {0}
IsReadOf t place ForNobody = Unit {0}
IsReadOf t place (ForRest number index) =
    Contains t.work.rests (record { name = record { number = number; index = index }; source = FromPage place })

-- no block of a reader is kept twice
abbrev pub PinsDiffer : List layer.Pin → Type 0
PinsDiffer [] = Unit {0}
PinsDiffer (pin ∷ pins) = (list_any (is_pin_of pin.tag pin.index) pins ≡ false) × PinsDiffer pins

-- the address that lies so many behind this one
abbrev pub key_behind : Key → ℕ → Key
key_behind k i = record { kind = k.kind; unit = k.unit; address = k.address + i }

-- a reader keeps one of its pages, of those from an address on: what its address has now. All are wanted at once, or
-- the first alone
abbrev pub keep_at : Translation → ℕ → Key → Bool → ℕ → Move
keep_at t reader k all i =
    Keep (key_behind k i)
    (record { tag = reader; index = i; looked = look_now t (key_behind k i); wanted = all || (i == 0) })

-- the moves by which a reader keeps so many blocks, from an address on: the first is wanted
abbrev pub keeps_of : Translation → ℕ → Key → ℕ → List Move
keeps_of t reader k n = map (keep_at t reader k false) (below n)

-- the moves by which a reader keeps so many pages of an area, from this one on: each is wanted at once
abbrev pub keeps_area_of : Translation → ℕ → Key → ℕ → List Move
keeps_area_of t reader k n = map (keep_at t reader k true) (below n)

-- the items of a group of these blocks, from an address on
abbrev pub items_behind : Key → ℕ → List (List ℕ) → Group
items_behind k i [] = []
items_behind k i (body ∷ bodies) = record { key = key_behind k i; body = body } ∷ items_behind k (i + 1) bodies

-- the group that a WRITE of these blocks makes, the first at this address
abbrev pub group_of_blocks : Key → List (List ℕ) → Group
group_of_blocks k bodies = items_behind k 0 bodies

-- the item is of the page's key, and its content is what the command brings of it, laid over the content that the key
-- has after all groups; a key that no command has in part comes whole
pub record IsItemBrought (t : Translation) (item : Item) (x : Brought) : Type 0 where
  pub key : item.key ≡ x.key
  pub body : item.body ≡ with_part_of x.part x.bytes.now (all_contents t.ledger x.key)
  pub whole : is_in_part x.key ≡ false → x.part.blocks ≡ 16

-- the group has these pages, in this order
pub record IsGroupBrought (t : Translation) (g : Group) (xs : List Brought) : Type 0 where
  pub as_many : length g ≡ length xs
  pub each : (i : ℕ) (item : Item) (x : Brought) → slice_get g i ≡ Some item → slice_get xs i ≡ Some x →
      IsItemBrought t item x

-- what lies in the slots that the reader has claimed
abbrev pub claim_at : ℕ → ℕ → List ℕ → Claimed
claim_at reader i body = record { reader = reader; index = i; body = body }

-- claimed slots with these blocks in them, the first of index `i`
abbrev pub claims_behind : ℕ → ℕ → List (List ℕ) → List Claimed
claims_behind reader i [] = []
claims_behind reader i (body ∷ bodies) = claim_at reader i body ∷ claims_behind reader (i + 1) bodies

-- these blocks lie in the slots that a reader has claimed, each in that of its index
abbrev pub claims_of_blocks : ℕ → List (List ℕ) → List Claimed
claims_of_blocks reader bodies = claims_behind reader 0 bodies
