-- How many keys a mending has to repair: no more than the write cache has slots.
use Rattle.std.specs.Prelude.{◌≡◌, ℕ, ◌+◌, ◌<◌, ◌≤◌, true, false, List, [], Contains, length, Option, Some}
use Rattle.std.specs.Prelude.{None, slice_get}
use Rattle.ufs_spec.specs.Cells.{Array, Cells, Mark, Shows}
use Rattle.ufs_spec.specs.Keys.{Group, Item}
use Rattle.ufs_spec.specs.Kept.{IsKept, IsNewestMark, fence_in, recorded_in}
use Rattle.ufs_spec.specs.Ledger.{Entry}
use Rattle.ufs_spec.specs.Lives.{Life, Lived, Stops}
use Rattle.ufs_spec.specs.Openings.{AreLost, IsGreatestSeen, lost_from}
use Rattle.ufs_spec.specs.Refusals.{State, mended}
use Rattle.ufs_spec.specs.Translation.{Mended, Mending, Repairing, Translation, Unmarked, is_mended}
use Rattle.ufs_spec.specs.declared.configs.Numbers.{Numbers}
use Rattle.ufs_spec.specs.declared.events.Event.{Event}
use Rattle.ufs_spec.specs.declared.events.Leftover.{Leftover}
use Rattle.ufs_spec.specs.declared.events.Output.{Output}
use Rattle.ufs_spec.specs.declared.flash.Fence.{Fence}
use Rattle.ufs_spec.specs.declared.flash.Key.{Key}
use Rattle.power_loss.specs.Book.{Book, IsLostNumber, IsWholeOld, book}
use Rattle.power_loss.specs.Losing.{is_marked}
use Rattle.power_loss.specs.Mending.{true_turns}

-- Arrays

-- a mending that begins over the cells, with the newest mark m, has no more keys to repair than the write cache has
-- slots: those are the keys with a lost page
abbrev pub HasFewLost : Numbers → Cells → Option Mark → Type 0
HasFewLost n c m = (kept top : ℕ) (lost : List Key) → IsKept c m kept → IsGreatestSeen c m top →
    AreLost c (lost_from (fence_in m) kept) top lost → length lost ≤ n.slots

-- the same of an array, by the cells that its pages show
abbrev pub ArrayHasFewLost : Numbers → Array → Type 0
ArrayHasFewLost n array = (c : Cells) (m : Option Mark) → Shows array c → IsNewestMark c m → HasFewLost n c m

-- One life

-- the keys that the mending has still to repair
abbrev pub still_lost : Mending → List Key
still_lost (Unmarked fence lost) = lost
still_lost (Repairing left) = left
still_lost Mended = []

-- where the lost numbers begin while the newest mark is that of the opening: where its fence begins; without a fence
-- each group below them that the mark does not record is whole
pub record LostFromRight (b : Book) (newest : Option Mark) : Type 0 where
  pub fence : (f : Fence) → fence_in newest ≡ Some f → b.first_lost ≡ f.first
  pub whole : (n : ℕ) → fence_in newest ≡ None → recorded_in newest < n → n < b.first_lost → IsWholeOld b n

-- the keys that a life has to repair, no more of them than slots. Each page with a lost number is of one of them, each
-- key that is still to be repaired is one, and so is the key of each repair
pub record RepairsFew (b : Book) (repairs frontier : ℕ) (newest : Option Mark) (mending : Mending) : Type 0 where
  pub keys : List Key
  pub few : length keys ≤ b.numbers.slots
  pub lost : (n i : ℕ) (e : Entry) → IsLostNumber b n → b.entries_before n i ≡ Some e → Contains keys e.item.key
  pub still : (k : Key) → Contains (still_lost mending) k → Contains keys k
  -- repairs are the first groups of the life
  pub within : repairs ≤ length b.groups
  pub repaired : (j i : ℕ) (g : Group) (item : Item) → j < repairs → slice_get b.groups j ≡ Some g →
      slice_get g i ≡ Some item → Contains keys item.key
  -- until the first mark of the life is finished
  pub from : is_marked mending ≡ false → LostFromRight b newest
  -- once the device is mended each repair is durable
  pub durable : is_mended mending ≡ true → b.greatest_seen + repairs ≤ frontier

-- the life has no more keys to repair than slots
abbrev pub HasFewRepairs : Translation → Type 0
HasFewRepairs t = RepairsFew (book t) t.ledger.repairs t.ledger.frontier t.ledger.newest t.work.mending

-- Lives

-- the life begins with no more keys to repair than slots, and so does each next one, whatever a stop leaves
pub record MendsSoon (n : Numbers) (l : Lived) : Type 0 where
  pub keys : length (still_lost l.start.translation.work.mending) ≤ n.slots
  -- up to each of its events that does not find it mended, at most two turns more than there are slots were answered
  -- true
  pub turns : (es : List Event) (os : List Output) (middle : State) → Life l.start es os middle →
      mended middle ≡ false → true_turns os ≤ n.slots + 2
  pub stops : (lefts : List Leftover) (left : Array) → Stops l.finish lefts left → ArrayHasFewLost n left
