-- Which pending pages can be programmed, which wait for their rest, and what is told of their places.
use Rattle.std.specs.Prelude.{◌≡◌, ℕ, ◌≤◌, Bool, ◌&&◌, not, is_none, List, drop, length, Option}
use Rattle.std.specs.List.{position_from}
use Rattle.word_set.specs.Flags.{is_set, passes}
use Rattle.write_cache.specs.declared.slots.Pending.{Pending}
use Rattle.write_cache.specs.Rests.{waits}

-- the page can be programmed now: it is neither written nor waits for its rest
abbrev pub is_ready : Pending → Bool
is_ready p = is_none p.written && not (waits p)

-- the first place at or behind this one whose page can be programmed now
abbrev pub first_ready_from : List Pending → (from : ℕ) → Option ℕ
first_ready_from ps from = position_from is_ready from (drop from ps)

-- the first place at or behind this one whose page waits for its rest
abbrev pub first_waiting_from : List Pending → (from : ℕ) → Option ℕ
first_waiting_from ps from = position_from waits from (drop from ps)

-- the flag of each place says whether there is a page that passes the test
abbrev pub AreTold : (Pending → Bool) → List Bool → List Pending → Type 0
AreTold test flags ps = (k : ℕ) → passes is_set flags k ≡ passes test ps k

-- and there is a flag for the place of each page for which there is room
pub record IsSetOf (test : Pending → Bool) (room : ℕ) (flags : List Bool) (ps : List Pending) : Type 0 where
  pub flags_room : room ≤ length flags
  pub told : AreTold test flags ps
