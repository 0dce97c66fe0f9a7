-- The worked rows of a gap: what is asked of their lists of pages is computed.
use Rattle.ufs_laws.proofs.Common.{CellsSound, Fence, Holds, IsKept, IsNewestMark, IsRecorded, IsWhole, List, Mark}
use Rattle.ufs_laws.proofs.Common.{None, Numbers, Place, Some, Tag, arith, data_key, first_mark, refl, subst, suc, sym}
use Rattle.ufs_laws.proofs.Common.{true, ℕ, ◌∙◌, ◌≡◌}
use Rattle.std.proofs.Common.{leb}
use Rattle.ufs_laws.proofs.worked_rows.ListedCells.{every, held, newest, not_whole, recorded, sound, tags, whole, zeros}
use Rattle.ufs_laws.proofs.array_cells.StandsForOne.{kept_one}
use Rattle.ufs_laws.specs.GapRows.{Standing, block_of, cells_of, fence_mark, fenced_pages, gap, gap_fenced}
use Rattle.ufs_laws.specs.GapRows.{gap_pages, gap_then_write, last_mark, write_pages}
use Rattle.ufs_spec.specs.Plain.{zero_block}

abbrev place : ℕ → ℕ → ℕ → Place
place die block page = record { die = die; block = block; page = page }

-- the tag of a write
abbrev tag : ℕ → ℕ → ℕ → Tag
tag number address frontier =
    record {
      kind = 1;
      unit = 0;
      address = address;
      number = number;
      index = 0;
      size = 1;
      frontier = frontier;
    }

no_fence : (xs : List Standing) (m : Mark) → m.fence ≡ None → (f : Fence) → m.fence ≡ Some f →
    (m.records ≡ f.last) × (every (tags (λ t. leb t.number f.last)) xs ≡ true)
no_fence xs m e f g = absurd (let h : None ≡ Some f = sym e ∙ g in cc)

-- the kept number is the recorded frontier
pub kept_there : (xs : List Standing) (m : Mark) → IsRecorded (cells_of xs) (Some m) m.records →
    (IsWhole (cells_of xs) (suc m.records) → ⊥) → IsKept (cells_of xs) (Some m) m.records
kept_there xs m top stop = record {
  from = m.records;
  recorded = top;
  above = omega arith;
  whole = λ n low high. absurd (omega arith);
  stops = stop;
}

-- it is the next one
pub kept_next : (xs : List Standing) (m : Mark) (k : ℕ) → k ≡ suc m.records →
    IsRecorded (cells_of xs) (Some m) m.records → IsWhole (cells_of xs) k → (IsWhole (cells_of xs) (suc k) → ⊥) →
    IsKept (cells_of xs) (Some m) k
kept_next xs m k e top next stop = record {
  from = m.records;
  recorded = top;
  above = omega arith;
  whole = λ n low high. subst (IsWhole (cells_of xs)) (omega arith) next;
  stops = stop;
}

module _ (n : Numbers) where
  -- After the stop

  pub gap_newest : IsNewestMark (gap n) (Some (first_mark n))
  gap_newest = newest (gap_pages n) (first_mark n) (place 0 0 0) refl refl

  gap_recorded : IsRecorded (gap n) (Some (first_mark n)) 0
  gap_recorded = recorded (gap_pages n) (first_mark n) (place 0 0 0) refl refl refl

  pub gap_sound : CellsSound (gap n) (Some (first_mark n))
  gap_sound = sound (gap_pages n) (first_mark n) refl gap_recorded (no_fence (gap_pages n) (first_mark n) refl)

  pub gap_kept : IsKept (gap n) (Some (first_mark n)) 1
  gap_kept =
      kept_next (gap_pages n) (first_mark n) 1 (omega arith) gap_recorded
      (whole (gap_pages n) 1 (place 0 0 1) (tag 1 0 0) (block_of 0x11) refl refl refl refl)
      (not_whole (gap_pages n) 2 refl)

  pub gap_no_more : IsKept (gap n) (Some (first_mark n)) 3 → ⊥
  gap_no_more h = let e = kept_one (gap n) (Some (first_mark n)) 1 3 gap_kept h in omega arith

  pub gap_first : Holds (gap n) (Some (first_mark n)) 2 (data_key 0 0) (block_of 0x11)
  gap_first =
      held (gap_pages n) (Some (first_mark n)) 2 (data_key 0 0) (place 0 0 1) (tag 1 0 0) (block_of 0x11) refl (λ h. h)
      refl (omega arith) refl

  pub gap_torn : Holds (gap n) (Some (first_mark n)) 2 (data_key 0 1) zero_block
  gap_torn = zeros (gap_pages n) (Some (first_mark n)) 2 (data_key 0 1) refl

  pub gap_lost : Holds (gap n) (Some (first_mark n)) 2 (data_key 0 2) zero_block
  gap_lost = zeros (gap_pages n) (Some (first_mark n)) 2 (data_key 0 2) refl

  -- With the fence

  pub fenced_newest : IsNewestMark (gap_fenced n) (Some (fence_mark n))
  fenced_newest = newest (fenced_pages n) (fence_mark n) (place 0 1 0) refl refl

  fenced_recorded : IsRecorded (gap_fenced n) (Some (fence_mark n)) 3
  fenced_recorded = recorded (fenced_pages n) (fence_mark n) (place 0 1 0) refl refl refl

  pub fenced_sound : CellsSound (gap_fenced n) (Some (fence_mark n))
  fenced_sound =
      sound (fenced_pages n) (fence_mark n) refl fenced_recorded (λ f e. last f (let h : f.last ≡ 3 = cc in h))
    where
      last : (f : Fence) → f.last ≡ 3 → (3 ≡ f.last) × (every (tags (λ t. leb t.number f.last)) (fenced_pages n) ≡ true)
      last f e = (sym e, subst (λ l. every (tags (λ t. leb t.number l)) (fenced_pages n) ≡ true) (sym e) refl)

  pub fenced_kept : IsKept (gap_fenced n) (Some (fence_mark n)) 3
  fenced_kept = kept_there (fenced_pages n) (fence_mark n) fenced_recorded (not_whole (fenced_pages n) 4 refl)

  pub fenced_first : Holds (gap_fenced n) (Some (fence_mark n)) 4 (data_key 0 0) (block_of 0x11)
  fenced_first =
      held (fenced_pages n) (Some (fence_mark n)) 4 (data_key 0 0) (place 0 0 1) (tag 1 0 0) (block_of 0x11) refl
      (λ h. omega (arith, h.0)) refl (omega arith) refl

  pub fenced_torn : Holds (gap_fenced n) (Some (fence_mark n)) 4 (data_key 0 1) zero_block
  fenced_torn = zeros (fenced_pages n) (Some (fence_mark n)) 4 (data_key 0 1) refl

  pub fenced_lost : Holds (gap_fenced n) (Some (fence_mark n)) 4 (data_key 0 2) zero_block
  fenced_lost = zeros (fenced_pages n) (Some (fence_mark n)) 4 (data_key 0 2) refl

  -- After the repair and a write

  pub last_newest : IsNewestMark (gap_then_write n) (Some (last_mark n))
  last_newest = newest (write_pages n) (last_mark n) (place 2 1 0) refl refl

  last_recorded : IsRecorded (gap_then_write n) (Some (last_mark n)) 4
  last_recorded = recorded (write_pages n) (last_mark n) (place 2 1 0) refl refl refl

  pub last_sound : CellsSound (gap_then_write n) (Some (last_mark n))
  last_sound = sound (write_pages n) (last_mark n) refl last_recorded (no_fence (write_pages n) (last_mark n) refl)

  pub last_kept : IsKept (gap_then_write n) (Some (last_mark n)) 5
  last_kept =
      kept_next (write_pages n) (last_mark n) 5 (omega arith) last_recorded
      (whole (write_pages n) 5 (place 3 1 0) (tag 5 3 4) (block_of 0x44) refl refl refl refl)
      (not_whole (write_pages n) 6 refl)

  pub last_first : Holds (gap_then_write n) (Some (last_mark n)) 6 (data_key 0 0) (block_of 0x11)
  last_first =
      held (write_pages n) (Some (last_mark n)) 6 (data_key 0 0) (place 0 0 1) (tag 1 0 0) (block_of 0x11) refl (λ h. h)
      refl (omega arith) refl

  pub last_torn : Holds (gap_then_write n) (Some (last_mark n)) 6 (data_key 0 1) zero_block
  last_torn = zeros (write_pages n) (Some (last_mark n)) 6 (data_key 0 1) refl

  pub last_lost : Holds (gap_then_write n) (Some (last_mark n)) 6 (data_key 0 2) zero_block
  last_lost =
      held (write_pages n) (Some (last_mark n)) 6 (data_key 0 2) (place 1 1 0) (tag 4 2 3) zero_block refl (λ h. h) refl
      (omega arith) refl

  pub last_new : Holds (gap_then_write n) (Some (last_mark n)) 6 (data_key 0 3) (block_of 0x44)
  last_new =
      held (write_pages n) (Some (last_mark n)) 6 (data_key 0 3) (place 3 1 0) (tag 5 3 4) (block_of 0x44) refl (λ h. h)
      refl (omega arith) refl
