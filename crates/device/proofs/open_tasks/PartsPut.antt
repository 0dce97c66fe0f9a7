-- Where the parts of pages stand that a request for data asks for: behind its first frame, one behind the other.
use Rattle.device.proofs.Common.{AreaReading, Bool, List, ap, area_part, arith, drop, false, if◌then◌else◌, length}
use Rattle.device.proofs.Common.{length-append, length-drop, length-take, length-take-le, min, part_held, part_of_page}
use Rattle.device.proofs.Common.{subst, sym, take-append-le, take-take, true, ℕ, ◌*◌, ◌++◌, ◌+◌, ◌-◌, ◌<◌, ◌==◌, ◌∙◌}
use Rattle.device.proofs.Common.{◌≡◌, ◌≤◌}
use Rattle.std.proofs.Common.{take, ◌%◌}
use Rattle.std.proofs.lemmas.List.{append_assoc, drop-take}
use Rattle.std.proofs.Math.Seq.{drop-append_seam, take-append_seam}
use Rattle.std.proofs.lemmas.Slice.{drop-append-drop}
use Rattle.task_set.specs.Frames.{blocks_in_first, page_put, put_bytes}
use Rattle.task_set.specs.declared.frames.AreaPart.{AreaPart}

-- Bytes that are put

module _ (at : ℕ) (xs row : List ℕ) (inside : at + length xs ≤ length row) where
  before_long : length (take at row) ≡ at
  before_long = length-take-le at row (omega arith)

  put_long : length (put_bytes at xs row) ≡ length row
  put_long =
      let front = before_long in
      let all = length-append (take at row) (xs ++ drop (at + length xs) row) in
      let behind = length-append xs (drop (at + length xs) row) in
      let rest = length-drop (at + length xs) row in
      omega arith

  -- they stand there
  put_there : take (length xs) (drop at (put_bytes at xs row)) ≡ xs
  put_there =
      ap (take (length xs))
      (subst (λ (n : ℕ). drop n (put_bytes at xs row) ≡ xs ++ drop (at + length xs) row) before_long
      (drop-append_seam (take at row) (xs ++ drop (at + length xs) row)))
      ∙ take-append_seam xs (drop (at + length xs) row)

  -- what stands before them stays
  put_before : (n : ℕ) → n ≤ at → take n (put_bytes at xs row) ≡ take n row
  put_before n low =
      let front = before_long in
      take-append-le n (take at row) (xs ++ drop (at + length xs) row) (omega arith) ∙ take-take n at row low

  part_before : (from n : ℕ) → from + n ≤ at → take n (drop from (put_bytes at xs row)) ≡ take n (drop from row)
  part_before from n low =
      sym (drop-take from n (put_bytes at xs row))
      ∙ (ap (drop from) (put_before (from + n) low) ∙ drop-take from n row)

  -- and so does what stands behind them
  part_behind : (from n : ℕ) → at + length xs ≤ from →
      take n (drop from (put_bytes at xs row)) ≡ take n (drop from row)
  part_behind from n high =
      ap (take n)
      (ap (drop from) (sym (append_assoc (take at row) xs (drop (at + length xs) row)))
      ∙ drop-append-drop (at + length xs) row (take at row ++ xs) from high front)
    where
      front : length (take at row ++ xs) ≡ at + length xs
      front = length-append (take at row) xs ∙ ap (λ (n : ℕ). n + length xs) before_long

-- The parts of a request

-- a part lies in its page, and in the block of its task behind the first frame
pub record LiesIn (p : AreaPart) : Type 0 where
  pub behind : 512 ≤ p.at
  pub in_block : p.at + p.length ≤ 4096
  pub in_page : p.from + p.length ≤ 4096

pub part_lies : (r : AreaReading) (index : ℕ) → LiesIn (area_part r index)
part_lies r index = by (index == 0)
  where
    begin : r.address % 16 < 16
    begin = omega arith

    first_few : blocks_in_first r ≤ 8
    first_few = omega arith

    first_low : blocks_in_first r + r.address % 16 ≤ 16
    first_low = omega arith

    all_few : blocks_in_first r + (min r.count 8 - blocks_in_first r) ≤ 8
    all_few = omega arith

    by : (b : Bool) → LiesIn (if b
        then record { from = 256 * (r.address % 16); at = 512; length = 256 * blocks_in_first r }
        else
        record { from = 0; at = 512 + 256 * blocks_in_first r; length = 256 * (min r.count 8 - blocks_in_first r) })
    by true = record {
      behind = omega arith;
      in_block = (let few = first_few in omega arith);
      in_page = (let low = first_low in omega arith);
    }
    by false = record {
      behind = omega arith;
      in_block = (let few = all_few in omega arith);
      in_page = (let few = all_few in omega arith);
    }

-- two of them, of the first page and of the second, stand behind one another
parts_apart : (r : AreaReading) → (area_part r 0).at + (area_part r 0).length ≤ (area_part r 1).at
parts_apart r = omega arith

module _ (r : AreaReading) (body row : List ℕ) (long : length row ≡ 4096) where
  abbrev put : ℕ → List ℕ
  put index = page_put r index body row

  part_long : (p : AreaPart) → length (part_of_page p body) ≤ p.length
  part_long p = few p.length (drop p.from body)
    where
      few : (n : ℕ) (xs : List ℕ) → length (take n xs) ≤ n
      few n xs = let same = length-take n xs in omega arith

  room : (index : ℕ) → (area_part r index).at + length (part_of_page (area_part r index) body) ≤ length row
  room index =
      let lies = (part_lies r index).in_block in
      let few = part_long (area_part r index) in
      omega arith

  -- the block of the task is as long as before
  pub page_put_long : (index : ℕ) → length (put index) ≡ 4096
  page_put_long index =
      put_long (area_part r index).at (part_of_page (area_part r index) body) row (room index) ∙ long

  -- and has the same first frame
  pub frame_stays : (index : ℕ) → take 512 (put index) ≡ take 512 row
  frame_stays index =
      put_before (area_part r index).at (part_of_page (area_part r index) body) row (room index) 512
      (part_lies r index).behind

  -- the part of the page that is put stands there
  pub part_put_there : (index : ℕ) → length body ≡ 4096 →
      part_held (area_part r index) (put index) ≡ part_of_page (area_part r index) body
  part_put_there index whole =
      subst
      (λ (n : ℕ). take n (drop (area_part r index).at (put index)) ≡ part_of_page (area_part r index) body)
      (all (area_part r index) (part_lies r index))
      (put_there (area_part r index).at (part_of_page (area_part r index) body) row (room index))
    where
      all : (p : AreaPart) → LiesIn p → length (part_of_page p body) ≡ p.length
      all p lies =
          let page = lies.in_page in
          let rest = length-drop p.from body in
          length-take-le p.length (drop p.from body) (omega arith)

  -- and that of the other page stays
  pub second_part_stays : part_held (area_part r 1) (put 0) ≡ part_held (area_part r 1) row
  second_part_stays =
      part_behind (area_part r 0).at (part_of_page (area_part r 0) body) row (room 0) (area_part r 1).at
      (area_part r 1).length (let few = part_long (area_part r 0) in let apart = parts_apart r in omega arith)

  pub first_part_stays : part_held (area_part r 0) (put 1) ≡ part_held (area_part r 0) row
  first_part_stays =
      part_before (area_part r 1).at (part_of_page (area_part r 1) body) row (room 1) (area_part r 0).at
      (area_part r 0).length (parts_apart r)
