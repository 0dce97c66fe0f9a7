-- The parts that are asked for of the pages of the RPMB area are, in one piece, the blocks that a request asks for.
use Rattle.device.proofs.Common.{AreaReading, List, [], ap, append-nil, area_page, area_part, arith, drop, length}
use Rattle.device.proofs.Common.{length-drop, length-take-le, min, part_of_page, refl, sym, take-take, ℕ, ◌%◌, ◌*◌}
use Rattle.device.proofs.Common.{◌++◌, ◌+◌, ◌-◌, ◌/◌, ◌∙◌, ◌≡◌, ◌≤◌}
use Rattle.std.proofs.Common.{take}
use Rattle.std.proofs.Math.Seq.{take-add}
use Rattle.std.proofs.lemmas.List.{drop-drop, drop-take}
use Rattle.task_set.specs.Frames.{blocks_in_first}

-- a part of a page is that part of the area
part_of_area : (page from n : ℕ) (area : List ℕ) → n + from ≤ 4096 →
    take n (drop from (area_page page area)) ≡ take n (drop (4096 * page + from) area)
part_of_area page from n area fits =
    ap (λ (k : ℕ). take n (drop from (take k (drop (4096 * page) area)))) whole
    ∙ (ap (take n) (drop-take from (4096 - from) (drop (4096 * page) area))
    ∙ (take-take n (4096 - from) (drop from (drop (4096 * page) area)) (omega arith)
    ∙ ap (take n) (drop-drop from (4096 * page) area)))
  where
    whole : 4096 ≡ from + (4096 - from)
    whole = omega arith

-- two pieces of the area, one behind the other
in_one_piece : (at x y : ℕ) (area : List ℕ) →
    take x (drop at area) ++ take y (drop (at + x) area) ≡ take (x + y) (drop at area)
in_one_piece at x y area =
    ap (λ (rest : List ℕ). take x (drop at area) ++ take y rest) (sym (drop-drop x at area))
    ∙ sym (take-add x y (drop at area))

-- Numbers

first_fits : (a c : ℕ) → 256 * min (min c 8) (16 - a % 16) + 256 * (a % 16) ≤ 4096
first_fits a c = omega arith

first_place : (a : ℕ) → 4096 * (a / 16 + 0) + 256 * (a % 16) ≡ 256 * a
first_place a = omega arith

second_fits : (c first : ℕ) → 256 * (min c 8 - first) + 0 ≤ 4096
second_fits c first = omega arith

second_place : (a first : ℕ) → first ≡ 16 - a % 16 → 4096 * (a / 16 + 1) + 0 ≡ 256 * a + 256 * first
second_place a first is = omega arith

-- how many of the blocks lie in the first page, where they lie in one
all_in_first : (a c : ℕ) → 1 ≤ c → c ≤ 8 → 1 ≡ (a + c - 1) / 16 + 1 - a / 16 → min (min c 8) (16 - a % 16) ≡ c
all_in_first a c some few one = omega arith

-- and where they lie in two
rest_of_first : (a c : ℕ) → 1 ≤ c → c ≤ 8 → 2 ≡ (a + c - 1) / 16 + 1 - a / 16 →
    min (min c 8) (16 - a % 16) ≡ 16 - a % 16
rest_of_first a c some few two = omega arith

both_are_all : (a c first : ℕ) → c ≤ 8 → first ≡ min (min c 8) (16 - a % 16) →
    256 * first + 256 * (min c 8 - first) ≡ 256 * c
both_are_all a c first few is = omega arith

-- Pages

module _ (r : AreaReading) (area : List ℕ) where
  -- the part of this page of the area
  abbrev pub part : ℕ → List ℕ
  part i = part_of_page (area_part r i) (area_page (r.address / 16 + i) area)

  first_part : part 0 ≡ take (256 * blocks_in_first r) (drop (256 * r.address) area)
  first_part =
      part_of_area (r.address / 16 + 0) (256 * (r.address % 16)) (256 * blocks_in_first r) area
      (first_fits r.address r.count)
      ∙ ap (λ (at : ℕ). take (256 * blocks_in_first r) (drop at area)) (first_place r.address)

  second_part : blocks_in_first r ≡ 16 - r.address % 16 →
      part 1 ≡ take (256 * (min r.count 8 - blocks_in_first r)) (drop (256 * r.address + 256 * blocks_in_first r) area)
  second_part is =
      part_of_area (r.address / 16 + 1) 0 (256 * (min r.count 8 - blocks_in_first r)) area
      (second_fits r.count (blocks_in_first r))
      ∙ ap (λ (at : ℕ). take (256 * (min r.count 8 - blocks_in_first r)) (drop at area))
      (second_place r.address (blocks_in_first r) is)

  -- these are the blocks that are asked for
  abbrev pub AreAsked : List ℕ → Type 0
  AreAsked bytes = (length bytes ≡ 256 * r.count) × (bytes ≡ take (256 * r.count) (drop (256 * r.address) area))

  module _ (some : 1 ≤ r.count) (few : r.count ≤ 8) (within : 256 * (r.address + r.count) ≤ length area) where
    are_asked : (bytes : List ℕ) → bytes ≡ take (256 * r.count) (drop (256 * r.address) area) → AreAsked bytes
    are_asked bytes is = (ap length is ∙ length-take-le (256 * r.count) (drop (256 * r.address) area) long, is)
      where
        long : 256 * r.count ≤ length (drop (256 * r.address) area)
        long = let rest = length-drop (256 * r.address) area in omega arith

    -- of one page
    pub one_part : 1 ≡ (r.address + r.count - 1) / 16 + 1 - r.address / 16 → AreAsked (part 0 ++ [])
    one_part one =
        are_asked (part 0 ++ [])
        (append-nil (part 0)
        ∙ (first_part
        ∙ ap (λ (n : ℕ). take (256 * n) (drop (256 * r.address) area)) (all_in_first r.address r.count some few one)))

    -- of two
    pub two_parts : 2 ≡ (r.address + r.count - 1) / 16 + 1 - r.address / 16 → AreAsked (part 0 ++ part 1)
    two_parts two =
        are_asked (part 0 ++ part 1)
        ((λ i. first_part i ++ second_part (rest_of_first r.address r.count some few two) i)
        ∙ (in_one_piece (256 * r.address) (256 * blocks_in_first r) (256 * (min r.count 8 - blocks_in_first r)) area
        ∙ ap (λ (n : ℕ). take n (drop (256 * r.address) area))
        (both_are_all r.address r.count (blocks_in_first r) few refl)))
