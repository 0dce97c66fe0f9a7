-- A mark's fence and numbers are read back from its body.
use Rattle.ufs_laws.proofs.Common.{All, Fence, IsMarkBody, List, None, Numbers, Option, Some, UnitSpec, [], ap, arith}
use Rattle.ufs_laws.proofs.Common.{big_number, big_number-reads_back, drop, drop-drop, false, field_at, flat_map}
use Rattle.ufs_laws.proofs.Common.{get_or, length, refl, regions, replicate, slice_index, slice_index_or, suc, sym}
use Rattle.ufs_laws.proofs.Common.{zero, ℕ, ◌*◌, ◌++◌, ◌+◌, ◌-◌, ◌<◌, ◌==◌, ◌^◌, ◌∙◌, ◌∷◌, ◌≡◌}
use Rattle.std.proofs.Common.{append_assoc}
use Rattle.std.specs.Prelude.{if◌then◌else◌}
use Rattle.std.proofs.lemmas.Bool.Decides.{nat_tests}
use Rattle.ufs_spec.specs.Cells.{IsFence, NumbersFit, UnitFits}
use Rattle.ufs_spec.specs.Pages.{fence_bytes, numbers_bytes, unit_bytes, zero_filled}

-- Reading

-- the unit in the first entry
abbrev pub unit_in : List ℕ → UnitSpec
unit_in bytes = record { blocks = big_number 4 bytes; boot = slice_index bytes 4; protect = slice_index bytes 5 }

-- the units in the first n entries
pub units_in : ℕ → List ℕ → List UnitSpec
units_in zero bytes = []
units_in (suc n) bytes = unit_in bytes ∷ units_in n (drop 8 bytes)

-- each of them is the one in its entry
entry_read : (n k : ℕ) (bytes : List ℕ) (other : UnitSpec) → k < n
    → get_or (units_in n bytes) k other ≡ unit_in (drop (8 * k) bytes)
unfolding units_in
entry_read zero k bytes other h = absurd (omega (arith, h))
entry_read (suc n) zero bytes other h = refl
entry_read (suc n) (suc k) bytes other h =
    let entries : 8 + 8 * k ≡ 8 * suc k = omega arith in
    entry_read n k (drop 8 bytes) other (omega (arith, h))
    ∙ ap unit_in (drop-drop (8 * k) 8 bytes ∙ ap (λ (j : ℕ). drop j bytes) entries)

units_count : (n : ℕ) (bytes : List ℕ) → length (units_in n bytes) ≡ n
unfolding units_in
units_count zero bytes = refl
units_count (suc n) bytes = omega (arith, units_count n (drop 8 bytes))

-- the fence with these ends, none where the last is 0
abbrev fence_of : ℕ → ℕ → Option Fence
fence_of first last = if last == 0 then None else Some record { first = first; last = last }

abbrev pub fence_in : List ℕ → Option Fence
fence_in body = fence_of (big_number 8 body) (field_at 8 8 body)

-- the numbers behind the sixteen bytes of the fence
abbrev numbers_from : List ℕ → Numbers
numbers_from bytes =
    record {
      dies = slice_index bytes 0;
      blocks = field_at 2 2 bytes;
      pages = field_at 2 4 bytes;
      units = record { items = units_in (slice_index bytes 1) (drop 16 bytes) };
      rpmb = slice_index bytes 6 ∷ slice_index bytes 12 ∷ slice_index bytes 13 ∷ slice_index bytes 14 ∷ [];
      slots = field_at 2 8 bytes;
      spare = field_at 2 10 bytes;
      profile = 0;
      serial = 1;
    }

abbrev pub numbers_in : List ℕ → Numbers
numbers_in body = numbers_from (drop 16 body)

-- Reading back

-- the entries of units are read back
units_back : (units : List UnitSpec) (rest : List ℕ) → All UnitFits units
    → units_in (length units) (flat_map unit_bytes units ++ rest) ≡ units
unfolding units_in
units_back [] rest fit = refl
units_back (u ∷ us) rest fit =
    let first : UnitFits u = fit 0 u (omega arith) in
    let blocks : big_number 4 (flat_map unit_bytes (u ∷ us) ++ rest) ≡ u.blocks =
    big_number-reads_back 4 u.blocks [] (omega (arith, first.blocks)) in
    let others : units_in (length us) (flat_map unit_bytes us ++ rest) ≡ us =
    units_back us rest (λ k d lt. fit (suc k) d (omega arith)) in
    rw (blocks, others) refl

-- bytes in three parts, with zeros behind them
filled_parts : (n : ℕ) (a b c : List ℕ) → (rest : List ℕ) × (zero_filled n (a ++ b ++ c) ≡ a ++ (b ++ (c ++ rest)))
unfolding zero_filled
filled_parts n a b c =
    let rest : List ℕ = replicate (n - length (a ++ b ++ c)) 0 in
    let e : (a ++ b ++ c) ++ rest ≡ a ++ (b ++ (c ++ rest)) = append_assoc (a ++ b) c rest
    ∙ append_assoc a b (c ++ rest) in
    (rest, e)

-- four in a list are the steps of each region
four_steps : (sizes : List ℕ) → length sizes ≡ regions →
    sizes ≡ slice_index_or sizes 0 0 ∷ slice_index_or sizes 1 0 ∷ slice_index_or sizes 2 0 ∷ slice_index_or sizes 3 0 ∷ []
four_steps (a ∷ b ∷ c ∷ d ∷ []) e = refl
four_steps [] e = absurd (omega (arith, e))
four_steps (a ∷ []) e = absurd (omega (arith, e))
four_steps (a ∷ b ∷ []) e = absurd (omega (arith, e))
four_steps (a ∷ b ∷ c ∷ []) e = absurd (omega (arith, e))
four_steps (a ∷ b ∷ c ∷ d ∷ x ∷ more) e = absurd (omega (arith, e))

-- the numbers are read back
numbers_back : (n : Numbers) (rest : List ℕ) → NumbersFit n
    → numbers_from (numbers_bytes n ++ (flat_map unit_bytes n.units.items ++ rest)) ≡ n
numbers_back n rest fit =
    let bytes : List ℕ = numbers_bytes n ++ (flat_map unit_bytes n.units.items ++ rest) in
    let blocks : big_number 2 (drop 2 bytes) ≡ n.blocks = big_number-reads_back 2 n.blocks []
    (omega (arith, fit.blocks)) in
    let pages : big_number 2 (drop 4 bytes) ≡ n.pages = big_number-reads_back 2 n.pages [] (omega (arith, fit.pages)) in
    let slots : big_number 2 (drop 8 bytes) ≡ n.slots = big_number-reads_back 2 n.slots [] (omega (arith, fit.slots)) in
    let spare : big_number 2 (drop 10 bytes) ≡ n.spare = big_number-reads_back 2 n.spare []
    (omega (arith, fit.spare)) in
    let units : units_in (length n.units.items) (flat_map unit_bytes n.units.items ++ rest) ≡ n.units.items =
    units_back n.units.items rest fit.each_unit in
    let rpmb = sym (four_steps n.rpmb fit.regions) in
    rw (blocks, pages, slots, spare, units)
    (λ i. record n { rpmb = rpmb i; profile = sym fit.profile i; serial = sym fit.serial i })

-- the numbers stand behind the sixteen bytes of a fence
behind_fence : (fence : Option Fence) (rest : List ℕ) → drop 16 (fence_bytes fence ++ rest) ≡ rest
behind_fence None rest = refl
behind_fence (Some fence) rest = refl

-- a fence is read back
fence_back : (fence : Option Fence) (rest : List ℕ) → ((f : Fence) → fence ≡ Some f → IsFence f)
    → fence_in (fence_bytes fence ++ rest) ≡ fence
fence_back None rest right = refl
fence_back (Some fence) rest right =
    let bytes : List ℕ = fence_bytes (Some fence) ++ rest in
    let is : IsFence fence = right fence refl in
    let low : fence.first < 256 ^ 8 = omega (arith, is.ordered, is.fits) in
    let high : fence.last < 256 ^ 8 = omega (arith, is.fits) in
    let first : big_number 8 bytes ≡ fence.first = big_number-reads_back 8 fence.first [] low in
    let last : big_number 8 (drop 8 bytes) ≡ fence.last = big_number-reads_back 8 fence.last [] high in
    let some : (fence.last == 0) ≡ false = grind (arith, nat_tests, is.some) in
    rw (first, last, some) refl

-- Marks

-- the fence and the numbers of a mark are read from its body
pub fence_of_mark : (fence : Option Fence) (n : Numbers) (body : List ℕ) → IsMarkBody fence n body →
    fence_in body ≡ fence
fence_of_mark fence n body h =
    let parts = filled_parts 4096 (fence_bytes fence) (numbers_bytes n) (flat_map unit_bytes n.units.items) in
    ap fence_in (h.bytes ∙ parts.1)
    ∙ fence_back fence (numbers_bytes n ++ (flat_map unit_bytes n.units.items ++ parts.0)) h.fence_right

pub numbers_of_mark : (fence : Option Fence) (n : Numbers) (body : List ℕ) → IsMarkBody fence n body →
    numbers_in body ≡ n
numbers_of_mark fence n body h =
    let parts = filled_parts 4096 (fence_bytes fence) (numbers_bytes n) (flat_map unit_bytes n.units.items) in
    ap numbers_in (h.bytes ∙ parts.1)
    ∙ ap numbers_from (behind_fence fence (numbers_bytes n ++ (flat_map unit_bytes n.units.items ++ parts.0)))
    ∙ numbers_back n parts.0 h.numbers_fit

-- each unit of a mark is read from its entry
pub unit_of_mark : (fence : Option Fence) (n : Numbers) (body : List ℕ) (k : ℕ) (other : UnitSpec) →
    IsMarkBody fence n body → k < length n.units.items
    → unit_in (drop (32 + 8 * k) body) ≡ get_or n.units.items k other
unit_of_mark fence n body k other h inside =
    let said : ℕ = slice_index (drop 16 body) 1 in
    let entries : List ℕ = drop 16 (drop 16 body) in
    let all : numbers_in body ≡ n = numbers_of_mark fence n body h in
    let units : units_in said entries ≡ n.units.items = ap (λ (m : Numbers). m.units.items) all in
    let count : length n.units.items ≡ said = ap length (sym units) ∙ units_count said entries in
    let start : 16 + (16 + 8 * k) ≡ 32 + 8 * k = omega arith in
    let there : drop (8 * k) entries ≡ drop (32 + 8 * k) body =
    drop-drop (8 * k) 16 (drop 16 body) ∙ drop-drop (16 + 8 * k) 16 body ∙ ap (λ (j : ℕ). drop j body) start in
    ap unit_in (sym there) ∙ sym (entry_read said k entries other (omega (arith, count, inside)))
    ∙ ap (λ (us : List UnitSpec). get_or us k other) units

-- a body is that of one fence and one configuration
pub one_fence : (f g : Option Fence) (n m : Numbers) (body : List ℕ) → IsMarkBody f n body → IsMarkBody g m body → f ≡ g
one_fence f g n m body h k = sym (fence_of_mark f n body h) ∙ fence_of_mark g m body k

pub one_configuration : (f g : Option Fence) (n m : Numbers) (body : List ℕ) → IsMarkBody f n body →
    IsMarkBody g m body → n ≡ m
one_configuration f g n m body h k = sym (numbers_of_mark f n body h) ∙ numbers_of_mark g m body k
