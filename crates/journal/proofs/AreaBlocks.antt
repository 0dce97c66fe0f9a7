-- Counts of bytes that are whole blocks of the area.
use Rattle.std.proofs.Common.{◌≡◌, ◌*◌, ◌/◌, ◌%◌, ◌≤◌, ◌↔◌, ℕ, true, arith, nat_eq}
use Rattle.std.proofs.lemmas.Bool.{eq-eqb, eqb-true}

-- so many bytes are 1 to 8 blocks of 256 bytes
abbrev pub AreBlocks : ℕ → Type 0
AreBlocks count = (blocks : ℕ) × (count ≡ 256 * blocks) × (1 ≤ blocks) × (blocks ≤ 8)

-- without a rest they are
whole_blocks : (count : ℕ) → 1 ≤ count → count ≤ 2048 → count % 256 ≡ 0 → AreBlocks count
whole_blocks count some most rest =
    (count / 256, omega (arith, rest), omega (arith, some, rest), omega (arith, most))

-- and only then
no_rest : (count : ℕ) → AreBlocks count → count % 256 ≡ 0
no_rest count blocks =
    let is = blocks.1 in
    omega (arith, is)

-- the rest of a count that is not 0 and not above 8 blocks tells it
pub rest_tells : (count : ℕ) → 1 ≤ count → count ≤ 2048 → (nat_eq (count % 256) 0 ≡ true) ↔ AreBlocks count
rest_tells count some most = (
  λ none. whole_blocks count some most (eqb-true (count % 256) 0 none),
  λ blocks. eq-eqb (count % 256) 0 (no_rest count blocks),
)
