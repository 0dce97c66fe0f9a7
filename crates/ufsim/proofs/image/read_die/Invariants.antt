use Rattle.std.proofs.Common.{◌≡◌, ◌≤◌, ◌<◌, ℕ, length}
use Rattle.std.specs.Prelude.{false}
use Rattle.std.specs.Io.KnownBytes.{Consumes}
use Rattle.ufs_spec.specs.Dies.{is_bad_block, pages_of}
use Rattle.ufsim.specs.Images.{AreParts, IsBlock, Took, blocks_bytes}
use Rattle.ufsim.proofs.image.read_die.Given as goal

-- so many blocks were read, and hold what was read, and the others are good
abbrev pub invariant-loop-block : goal.invariant-loop-block
invariant-loop-block g l =
    Took (AreParts (IsBlock l.fn.sizes.pages) l.block) (g.R.Read.remaining l.fn.image) (g.R.Read.remaining l.image)
    × Consumes (g.R.Read.remaining l.fn.image) (g.R.Read.remaining l.image) (blocks_bytes l.die l.block)
    × (length l.die.blocks ≡ l.fn.sizes.blocks)
    × ((block : ℕ) → block < l.fn.sizes.blocks → length (pages_of l.die block) ≡ l.fn.sizes.pages)
    × ((block : ℕ) → l.block ≤ block → is_bad_block l.die block ≡ false)
    × (length l.die.bad ≡ length l.die.blocks)
