use Rattle.std.proofs.Common.{◌≡◌, ◌++◌, All, length}
use Rattle.std.specs.List.{flat_map}
use Rattle.std.specs.Io.KnownBytes.{Consumes}
use Rattle.ufsim.specs.Images.{AreParts, InTurn, IsDie, IsHead, IsOfImage, Took, die_bytes, head_bytes}
use Rattle.ufsim.proofs.image.read_image.Given as goal

-- the head and so many dies were read, and the dies hold what was read
abbrev pub invariant-loop : goal.invariant-loop
invariant-loop g l =
    Took
    (InTurn (IsHead l.fn.sizes.dies l.fn.sizes.blocks l.fn.sizes.pages)
    (AreParts (IsDie l.fn.sizes.blocks l.fn.sizes.pages) l.counter))
    (g.R.Read.remaining l.fn.image)
    (g.R.Read.remaining l.image)
    × Consumes (g.R.Read.remaining l.fn.image) (g.R.Read.remaining l.image)
    (head_bytes l.fn.sizes.dies l.fn.sizes.blocks l.fn.sizes.pages ++ flat_map die_bytes l.dies.items)
    × All (IsOfImage l.fn.sizes.blocks l.fn.sizes.pages) l.dies.items
    × (length l.dies.items ≡ l.counter)
