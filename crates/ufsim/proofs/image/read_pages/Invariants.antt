use Rattle.std.proofs.Common.{take}
use Rattle.std.specs.List.{flat_map}
use Rattle.std.specs.Io.KnownBytes.{Consumes}
use Rattle.ufs_spec.specs.Dies.{pages_of}
use Rattle.ufsim.specs.Images.{AreParts, IsElseSame, IsPage, Took, page_bytes}
use Rattle.ufsim.proofs.image.read_pages.Given as goal

-- so many pages were read, and hold what was read, and all else is as it was
abbrev pub invariant-loop-page : goal.invariant-loop-page
invariant-loop-page g l =
    Took (AreParts IsPage l.page) (g.R.Read.remaining l.fn.image) (g.R.Read.remaining l.image)
    × Consumes (g.R.Read.remaining l.fn.image) (g.R.Read.remaining l.image)
    (flat_map page_bytes (take l.page (pages_of l.die l.block)))
    × IsElseSame l.fn.die l.block l.die
