use Rattle.std.proofs.Common.{◌∷◌, take}
use Rattle.std.specs.List.{flat_map}
use Rattle.std.specs.Io.KnownBytes.{Appends}
use Rattle.ufs_spec.specs.Dies.{is_bad_block, pages_of}
use Rattle.ufsim.specs.Images.{bad_byte, page_bytes}
use Rattle.ufsim.proofs.image.write_block.Given as goal

-- the block's byte and the pages so far are written
abbrev pub invariant-loop-page : goal.invariant-loop-page
invariant-loop-page g l =
    Appends (g.W.Write.contents l.fn.image) (g.W.Write.contents l.image)
    (bad_byte (is_bad_block l.die l.block) ∷ flat_map page_bytes (take l.page (pages_of l.die l.block)))
