use Rattle.ufstool.specs.Images.{IsReadTo}
use Rattle.ufstool.proofs.images.tell.Given as goal

-- the blocks before this one are read
abbrev pub invariant-loop-number : goal.invariant-loop-number
invariant-loop-number g l =
    IsReadTo l.sizes l.number (g.R.Read.remaining l.fn.image) (g.R.Read.remaining l.image)
