use Rattle.std.proofs.Common.{◌≡◌, ◌≤◌, ◌-◌, ℕ, List, length}
use Rattle.std.specs.Io.KnownBytes.{Consumes}
use Rattle.ufstool.proofs.images.skip.Given as goal

-- so many bytes were read
abbrev pub invariant-loop-left : goal.invariant-loop-left
invariant-loop-left g l =
    ((bytes : List ℕ) × Consumes (g.R.Read.remaining l.fn.image) (g.R.Read.remaining l.image) bytes
    × (length bytes ≡ l.count - l.left)) × (l.left ≤ l.count)

abbrev pub decreases-loop-left : goal.decreases-loop-left
decreases-loop-left g l = l.left
