use Rattle.std.proofs.Common.{◌≤◌}
use Rattle.ufs_spec.specs.Cells.{Cells, Shows}
use Rattle.ufs_spec.specs.Lives.{Fit, array_of}
use Rattle.ufs_spec.specs.declared.configs.Numbers.{Numbers}
use Rattle.die_map.specs.Surveys.{IsMarkFound, IsReadTo}
use Rattle.die_map.proofs.survey.newest_mark.Given as goal

-- the mark is the newest one of the dies before this one
abbrev pub invariant-loop-index : goal.invariant-loop-index
invariant-loop-index l =
    (n : Numbers) (c : Cells) → n.dies ≤ 255 → Fit n l.dies → Shows (array_of l.dies) c
    → IsReadTo (λ s. IsMarkFound s l.found) l.index 0 0 c
