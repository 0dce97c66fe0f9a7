use Rattle.std.proofs.Common.{◌≤◌}
use Rattle.ufs_spec.specs.Cells.{Cells, Shows}
use Rattle.ufs_spec.specs.Lives.{Fit, array_of}
use Rattle.ufs_spec.specs.declared.configs.Numbers.{Numbers}
use Rattle.die_map.specs.Surveys.{ArePagesFound, IsReadTo, written_at}
use Rattle.die_map.proofs.survey.newest_pages.Given as goal

-- the map has the newest pages of those of the dies before this one
abbrev pub invariant-loop-index : goal.invariant-loop-index
invariant-loop-index l =
    (n : Numbers) (c : Cells) → n.dies ≤ 255 → Fit n l.dies → Shows (array_of l.dies) c
    → IsReadTo (λ s. ArePagesFound s l.mark (written_at l.newest)) l.index 0 0 c
