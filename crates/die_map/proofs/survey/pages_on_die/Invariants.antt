use Rattle.ufs_spec.specs.Cells.{Cells}
use Rattle.ufs_spec.specs.declared.configs.Numbers.{Numbers}
use Rattle.die_map.specs.Surveys.{ArePagesFound, IsDieShown, IsReadTo, written_at}
use Rattle.die_map.proofs.survey.pages_on_die.Given as goal

-- the map has the newest pages of those of the blocks before this one
abbrev pub invariant-loop-block : goal.invariant-loop-block
invariant-loop-block l =
    (n : Numbers) (c : Cells) → IsDieShown n c l.number l.die
    → IsReadTo (λ s. ArePagesFound s l.mark (written_at l.fn.newest)) l.number 0 0 c
    → IsReadTo (λ s. ArePagesFound s l.mark (written_at l.newest)) l.number l.block 0 c
