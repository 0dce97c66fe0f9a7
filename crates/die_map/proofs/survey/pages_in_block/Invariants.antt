use Rattle.ufs_spec.specs.Cells.{Cells}
use Rattle.ufs_spec.specs.declared.configs.Numbers.{Numbers}
use Rattle.die_map.specs.Surveys.{ArePagesFound, IsDieShown, IsReadTo, written_at}
use Rattle.die_map.proofs.survey.pages_in_block.Given as goal

-- the map has the newest pages of those before this one
abbrev pub invariant-loop-page : goal.invariant-loop-page
invariant-loop-page l =
    (n : Numbers) (c : Cells) → IsDieShown n c l.number l.die
    → IsReadTo (λ s. ArePagesFound s l.mark (written_at l.fn.newest)) l.number l.block 0 c
    → IsReadTo (λ s. ArePagesFound s l.mark (written_at l.newest)) l.number l.block l.page c
