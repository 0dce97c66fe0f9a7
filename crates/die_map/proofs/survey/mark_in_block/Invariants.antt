use Rattle.ufs_spec.specs.Cells.{Cells}
use Rattle.ufs_spec.specs.declared.configs.Numbers.{Numbers}
use Rattle.die_map.specs.Surveys.{IsDieShown, IsMarkFound, IsReadTo}
use Rattle.die_map.proofs.survey.mark_in_block.Given as goal

-- the mark is the newest one of the pages before this one
abbrev pub invariant-loop-page : goal.invariant-loop-page
invariant-loop-page l =
    (n : Numbers) (c : Cells) → IsDieShown n c l.number l.die
    → IsReadTo (λ s. IsMarkFound s l.fn.known) l.number l.block 0 c
    → IsReadTo (λ s. IsMarkFound s l.found) l.number l.block l.page c
