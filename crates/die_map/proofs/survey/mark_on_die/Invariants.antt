use Rattle.ufs_spec.specs.Cells.{Cells}
use Rattle.ufs_spec.specs.declared.configs.Numbers.{Numbers}
use Rattle.die_map.specs.Surveys.{IsDieShown, IsMarkFound, IsReadTo}
use Rattle.die_map.proofs.survey.mark_on_die.Given as goal

-- the mark is the newest one of the blocks before this one
abbrev pub invariant-loop-block : goal.invariant-loop-block
invariant-loop-block l =
    (n : Numbers) (c : Cells) → IsDieShown n c l.number l.die
    → IsReadTo (λ s. IsMarkFound s l.fn.known) l.number 0 0 c
    → IsReadTo (λ s. IsMarkFound s l.found) l.number l.block 0 c
