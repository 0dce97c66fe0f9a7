use Rattle.stress.proofs.crew.Crew.end.Given as goal

abbrev pub decreases-loop-child : goal.decreases-loop-child
decreases-loop-child g l = goal.left-loop-child g l

abbrev pub decreases-loop-child-2 : goal.decreases-loop-child-2
decreases-loop-child-2 g l = goal.left-loop-child-2 g l
