use Rattle.block_table.proofs.Common.{Stands, length, words_for}
use Rattle.block_table.proofs.States.{sorted_to}
use Rattle.block_table.proofs.sorted.Given as goal

abbrev pub invariant-loop-place : goal.invariant-loop-place
invariant-loop-place l = Stands l.sorted 6 (words_for (length l.states)) (sorted_to l.place l.states)
