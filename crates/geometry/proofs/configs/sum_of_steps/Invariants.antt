use Rattle.std.proofs.Common.{◌≡◌, ◌≤◌, ◌*◌, take, sum}
use Rattle.geometry.proofs.configs.sum_of_steps.Given as goal

abbrev pub invariant-loop-steps : goal.invariant-loop-steps
invariant-loop-steps l = (l.sum ≤ 255 * l.steps-index) × (l.sum ≡ sum (take l.steps-index l.areas))
