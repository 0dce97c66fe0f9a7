use Rattle.std.proofs.Common.{◌≡◌, ◌≤◌, ◌*◌, take, sum_by}
use Rattle.geometry.proofs.keys.page_count.Given as goal

abbrev pub invariant-loop-steps : goal.invariant-loop-steps
invariant-loop-steps l = (l.count ≤ 8160 * l.steps-index) ×
    (l.count ≡ sum_by (λ steps. 32 * steps) (take l.steps-index l.areas))
