use Rattle.std.proofs.Common.{◌≡◌, ◌+◌, ◌*◌, take, sum_by}
use Rattle.geometry.proofs.keys.key_behind_units.Given as goal

abbrev pub invariant-loop-region : goal.invariant-loop-region
invariant-loop-region l = sum_by (λ steps. 32 * steps) (take l.region l.steps-items) + l.rest ≡ l.fn.index
