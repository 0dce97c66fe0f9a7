use Rattle.device.proofs.Common.{None, OpenTask, Some, Translation, owed_by, ℕ, ◌<◌, ◌≡◌}
use Rattle.std.proofs.Common.{slice_get}
use Rattle.ftl_core.specs.Public.{Describes}
use Rattle.device.proofs.device.Device.due.Given as goal

abbrev pub invariant-loop-index : goal.invariant-loop-index
invariant-loop-index l =
    (l.into ≡ l.fn.into)
    × ((t : Translation) (k : ℕ) (task : OpenTask) → Describes l.self.ftl t → k < l.index →
    slice_get l.self.tasks k ≡ Some task → owed_by t task ≡ None)
