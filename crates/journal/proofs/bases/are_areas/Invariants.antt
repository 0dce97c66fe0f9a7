use Rattle.std.proofs.Common.{◌<◌}
use Rattle.ufs_spec.specs.Plain.{area_len}
use Rattle.journal.specs.Shown.{IsArea}
use Rattle.journal.proofs.EachRegion.{EachBelow}
use Rattle.journal.proofs.bases.are_areas.Given as goal

abbrev pub invariant-loop-index : goal.invariant-loop-index
invariant-loop-index l =
    EachBelow (λ number r. 0 < area_len l.numbers number → IsArea l.numbers number r) l.regions l.index
