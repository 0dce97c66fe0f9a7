use Rattle.std.proofs.Common.{◌<◌, length}
use Rattle.ufs_spec.specs.Plain.{region_of}
use Rattle.journal.specs.Shown.{ShowsKey}
use Rattle.journal.proofs.EachRegion.{EachBelow}
use Rattle.journal.proofs.kept.have_keys.Given as goal

abbrev pub invariant-loop-index : goal.invariant-loop-index
invariant-loop-index l =
    EachBelow (λ number r. 0 < length (region_of l.plain number).area → ShowsKey r (region_of l.plain number)) l.regions
    l.index
