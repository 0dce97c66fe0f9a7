use Rattle.std.proofs.Common.{◌≡◌, true}
use Rattle.std.specs.List.{list_all}
use Rattle.std.specs.Prelude.{slice_index}
use Rattle.ufs_spec.specs.CdbFields.{is_within}
use Rattle.ufs_spec.specs.Counting.{below}
use Rattle.scsi_cdb.proofs.rows.has_only.Given as goal

abbrev pub invariant-loop-place : goal.invariant-loop-place
invariant-loop-place l =
    list_all (λ place. is_within (slice_index l.taken place) (slice_index l.bytes place)) (below l.place)
    ≡ true
