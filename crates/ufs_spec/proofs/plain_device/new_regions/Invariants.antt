use Rattle.std.proofs.Common.{◌≡◌, map}
use Rattle.ufs_spec.specs.Counting.{below}
use Rattle.ufs_spec.specs.Plain.{new_region}
use Rattle.ufs_spec.specs.PlainRegions.{region_seen}
use Rattle.ufs_spec.proofs.plain_device.new_regions.Given as goal

abbrev pub invariant-loop-region : goal.invariant-loop-region
invariant-loop-region l = map region_seen l.found.items ≡ map (new_region l.numbers) (below l.region)
