use Rattle.std.proofs.Common.{◌≡◌, ◌++◌, drop, map, take}
use Rattle.ufs_spec.specs.Counting.{below}
use Rattle.ufs_spec.specs.Plain.{new_region, regions}
use Rattle.journal.specs.Shown.{regions_held}
use Rattle.journal.proofs.bases.set_regions.Given as goal

-- the regions before this one are held, and the others are new
abbrev pub invariant-loop-index : goal.invariant-loop-index
invariant-loop-index l =
    l.plain ≡ record l.fn.plain {
      regions = take l.index (regions_held l.numbers 0 l.found) ++ drop l.index (map (new_region l.numbers) (below regions));
    }
