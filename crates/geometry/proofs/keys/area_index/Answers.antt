use Rattle.std.proofs.Common.{◌≡◌, arith, length}
use Rattle.ufs_spec.specs.Plain.{regions}
use Rattle.geometry.proofs.Areas.{pages_before, pages_of_region}
use Rattle.geometry.proofs.keys.area_index.Goals as goal

pub returns : goal.returns
returns c =
    let four : length c.args.numbers.now.rpmb ≡ regions = omega arith in
    let there = pages_of_region c.args.numbers.now c.args.region four in
    let before = pages_before c.args.numbers.now c.args.region four in
    (omega arith, omega (arith, there), cc)
