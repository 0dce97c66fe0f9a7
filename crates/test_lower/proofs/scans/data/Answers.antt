use Rattle.std.proofs.Common.{arith}
use Rattle.test_lower.proofs.scans.data.Goals as goal

pub seal-requires : goal.seal-requires
seal-requires c =
    let r = c.requires in
    record {
      kind_known = (omega arith, omega arith);
      unit_known = omega arith;
      region_known = λ h. absurd (omega (arith, h));
      unit_of_blocks_alone = λ h. absurd (omega (arith, h));
      address_fits = r.0;
      address_of_blocks_alone = λ h. absurd (omega (arith, h));
      number_given = (r.1, r.2);
      group_not_long = (omega (arith, r.3), r.4);
      index_in_group = r.3;
      mark_alone = λ h. absurd (omega (arith, h));
      frontier_fits = omega arith;
    }
