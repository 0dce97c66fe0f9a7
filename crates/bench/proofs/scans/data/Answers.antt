use Rattle.std.proofs.Common.{arith}
use Rattle.bench.proofs.scans.data.Goals as goal

pub seal-requires : goal.seal-requires
seal-requires c =
    record {
      kind_known = (omega arith, omega arith);
      unit_known = omega arith;
      region_known = λ h. absurd (omega (arith, h));
      unit_of_blocks_alone = λ h. absurd (omega (arith, h));
      address_fits = c.requires;
      address_of_blocks_alone = λ h. absurd (omega (arith, h));
      number_given = (omega arith, omega arith);
      group_not_long = (omega arith, omega arith);
      index_in_group = omega arith;
      mark_alone = λ h. absurd (omega (arith, h));
      frontier_fits = omega arith;
    }
