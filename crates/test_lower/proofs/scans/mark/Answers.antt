use Rattle.std.proofs.Common.{arith, refl}
use Rattle.test_lower.proofs.scans.mark.Goals as goal

pub seal-requires : goal.seal-requires
seal-requires c =
    record {
      kind_known = (omega arith, omega arith);
      unit_known = omega arith;
      region_known = λ h. absurd (omega (arith, h));
      unit_of_blocks_alone = λ h. refl;
      address_fits = omega arith;
      address_of_blocks_alone = λ h. refl;
      number_given = (c.requires.0, c.requires.1);
      group_not_long = (omega arith, omega arith);
      index_in_group = omega arith;
      mark_alone = λ h. (refl, refl);
      frontier_fits = c.requires.2;
    }
