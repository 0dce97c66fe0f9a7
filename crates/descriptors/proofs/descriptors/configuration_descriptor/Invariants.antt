use Rattle.std.proofs.Common.{◌≡◌, ◌+◌, ◌*◌, ◌++◌}
use Rattle.std.specs.List.{flat_map}
use Rattle.std.specs.Prelude.{slice_get}
use Rattle.arrayvec.specs.ArrayVec.{array_vec_len}
use Rattle.ufs_spec.specs.Descriptors.{unit_configuration_at}
use Rattle.ufs_spec.specs.Keys.{below}
use Rattle.descriptors.specs.Bytes.{configuration_head}
use Rattle.descriptors.proofs.descriptors.configuration_descriptor.Given as goal

-- the units so far are there
abbrev pub invariant-loop-number : goal.invariant-loop-number
invariant-loop-number l = record {
  bytes : l.told.items ≡ configuration_head l.numbers
      ++ flat_map (λ number. unit_configuration_at (slice_get l.numbers.units.items number)) (below l.number);
  length : array_vec_len l.told ≡ 16 + 16 * l.number;
}
