use Rattle.std.proofs.Common.{◌≡◌, ◌+◌, ◌*◌, ◌++◌}
use Rattle.arrayvec.specs.ArrayVec.{array_vec_len}
use Rattle.lun_route.specs.Lists.{numbered_entries}
use Rattle.lun_route.proofs.identities.put_units.Given as goal

-- the entries of the units so far are there
abbrev pub invariant-loop-unit : goal.invariant-loop-unit
invariant-loop-unit l =
    record {
      entries : l.list.items ≡ l.fn.list.items ++ numbered_entries l.unit;
      long : array_vec_len l.list ≡ array_vec_len l.fn.list + 8 * l.unit;
    }
