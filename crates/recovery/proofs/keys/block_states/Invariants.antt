use Rattle.recovery.proofs.Common.{false, found_block, get_or, length, slice_get, ℕ, ◌<◌, ◌≡◌}
use Rattle.std.specs.Prelude.{Some}
use Rattle.recovery.proofs.keys.block_states.Given as goal

abbrev pub invariant-loop-index : goal.invariant-loop-index
invariant-loop-index l = record {
  long : length l.states.items ≡ l.index;
  states : (i : ℕ) → i < l.index →
      slice_get l.states.items i ≡ Some (found_block (get_or l.free i false) (get_or l.opening i false) (get_or l.bad i false));
}
