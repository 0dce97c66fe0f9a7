use Rattle.ftl_core.proofs.Common.{fold, none_live, take, with_stored, ◌≡◌}
use Rattle.ftl_core.proofs.ftl.live_at.Given as goal

abbrev pub invariant-loop-index : goal.invariant-loop-index
invariant-loop-index l = l.live ≡ fold with_stored (none_live l.fn.sizes) (take l.index l.places)
