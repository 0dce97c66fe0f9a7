use Rattle.ftl_core.proofs.Common.{none_live}
use Rattle.ftl_core.proofs.live_pages.FirstLive.{next_stored}
use Rattle.ftl_core.proofs.ftl.live_at.Goals as goal

pub loop-index-preserved : goal.loop-index-preserved
loop-index-preserved c =
    next_stored (none_live c.args.sizes) c.args.places.now c.loop-index.index c.loop-index.live c.stored_at.result c.set_stored.new.live
    c.loop-index.invariant c.stored_at.ensures c.set_stored.ensures
