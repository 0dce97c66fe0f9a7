use Rattle.write_cache.proofs.Common.{AreBare, arith, subst, sym}
use Rattle.write_cache.proofs.AllClaims.{bare_more}
use Rattle.write_cache.proofs.claims.rows.spare_rows.Goals as goal

pub loop-preserved : goal.loop-preserved
loop-preserved c = record {
  bare = subst AreBare (sym c.push_reserved.ensures.items)
      (bare_more c.loop.spare.items c.in_ok-new.field-0 c.loop.invariant.bare c.in_ok-new.ensures);
  long = grind (arith, c.push_reserved.ensures.len, c.loop.invariant.long);
  room = grind (arith, c.push_reserved.ensures.capacity, c.loop.invariant.room);
}
