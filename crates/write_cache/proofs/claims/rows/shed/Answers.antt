use Rattle.write_cache.proofs.Common.{arith, length, ◌<◌, ◌∙◌}
use Rattle.write_cache.proofs.AllClaims.{shed_next, shed_on, shed_there}
use Rattle.write_cache.proofs.claims.rows.shed.Goals as goal

pub shed_row-at-requires-clause-there : goal.shed_row-at-requires-clause-there
shed_row-at-requires-clause-there c =
    let less : c.loop.counter < length c.args.rows.now.items = omega arith in
    shed_there c.loop.counter c.loop.at c.args.rows.now.items c.loop.rows.items less c.loop.invariant.left
    c.loop.invariant.next

pub loop-preserved : goal.loop-preserved
loop-preserved c =
    let less : c.loop.counter < length c.args.rows.now.items = omega arith in
    record {
      left = shed_on c.loop.counter c.loop.at c.args.rows.now.items c.loop.rows.items
          c.shed_row-at.new.rows.items less c.loop.invariant.left c.loop.invariant.next c.shed_row-at.ensures.left;
      next = shed_next c.loop.counter c.loop.at c.shed_row-at.result c.args.rows.now.items c.loop.rows.items less
          c.loop.invariant.left c.loop.invariant.next c.shed_row-at.ensures.next;
      bare = c.shed_row-at.ensures.bare;
      as_many = c.shed_row-at.ensures.as_many ∙ c.loop.invariant.as_many;
      room = c.shed_row-at.ensures.room ∙ c.loop.invariant.room;
      spare_room = c.shed_row-at.ensures.spare_room ∙ c.loop.invariant.spare_room;
    }
