use Rattle.write_cache.proofs.Common.{arith, length, ◌+◌, ◌<◌}
use Rattle.write_cache.proofs.AllClaims.{counted_on, counted_within}
use Rattle.write_cache.proofs.claims.rows.count_in_rows.Goals as goal

pub overflow_add-count : goal.overflow_add-count
overflow_add-count c =
    let rows = c.args.rows.now.items in
    let less : c.loop-at.at < length rows = omega arith in
    let on = counted_on c.args.reader c.loop-at.at rows c.index.result.now less c.index.ensures in
    let within = counted_within c.args.reader (c.loop-at.at + 1) rows in
    let one = c.count-count.ensures in
    let count = c.loop-at.invariant in
    let few = c.requires in
    omega (arith, on, within, one, count, few)

pub loop-at-preserved : goal.loop-at-preserved
loop-at-preserved c =
    let rows = c.args.rows.now.items in
    let less : c.loop-at.at < length rows = omega arith in
    let on = counted_on c.args.reader c.loop-at.at rows c.index.result.now less c.index.ensures in
    let one = c.count-count.ensures in
    let count = c.loop-at.invariant in
    omega (arith, on, one, count)
