use Rattle.write_cache.proofs.Common.{ap, arith, claim_brought, length, map, map_over_more, set_length, ◌<◌, ◌∙◌}
use Rattle.std.proofs.Common.{slice_set}
use Rattle.write_cache.proofs.claims.rows.bring_rows.Goals as goal

pub loop-at-preserved : goal.loop-at-preserved
loop-at-preserved c =
    let rows = c.loop-at.rows.items in
    let i = c.loop-at.at in
    let f = map (claim_brought c.args.pending.now.items c.args.reader c.args.pages.now) in
    let less : i < length c.args.rows.now.items = omega arith in
    record {
      made = ap (slice_set rows i) c.bring.ensures
          ∙ map_over_more f c.args.rows.now.items rows i c.index_mut.result.now less c.loop-at.invariant.made
          c.index_mut.ensures.value;
      long = set_length rows i c.bring.new.self ∙ c.loop-at.invariant.long;
      room = c.loop-at.invariant.room;
    }
