use Rattle.write_cache.proofs.Common.{ap, arith, claims_but, is_claim_behind, length, map_over_more, set_length, ◌<◌}
use Rattle.write_cache.proofs.Common.{◌∙◌}
use Rattle.std.proofs.Common.{slice_set}
use Rattle.write_cache.proofs.AllClaims.{row_within, set_long}
use Rattle.write_cache.proofs.claims.rows.free_from_rows.Goals as goal

pub free_claims-requires : goal.free_claims-requires
free_claims-requires c =
    let less : c.loop-at.at < length c.loop-at.rows.items = omega arith in
    let within = row_within c.loop-at.rows.items c.loop-at.at c.index_mut.result.now less c.index_mut.ensures.value in
    let many = c.loop-at.invariant.as_many in
    let room = c.loop-at.invariant.room in
    let fits = c.requires in
    omega (arith, within, many, room, fits)

pub loop-at-preserved : goal.loop-at-preserved
loop-at-preserved c =
    let rows = c.loop-at.rows.items in
    let i = c.loop-at.at in
    let row = c.index_mut.result.now in
    let left = claims_but (is_claim_behind c.args.reader c.args.count) in
    let less : i < length c.args.rows.now.items = omega arith in
    let there : i < length rows = omega arith in
    let long = set_long rows i row c.free_claims.new.self there c.index_mut.ensures.value in
    let many = c.free_claims.ensures.as_many in
    let before = c.loop-at.invariant.as_many in
    record {
      left = ap (slice_set rows i) c.free_claims.ensures.left
          ∙ map_over_more left c.args.rows.now.items rows i row less c.loop-at.invariant.left
          c.index_mut.ensures.value;
      long = set_length rows i c.free_claims.new.self ∙ c.loop-at.invariant.long;
      row_room = c.loop-at.invariant.row_room;
      room = c.free_claims.ensures.room ∙ c.loop-at.invariant.room;
      as_many = omega (arith, long, many, before);
    }
