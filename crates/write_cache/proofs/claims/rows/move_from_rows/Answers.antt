use Rattle.write_cache.proofs.Common.{List, Pending, ap, arith, claims_but, claims_of, is_claim_of, length, map}
use Rattle.write_cache.proofs.Common.{map_over_more, page_claimed, set_length, ◌++◌, ◌<◌, ◌∙◌}
use Rattle.std.proofs.Common.{slice_set}
use Rattle.write_cache.proofs.AllClaims.{moved_on, next_at, row_within, set_long}
use Rattle.write_cache.proofs.claims.rows.move_from_rows.Goals as goal

pub move_claims-requires-clause-room : goal.move_claims-requires-clause-room
move_claims-requires-clause-room c =
    let less : c.loop-at.at < length c.loop-at.rows.items = omega arith in
    let within = row_within c.loop-at.rows.items c.loop-at.at c.index_mut.result.now less c.index_mut.ensures.value in
    let many = c.loop-at.invariant.as_many in
    let room = c.loop-at.invariant.page_room in
    let fits = c.requires.room in
    omega (arith, within, many, room, fits)

pub loop-at-preserved : goal.loop-at-preserved
loop-at-preserved c =
    let all = c.args.rows.now.items in
    let rows = c.loop-at.rows.items in
    let i = c.loop-at.at in
    let row = c.index_mut.result.now in
    let left = claims_but (is_claim_of c.args.reader) in
    let f = page_claimed c.args.group.key c.args.group.number c.args.group.size in
    let less : i < length all = omega arith in
    let there : i < length rows = omega arith in
    let long = set_long rows i row c.move_claims.new.self there c.index_mut.ensures.value in
    let many = c.move_claims.ensures.as_many in
    let before = c.loop-at.invariant.as_many in
    record {
      left = ap (slice_set rows i) c.move_claims.ensures.left
          ∙ map_over_more left all rows i row less c.loop-at.invariant.left c.index_mut.ensures.value;
      long = set_length rows i c.move_claims.new.self ∙ c.loop-at.invariant.long;
      row_room = c.loop-at.invariant.row_room;
      moved = c.move_claims.ensures.moved
          ∙ ap (λ (xs : List Pending). xs ++ map f (claims_of row c.args.reader)) c.loop-at.invariant.moved
          ∙ moved_on c.args.reader f i all row c.args.pages.now.items less
          (c.index_mut.ensures.value ∙ next_at left i all rows row less c.loop-at.invariant.left);
      page_room = c.move_claims.ensures.page_room ∙ c.loop-at.invariant.page_room;
      not_newer = c.move_claims.ensures.not_newer;
      as_many = omega (arith, long, many, before);
    }
