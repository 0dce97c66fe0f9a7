use Rattle.write_cache.proofs.Common.{List, Pending, ap, arith, claims_but, claims_of, filter_map, is_claim_of, length}
use Rattle.write_cache.proofs.Common.{map_over_more, page_moved, set_length, ◌++◌, ◌<◌, ◌∙◌}
use Rattle.std.proofs.Common.{slice_set}
use Rattle.write_cache.proofs.AllClaims.{next_at, paged_on, row_within, set_long}
use Rattle.write_cache.proofs.claims.rows.move_pages_from_rows.Goals as goal

pub move_pages-requires-clause-room : goal.move_pages-requires-clause-room
move_pages-requires-clause-room c =
    let less : c.loop-at.at < length c.loop-at.rows.items = omega arith in
    let within = row_within c.loop-at.rows.items c.loop-at.at c.index_mut.result.now less c.index_mut.ensures.value in
    let fit = c.loop-at.invariant.pages_fit in
    let room = c.loop-at.invariant.page_room in
    let fits = c.requires.room in
    omega (arith, within, fit, room, fits)

pub move_pages-requires-clause-free_room : goal.move_pages-requires-clause-free_room
move_pages-requires-clause-free_room c =
    let less : c.loop-at.at < length c.loop-at.rows.items = omega arith in
    let within = row_within c.loop-at.rows.items c.loop-at.at c.index_mut.result.now less c.index_mut.ensures.value in
    let fit = c.loop-at.invariant.free_fit in
    let room = c.loop-at.invariant.free_stays in
    let fits = c.requires.free_room in
    omega (arith, within, fit, room, fits)

pub loop-at-preserved : goal.loop-at-preserved
loop-at-preserved c =
    let all = c.args.rows.now.items in
    let rows = c.loop-at.rows.items in
    let i = c.loop-at.at in
    let row = c.index_mut.result.now in
    let left = claims_but (is_claim_of c.args.reader) in
    let f = page_moved c.args.number c.args.pages.now in
    let less : i < length all = omega arith in
    let there : i < length rows = omega arith in
    let long = set_long rows i row c.move_pages.new.self there c.index_mut.ensures.value in
    let many = c.move_pages.ensures.as_many in
    let many_before = c.loop-at.invariant.as_many in
    let pages = c.move_pages.ensures.pages_fit in
    let pages_before = c.loop-at.invariant.pages_fit in
    let free = c.move_pages.ensures.free_fit in
    let free_before = c.loop-at.invariant.free_fit in
    record {
      left = ap (slice_set rows i) c.move_pages.ensures.left
          ∙ map_over_more left all rows i row less c.loop-at.invariant.left c.index_mut.ensures.value;
      long = set_length rows i c.move_pages.new.self ∙ c.loop-at.invariant.long;
      row_room = c.loop-at.invariant.row_room;
      moved = c.move_pages.ensures.moved
          ∙ ap (λ (xs : List Pending). xs ++ filter_map f (claims_of row c.args.reader)) c.loop-at.invariant.moved
          ∙ paged_on c.args.reader f i all row c.args.pending.now.items less
          (c.index_mut.ensures.value ∙ next_at left i all rows row less c.loop-at.invariant.left);
      page_room = c.move_pages.ensures.page_room ∙ c.loop-at.invariant.page_room;
      not_newer = c.move_pages.ensures.not_newer;
      free_stays = c.move_pages.ensures.free_stays ∙ c.loop-at.invariant.free_stays;
      as_many = omega (arith, long, many, many_before);
      pages_fit = omega (arith, long, pages, pages_before);
      free_fit = omega (arith, long, free, free_before);
    }
