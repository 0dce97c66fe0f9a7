use Rattle.write_cache.proofs.Common.{List, Pending, ap, arith, claims_of, filter_map, is_claim_of, page_moved, take}
use Rattle.write_cache.proofs.Common.{◌++◌, ◌∙◌}
use Rattle.write_cache.proofs.Brought.{brought_more}
use Rattle.write_cache.proofs.Turns.{turned_more}
use Rattle.write_cache.proofs.claims.brought.move_pages.Goals as goal

pub loop-preserved : goal.loop-preserved
loop-preserved c =
    let f = page_moved c.args.number c.args.pages.now in
    let pages = c.move_page.ensures.pages_fit in
    let free = c.move_page.ensures.free_fit in
    let pages_before = c.loop.invariant.pages_fit in
    let free_before = c.loop.invariant.free_fit in
    record {
      turning = c.move_page.ensures.left
          ∙ turned_more (is_claim_of c.args.reader) c.loop.counter c.args.claims.now.items
          c.loop.claims.items (omega arith) c.loop.invariant.turning;
      claim_room = c.move_page.ensures.claim_room ∙ c.loop.invariant.claim_room;
      moved = c.move_page.ensures.moved
          ∙ ap (λ (xs : List Pending). xs ++ filter_map f (claims_of (take 1 c.loop.claims.items) c.args.reader))
          c.loop.invariant.moved
          ∙ brought_more c.args.reader c.loop.counter f c.args.claims.now.items c.loop.claims.items
          c.args.pending.now.items (omega arith) c.loop.invariant.turning;
      page_room = c.move_page.ensures.page_room ∙ c.loop.invariant.page_room;
      not_newer = c.move_page.ensures.not_newer;
      free_stays = c.move_page.ensures.free_stays ∙ c.loop.invariant.free_stays;
      as_many = c.move_page.ensures.as_many ∙ c.loop.invariant.as_many;
      pages_fit = omega (arith, pages, pages_before);
      free_fit = omega (arith, free, free_before);
    }
