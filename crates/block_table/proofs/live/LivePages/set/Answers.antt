use Rattle.block_table.proofs.Common.{Bool, Some, and_parts, ap, arith, beq, false, live_count, lives_of, spot_of}
use Rattle.block_table.proofs.Common.{subst, sym, true, ℕ, ◌∙◌, ◌≡◌, ◌≤◌}
use Rattle.block_table.proofs.LiveCounts.{IsChange, change_counted, change_inside, change_room, change_some}
use Rattle.block_table.proofs.LiveCounts.{change_within, count_after, count_there, is_change, place_now, seen_now}
use Rattle.block_table.proofs.Unpinned.{count_at_most, moved_unpinned}
use Rattle.block_table.proofs.live.LivePages.set.Goals as goal
use Rattle.block_table.proofs.live.LivePages.set.Goals.{then-live, else-live}

pub overflow_add-counted : goal.overflow_add-counted
overflow_add-counted c =
    let k : IsChange (lives_of c.self.inside) c.args.place true c.page_place-index.result =
    is_change (lives_of c.self.inside) c.args.self.now c.args.place true c.page_place-index.result c.index.result.now
    c.self.view_is (sym c.has_page.ensures ∙ c.if-not-has_page.false) c.page_place-index.ensures
    (omega (arith, c.self.inside.live.ok.0)) c.index.ensures
    (ap (beq c.index.result.now) (sym c.if-live.true) ∙ c.if-index-live.false) in
    let h = change_room c.live_count-count.result k
    (seen_now c.args.self.now (spot_of c.args.place) c.self.view_is c.live_count-count.ensures) in
    omega arith

pub overflow_sub-counted : goal.overflow_sub-counted
overflow_sub-counted c =
    let k : IsChange (lives_of c.self.inside) c.args.place false c.page_place-index.result =
    is_change (lives_of c.self.inside) c.args.self.now c.args.place false c.page_place-index.result c.index.result.now
    c.self.view_is (sym c.has_page.ensures ∙ c.if-not-has_page.false) c.page_place-index.ensures
    (omega (arith, c.self.inside.live.ok.0)) c.index.ensures
    (ap (beq c.index.result.now) (sym c.if-live.false) ∙ c.if-index-live.false) in
    let h = change_some c.live_count-count.result k
    (seen_now c.args.self.now (spot_of c.args.place) c.self.view_is c.live_count-count.ensures) in
    omega arith

pub index_mut-requires : goal.index_mut-requires
index_mut-requires c =
    let k : IsChange (lives_of c.self.inside) c.args.place c.args.live c.page_place-index.result =
    is_change (lives_of c.self.inside) c.args.self.now c.args.place c.args.live
    c.page_place-index.result c.index.result.now
    c.self.view_is (sym c.has_page.ensures ∙ c.if-not-has_page.false) c.page_place-index.ensures
    (omega (arith, c.self.inside.live.ok.0)) c.index.ensures c.if-index-live.false in
    let h = change_inside c.self.inside.counts.items c.block_place-block.result k c.self.invariant.counted
    (place_now c.args.self.now (spot_of c.args.place) c.self.view_is c.block_place-block.ensures) in
    omega (arith, c.self.inside.counts.ok.0)

pub invariant_of-self : goal.invariant_of-self
invariant_of-self c =
    let k : IsChange (lives_of c.self.inside) c.args.place c.args.live c.page_place-index.result =
    is_change (lives_of c.self.inside) c.args.self.now c.args.place c.args.live
    c.page_place-index.result c.index.result.now
    c.self.view_is (sym c.has_page.ensures ∙ c.if-not-has_page.false) c.page_place-index.ensures
    (omega (arith, c.self.inside.live.ok.0)) c.index.ensures c.if-index-live.false in
    let e = place_now c.args.self.now (spot_of c.args.place) c.self.view_is c.block_place-block.ensures in
    let f = seen_now c.args.self.now (spot_of c.args.place) c.self.view_is c.live_count-count.ensures in
    let read = count_there (lives_of c.self.inside) c.args.self.now c.self.inside.counts.items
    (spot_of c.args.place) c.block_place-block.result c.self.view_is c.self.invariant.counted
    (and_parts _ _ (sym c.has_page.ensures ∙ c.if-not-has_page.false)).0 c.block_place-block.ensures in
    record {
      counted = change_counted c.self.inside.counts.items c.block_place-block.result _ k c.self.invariant.counted e
          (elim c.if-live.branch [
            | then-live w ↦
                w.counted-is ∙ ap (count_after true) f
                ∙ sym (ap (λ (b : Bool). count_after b
                (live_count (lives_of c.self.inside) (spot_of c.args.place))) w.if-live.true)
            | else-live w ↦
                w.counted-is ∙ ap (count_after false) f
                ∙ sym (ap (λ (b : Bool). count_after b
                (live_count (lives_of c.self.inside) (spot_of c.args.place))) w.if-live.false)
          ]);
      whole = c.self.invariant.whole;
      buckets = c.move_block.ensures.buckets_are ∙ c.self.invariant.buckets;
      places = c.move_block.ensures.words_are ∙ c.self.invariant.places;
      by_count = moved_unpinned c.self.inside.unpinned_with c.move_block.new.self c.self.inside.counts.items
          c.self.inside.pins.items c.self.inside.sizes.pages c.block_place-block.result c.live_count-count.result _
          c.self.invariant.by_count (read ∙ ap (λ (n : ℕ). Some n) (sym c.live_count-count.ensures))
          (subst (λ (n : ℕ). n ≤ c.self.inside.sizes.pages) (sym f)
          (count_at_most (lives_of c.self.inside) (spot_of c.args.place))) c.move_block.ensures.has_is;
      bucket = c.self.invariant.bucket;
      words = c.self.invariant.words;
      unpinned = c.self.invariant.unpinned;
    }

pub move_block-requires-clause-from_there : goal.move_block-requires-clause-from_there
move_block-requires-clause-from_there c =
    let f = seen_now c.args.self.now (spot_of c.args.place) c.self.view_is c.live_count-count.ensures in
    let h = count_at_most (lives_of c.self.inside) (spot_of c.args.place) in
    omega (arith, c.self.invariant.buckets, f, h)

pub move_block-requires-clause-to_there : goal.move_block-requires-clause-to_there
move_block-requires-clause-to_there c =
    let f = seen_now c.args.self.now (spot_of c.args.place) c.self.view_is c.live_count-count.ensures in
    let k : IsChange (lives_of c.self.inside) c.args.place c.args.live c.page_place-index.result =
    is_change (lives_of c.self.inside) c.args.self.now c.args.place c.args.live
    c.page_place-index.result c.index.result.now
    c.self.view_is (sym c.has_page.ensures ∙ c.if-not-has_page.false) c.page_place-index.ensures
    (omega (arith, c.self.inside.live.ok.0)) c.index.ensures c.if-index-live.false in
    let h = change_within c.args.live c.live_count-count.result k f in
    let e : c.if-live.counted ≡ count_after c.args.live c.live_count-count.result =
    elim c.if-live.branch [
      | then-live w ↦ w.counted-is ∙ ap (λ (b : Bool). count_after b c.live_count-count.result) (sym w.if-live.true)
      | else-live w ↦ w.counted-is ∙ ap (λ (b : Bool). count_after b c.live_count-count.result) (sym w.if-live.false)
    ] in
    omega (arith, c.self.invariant.buckets, e, h)
