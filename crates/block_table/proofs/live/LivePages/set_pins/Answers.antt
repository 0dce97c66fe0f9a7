use Rattle.block_table.proofs.Common.{Lives, Some, ap, arith, blocks_in, length, live_count, lives_of, set_length, spot}
use Rattle.block_table.proofs.Common.{subst, sym, ℕ, ◌<◌, ◌∙◌, ◌≤◌}
use Rattle.block_table.proofs.LiveCounts.{count_there}
use Rattle.block_table.proofs.Unpinned.{count_at_most, place_inside, set_no_pin, set_unpinned}
use Rattle.block_table.proofs.live.LivePages.set_pins.Goals as goal

pub set-requires-clause-bucket_there : goal.set-requires-clause-bucket_there
set-requires-clause-bucket_there c =
    let h : live_count c.args.self.now (spot c.args.die c.args.block) ≤ c.self.inside.sizes.pages =
    subst (λ (l : Lives). live_count c.args.self.now (spot c.args.die c.args.block) ≤ l.sizes.pages) (sym c.self.view_is)
    (count_at_most c.args.self.now (spot c.args.die c.args.block)) in
    omega (arith, c.live_count-live.ensures, c.self.invariant.buckets)

pub invariant_of-self : goal.invariant_of-self
invariant_of-self c =
    let index = c.block_place-index.result in
    let live = c.live_count-live.result in
    let read = count_there (lives_of c.self.inside) c.args.self.now c.self.inside.counts.items
    (spot c.args.die c.args.block) index c.self.view_is c.self.invariant.counted
    (sym c.has_block.ensures ∙ c.if-not-has_block.false) c.block_place-index.ensures in
    let place : index < blocks_in c.self.inside.sizes =
    place_inside c.args.self.now (spot c.args.die c.args.block) index c.self.view_is
    (sym c.has_block.ensures ∙ c.if-not-has_block.false) c.block_place-index.ensures in
    let l : index < length c.self.inside.pins.items = omega (arith, c.self.invariant.whole) in
    record {
      counted = c.self.invariant.counted;
      whole = set_length c.self.inside.pins.items index c.args.count ∙ c.self.invariant.whole;
      buckets = c.set.ensures.buckets_are ∙ c.self.invariant.buckets;
      places = c.set.ensures.words_are ∙ c.self.invariant.places;
      by_count = set_unpinned c.self.inside.unpinned_with c.set.new.self c.self.inside.counts.items
          c.self.inside.pins.items c.self.inside.sizes.pages index live c.args.count c.self.invariant.by_count
          (read ∙ ap (λ (n : ℕ). Some n) (sym c.live_count-live.ensures)) l c.set.ensures.has_is;
      bucket = c.set-2.ensures.buckets_are ∙ c.self.invariant.bucket;
      words = c.set-2.ensures.words_are ∙ c.self.invariant.words;
      unpinned = set_no_pin c.self.inside.unpinned c.set-2.new.self c.self.inside.pins.items index c.args.count
          c.self.invariant.unpinned l c.set-2.ensures.has_is;
    }
