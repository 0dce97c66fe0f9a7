use Rattle.block_table.proofs.Common.{ap, false, length, length-replicate, replicate, ℕ, ◌*◌, ◌∙◌, ◌≡◌}
use Rattle.block_table.proofs.LiveCounts.{new_counted}
use Rattle.block_table.proofs.Unpinned.{new_no_pin, new_unpinned}
use Rattle.block_table.proofs.live.LivePages.new.Goals as goal

pub invariant_of-result : goal.invariant_of-result
invariant_of-result c =
    let n = c.args.sizes.dies * c.args.sizes.blocks in
    let d : c.in_ok-vec.field-0.items ≡ replicate (n * c.args.sizes.pages) false =
    c.in_ok-vec.ensures.items_if_clones_equal (λ y h. h) in
    let e : c.in_ok-vec-2.field-0.items ≡ replicate n 0 = c.in_ok-vec-2.ensures.items_if_clones_equal (λ y h. h) in
    let f : c.in_ok-vec-3.field-0.items ≡ replicate n 0 = c.in_ok-vec-3.ensures.items_if_clones_equal (λ y h. h) in
    record {
      counted = new_counted c.args.sizes c.in_ok-vec.field-0.items c.in_ok-vec-2.field-0.items
          c.in_ok-vec-3.field-0.items d e f;
      whole = ap length f ∙ length-replicate {A = ℕ} n 0;
      buckets = c.in_ok-first_full.ensures.buckets_are;
      places = c.in_ok-first_full.ensures.words_are;
      by_count = new_unpinned n c.args.sizes.pages c.in_ok-vec-2.field-0.items c.in_ok-vec-3.field-0.items
          c.in_ok-first_full.field-0 _ _ e f c.in_ok-first_full.ensures;
      bucket = c.in_ok-first_full-2.ensures.buckets_are;
      words = c.in_ok-first_full-2.ensures.words_are;
      unpinned = new_no_pin n c.in_ok-vec-3.field-0.items c.in_ok-first_full-2.field-0 _ _ f
          c.in_ok-first_full-2.ensures;
    }
