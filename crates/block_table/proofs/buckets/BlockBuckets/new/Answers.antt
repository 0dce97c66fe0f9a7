use Rattle.block_table.proofs.Common.{List, ap, arith, has_in, length, length-replicate, replicate, words_for, ℕ, ◌*◌}
use Rattle.block_table.proofs.Common.{◌∙◌, ◌≡◌}
use Rattle.block_table.proofs.Marks.{new_level, new_marks}
use Rattle.block_table.proofs.BucketCounts.{new_counts, new_whole, none_in}
use Rattle.block_table.proofs.buckets.BlockBuckets.new.Goals as goal

pub invariant_of-result : goal.invariant_of-result
invariant_of-result c =
    let words = c.words_for-words.result in
    let groups = c.words_for.result in
    let n = c.args.buckets * words in
    let m = c.args.buckets * groups in
    let e : c.in_ok-vec.field-0.items ≡ replicate n 0 = c.in_ok-vec.ensures.items_if_clones_equal (λ y h. h) in
    let f : c.in_ok-vec-2.field-0.items ≡ replicate c.args.buckets 0 =
    c.in_ok-vec-2.ensures.items_if_clones_equal (λ y h. h) in
    let g : c.in_ok-vec-3.field-0.items ≡ replicate m 0 = c.in_ok-vec-3.ensures.items_if_clones_equal (λ y h. h) in
    let h : c.in_ok-vec-3.field-0.items ≡ replicate (c.args.buckets * words_for words) 0 =
    g ∙ ap (λ (k : ℕ). replicate (c.args.buckets * k) 0) c.words_for.ensures in
    record {
      whole = new_whole c.args.buckets words c.in_ok-vec.field-0.items c.in_ok-vec-2.field-0.items e f;
      few = omega (arith, c.requires.few, c.words_for-words.ensures);
      counted = new_counts n c.args.buckets words c.in_ok-vec.field-0.items c.in_ok-vec-2.field-0.items e f;
      level = new_level c.args.buckets words c.in_ok-vec-3.field-0.items c.in_ok-vec-2.field-0.items h f;
      marked = new_marks n m words c.in_ok-vec.field-0.items c.in_ok-vec-3.field-0.items e g;
    }

pub returns : goal.returns
returns c =
    let words = c.words_for-words.result in
    let n = c.args.buckets * words in
    let e : c.in_ok-vec.field-0.items ≡ replicate n 0 = c.in_ok-vec.ensures.items_if_clones_equal (λ y h. h) in
    let f : c.in_ok-vec-2.field-0.items ≡ replicate c.args.buckets 0 =
    c.in_ok-vec-2.ensures.items_if_clones_equal (λ y h. h) in
    record {
      buckets_are = ap length f ∙ length-replicate {A = ℕ} c.args.buckets 0;
      words_are = c.words_for-words.ensures;
      has_is = λ k p. ap (λ (xs : List ℕ). has_in xs words k p) e ∙ none_in n words k p;
    }
