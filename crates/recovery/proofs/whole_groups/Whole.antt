-- The kept number, from the buckets.
use Rattle.recovery.proofs.Common.{AreListed, AreTags, Bucket, Cells, FoundPage, HasIndex, IsBucket, IsKept, List, Mark}
use Rattle.recovery.proofs.Common.{Option, Some, arith, get_there, greatest_number, group_bound, length, slice_get}
use Rattle.recovery.proofs.Common.{slice_get_within, subst, suc, sym, true, ℕ, ⊎_elim, ◌+◌, ◌<◌, ◌∙◌, ◌≡◌, ◌≢◌, ◌≤◌}
use Rattle.std.proofs.Common.{min, ◌-◌}
use Rattle.std.proofs.lemmas.Bool.{cases_lt, false_from_ne_true}
use Rattle.ufs_spec.specs.Kept.{HasPage, IsRecorded, IsWhole}
use Rattle.recovery.proofs.greatest_numbers.Among.{among_all}
use Rattle.recovery.proofs.whole_groups.Pigeons.{too_many}
use Rattle.recovery.specs.Buckets.{AreBuckets, IsOfGroup, IsWholeBucket}
use Rattle.recovery.specs.declared.kept.Groups.{Groups}

module _ (c : Cells) (pages : List FoundPage) (listed : AreListed c pages) where
  pub tags_of : AreTags pages
  tags_of j e at = (listed.tags j e at).0

  -- a page of the group stands in the list
  found : (n i : ℕ) → HasPage c n i →
      (j : ℕ) × (e : FoundPage) × (slice_get pages j ≡ Some e) × (e.tag.number ≡ n) × (e.tag.index ≡ i)
  found n i page =
      let at = listed.all page.0 page.1 page.2 page.3 in
      (at.0, record { place = page.0; tag = page.1 }, at.1, page.4, page.5)

  -- Groups and their buckets

  module _ (n : ℕ) (b : Bucket) (Has : ℕ → Type 0) (h : IsBucket pages (length pages) n b Has) where
    pub group_whole : IsWholeBucket b Has → IsWhole c n
    group_whole whole = record {
      size = b.size;
      some = whole.some;
      one_size = λ p t body at number.
          let in_list = listed.all p t body at in
          h.same whole.one_size (record { place = p; tag = t }) (among_all pages in_list.0 _ in_list.1, number);
      each = λ i less.
          let r = h.seen i (in_bound i less) (whole.each i less) in
          let there = listed.there r.1.0.0 r.0 r.1.0.2 in
          (r.0.place, r.0.tag, there.0, there.1, r.1.1, r.2);
    }
      where
        in_bound : (i : ℕ) → i < b.size → i < group_bound
        in_bound i less = let within : b.size ≤ group_bound = whole.within in omega arith

    module _ (whole : IsWhole c n) where
      one_size : (e : FoundPage) → IsOfGroup pages (length pages) n e → e.tag.size ≡ whole.size
      one_size e k =
          let there = listed.there k.0.0 e k.0.2 in
          whole.one_size e.place e.tag there.0 there.1 k.1

      in_group : (i : ℕ) → i < whole.size → (e : FoundPage) × IsOfGroup pages (length pages) n e × (e.tag.index ≡ i)
      in_group i less =
          let r = found n i (whole.each i less) in
          (r.1, (among_all pages r.0 r.1 r.2, r.3), r.4)

      has_size : b.size ≢ 0
      has_size none = let r = in_group 0 whole.some in h.none none r.0 r.1

      noted_size : b.size ≡ whole.size
      noted_size = let r = h.some has_size in sym r.2 ∙ one_size r.0 r.1

      not_mixed : b.mixed ≡ true → ⊥
      not_mixed mixed = let r = h.differ mixed in r.2 (one_size r.0 r.1 ∙ sym noted_size)

      not_long : b.size ≤ group_bound
      not_long =
          let r = h.some has_size in
          let long : r.0.tag.size ≤ group_bound = (tags_of r.1.0.0 r.0 r.1.0.2).group_not_long.1 in
          subst (λ (x : ℕ). x ≤ group_bound) r.2 long

      pub bucket_whole : IsWholeBucket b Has
      bucket_whole = record {
        one_size = false_from_ne_true b.mixed not_mixed;
        some = subst (λ (x : ℕ). 0 < x) (sym noted_size) whole.some;
        within = not_long;
        each = λ k less.
            let r = in_group k (subst (λ (x : ℕ). k < x) noted_size less) in subst Has r.2 (h.all r.0 r.1);
      }

  -- A whole group has a page, whose number has its range

  numbered : (n : ℕ) → IsWhole c n → (j : ℕ) × (e : FoundPage) × (slice_get pages j ≡ Some e) × (e.tag.number ≡ n)
  numbered n whole = let r = found n 0 (whole.each 0 whole.some) in (r.0, r.1, r.2, r.3)

  none_above : (n : ℕ) → greatest_number < n → IsWhole c n → ⊥
  none_above n more whole =
      let r = numbered n whole in
      let fits : r.1.tag.number ≤ greatest_number = (tags_of r.0 r.1 r.2).number_given.1 in
      let is : r.1.tag.number ≡ n = r.3 in
      absurd (omega arith)

  -- at the place of the list the page of a number stands
  abbrev Stands : ℕ → ℕ → ℕ → Type 0
  Stands from k i = (e : FoundPage) × (slice_get pages i ≡ Some e) × (e.tag.number ≡ suc (from + k))

  alone : (from k j i : ℕ) → Stands from k i → Stands from j i → k ≡ j
  alone from k j i a b =
      let first : a.0.tag.number ≡ suc (from + k) = a.2 in
      let second : b.0.tag.number ≡ suc (from + j) = b.2 in
      let same : a.0.tag.number ≡ b.0.tag.number = one_number a.0 b.0 a.1 b.1 in
      omega arith
    where
      one_number : (x y : FoundPage) → slice_get pages i ≡ Some x → slice_get pages i ≡ Some y →
          x.tag.number ≡ y.tag.number
      one_number x y l r = cc

  -- the whole groups next to each other are no more than the pages
  no_more : (from : ℕ) → ((k : ℕ) → k < suc (length pages) → IsWhole c (suc (from + k))) → ⊥
  no_more from whole =
      too_many (length pages) (Stands from)
      (λ k less.
      let r = numbered (suc (from + k)) (whole k less) in
      (r.0, slice_get_within pages r.0 r.1 r.2, (r.1, r.2, r.3)))
      (alone from)

  -- The kept number

  module _ (m : Option Mark) (from count : ℕ) (g : Groups) (are : AreBuckets pages from g)
      (below : (k : ℕ) (b : Bucket) → k < count → slice_get g.buckets.items k ≡ Some b →
      IsWholeBucket b (HasIndex g.seen k)) (within : count ≤ length g.buckets.items) where
    group_at : (k : ℕ) → k < count → IsWhole c (suc (from + k))
    group_at k less =
        let at = get_there g.buckets.items k (omega arith) in
        group_whole (suc (from + k)) at.0 (HasIndex g.seen k) (are.each tags_of k at.0 at.1) (below k at.0 less at.1)

    behind : (n : ℕ) → from < n → n ≤ from + count → IsWhole c n
    behind n more less =
        let is : suc (from + (n - suc from)) ≡ n = omega arith in
        subst (λ (x : ℕ). IsWhole c x) is (group_at (n - suc from) (omega arith))

    one_more : IsWhole c (suc (from + count)) → (k : ℕ) → k < suc count → IsWhole c (suc (from + k))
    one_more last k less = ⊎_elim (λ (l : k < count). group_at k l)
        (λ (r : count ≤ k).
        let is : count ≡ k = omega arith in subst (λ (x : ℕ). IsWhole c (suc (from + x))) is last)
        (cases_lt k count)

    all_whole : from ≤ greatest_number → count ≡ length g.buckets.items → IsWhole c (suc (from + count)) → ⊥
    all_whole fits all last =
        let counted : length g.buckets.items ≡ min (length pages) (greatest_number - from) = are.count in
        ⊎_elim (λ (l : count < length pages). none_above (suc (from + count)) (omega arith) last)
        (λ (r : length pages ≤ count).
        let is : count ≡ length pages = omega arith in
        no_more from (λ k less. one_more last k (subst (λ (x : ℕ). k < suc x) (sym is) less)))
        (cases_lt count (length pages))

    pub kept_of : ((b : Bucket) → slice_get g.buckets.items count ≡ Some b →
        IsWholeBucket b (HasIndex g.seen count) → ⊥) → from ≤ greatest_number → IsRecorded c m from →
        IsKept c m (from + count)
    kept_of stops fits recorded = record {
      from = from;
      recorded = recorded;
      above = omega arith;
      whole = behind;
      stops = λ last. ⊎_elim (λ (l : count < length g.buckets.items).
          let at = get_there g.buckets.items count l in
          stops at.0 at.1
          (bucket_whole (suc (from + count)) at.0 (HasIndex g.seen count) (are.each tags_of count at.0 at.1) last))
          (λ (r : length g.buckets.items ≤ count). all_whole fits (omega arith) last)
          (cases_lt count (length g.buckets.items));
    }
