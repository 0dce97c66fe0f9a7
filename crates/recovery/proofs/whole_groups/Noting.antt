-- What is noted of a group's pages, page by page.
use Rattle.recovery.proofs.Common.{AreTags, Bool, Bucket, FoundPage, HasIndex, IsAmong, IsBucket, List, Some, Tag, ap}
use Rattle.recovery.proofs.Common.{arith, cases_eq, false, group_bound, inl, inr, length, length-replicate, refl}
use Rattle.recovery.proofs.Common.{slice_get, slice_get_within, subst, suc, sym, true, zero, ℕ, ⊎_elim, ◌*◌, ◌+◌, ◌<◌}
use Rattle.recovery.proofs.Common.{◌∙◌, ◌≡◌, ◌≢◌, ◌≤◌, ◌⊎◌}
use Rattle.std.proofs.Common.{◌^◌, ◌↔◌}
use Rattle.std.specs.Prelude.{not, replicate, ◌&&◌, ◌==◌}
use Rattle.std.proofs.lemmas.Bool.{and_cases, and_parts, cond-false, cond-true, eq-eqb, eqb-false, eqb-true}
use Rattle.std.proofs.lemmas.Bool.{false≢true, ne_eqb, not-false, not-true, or_cases, or_parts}
use Rattle.std.proofs.lemmas.Option.{none-some, same_Some}
use Rattle.recovery.proofs.greatest_numbers.Among.{among_before, among_last, among_more, among_none}
use Rattle.recovery.specs.Buckets.{HasRoom, IsNotedAt, IsOfGroup, noted, nothing_noted}
use Rattle.recovery.specs.declared.kept.Groups.{Groups}

-- The size

module _ (b : Bucket) (s : ℕ) where
  first_size : b.size ≡ 0 → (noted b s).size ≡ s
  unfolding noted
  first_size none = cond-true (b.size == 0) s b.size (eq-eqb b.size 0 none)

  later_size : b.size ≢ 0 → (noted b s).size ≡ b.size
  unfolding noted
  later_size some = cond-false (b.size == 0) s b.size (ne_eqb b.size 0 some)

  has_size : 1 ≤ s → (noted b s).size ≢ 0
  has_size one none = ⊎_elim (λ (is : b.size ≡ 0). let same : (noted b s).size ≡ s = first_size is in
      absurd (omega arith))
      (λ (not_zero : b.size ≢ 0). not_zero (sym (later_size not_zero) ∙ none)) (cases_eq b.size 0)

  unmixed : (noted b s).mixed ≡ false → (b.mixed ≡ false) × ((b.size ≡ 0) ⊎ (b.size ≡ s))
  unfolding noted
  unmixed h =
      let parts = or_parts b.mixed (not (b.size == 0) && not (b.size == s)) h in (
        parts.0,
        ⊎_elim (λ (l : not (b.size == 0) ≡ false). inl (eqb-true b.size 0 (not-false (b.size == 0) l)))
            (λ (r : not (b.size == s) ≡ false). inr (eqb-true b.size s (not-false (b.size == s) r)))
            (and_cases (not (b.size == 0)) (not (b.size == s)) parts.1),
      )

  mixed : (noted b s).mixed ≡ true → (b.mixed ≡ true) ⊎ ((b.size ≢ 0) × (b.size ≢ s))
  unfolding noted
  mixed h = ⊎_elim (λ (l : b.mixed ≡ true). inl l)
      (λ (r : (not (b.size == 0) && not (b.size == s)) ≡ true).
      let parts = and_parts (not (b.size == 0)) (not (b.size == s)) r in
      inr (
        eqb-false b.size 0 (not-true (b.size == 0) parts.0),
        eqb-false b.size s (not-true (b.size == s) parts.1),
      ))
      (or_cases b.mixed (not (b.size == 0) && not (b.size == s)) h)

-- A page more, and the indexes that there are now

module _ (pages : List FoundPage) (tags : AreTags pages) (i n : ℕ) (b : Bucket) (Has Now : ℕ → Type 0) (e : FoundPage)
    (at : slice_get pages i ≡ Some e) (h : IsBucket pages i n b Has)
    (now : (x : ℕ) → x < group_bound → Now x ↔ Has x ⊎ ((e.tag.number ≡ n) × (e.tag.index ≡ x))) where
  before : (x : FoundPage) → IsOfGroup pages i n x → IsOfGroup pages (i + 1) n x
  before x k = (among_before pages i x k.0, k.1)

  is_last : (x : FoundPage) → slice_get pages i ≡ Some x → x ≡ e
  is_last x k = cc

  split : (x : FoundPage) → IsOfGroup pages (i + 1) n x → IsOfGroup pages i n x ⊎ (x ≡ e)
  split x k = ⊎_elim (λ (l : IsAmong pages i x). inl (l, k.1)) (λ (r : slice_get pages i ≡ Some x). inr (is_last x r))
      (among_more pages i x k.0)

  new_seen : (x : ℕ) → x < group_bound → Now x →
      (y : FoundPage) × IsOfGroup pages (i + 1) n y × (y.tag.index ≡ x)
  new_seen x fits is =
      ⊎_elim (λ (l : Has x). let r = h.seen x fits l in (r.0, before r.0 r.1, r.2))
      (λ (r : (e.tag.number ≡ n) × (e.tag.index ≡ x)). (e, (among_last pages i e at, r.0), r.1)) ((now x fits).0 is)

  index_fits : (x : FoundPage) → IsOfGroup pages (i + 1) n x → x.tag.index < group_bound
  index_fits x k =
      let tag = tags k.0.0 x k.0.2 in
      let below : x.tag.index < x.tag.size = tag.index_in_group in
      let long : x.tag.size ≤ group_bound = tag.group_not_long.1 in
      omega arith

  new_all : (x : FoundPage) → IsOfGroup pages (i + 1) n x → Now x.tag.index
  new_all x k =
      (now x.tag.index (index_fits x k)).1
      (⊎_elim (λ (l : IsOfGroup pages i n x). inl (h.all x l))
      (λ (r : x ≡ e). inr (
        sym (ap (λ (y : FoundPage). y.tag.number) r) ∙ k.1,
        sym (ap (λ (y : FoundPage). y.tag.index) r),
      )) (split x k))

  -- one of another number
  pub other_noted : e.tag.number ≢ n → IsBucket pages (i + 1) n b Now
  other_noted other = record {
    none = λ none x k. h.none none x (old x k);
    some = λ some. let r = h.some some in (r.0, before r.0 r.1, r.2);
    same = λ same x k. h.same same x (old x k);
    differ = λ differ. let r = h.differ differ in (r.0, before r.0 r.1, r.2);
    seen = new_seen;
    all = new_all;
  }
    where
      old : (x : FoundPage) → IsOfGroup pages (i + 1) n x → IsOfGroup pages i n x
      old x k = ⊎_elim (λ (l : IsOfGroup pages i n x). l)
          (λ (r : x ≡ e). absurd (other (subst (λ (y : FoundPage). y.tag.number ≡ n) r k.1))) (split x k)

  module _ (number : e.tag.number ≡ n) where
    here : IsOfGroup pages (i + 1) n e
    here = (among_last pages i e at, number)

    new_some : (x : FoundPage) × IsOfGroup pages (i + 1) n x × (x.tag.size ≡ (noted b e.tag.size).size)
    new_some = ⊎_elim (λ (first : b.size ≡ 0). (e, here, sym (first_size b e.tag.size first)))
        (λ (later : b.size ≢ 0).
        let r = h.some later in (r.0, before r.0 r.1, r.2 ∙ sym (later_size b e.tag.size later)))
        (cases_eq b.size 0)

    new_same : (noted b e.tag.size).mixed ≡ false → (x : FoundPage) → IsOfGroup pages (i + 1) n x →
        x.tag.size ≡ (noted b e.tag.size).size
    new_same un x k =
        let parts = unmixed b e.tag.size un in
        ⊎_elim (λ (first : b.size ≡ 0).
        ⊎_elim (λ (l : IsOfGroup pages i n x). absurd (h.none first x l))
        (λ (r : x ≡ e). subst (λ (y : FoundPage). y.tag.size ≡ (noted b e.tag.size).size) (sym r)
        (sym (first_size b e.tag.size first))) (split x k))
        (λ (later : b.size ≢ 0).
        ⊎_elim (λ (l : IsOfGroup pages i n x). h.same parts.0 x l ∙ sym (later_size b e.tag.size later))
        (λ (r : x ≡ e). subst (λ (y : FoundPage). y.tag.size ≡ (noted b e.tag.size).size) (sym r)
        (⊎_elim (λ (none : b.size ≡ 0). absurd (later none))
        (λ (is : b.size ≡ e.tag.size). sym is ∙ sym (later_size b e.tag.size later)) parts.1)) (split x k))
        (cases_eq b.size 0)

    new_differ : (noted b e.tag.size).mixed ≡ true →
        (x : FoundPage) × IsOfGroup pages (i + 1) n x × (x.tag.size ≢ (noted b e.tag.size).size)
    new_differ mix = ⊎_elim (λ (old : b.mixed ≡ true).
        let r = h.differ old in (
          r.0,
          before r.0 r.1,
          λ (is : r.0.tag.size ≡ (noted b e.tag.size).size).
              r.2 (is ∙ later_size b e.tag.size (λ (none : b.size ≡ 0). h.none none r.0 r.1)),
        ))
        (λ (new : (b.size ≢ 0) × (b.size ≢ e.tag.size)). (
          e,
          here,
          λ (is : e.tag.size ≡ (noted b e.tag.size).size).
              new.1 (sym (is ∙ later_size b e.tag.size new.0)),
        ))
        (mixed b e.tag.size mix)

    -- one of this number
    pub page_noted : IsBucket pages (i + 1) n (noted b e.tag.size) Now
    page_noted = record {
      none = λ none x k. has_size b e.tag.size (tags i e at).group_not_long.0 none;
      some = λ some. new_some;
      same = new_same;
      differ = new_differ;
      seen = new_seen;
      all = new_all;
    }

-- No page

none_noted : (pages : List FoundPage) (n : ℕ) (Has : ℕ → Type 0) → ((x : ℕ) → Has x → ⊥) →
    IsBucket pages 0 n nothing_noted Has
none_noted pages n Has unseen = record {
  none = λ none x k. among_none pages x k.0;
  some = λ some. absurd (some refl);
  same = λ same x k. absurd (among_none pages x k.0);
  differ = λ differ. absurd (false≢true differ);
  seen = λ x fits is. absurd (unseen x is);
  all = λ x k. absurd (among_none pages x k.0);
}

-- All buckets

-- with one page more
pub buckets_more : (pages : List FoundPage) (i from : ℕ) (old new : Groups) (e : FoundPage) →
    slice_get pages i ≡ Some e → IsNotedAt old from e.tag new →
    (AreTags pages → (k : ℕ) (b : Bucket) → slice_get old.buckets.items k ≡ Some b →
    IsBucket pages i (suc (from + k)) b (HasIndex old.seen k)) →
    AreTags pages → (k : ℕ) (b : Bucket) → slice_get new.buckets.items k ≡ Some b →
    IsBucket pages (i + 1) (suc (from + k)) b (HasIndex new.seen k)
buckets_more pages i from old new e at noting before tags k b is =
    ⊎_elim (λ (same : e.tag.number ≡ suc (from + k)).
    let r = noting.here k b is same in
    subst (λ (x : Bucket). IsBucket pages (i + 1) (suc (from + k)) x (HasIndex new.seen k)) (sym r.2)
    (page_noted pages tags i (suc (from + k)) r.0 (HasIndex old.seen k) (HasIndex new.seen k) e at
    (before tags k r.0 r.1) now same))
    (λ (other : e.tag.number ≢ suc (from + k)).
    other_noted pages tags i (suc (from + k)) b (HasIndex old.seen k) (HasIndex new.seen k) e at
    (before tags k b (noting.other k b is other)) now other)
    (cases_eq e.tag.number (suc (from + k)))
  where
    now : (x : ℕ) → x < group_bound →
        HasIndex new.seen k x ↔ HasIndex old.seen k x ⊎ ((e.tag.number ≡ suc (from + k)) × (e.tag.index ≡ x))
    now x less = noting.indexes k x (slice_get_within new.buckets.items k b is) less

-- the set has room for them then as before
pub room_stays : (old new : Groups) (from : ℕ) (t : Tag) → IsNotedAt old from t new → HasRoom old → HasRoom new
room_stays old new from t noting room = record {
  each = noting.room ∙ room.each ∙ ap (λ (n : ℕ). n * group_bound) (sym noting.count);
  few = let same : length new.seen ≡ length old.seen = noting.room in
      let few : length old.seen < 2 ^ 64 = room.few in
      omega arith;
}

none_seen : (count k : ℕ) → slice_get (replicate count false) k ≡ Some true → ⊥
none_seen zero k h = absurd (none-some true h)
none_seen (suc count) zero h = false≢true (same_Some false true h)
none_seen (suc count) (suc k) h = none_seen count k h

-- with no page
pub buckets_none : (pages : List FoundPage) (from count size k : ℕ) (b : Bucket) (seen : List Bool) →
    slice_get (replicate count nothing_noted) k ≡ Some b → seen ≡ replicate size false →
    IsBucket pages 0 (suc (from + k)) b (HasIndex seen k)
buckets_none pages from count size k b seen is unseen =
    subst (λ (x : Bucket). IsBucket pages 0 (suc (from + k)) x (HasIndex seen k)) (only count k is)
    (none_noted pages (suc (from + k)) (HasIndex seen k) (λ x has.
    none_seen size (k * group_bound + x)
    (subst (λ (xs : List Bool). slice_get xs (k * group_bound + x) ≡ Some true) unseen has)))
  where
    only : (count k : ℕ) → slice_get (replicate count nothing_noted) k ≡ Some b → nothing_noted ≡ b
    only zero k h = absurd (none-some b h)
    only (suc count) zero h = same_Some nothing_noted b h
    only (suc count) (suc k) h = only count k h

-- and a set that was made for them has room
pub room_none : (count : ℕ) (g : Groups) → g.buckets.items ≡ replicate count nothing_noted →
    g.seen ≡ replicate (count * group_bound) false → count * group_bound < 2 ^ 64 → HasRoom g
room_none count g buckets seen few = record {
  each = long ∙ ap (λ (n : ℕ). n * group_bound) (sym (ap length buckets ∙ length-replicate count nothing_noted));
  few = let same : length g.seen ≡ count * group_bound = long in omega arith;
}
  where
    long : length g.seen ≡ count * group_bound
    long = ap length seen ∙ length-replicate (count * group_bound) false
