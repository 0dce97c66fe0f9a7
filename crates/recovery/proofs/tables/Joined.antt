-- The tables of some dies and of the dies behind them make the table of both.
use Rattle.recovery.proofs.Common.{AreListed, AreMarksListed, Cell, Cells, FoundMark, FoundPage, GroupPage, IsJoined}
use Rattle.recovery.proofs.Common.{IsMarksRecord, IsNewestMark, IsNotHigher, IsTableOf, List, Mark, MarkPage, None}
use Rattle.recovery.proofs.Common.{Nothing, Numbers, Option, Place, Some, Table, Tag, [], ap, arith, cases_Bool}
use Rattle.recovery.proofs.Common.{cases_lt, cond-false, cond-true, false, get_front, if◌then◌else◌, inl, inr, length}
use Rattle.recovery.proofs.Common.{lt-ltb, ltb-false, ltb-true, mark_not_nothing, nat_lt, newest_in, page_not_nothing}
use Rattle.recovery.proofs.Common.{refl, slice_get, subst, suc, sym, true, zero, ℕ, ⊎_elim, ◌++◌, ◌+◌, ◌<◌, ◌∙◌, ◌∷◌}
use Rattle.recovery.proofs.Common.{◌≡◌, ◌≢◌, ◌≤◌, ◌⊎◌}
use Rattle.ufs_spec.proofs.Facts.{le-ltb}
use Rattle.recovery.specs.Reading.{AreOfDies, greater_of, newer, newer_of}

-- ## Two lists, one behind the other

pub in_back : {A : Type 0} (xs ys : List A) (k : ℕ) → slice_get (xs ++ ys) (length xs + k) ≡ slice_get ys k
in_back [] ys k = ap (slice_get ys) (same k)
  where
    same : (k : ℕ) → 0 + k ≡ k
    same k = omega arith
in_back (y ∷ xs) ys k = ap (slice_get (y ∷ (xs ++ ys))) (more (length xs) k) ∙ in_back xs ys k
  where
    more : (a k : ℕ) → suc a + k ≡ suc (a + k)
    more a k = omega arith

-- each element of both is of one of them
pub in_either : {A : Type 0} (xs ys : List A) (k : ℕ) (x : A) → slice_get (xs ++ ys) k ≡ Some x →
    ((k < length xs) × (slice_get xs k ≡ Some x))
    ⊎ ((j : ℕ) × (k ≡ length xs + j) × (slice_get ys j ≡ Some x))
in_either [] ys k x h = inr (k, omega arith, h)
in_either (y ∷ xs) ys zero x h = inl (omega arith, h)
in_either (y ∷ xs) ys (suc k) x h =
    ⊎_elim
    (λ (r : (k < length xs) × (slice_get xs k ≡ Some x)). let l = r.0 in inl (omega arith, r.1))
    (λ (r : (j : ℕ) × (k ≡ length xs + j) × (slice_get ys j ≡ Some x)). let e = r.1 in inr (r.0, omega (arith, e), r.2))
    (in_either xs ys k x h)

-- ## The cells of both

module _ (c : Cells) (first a b : ℕ) (low high : Cells) (of_low : AreOfDies first a c low)
    (of_high : AreOfDies (first + a) b c high) where
  abbrev pub both : Cells
  both p = if nat_lt p.die (first + a) then low p else high p

  low_there : (p : Place) → p.die < first + a → both p ≡ low p
  low_there p l = cond-true (nat_lt p.die (first + a)) (low p) (high p) (lt-ltb p.die (first + a) l)

  high_there : (p : Place) → first + a ≤ p.die → both p ≡ high p
  high_there p l = cond-false (nat_lt p.die (first + a)) (low p) (high p) (le-ltb p.die (first + a) l)

  -- what is something stands on one of the dies
  low_die : (p : Place) (x : Cell) → x ≢ Nothing → low p ≡ x → p.die < first + a
  low_die p x some e =
      ⊎_elim (λ (l : p.die < first + a). l)
      (λ (h : first + a ≤ p.die).
      absurd (some (sym e ∙ of_low.outside p (λ on. let l = on.1 in omega (arith, l, h)))))
      (cases_lt p.die (first + a))

  high_die : (p : Place) (x : Cell) → x ≢ Nothing → high p ≡ x → first + a ≤ p.die
  high_die p x some e =
      ⊎_elim
      (λ (l : p.die < first + a).
      absurd (some (sym e ∙ of_high.outside p (λ on. let h = on.0 in omega (arith, l, h)))))
      (λ (h : first + a ≤ p.die). h)
      (cases_lt p.die (first + a))

  from_low : (p : Place) (x : Cell) → x ≢ Nothing → low p ≡ x → both p ≡ x
  from_low p x some e = low_there p (low_die p x some e) ∙ e

  from_high : (p : Place) (x : Cell) → x ≢ Nothing → high p ≡ x → both p ≡ x
  from_high p x some e = high_there p (high_die p x some e) ∙ e

  from_either : (p : Place) (x : Cell) → both p ≡ x → (low p ≡ x) ⊎ (high p ≡ x)
  from_either p x e =
      ⊎_elim (λ (l : p.die < first + a). inl (sym (low_there p l) ∙ e))
      (λ (h : first + a ≤ p.die). inr (sym (high_there p h) ∙ e))
      (cases_lt p.die (first + a))

  of_both : AreOfDies first (a + b) c both
  of_both = record {
    inside = λ p on.
        ⊎_elim (λ (l : p.die < first + a). low_there p l ∙ of_low.inside p (on.0, l))
        (λ (h : first + a ≤ p.die).
        let l = on.1 in high_there p h ∙ of_high.inside p (h, omega (arith, l)))
        (cases_lt p.die (first + a));
    outside = λ p out.
        ⊎_elim
        (λ (l : p.die < first + a).
        low_there p l ∙ of_low.outside p (λ on. out (on.0, omega (arith, l))))
        (λ (h : first + a ≤ p.die).
        high_there p h ∙ of_high.outside p (λ on. let l = on.1 in out (omega (arith, h), omega (arith, l))))
        (cases_lt p.die (first + a));
  }

  -- Their pages of groups

  module _ (xs ys : List FoundPage) (in_low : AreListed low xs) (in_high : AreListed high ys) where
    page_low : (i : ℕ) (e : FoundPage) → slice_get xs i ≡ Some e → e.place.die < first + a
    page_low i e h =
        let k = in_low.there i e h in
        low_die e.place (GroupPage e.tag k.0) (page_not_nothing (GroupPage e.tag k.0) e.tag k.0 refl) k.1

    page_high : (i : ℕ) (e : FoundPage) → slice_get ys i ≡ Some e → first + a ≤ e.place.die
    page_high i e h =
        let k = in_high.there i e h in
        high_die e.place (GroupPage e.tag k.0) (page_not_nothing (GroupPage e.tag k.0) e.tag k.0 refl) k.1

    there : (i : ℕ) (e : FoundPage) → slice_get (xs ++ ys) i ≡ Some e
        → (body : List ℕ) × (both e.place ≡ GroupPage e.tag body)
    there i e h =
        ⊎_elim
        (λ old. let k = in_low.there i e old.1 in (k.0, low_there e.place (page_low i e old.1) ∙ k.1))
        (λ new. let k = in_high.there new.0 e new.2 in (k.0, high_there e.place (page_high new.0 e new.2) ∙ k.1))
        (in_either xs ys i e h)

    all : (p : Place) (t : Tag) (body : List ℕ) → both p ≡ GroupPage t body
        → (i : ℕ) × (slice_get (xs ++ ys) i ≡ Some (record { place = p; tag = t }))
    all p t body h =
        ⊎_elim
        (λ l. let k = in_low.all p t body l in (k.0, get_front xs ys k.0 (record { place = p; tag = t }) k.1))
        (λ r. let k = in_high.all p t body r in (length xs + k.0, in_back xs ys k.0 ∙ k.1))
        (from_either p (GroupPage t body) h)

    rising : (i j : ℕ) (e f : FoundPage) → slice_get (xs ++ ys) i ≡ Some e → slice_get (xs ++ ys) j ≡ Some f → i < j
        → IsNotHigher e.place f.place
    rising i j e f he hf less = told (in_either xs ys i e he) (in_either xs ys j f hf)
      where
        told : ((i < length xs) × (slice_get xs i ≡ Some e))
            ⊎ ((k : ℕ) × (i ≡ length xs + k) × (slice_get ys k ≡ Some e))
            → ((j < length xs) × (slice_get xs j ≡ Some f))
            ⊎ ((k : ℕ) × (j ≡ length xs + k) × (slice_get ys k ≡ Some f)) → IsNotHigher e.place f.place
        told (inl (_, one)) (inl (_, other)) = in_low.rising i j e f one other less
        told (inl (_, one)) (inr (k, _, other)) =
            let l = page_low i e one in let h = page_high k f other in inl (omega (arith, l, h))
        told (inr (k, at, one)) (inl (l, other)) = absurd (omega (arith, at, l, less))
        told (inr (k, at, one)) (inr (m, also, other)) =
            in_high.rising k m e f one other (omega (arith, at, also, less))

    listed_both : AreListed both (xs ++ ys)
    listed_both = record {
      there = there;
      tags = λ i e h.
          ⊎_elim (λ old. in_low.tags i e old.1) (λ new. in_high.tags new.0 e new.2) (in_either xs ys i e h);
      all = all;
      rising = rising;
    }

  -- Their marks

  mark_low : (p : Place) (m : Mark) → low p ≡ MarkPage m → both p ≡ MarkPage m
  mark_low p m = from_low p (MarkPage m) (mark_not_nothing (MarkPage m) m refl)

  mark_high : (p : Place) (m : Mark) → high p ≡ MarkPage m → both p ≡ MarkPage m
  mark_high p m = from_high p (MarkPage m) (mark_not_nothing (MarkPage m) m refl)

  marks_both : (xs ys : List FoundMark) → AreMarksListed low xs → AreMarksListed high ys →
      AreMarksListed both (xs ++ ys)
  marks_both xs ys in_low in_high = record {
    there = λ i e h. ⊎_elim
        (λ old. let k = in_low.there i e old.1 in (k.0, mark_low e.place k.0 k.1, k.2, k.3))
        (λ new. let k = in_high.there new.0 e new.2 in (k.0, mark_high e.place k.0 k.1, k.2, k.3))
        (in_either xs ys i e h);
    all = λ p m h. ⊎_elim
        (λ l.
        let k = in_low.all p m l in
        (k.0, get_front xs ys k.0 (record { place = p; number = m.number; records = m.records }) k.1))
        (λ r. let k = in_high.all p m r in (length xs + k.0, in_back xs ys k.0 ∙ k.1))
        (from_either p (MarkPage m) h);
  }

  each_mark : (P : Mark → Type 0) → ((p : Place) (m : Mark) → low p ≡ MarkPage m → P m)
      → ((p : Place) (m : Mark) → high p ≡ MarkPage m → P m) → (p : Place) (m : Mark) → both p ≡ MarkPage m → P m
  each_mark P of_one of_other p m h = ⊎_elim (of_one p m) (of_other p m) (from_either p (MarkPage m) h)

  newest_both : (m k : Option Mark) → IsNewestMark low m → IsNewestMark high k → IsNewestMark both (newer_of m k)
  newest_both None None none nor = each_mark (λ o. ⊥) none nor
  newest_both (Some m) None (there, most) none = (
    (there.0, mark_low there.0 m there.1),
    each_mark (λ o. o.number ≤ m.number) most (λ p o h. absurd (none p o h)),
  )
  newest_both None (Some k) none (there, most) = (
    (there.0, mark_high there.0 k there.1),
    each_mark (λ o. o.number ≤ k.number) (λ p o h. absurd (none p o h)) most,
  )
  newest_both (Some m) (Some k) (at_low, most) (at_high, tops) = told (cases_Bool (nat_lt m.number k.number))
    where
      later : nat_lt m.number k.number ≡ true → IsNewestMark both (Some k)
      later e = (
        (at_high.0, mark_high at_high.0 k at_high.1),
        each_mark (λ o. o.number ≤ k.number)
            (λ p o h. omega (arith, most p o h, ltb-true m.number k.number e)) tops,
      )

      earlier : nat_lt m.number k.number ≡ false → IsNewestMark both (Some m)
      earlier e = (
        (at_low.0, mark_low at_low.0 m at_low.1),
        each_mark (λ o. o.number ≤ m.number) most
            (λ p o h. omega (arith, tops p o h, ltb-false m.number k.number e)),
      )

      told : (nat_lt m.number k.number ≡ true) ⊎ (nat_lt m.number k.number ≡ false)
          → IsNewestMark both (Some (newer (Some m) k))
      told (inl e) =
          subst (λ (o : Mark). IsNewestMark both (Some o)) (sym (cond-true (nat_lt m.number k.number) k m e)) (later e)
      told (inr e) =
          subst (λ (o : Mark). IsNewestMark both (Some o)) (sym (cond-false (nat_lt m.number k.number) k m e))
          (earlier e)

  record_both : (r s : ℕ) → IsMarksRecord low r → IsMarksRecord high s → IsMarksRecord both (greater_of r s)
  record_both r s (most, some) (tops, any) = told (cases_Bool (nat_lt r s))
    where
      later : nat_lt r s ≡ true → IsMarksRecord both s
      later e = (
        each_mark (λ o. o.records ≤ s) (λ p o h. omega (arith, most p o h, ltb-true r s e)) tops,
        ⊎_elim (λ zero. inl zero) (λ one. inr (one.0, one.1, mark_high one.0 one.1 one.2, one.3)) any,
      )

      earlier : nat_lt r s ≡ false → IsMarksRecord both r
      earlier e = (
        each_mark (λ o. o.records ≤ r) most (λ p o h. omega (arith, tops p o h, ltb-false r s e)),
        ⊎_elim (λ zero. inl zero) (λ one. inr (one.0, one.1, mark_low one.0 one.1 one.2, one.3)) some,
      )

      told : (nat_lt r s ≡ true) ⊎ (nat_lt r s ≡ false) → IsMarksRecord both (greater_of r s)
      told (inl e) = subst (IsMarksRecord both) (sym (cond-true (nat_lt r s) s r e)) (later e)
      told (inr e) = subst (IsMarksRecord both) (sym (cond-false (nat_lt r s) s r e)) (earlier e)

-- the tables joined
pub dies_joined : (n : Numbers) (c : Cells) (first a b : ℕ) (t u v : Table) → IsTableOf n first a c t
    → IsTableOf n (first + a) b c u → IsJoined t u v → IsTableOf n first (a + b) c v
dies_joined n c first a b t u v r s joined =
    let seen : Cells = both c first a b r.seen s.seen r.are_of s.are_of in
    record {
      seen = seen;
      are_of = of_both c first a b r.seen s.seen r.are_of s.are_of;
      pages =
          subst (AreListed seen) (sym joined.pages)
          (listed_both c first a b r.seen s.seen r.are_of s.are_of t.pages.items u.pages.items r.pages s.pages);
      newest =
          subst (IsNewestMark seen) (sym joined.newest)
          (newest_both c first a b r.seen s.seen r.are_of s.are_of (newest_in t) (newest_in u) r.newest s.newest);
      recorded =
          subst (IsMarksRecord seen) (sym joined.recorded)
          (record_both c first a b r.seen s.seen r.are_of s.are_of t.recorded u.recorded r.recorded s.recorded);
      marks =
          subst (AreMarksListed seen) (sym joined.marks)
          (marks_both c first a b r.seen s.seen r.are_of s.are_of t.marks.items u.marks.items r.marks s.marks);
    }
