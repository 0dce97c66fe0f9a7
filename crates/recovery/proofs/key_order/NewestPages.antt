-- The page with a key's content: the first pages of a list give it, one page more is taken or passed over, and what all
-- pages of the list give is what the cells have.
use Rattle.recovery.proofs.Common.{AreListed, Cells, Counts, Fence, FoundPage, GroupPage, HasNone, IsContentPage}
use Rattle.recovery.proofs.Common.{IsFenced, IsNewest, IsNewestOf, IsNotHigher, Key, List, Mark, None, Option, Place}
use Rattle.recovery.proofs.Common.{Some, Tag, and_from, and_parts, ap, arith, cases_lt, false, false≢true, fence_in}
use Rattle.recovery.proofs.Common.{inl, inr, is_fenced, key_of, length, ltb-false, ltb-true, not, not-true, refl}
use Rattle.recovery.proofs.Common.{same_Some, same_key, slice_get, slice_get_within, subst, suc, sym, true, ℕ, ⊎_elim}
use Rattle.recovery.proofs.Common.{◌&&◌, ◌<◌, ◌∙◌, ◌≡◌, ◌≤◌, ◌⊎◌}
use Rattle.std.specs.Prelude.{nat_le}
use Rattle.ufs_spec.proofs.Equalities.{key_same, key_told}
use Rattle.ufs_spec.proofs.Facts.{and_false, false_from_ne_true, if_cases, le-leb, leb-true, not_from_false}
use Rattle.recovery.specs.KeysInOrder.{IsKeptPage, is_kept_page, is_newer, with_page}

-- Whether a page is of the key and kept

pub fenced_told : (f : Option Fence) (n : ℕ) → is_fenced f n ≡ true → IsFenced f n
fenced_told None n h = false≢true h
fenced_told (Some f) n h =
    let r = and_parts (nat_le f.first n) (nat_le n f.last) h in (leb-true f.first n r.0, leb-true n f.last r.1)

pub fenced_test : (f : Option Fence) (n : ℕ) → IsFenced f n → is_fenced f n ≡ true
fenced_test None n h = absurd h
fenced_test (Some f) n h =
    and_from (nat_le f.first n) (nat_le n f.last) (le-leb f.first n h.0) (le-leb n f.last h.1)

module _ (fence : Option Fence) (kept : ℕ) (k : Key) where
  kept_told : (e : FoundPage) → is_kept_page fence kept k e ≡ true → IsKeptPage fence kept k e
  kept_told e h =
      let r = and_parts (same_key (key_of e.tag) k && not (is_fenced fence e.tag.number))
      (nat_le e.tag.number kept) h in
      let q = and_parts (same_key (key_of e.tag) k) (not (is_fenced fence e.tag.number)) r.0 in
      record {
        key = key_told (key_of e.tag) k q.0;
        free = λ f. false≢true (sym (not-true (is_fenced fence e.tag.number) q.1)
            ∙ fenced_test fence e.tag.number f);
        within = leb-true e.tag.number kept r.1;
      }

  kept_test : (e : FoundPage) → IsKeptPage fence kept k e → is_kept_page fence kept k e ≡ true
  kept_test e h =
      and_from (same_key (key_of e.tag) k && not (is_fenced fence e.tag.number)) (nat_le e.tag.number kept)
      (and_from (same_key (key_of e.tag) k) (not (is_fenced fence e.tag.number)) (key_same (key_of e.tag) k h.key)
      (not_from_false (is_fenced fence e.tag.number)
      (false_from_ne_true (is_fenced fence e.tag.number) (λ f. h.free (fenced_told fence e.tag.number f)))))
      (le-leb e.tag.number kept h.within)

  -- One page more

  module _ (pages : List FoundPage) (n : ℕ) where
    -- the page before the end of the first n + 1 is one of the first n, or the last of them
    split : (i : ℕ) (e f : FoundPage) → i < suc n → slice_get pages n ≡ Some e → slice_get pages i ≡ Some f →
        (i < n) ⊎ ((i ≡ n) × (e ≡ f))
    split i e f l at there =
        ⊎_elim
        (λ (m : i < n). inl m)
        (λ (m : n ≤ i). let same : i ≡ n = omega arith in
        inr (same, same_Some e f (sym at ∙ sym (ap (slice_get pages) same) ∙ there)))
        (cases_lt i n)

    passed : (e : FoundPage) (old : Option FoundPage) → slice_get pages n ≡ Some e →
        (is_kept_page fence kept k e && is_newer e old) ≡ false → IsNewestOf pages n fence kept k old →
        IsNewestOf pages (suc n) fence kept k old
    passed e None at off is = none
      where
        none : (i : ℕ) (f : FoundPage) → i < suc n → slice_get pages i ≡ Some f → IsKeptPage fence kept k f → ⊥
        none i f l there h =
            ⊎_elim
            (λ (m : i < n). is i f m there h)
            (λ (m : (i ≡ n) × (e ≡ f)). false≢true (sym off
            ∙ and_from (is_kept_page fence kept k e) true
            (kept_test e (subst (λ (f : FoundPage). IsKeptPage fence kept k f) (sym m.1) h)) refl))
            (split i e f l at there)
    passed e (Some o) at off is = (is.0, omega (arith, is.1), is.2, is.3, greatest)
      where
        greatest : (i : ℕ) (f : FoundPage) → i < suc n → slice_get pages i ≡ Some f → IsKeptPage fence kept k f →
            (f.tag.number < o.tag.number) ⊎ ((f.tag.number ≡ o.tag.number) × (is.0 ≤ i))
        greatest i f l there h =
            ⊎_elim
            (λ (m : i < n). is.4 i f m there h)
            (λ (m : (i ≡ n) × (e ≡ f)).
            let q = subst (λ (f : FoundPage). IsKeptPage fence kept k f) (sym m.1) h in
            let t = kept_test e q in
            ⊎_elim
            (λ (g : is_kept_page fence kept k e ≡ false). absurd (false≢true (sym g ∙ t)))
            (λ (g : (is_kept_page fence kept k e ≡ true) × (is_newer e (Some o) ≡ false)).
            close i f m.0 (ap (λ (e : FoundPage). e.tag.number) m.1) (ltb-false o.tag.number e.tag.number g.1))
            (and_false (is_kept_page fence kept k e) (is_newer e (Some o)) off))
            (split i e f l at there)
          where
            close : (i : ℕ) (f : FoundPage) → i ≡ n → e.tag.number ≡ f.tag.number → e.tag.number ≤ o.tag.number →
                (f.tag.number < o.tag.number) ⊎ ((f.tag.number ≡ o.tag.number) × (is.0 ≤ i))
            close i f a b d =
                let w = is.1 in
                ⊎_elim
                (λ (m : f.tag.number < o.tag.number). inl m)
                (λ (m : o.tag.number ≤ f.tag.number). inr (omega (arith, b, d, m), omega (arith, a, w)))
                (cases_lt f.tag.number o.tag.number)

    taken : (e : FoundPage) (old : Option FoundPage) → slice_get pages n ≡ Some e →
        (is_kept_page fence kept k e && is_newer e old) ≡ true → IsNewestOf pages n fence kept k old →
        IsNewestOf pages (suc n) fence kept k (Some e)
    taken e old at on is = (n, omega arith, at, kept_told e r.0, greatest old r.1 is)
      where
        r : (is_kept_page fence kept k e ≡ true) × (is_newer e old ≡ true)
        r = and_parts (is_kept_page fence kept k e) (is_newer e old) on

        greatest : (old : Option FoundPage) → is_newer e old ≡ true → IsNewestOf pages n fence kept k old →
            (i : ℕ) (f : FoundPage) → i < suc n → slice_get pages i ≡ Some f → IsKeptPage fence kept k f →
            (f.tag.number < e.tag.number) ⊎ ((f.tag.number ≡ e.tag.number) × (n ≤ i))
        greatest None newer is i f l there h =
            ⊎_elim
            (λ (m : i < n). absurd (is i f m there h))
            (λ (m : (i ≡ n) × (e ≡ f)). let a = m.0 in
            inr (sym (ap (λ (e : FoundPage). e.tag.number) m.1), omega arith))
            (split i e f l at there)
        greatest (Some o) newer is i f l there h =
            ⊎_elim
            (λ (m : i < n). let a = is.4 i f m there h in let b = ltb-true o.tag.number e.tag.number newer in
            inl (omega (arith, a, b)))
            (λ (m : (i ≡ n) × (e ≡ f)). let a = m.0 in
            inr (sym (ap (λ (e : FoundPage). e.tag.number) m.1), omega arith))
            (split i e f l at there)

    pub one_more : (e : FoundPage) (old : Option FoundPage) → slice_get pages n ≡ Some e →
        IsNewestOf pages n fence kept k old → IsNewestOf pages (suc n) fence kept k (with_page fence kept k e old)
    one_more e old at is =
        if_cases
        (λ (o : Option FoundPage). IsNewestOf pages (suc n) fence kept k o)
        (is_kept_page fence kept k e && is_newer e old)
        (λ on. taken e old at on is)
        (λ off. passed e old at off is)

-- The whole list

module _ (c : Cells) (pages : List FoundPage) (listed : AreListed c pages) where
  -- a page that counts in the cells and is not above the kept number stands in the list
  kept_there : (m : Option Mark) (kept : ℕ) (k : Key) (p : Place) (t : Tag) (body : List ℕ) → Counts c m p t body →
      key_of t ≡ k → t.number ≤ kept →
      (i : ℕ) × (i < length pages) × (slice_get pages i ≡ Some (record { place = p; tag = t }))
      × IsKeptPage (fence_in m) kept k (record { place = p; tag = t })
  kept_there m kept k p t body counts key within =
      let r = listed.all p t body counts.there in (
        r.0,
        slice_get_within pages r.0 (record { place = p; tag = t }) r.1,
        r.1,
        record { key = key; free = counts.free; within = within },
      )

  same_place_low : (p q : Place) → p ≡ q → IsNotHigher p q
  same_place_low p q e =
      inr (inr (
        ap (λ (p : Place). p.die) e,
        ap (λ (p : Place). p.block) e,
        let a = ap (λ (p : Place). p.page) e in omega (arith, a),
      ))

  content_here : (m : Option Mark) (kept : ℕ) (k : Key) (o : Option FoundPage) →
      IsNewestOf pages (length pages) (fence_in m) kept k o → IsContentPage c m kept k o
  content_here m kept k None is = none
    where
      none : HasNone c m (suc kept) k
      none p t body counts key =
          ⊎_elim
          (λ (l : t.number < suc kept). let r = kept_there m kept k p t body counts key (omega (arith, l)) in
          absurd (is r.0 (record { place = p; tag = t }) r.1 r.2 r.3))
          (λ (l : suc kept ≤ t.number). l)
          (cases_lt t.number (suc kept))
  content_here m kept k (Some e) is = (there.0, newest, lowest)
    where
      there : (body : List ℕ) × (c e.place ≡ GroupPage e.tag body)
      there = listed.there is.0 e is.2

      newest : IsNewest c m (suc kept) k e.place e.tag there.0
      newest = record {
        counts = record { there = there.1; free = is.3.free };
        key = is.3.key;
        within = let w = is.3.within in omega (arith, w);
        greatest = λ q u other counts key l.
            let r = kept_there m kept k q u other counts key (omega (arith, l)) in
            let g = is.4 r.0 (record { place = q; tag = u }) r.1 r.2 r.3 in omega (arith, g);
      }

      lowest : (q : Place) (u : Tag) (other : List ℕ) → Counts c m q u other → key_of u ≡ k →
          u.number ≡ e.tag.number → IsNotHigher e.place q
      lowest q u other counts key same =
          let w = is.3.within in
          let r = kept_there m kept k q u other counts key (omega (arith, w, same)) in
          ⊎_elim
          (λ (l : u.number < e.tag.number). absurd (omega (arith, l, same)))
          (λ (l : (u.number ≡ e.tag.number) × (is.0 ≤ r.0)). by r.0 l.1 r.2)
          (is.4 r.0 (record { place = q; tag = u }) r.1 r.2 r.3)
        where
          by : (i : ℕ) → is.0 ≤ i → slice_get pages i ≡ Some (record { place = q; tag = u }) → IsNotHigher e.place q
          by i l at =
              ⊎_elim
              (λ (m : is.0 < i). listed.rising is.0 i e (record { place = q; tag = u }) is.2 at m)
              (λ (m : i ≤ is.0). let s : is.0 ≡ i = omega arith in
              let f = same_Some e (record { place = q; tag = u }) (sym is.2 ∙ ap (slice_get pages) s ∙ at) in
              same_place_low e.place q (ap (λ (e : FoundPage). e.place) f))
              (cases_lt is.0 i)

  pub content_of : (m : Option Mark) (fence : Option Fence) (kept : ℕ) (k : Key) (o : Option FoundPage) →
      fence_in m ≡ fence → IsNewestOf pages (length pages) fence kept k o → IsContentPage c m kept k o
  content_of m fence kept k o same is =
      content_here m kept k o (subst (λ (f : Option Fence). IsNewestOf pages (length pages) f kept k o) (sym same) is)
