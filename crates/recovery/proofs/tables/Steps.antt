-- One page more in what is read off the cells.
use Rattle.recovery.proofs.Common.{AreListed, AreMarksListed, Cell, Cells, FoundMark, FoundPage, GroupPage, IsCell}
use Rattle.recovery.proofs.Common.{IsMarksRecord, IsNewestMark, IsNotHigher, List, Mark, MarkPage, None, Nothing}
use Rattle.recovery.proofs.Common.{Option, Page, Place, Some, Tag, [], ap, arith, at_place, cases_Bool, cond-false}
use Rattle.recovery.proofs.Common.{cond-true, false, get_grows, get_last, inl, inr, length, ltb-false, ltb-true}
use Rattle.recovery.proofs.Common.{mark_not_nothing, nat_lt, page_not_nothing, refl, slice_get, slice_get_within, subst}
use Rattle.recovery.proofs.Common.{sym, true, ℕ, ⊎_elim, ◌++◌, ◌<◌, ◌∙◌, ◌∷◌, ◌≡◌, ◌≢◌, ◌≤◌, ◌⊎◌}
use Rattle.std.proofs.lemmas.List.{append-nil}
use Rattle.ufs_spec.specs.Pages.{IsTag}
use Rattle.ufs_spec.proofs.CellKinds.{one_mark, one_page, page_not_mark}
use Rattle.ufs_spec.proofs.Lists.{get_splits}
use Rattle.ufs_spec.proofs.Updates.{at_place_cases, at_place_is}
use Rattle.recovery.specs.Reading.{listed, marked as marked_by, newer, newest_after, recorded_after}

-- The cells s, and x at the place p, where nothing stood
module _ (s : Cells) (p : Place) (x : Cell) (empty : s p ≡ Nothing) where
  abbrev after : Cells
  after = at_place s p x

  here : after p ≡ x
  here =
      ⊎_elim (λ at. at.1) (λ apart. absurd (apart.0 refl)) (at_place_cases s p x p)

  -- what stood elsewhere stands there
  stays : (q : Place) (y : Cell) → y ≢ Nothing → s q ≡ y → after q ≡ y
  stays q y some e =
      ⊎_elim (λ at. absurd (some (sym e ∙ ap s at.0 ∙ empty))) (λ apart. apart.1 ∙ e) (at_place_cases s p x q)

  page_stays : (q : Place) (t : Tag) (body : List ℕ) → s q ≡ GroupPage t body → after q ≡ GroupPage t body
  page_stays q t body = stays q (GroupPage t body) (page_not_nothing (GroupPage t body) t body refl)

  mark_stays : (q : Place) (m : Mark) → s q ≡ MarkPage m → after q ≡ MarkPage m
  mark_stays q m = stays q (MarkPage m) (mark_not_nothing (MarkPage m) m refl)

  -- no page of a group more
  listed_same : (pages : List FoundPage) → ((t : Tag) (body : List ℕ) → x ≢ GroupPage t body) → AreListed s pages
      → AreListed after pages
  listed_same pages other l = record {
    there = λ i e h. let k = l.there i e h in (k.0, page_stays e.place e.tag k.0 k.1);
    tags = l.tags;
    all = λ q t body h.
        ⊎_elim (λ at. absurd (other t body at.1)) (λ apart. l.all q t body apart.1)
        (at_place_is s p x q (GroupPage t body) h);
    rising = l.rising;
  }

  -- no mark more
  marks_same : (marks : List FoundMark) → ((o : Mark) → x ≢ MarkPage o) → AreMarksListed s marks →
      AreMarksListed after marks
  marks_same marks other l = record {
    there = λ i e h. let k = l.there i e h in (k.0, mark_stays e.place k.0 k.1, k.2, k.3);
    all = λ q o h. ⊎_elim (λ at. absurd (other o at.1)) (λ apart. l.all q o apart.1)
        (at_place_is s p x q (MarkPage o) h);
  }

  newest_same : (m : Option Mark) → ((o : Mark) → x ≢ MarkPage o) → IsNewestMark s m → IsNewestMark after m
  newest_same None other none = λ q o h.
      ⊎_elim (λ at. absurd (other o at.1)) (λ apart. none q o apart.1) (at_place_is s p x q (MarkPage o) h)
  newest_same (Some m) other (there, most) = (
    (there.0, mark_stays there.0 m there.1),
    λ q o h. ⊎_elim (λ at. absurd (other o at.1)) (λ apart. most q o apart.1) (at_place_is s p x q (MarkPage o) h),
  )

  record_same : (r : ℕ) → ((o : Mark) → x ≢ MarkPage o) → IsMarksRecord s r → IsMarksRecord after r
  record_same r other (most, some) = (
    λ q o h. ⊎_elim (λ at. absurd (other o at.1)) (λ apart. most q o apart.1) (at_place_is s p x q (MarkPage o) h),
    ⊎_elim (λ zero. inl zero) (λ one. inr (one.0, one.1, mark_stays one.0 one.1 one.2, one.3)) some,
  )

-- A page of a group more, behind all that are listed

module _ (s : Cells) (p : Place) (t : Tag) (body : List ℕ) (empty : s p ≡ Nothing) (pages : List FoundPage)
    (l : AreListed s pages) (right : IsTag t) (kind : t.kind ≢ 4)
    (behind : (i : ℕ) (e : FoundPage) → slice_get pages i ≡ Some e → IsNotHigher e.place p) where
  abbrev found : FoundPage
  found = record { place = p; tag = t }

  abbrev now : Cells
  now = at_place s p (GroupPage t body)

  found_there : (e : FoundPage) → e ≡ found → (b : List ℕ) × (now e.place ≡ GroupPage e.tag b)
  found_there e same =
      subst (λ (f : FoundPage). (b : List ℕ) × (now f.place ≡ GroupPage f.tag b)) (sym same)
      (body, here s p (GroupPage t body) empty)

  there : (i : ℕ) (e : FoundPage) → slice_get (pages ++ found ∷ []) i ≡ Some e
      → (b : List ℕ) × (now e.place ≡ GroupPage e.tag b)
  there i e h =
      ⊎_elim
      (λ old. let k = l.there i e old in (k.0, page_stays s p (GroupPage t body) empty e.place e.tag k.0 k.1))
      (λ last. found_there e last.1) (get_splits pages found i e h)

  tags : (i : ℕ) (e : FoundPage) → slice_get (pages ++ found ∷ []) i ≡ Some e → IsTag e.tag × (e.tag.kind ≢ 4)
  tags i e h =
      ⊎_elim (λ old. l.tags i e old)
      (λ last. subst (λ (f : FoundPage). IsTag f.tag × (f.tag.kind ≢ 4)) (sym last.1) (right, kind))
      (get_splits pages found i e h)

  all : (q : Place) (u : Tag) (b : List ℕ) → now q ≡ GroupPage u b
      → (i : ℕ) × (slice_get (pages ++ found ∷ []) i ≡ Some (record { place = q; tag = u }))
  all q u b h =
      ⊎_elim
      (λ at.
      let same : t ≡ u = (one_page t u body b at.1).0 in
      let entry : found ≡ record { place = q; tag = u } = λ i. record { place = sym at.0 i; tag = same i } in
      (length pages, get_last pages found ∙ ap Some entry))
      (λ apart. let k = l.all q u b apart.1 in (k.0, get_grows pages found k.0 (record { place = q; tag = u }) k.1))
      (at_place_is s p (GroupPage t body) q (GroupPage u b) h)

  rising : (i j : ℕ) (a b : FoundPage) → slice_get (pages ++ found ∷ []) i ≡ Some a
      → slice_get (pages ++ found ∷ []) j ≡ Some b → i < j → IsNotHigher a.place b.place
  rising i j a b ha hb less = told (get_splits pages found i a ha) (get_splits pages found j b hb)
    where
      told : (slice_get pages i ≡ Some a) ⊎ ((i ≡ length pages) × (a ≡ found))
          → (slice_get pages j ≡ Some b) ⊎ ((j ≡ length pages) × (b ≡ found)) → IsNotHigher a.place b.place
      told (inl first) (inl second) = l.rising i j a b first second less
      told (inl first) (inr (at, last)) =
          subst (λ (f : FoundPage). IsNotHigher a.place f.place) (sym last) (behind i a first)
      told (inr (at, last)) (inl second) = absurd (omega (arith, at, less, slice_get_within pages j b second))
      told (inr (at, last)) (inr (also, other)) = absurd (omega (arith, at, also, less))

  pub listed_more : AreListed now (pages ++ found ∷ [])
  listed_more = record { there = there; tags = tags; all = all; rising = rising }

-- A mark more

module _ (s : Cells) (p : Place) (m : Mark) (empty : s p ≡ Nothing) where
  abbrev marked : Cells
  marked = at_place s p (MarkPage m)

  -- each mark is this one or stood there before
  each_mark : (P : Mark → Type 0) → P m → ((q : Place) (o : Mark) → s q ≡ MarkPage o → P o)
      → (q : Place) (o : Mark) → marked q ≡ MarkPage o → P o
  each_mark P this others q o h =
      ⊎_elim (λ at. subst P (one_mark m o at.1) this) (λ apart. others q o apart.1)
      (at_place_is s p (MarkPage m) q (MarkPage o) h)

  newest_more : (known : Option Mark) → IsNewestMark s known → IsNewestMark marked (Some (newer known m))
  newest_more None none = (
    (p, here s p (MarkPage m) empty),
    each_mark (λ o. o.number ≤ m.number) (omega arith) (λ q o h. absurd (none q o h)),
  )
  newest_more (Some k) (there, most) = told (cases_Bool (nat_lt k.number m.number))
    where
      this : nat_lt k.number m.number ≡ true → IsNewestMark marked (Some m)
      this e = (
        (p, here s p (MarkPage m) empty),
        each_mark (λ o. o.number ≤ m.number) (omega arith)
            (λ q o h. omega (arith, most q o h, ltb-true k.number m.number e)),
      )

      other : nat_lt k.number m.number ≡ false → IsNewestMark marked (Some k)
      other e = (
        (there.0, mark_stays s p (MarkPage m) empty there.0 k there.1),
        each_mark (λ o. o.number ≤ k.number) (omega (arith, ltb-false k.number m.number e)) most,
      )

      told : (nat_lt k.number m.number ≡ true) ⊎ (nat_lt k.number m.number ≡ false)
          → IsNewestMark marked (Some (newer (Some k) m))
      told (inl e) =
          subst (λ (o : Mark). IsNewestMark marked (Some o)) (sym (cond-true (nat_lt k.number m.number) m k e)) (this e)
      told (inr e) =
          subst (λ (o : Mark). IsNewestMark marked (Some o)) (sym (cond-false (nat_lt k.number m.number) m k e))
          (other e)

  abbrev noted : FoundMark
  noted = record { place = p; number = m.number; records = m.records }

  marks_more : (marks : List FoundMark) → AreMarksListed s marks → AreMarksListed marked (marks ++ noted ∷ [])
  marks_more marks l = record {
    there = λ i e h. ⊎_elim
        (λ old. let k = l.there i e old in (k.0, mark_stays s p (MarkPage m) empty e.place k.0 k.1, k.2, k.3))
        (λ last. subst (λ (f : FoundMark). (o : Mark) × (marked f.place ≡ MarkPage o) × (o.number ≡ f.number) ×
        (o.records ≡ f.records)) (sym last.1) (m, here s p (MarkPage m) empty, refl, refl))
        (get_splits marks noted i e h);
    all = λ q o h. ⊎_elim
        (λ at.
        let same = one_mark m o at.1 in
        let entry : noted ≡ record { place = q; number = o.number; records = o.records } =
        λ i. record { place = sym at.0 i; number = (same i).number; records = (same i).records } in
        (length marks, get_last marks noted ∙ ap Some entry))
        (λ apart.
        let k = l.all q o apart.1 in
        (k.0, get_grows marks noted k.0 (record { place = q; number = o.number; records = o.records }) k.1))
        (at_place_is s p (MarkPage m) q (MarkPage o) h);
  }

  record_more : (r : ℕ) → IsMarksRecord s r → IsMarksRecord marked (recorded_after (MarkPage m) r)
  record_more r (most, some) = told (cases_Bool (nat_lt r m.records))
    where
      this : nat_lt r m.records ≡ true → IsMarksRecord marked m.records
      this e = (
        each_mark (λ o. o.records ≤ m.records) (omega arith)
            (λ q o h. omega (arith, most q o h, ltb-true r m.records e)),
        inr (p, m, here s p (MarkPage m) empty, refl),
      )

      other : nat_lt r m.records ≡ false → IsMarksRecord marked r
      other e = (
        each_mark (λ o. o.records ≤ r) (omega (arith, ltb-false r m.records e)) most,
        ⊎_elim (λ zero. inl zero)
            (λ one. inr (one.0, one.1, mark_stays s p (MarkPage m) empty one.0 one.1 one.2, one.3)) some,
      )

      told : (nat_lt r m.records ≡ true) ⊎ (nat_lt r m.records ≡ false)
          → IsMarksRecord marked (recorded_after (MarkPage m) r)
      told (inl e) =
          subst (IsMarksRecord marked) (sym (cond-true (nat_lt r m.records) m.records r e)) (this e)
      told (inr e) =
          subst (IsMarksRecord marked) (sym (cond-false (nat_lt r m.records) m.records r e)) (other e)

-- Whatever the page is

-- what is read off the cells
pub record IsReadOff (s : Cells) (found : List FoundPage) (all_marks : List FoundMark) (known : Option Mark)
    (frontier : ℕ) : Type 0 where
  pub pages : AreListed s found
  pub marks : AreMarksListed s all_marks
  pub newest : IsNewestMark s known
  pub recorded : IsMarksRecord s frontier

pub page_more : (s : Cells) (p : Place) (page : Page) (x : Cell) (pages : List FoundPage) (marks : List FoundMark)
    (newest : Option Mark) (recorded : ℕ) → s p ≡ Nothing → IsCell page x
    → ((i : ℕ) (e : FoundPage) → slice_get pages i ≡ Some e → IsNotHigher e.place p)
    → IsReadOff s pages marks newest recorded
    → IsReadOff (at_place s p x) (pages ++ listed p x) (marks ++ marked_by p x) (newest_after x newest)
    (recorded_after x recorded)
page_more s p page Nothing pages marks newest recorded empty is behind r =
    let none : (o : Mark) → Nothing ≢ MarkPage o = λ o e. mark_not_nothing Nothing o e refl in
    record {
      pages =
          subst (AreListed (at_place s p Nothing)) (sym (append-nil pages))
          (listed_same s p Nothing empty pages (λ t body e. page_not_nothing Nothing t body e refl) r.pages);
      marks = subst (AreMarksListed (at_place s p Nothing)) (sym (append-nil marks))
          (marks_same s p Nothing empty marks none r.marks);
      newest = newest_same s p Nothing empty newest none r.newest;
      recorded = record_same s p Nothing empty recorded none r.recorded;
    }
page_more s p page (GroupPage t body) pages marks newest recorded empty is behind r =
    let none : (o : Mark) → GroupPage t body ≢ MarkPage o = λ o. page_not_mark (GroupPage t body) t body o refl in
    record {
      pages = listed_more s p t body empty pages r.pages is.0.tag_right is.2 behind;
      marks = subst (AreMarksListed (at_place s p (GroupPage t body))) (sym (append-nil marks))
          (marks_same s p (GroupPage t body) empty marks none r.marks);
      newest = newest_same s p (GroupPage t body) empty newest none r.newest;
      recorded = record_same s p (GroupPage t body) empty recorded none r.recorded;
    }
page_more s p page (MarkPage m) pages marks newest recorded empty is behind r = record {
  pages =
      subst (AreListed (at_place s p (MarkPage m))) (sym (append-nil pages))
      (listed_same s p (MarkPage m) empty pages (λ t body e. page_not_mark (MarkPage m) t body m e refl) r.pages);
  marks = marks_more s p m empty marks r.marks;
  newest = newest_more s p m empty newest r.newest;
  recorded = record_more s p m empty recorded r.recorded;
}
