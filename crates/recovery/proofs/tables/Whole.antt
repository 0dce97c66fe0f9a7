-- A table grows page by page, block by block and die by die to that of all pages.
use Rattle.recovery.proofs.Common.{AreListed, AreMarksListed, AreWithin, Cell, Cells, DieState, Fit, FoundPage, IsCell}
use Rattle.recovery.proofs.Common.{IsMarksRecord, IsNewestMark, IsNotHigher, IsTable, IsTableOf, IsTableTo, List, None}
use Rattle.recovery.proofs.Common.{Nothing, Numbers, Page, Place, Shows, ShowsDie, Some, Table, [], arith, array_of}
use Rattle.recovery.proofs.Common.{at_place, cases_Bool, cases_lt, cond-false, cond-true, false, if◌then◌else◌, inl}
use Rattle.recovery.proofs.Common.{mark_not_nothing, newest_in, none-some, one_cell, page_at, page_not_nothing}
use Rattle.recovery.proofs.Common.{place_at, refl, slice_get, subst, sym, true, ℕ, ⊎_elim, ◌+◌, ◌<◌, ◌∙◌, ◌≡◌, ◌≢◌, ◌≤◌}
use Rattle.std.proofs.Common.{◌==◌}
use Rattle.ufs_spec.proofs.Facts.{eq-eqb, eqb-true}
use Rattle.ufs_laws.proofs.array_cells.StandsForSomething.{within_dies}
use Rattle.power_loss.proofs.die_pages.BlankOutsideDies.{fit_inside}
use Rattle.recovery.specs.Reading.{AreRead, IsNoted, StandsBefore}
use Rattle.recovery.proofs.tables.Order.{before_is_lower, block_is_read, die_is_read, is_before}
use Rattle.recovery.proofs.tables.Order.{not_before_itself, nothing_before, page_is_read}
use Rattle.recovery.proofs.tables.Steps.{page_more}

-- what the dies show lies within them
pub shown_within : (n : Numbers) (dies : List DieState) (c : Cells) → Fit n dies → Shows (array_of dies) c
    → AreWithin n c
shown_within n dies c fit shown = within_dies n (array_of dies) c (fit_inside n dies fit) shown

module _ (n : Numbers) (c : Cells) where
  none_listed : AreListed (λ p. Nothing) []
  none_listed = record {
    there = λ i e h. absurd (none-some e h);
    tags = λ i e h. absurd (none-some e h);
    all = λ p t body e. absurd (page_not_nothing Nothing t body e refl);
    rising = λ i j a b h k less. absurd (none-some a h);
  }

  none_marked : AreMarksListed (λ p. Nothing) []
  none_marked = record {
    there = λ i e h. absurd (none-some e h);
    all = λ p m e. absurd (mark_not_nothing Nothing m e refl);
  }

  -- before the pages of a die, when nothing stands on the dies before it
  pub nothing_read : (d : ℕ) (t : Table) → ((p : Place) → p.die < d → c p ≡ Nothing) → t.pages.items ≡ []
      → newest_in t ≡ None → t.recorded ≡ 0 → t.marks.items ≡ [] → IsTableTo n d 0 0 c t
  nothing_read d t before pages newest recorded marks = record {
    seen = λ p. Nothing;
    are_read = nothing_before d c before;
    pages = subst (AreListed (λ p. Nothing)) (sym pages) none_listed;
    newest = subst (IsNewestMark (λ p. Nothing)) (sym newest) (λ p m e. mark_not_nothing Nothing m e refl);
    recorded =
        subst (IsMarksRecord (λ p. Nothing)) (sym recorded)
        (λ p m e. absurd (mark_not_nothing Nothing m e refl), inl refl);
    marks = subst (AreMarksListed (λ p. Nothing)) (sym marks) none_marked;
  }

  -- of no die
  pub none_read : (first : ℕ) (t : Table) → t.pages.items ≡ [] → newest_in t ≡ None → t.recorded ≡ 0
      → t.marks.items ≡ [] → IsTableOf n first 0 c t
  none_read first t pages newest recorded marks = record {
    seen = λ p. Nothing;
    are_of = record { inside = λ p on. absurd (omega (arith, on.0, on.1)); outside = λ p out. refl };
    pages = subst (AreListed (λ p. Nothing)) (sym pages) none_listed;
    newest = subst (IsNewestMark (λ p. Nothing)) (sym newest) (λ p m e. mark_not_nothing Nothing m e refl);
    recorded =
        subst (IsMarksRecord (λ p. Nothing)) (sym recorded)
        (λ p m e. absurd (mark_not_nothing Nothing m e refl), inl refl);
    marks = subst (AreMarksListed (λ p. Nothing)) (sym marks) none_marked;
  }

  module _ (d b g : ℕ) (t u : Table) (page : Page) (r : IsTableTo n d b g c t) (is : IsCell page (c (place_at d b g)))
      (noted : IsNoted (place_at d b g) (c (place_at d b g)) t u) where
    behind : (i : ℕ) (e : FoundPage) → slice_get t.pages.items i ≡ Some e → IsNotHigher e.place (place_at d b g)
    behind i e h =
        let there = r.pages.there i e h in
        ⊎_elim (λ before. before_is_lower d b g e.place before)
        (λ no. absurd (page_not_nothing (r.seen e.place) e.tag there.0 there.1 (r.are_read.unread e.place no)))
        (is_before d b g e.place)

    pub page_read : IsTableTo n d b (g + 1) c u
    page_read =
        let empty : r.seen (place_at d b g) ≡ Nothing = r.are_read.unread (place_at d b g) (not_before_itself d b g) in
        let more = page_more r.seen (place_at d b g) page (c (place_at d b g)) t.pages.items t.marks.items (newest_in t)
        t.recorded empty is behind
        (record { pages = r.pages; marks = r.marks; newest = r.newest; recorded = r.recorded }) in
        let seen : Cells = at_place r.seen (place_at d b g) (c (place_at d b g)) in
        record {
          seen = seen;
          are_read = page_is_read d b g c r.seen r.are_read;
          pages = subst (AreListed seen) (sym noted.pages) more.pages;
          newest = subst (IsNewestMark seen) (sym noted.newest) more.newest;
          recorded = subst (IsMarksRecord seen) (sym noted.recorded) more.recorded;
          marks = subst (AreMarksListed seen) (sym noted.marks) more.marks;
        }

  module _ (within : AreWithin n c) where
    pub block_read : (d b : ℕ) (t : Table) → IsTableTo n d b n.pages c t → IsTableTo n d (b + 1) 0 c t
    block_read d b t r = record {
      seen = r.seen;
      are_read = block_is_read n c r.seen within d b r.are_read;
      pages = r.pages;
      newest = r.newest;
      recorded = r.recorded;
      marks = r.marks;
    }

    -- all dies are read
    pub all_read : (t : Table) → IsTableOf n 0 n.dies c t → IsTable n c t
    all_read t r = record {
      pages = subst (λ (s : Cells). AreListed s t.pages.items) whole r.pages;
      newest = subst (λ (s : Cells). IsNewestMark s (newest_in t)) whole r.newest;
      recorded = subst (λ (s : Cells). IsMarksRecord s t.recorded) whole r.recorded;
      marks = subst (λ (s : Cells). AreMarksListed s t.marks.items) whole r.marks;
    }
      where
        each : (p : Place) → r.seen p ≡ c p
        each p =
            ⊎_elim (λ (low : p.die < n.dies). r.are_of.inside p (omega arith, omega (arith, low)))
            (λ (high : n.dies ≤ p.die).
            r.are_of.outside p (λ on. let l = on.1 in omega (arith, l, high))
            ∙ sym (within p (λ is. let l = is.die in omega (arith, l, high))))
            (cases_lt p.die n.dies)

        whole : r.seen ≡ c
        whole = λ i p. each p i

-- a page more, which was told as what it is and noted
pub told_and_noted : (n : Numbers) (c : Cells) (d b g next : ℕ) (t u : Table) (page : Page) (x : Cell)
    → next ≡ g + 1 → IsCell page x → IsCell page (c (place_at d b g)) → IsNoted (place_at d b g) x t u
    → IsTableTo n d b g c t → IsTableTo n d b next c u
told_and_noted n c d b g next t u page x more told is noted r =
    let same : x ≡ c (place_at d b g) = one_cell page x (c (place_at d b g)) told is in
    subst (λ (k : ℕ). IsTableTo n d b k c u) (sym more)
    (page_read n c d b g t u page r is (subst (λ (y : Cell). IsNoted (place_at d b g) y t u) same noted))

-- ## A die alone

-- the cells of a die, and nothing else
abbrev pub only : ℕ → Cells → Cells
only d c p = if p.die == d then c p else Nothing

only_here : (d : ℕ) (c : Cells) (p : Place) → p.die ≡ d → only d c p ≡ c p
only_here d c p e = cond-true (p.die == d) (c p) Nothing (eq-eqb p.die d e)

only_elsewhere : (d : ℕ) (c : Cells) (p : Place) → p.die ≢ d → only d c p ≡ Nothing
only_elsewhere d c p apart =
    ⊎_elim (λ (e : (p.die == d) ≡ true). absurd (apart (eqb-true p.die d e)))
    (λ (e : (p.die == d) ≡ false). cond-false (p.die == d) (c p) Nothing e) (cases_Bool (p.die == d))

pub only_shown : (d : ℕ) (state : DieState) (c : Cells) → ShowsDie d state c → ShowsDie d state (only d c)
only_shown d state c shown p e =
    subst (IsCell (page_at state p.block p.page)) (sym (only_here d c p e)) (shown p e)

pub only_within : (n : Numbers) (d : ℕ) (c : Cells) → AreWithin n c → AreWithin n (only d c)
only_within n d c within p out =
    ⊎_elim (λ (e : (p.die == d) ≡ true). cond-true (p.die == d) (c p) Nothing e ∙ within p out)
    (λ (e : (p.die == d) ≡ false). cond-false (p.die == d) (c p) Nothing e) (cases_Bool (p.die == d))

pub only_before : (d : ℕ) (c : Cells) (p : Place) → p.die < d → only d c p ≡ Nothing
only_before d c p low = only_elsewhere d c p (λ e. omega (arith, low, e))

-- a die is read
pub die_read : (n : Numbers) (c : Cells) → AreWithin n c → (d : ℕ) (t : Table) → IsTableTo n d n.blocks 0 (only d c) t
    → IsTableOf n d 1 c t
die_read n c within d t r = record {
  seen = r.seen;
  are_of = record {
    inside = λ p on.
        whole.read p (inl (omega (arith, on.1))) ∙ only_here d c p (omega (arith, on.0, on.1));
    outside = λ p out.
        ⊎_elim
        (λ (before : StandsBefore (d + 1) 0 0 p).
        whole.read p before ∙ only_elsewhere d c p (λ e. out (omega (arith, e), omega (arith, e))))
        (λ (no : StandsBefore (d + 1) 0 0 p → ⊥). whole.unread p no)
        (is_before (d + 1) 0 0 p);
  };
  pages = r.pages;
  newest = r.newest;
  recorded = r.recorded;
  marks = r.marks;
}
  where
    whole : AreRead (d + 1) 0 0 (only d c) r.seen
    whole = die_is_read n (only d c) r.seen (only_within n d c within) d r.are_read
