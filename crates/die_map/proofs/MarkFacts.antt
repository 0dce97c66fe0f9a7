-- The newest mark, page by page.
use Rattle.std.proofs.Common.{◌≡◌, ◌≢◌, ◌⊎◌, ◌∙◌, ℕ, ◌+◌, ◌<◌, ◌≤◌, true, false, Option, Some, None, inl, inr, ⊎_elim}
use Rattle.std.proofs.Common.{refl, sym, ap, subst, arith, nat_lt, List, length, get_or}
use Rattle.std.proofs.lemmas.List.{get_or_default}
use Rattle.std.proofs.lemmas.List.Elements.{All-get_or}
use Rattle.ufs_spec.specs.Cells.{AreWithin, Cell, Cells, GroupPage, IsCell, Mark, MarkPage, Nothing, Shows}
use Rattle.ufs_spec.specs.DieLaws.{pages_in}
use Rattle.ufs_spec.specs.Dies.{DieState, IsOfSize, new_die, page_at}
use Rattle.ufs_spec.specs.Disk.{at_place}
use Rattle.ufs_spec.specs.Lives.{Fit, array_of}
use Rattle.ufs_spec.specs.declared.configs.Numbers.{Numbers}
use Rattle.ufs_spec.specs.declared.flash.Place.{Place}
use Rattle.ufs_spec.proofs.CellKinds.{mark_not_nothing, one_mark, page_not_mark}
use Rattle.ufs_spec.proofs.Facts.{cases_Bool, cond-false, cond-true, ltb-false, ltb-true}
use Rattle.ufs_spec.proofs.Updates.{at_place_cases, at_place_is}
use Rattle.recovery.proofs.tables.Order.{all_is_read, block_is_read, die_is_read, not_before_itself, nothing_is_read}
use Rattle.recovery.proofs.tables.Order.{page_is_read}
use Rattle.recovery.proofs.tables.Whole.{shown_within}
use Rattle.recovery.specs.Reading.{place_at}
use Rattle.die_map.specs.Surveys.{IsDieShown, IsMarkFound, IsReadTo, mark_after, newer_mark}
use Rattle.die_map.specs.declared.survey.FoundMark.{FoundMark}

-- ## What is said of the pages before a page, at the end of a block, of a die and of all

module _ (R : Cells → Type 0) (n : Numbers) (c : Cells) where
  pub nothing_read : R (λ p. Nothing) → IsReadTo R 0 0 0 c
  nothing_read so = record { seen = λ p. Nothing; are_read = nothing_is_read c; so = so }

  module _ (within : AreWithin n c) where
    pub block_read : (d b : ℕ) → IsReadTo R d b n.pages c → IsReadTo R d (b + 1) 0 c
    block_read d b r =
        record { seen = r.seen; are_read = block_is_read n c r.seen within d b r.are_read; so = r.so }

    pub die_read : (d : ℕ) → IsReadTo R d n.blocks 0 c → IsReadTo R (d + 1) 0 0 c
    die_read d r = record { seen = r.seen; are_read = die_is_read n c r.seen within d r.are_read; so = r.so }

    pub all_read : IsReadTo R n.dies 0 0 c → R c
    all_read r = subst R (all_is_read n c r.seen within r.are_read) r.so

-- one page more
pub page_read : (R S : Cells → Type 0) (c : Cells) (d b g : ℕ) →
    ((s : Cells) → s (place_at d b g) ≡ Nothing → R s → S (at_place s (place_at d b g) (c (place_at d b g)))) →
    IsReadTo R d b g c → IsReadTo S d b (g + 1) c
page_read R S c d b g step r =
    let empty : r.seen (place_at d b g) ≡ Nothing = r.are_read.unread (place_at d b g) (not_before_itself d b g) in
    record {
      seen = at_place r.seen (place_at d b g) (c (place_at d b g));
      are_read = page_is_read d b g c r.seen r.are_read;
      so = step r.seen empty r.so;
    }

-- ## The sizes of a die that is shown

module _ (n : Numbers) (c : Cells) (number : ℕ) (d : DieState) (k count : ℕ) (shown : IsDieShown n c number d) where
  -- behind the last page of a block
  pub block_end : (b : ℕ) → b < length d.blocks → IsOfSize (length d.blocks) count d → k ≤ count → count ≤ k
      → k ≡ n.pages
  block_end b less size low high =
      let here = shown.size.0 in
      let told = pages_in d b (length d.blocks) count less size in
      let wanted = pages_in d b n.blocks n.pages (omega (arith, here, less)) shown.size in
      omega (arith, told, wanted, low, high)

  -- behind the last block of a die
  pub die_end : count ≡ length d.blocks → k ≤ count → count ≤ k → k ≡ n.blocks
  die_end told low high = omega (arith, told, shown.size.0, low, high)

-- the die at an index is shown
pub die_shown : (n : Numbers) (c : Cells) (dies : List DieState) (i number : ℕ) (d : DieState) → Fit n dies
    → Shows (array_of dies) c → i < length dies → d ≡ get_or dies i d → number ≡ i → IsDieShown n c number d
die_shown n c dies i number d fit shown less is same =
    let at : get_or dies i (new_die 0 0) ≡ d = get_or_default dies i (new_die 0 0) d less ∙ sym is in
    record {
      size =
          subst (IsOfSize n.blocks n.pages) at
          (All-get_or (IsOfSize n.blocks n.pages) dies i (new_die 0 0) less fit.1);
      within = shown_within n dies c fit shown;
      shown = λ b g.
          subst (λ (m : ℕ). IsCell (page_at d b g) (c (place_at m b g))) (sym same)
          (subst (λ (e : DieState). IsCell (page_at e b g) (c (place_at i b g))) at (shown (place_at i b g)));
    }

-- ## One page more, at a place where nothing stood

module _ (s : Cells) (p : Place) (x : Cell) (empty : s p ≡ Nothing) where
  abbrev after : Cells
  after = at_place s p x

  pub here : after p ≡ x
  here = ⊎_elim (λ at. at.1) (λ apart. absurd (apart.0 refl)) (at_place_cases s p x p)

  -- what stood elsewhere stands there
  pub stays : (q : Place) (y : Cell) → y ≢ Nothing → s q ≡ y → after q ≡ y
  stays q y some e =
      ⊎_elim (λ at. absurd (some (sym e ∙ ap s at.0 ∙ empty))) (λ apart. apart.1 ∙ e) (at_place_cases s p x q)

  mark_stays : (q : Place) (m : Mark) → s q ≡ MarkPage m → after q ≡ MarkPage m
  mark_stays q m = stays q (MarkPage m) (mark_not_nothing (MarkPage m) m refl)

  -- no mark more
  mark_same : (f : Option FoundMark) → ((o : Mark) → x ≢ MarkPage o) → IsMarkFound s f → IsMarkFound after f
  mark_same None other none = λ q o h.
      ⊎_elim (λ at. absurd (other o at.1)) (λ apart. none q o apart.1) (at_place_is s p x q (MarkPage o) h)
  mark_same (Some f) other ((m, at, number, fence), most) = (
    (m, mark_stays f.place m at, number, fence),
    λ q o h. ⊎_elim (λ at. absurd (other o at.1)) (λ apart. most q o apart.1) (at_place_is s p x q (MarkPage o) h),
  )

module _ (s : Cells) (p : Place) (m : Mark) (empty : s p ≡ Nothing) where
  abbrev marked : Cells
  marked = at_place s p (MarkPage m)

  abbrev this : FoundMark
  this = record { number = m.number; fence = m.fence; place = p }

  -- each mark is this one or stood there before
  each_mark : (P : Mark → Type 0) → P m → ((q : Place) (o : Mark) → s q ≡ MarkPage o → P o)
      → (q : Place) (o : Mark) → marked q ≡ MarkPage o → P o
  each_mark P first others q o h =
      ⊎_elim (λ at. subst P (one_mark m o at.1) first) (λ apart. others q o apart.1)
      (at_place_is s p (MarkPage m) q (MarkPage o) h)

  mark_more : (f : Option FoundMark) → IsMarkFound s f → IsMarkFound marked (newer_mark p m f)
  mark_more None none = (
    (m, here s p (MarkPage m) empty, refl, refl),
    each_mark (λ o. o.number ≤ m.number) (omega arith) (λ q o h. absurd (none q o h)),
  )
  mark_more (Some k) ((old, at, number, fence), most) = told (cases_Bool (nat_lt k.number m.number))
    where
      newer : nat_lt k.number m.number ≡ true → IsMarkFound marked (Some this)
      newer e = (
        (m, here s p (MarkPage m) empty, refl, refl),
        each_mark (λ o. o.number ≤ m.number) (omega arith)
            (λ q o h. omega (arith, most q o h, ltb-true k.number m.number e)),
      )

      older : nat_lt k.number m.number ≡ false → IsMarkFound marked (Some k)
      older e = (
        (old, mark_stays s p (MarkPage m) empty k.place old at, number, fence),
        each_mark (λ o. o.number ≤ k.number) (omega (arith, ltb-false k.number m.number e)) most,
      )

      told : (nat_lt k.number m.number ≡ true) ⊎ (nat_lt k.number m.number ≡ false)
          → IsMarkFound marked (newer_mark p m (Some k))
      told (inl e) =
          subst (IsMarkFound marked) (sym (cond-true (nat_lt k.number m.number) (Some this) (Some k) e)) (newer e)
      told (inr e) =
          subst (IsMarkFound marked) (sym (cond-false (nat_lt k.number m.number) (Some this) (Some k) e)) (older e)

-- whatever the page is
pub mark_step : (s : Cells) (p : Place) (x : Cell) (f : Option FoundMark) → s p ≡ Nothing → IsMarkFound s f
    → IsMarkFound (at_place s p x) (mark_after p x f)
mark_step s p Nothing f empty r =
    mark_same s p Nothing empty f (λ o e. mark_not_nothing Nothing o e refl) r
mark_step s p (GroupPage t body) f empty r =
    mark_same s p (GroupPage t body) empty f (λ o. page_not_mark (GroupPage t body) t body o refl) r
mark_step s p (MarkPage m) f empty r = mark_more s p m empty f r
