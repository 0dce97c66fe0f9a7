-- What a stop leaves before the device is mended, whatever failed: what was free at the opening and did not go bad, or
-- was lost, is free or lost at the next one.
use Rattle.many_stops.proofs.Common.{AreFirstBlocks, Bad, BlockState, Bool, Cell, Cells, Closed, Erasing, Filling}
use Rattle.many_stops.proofs.Common.{Flight, Free, GroupPage, HasSpareBlocks, HoldsLost, IsFenced, IsItOrFreeBefore}
use Rattle.many_stops.proofs.Common.{IsNewestMark, IsOpenedTranslation, IsSpare, KeepsFree, Mark, MarkPage, MendsAlone}
use Rattle.many_stops.proofs.Common.{None, Nothing, Opened, Option, Place, Programming, Reading, Some, Spot, StopLeaves}
use Rattle.many_stops.proofs.Common.{Touches, Translation, Valid, ap, arith, bad_count, bad_told, cases_Bool}
use Rattle.many_stops.proofs.Common.{closed_is_not_free, cond, count_by, false, free_count, if◌then◌else◌, inl, inr}
use Rattle.many_stops.proofs.Common.{inside_spot, is_bad, is_free, is_mended, may_go_bad, mending_blocks, number_of}
use Rattle.many_stops.proofs.Common.{refl, spot_of, spots, subst, sum_no_less, sym, true, true≢false, within, ℕ, ⊎_elim}
use Rattle.many_stops.proofs.Common.{◌*◌, ◌+◌, ◌-◌, ◌<◌, ◌∙◌, ◌≡◌, ◌≢◌, ◌≤◌, ◌⊎◌}
use Rattle.power_loss.proofs.stops.LeftCells.{flying_above, mark_from}
use Rattle.power_loss.proofs.stops.LeftUnmarked.{opened_below}
use Rattle.many_stops.proofs.CountedBlocks.{bad_alike, is_not_bad}
use Rattle.many_stops.proofs.finding_room.RoomForAMending.{counts_under}
use Rattle.many_stops.proofs.finding_room.MovesSinceTheOpening.{filled_was_free, free_was_free}
use Rattle.many_stops.proofs.finding_room.SinceTheOpening.{SinceOpening, WereUnfilled}
use Rattle.many_stops.proofs.free_at_stops.BeforeAnyStep.{opened_again}
use Rattle.many_stops.proofs.free_at_stops.FreeAtStops.{none_lost}
use Rattle.many_stops.proofs.room_left.RoomStays.{bad_is_not_free}
use Rattle.many_stops.specs.RoomOverStops.{IsFreeOrLost}

bad_is_not_closed : {x : BlockState} → x ≡ Bad → x ≢ Closed
bad_is_not_closed {x} e h = let no : Bad ≡ Closed = sym e ∙ h in cc

-- as many blocks are bad at an opening as it was told
pub opened_bad : {c : Cells} {m : Option Mark} (bad : Spot → Bool) (blocks : Spot → BlockState) →
    AreFirstBlocks c m bad blocks → (s : Spot) → is_bad (blocks s) ≡ bad s
opened_bad bad blocks first s = ⊎_elim (λ e. ap is_bad (first.were_bad s e) ∙ sym e)
    (λ e. ⊎_elim (λ k. ap is_bad k) (λ k. ap is_bad k) (first.were_good s e) ∙ sym e) (cases_Bool (bad s))

-- an opening fills no block
pub were_unfilled : (o : Translation) (bad : Spot → Bool) → Opened bad o → WereUnfilled o
were_unfilled o bad opens s = ⊎_elim (λ e. inr (inr (opens.start.disk.blocks.were_bad s e)))
    (λ e. ⊎_elim (λ k. inl k) (λ k. inr (inl k)) (opens.start.disk.blocks.were_good s e)) (cases_Bool (bad s))

one_if_true : (b : Bool) → b ≡ true → 1 ≤ cond b 1 0
one_if_true true h = omega arith
one_if_true false h = absurd (true≢false (sym h))

pub free_counts : (x : BlockState) → x ≡ Free → 1 ≤ cond (is_free x) 1 0
free_counts x e = one_if_true (is_free x) (ap is_free e)

-- each mark that is left was there before the stop
abbrev pub HasNoNewMark : Translation → Cells → Type 0
HasNoNewMark t left = (p : Place) (m : Mark) → left p ≡ MarkPage m → t.disk.cells p ≡ MarkPage m

-- a mark that a die was programming is left as it was meant
pub record HasNewMark (t : Translation) (left : Cells) : Type 0 where
  pub die : ℕ
  pub place : Place
  pub mark : Mark
  pub flies : t.disk.flights die ≡ Some (Programming place (MarkPage mark))
  pub there : left place ≡ MarkPage mark

-- Any stop of a life that is not mended

module _ (t : Translation) (left : Cells) (v : Valid t) (crash : StopLeaves t left) where
  -- the newest mark that is left was there, or was being programmed
  pub new_mark : (newest : Option Mark) → IsNewestMark left newest → HasNewMark t left ⊎ HasNoNewMark t left
  new_mark None n = inr (λ p m h. absurd (n p m h))
  new_mark (Some m) n = ⊎_elim (λ e. inr (λ p other h. older e other p h (mark_from t.disk left p crash h)))
      (λ f. inl (record { die = n.0.0.die; place = n.0.0; mark = m; flies = f; there = n.0.1 }))
      (mark_from t.disk left n.0.0 crash n.0.1)
    where
      older : t.disk.cells n.0.0 ≡ MarkPage m → (other : Mark) (p : Place) → left p ≡ MarkPage other →
          (t.disk.cells p ≡ MarkPage other) ⊎ (t.disk.flights p.die ≡ Some (Programming p (MarkPage other))) →
          t.disk.cells p ≡ MarkPage other
      older there other p h (inl e) = e
      older there other p h (inr f) =
          let a = flying_above p v f n.0.0 m there in let b = n.1 p other h in absurd (omega (arith, a, b))

  -- a block without a page that opens is free at the next opening, if it is not bad
  pub blank_is_free : (next : Translation) →
      IsOpenedTranslation t.numbers left (λ s. is_bad (t.disk.blocks s)) next → (s : Spot) →
      t.disk.blocks s ≢ Bad → ((p : Place) → spot_of p ≡ s → left p ≡ Nothing) → next.disk.blocks s ≡ Free
  blank_is_free next start s good blank = ⊎_elim (λ e. e)
      (λ e. let k = start.disk.blocks.oldest_first s e in absurd (k.2 (blank k.0 k.1)))
      (start.disk.blocks.were_good s (is_not_bad (t.disk.blocks s) good))

-- no more blocks are bad than at the opening, or than are spare
abbrev pub IsWithin : Translation → Translation → Type 0
IsWithin o t =
    (bad_count t.numbers t.disk.blocks ≤ bad_count t.numbers o.disk.blocks)
    ⊎ (bad_count t.numbers t.disk.blocks ≤ t.numbers.spare)

-- a stop of a mending that began with this opening, and left no mark that was in flight
pub record UnmendedStop (bad : Spot → Bool) (o t : Translation) (left : Cells) (next : Translation) : Type 0 where
  pub opens : Opened bad o
  pub valid : Valid t
  pub un : is_mended t.work.mending ≡ false
  pub alone : MendsAlone t
  pub since : SinceOpening o t
  pub free : KeepsFree t
  pub within : IsWithin o t
  pub crash : StopLeaves t left
  pub start : IsOpenedTranslation t.numbers left (λ s. is_bad (t.disk.blocks s)) next
  pub none : HasNoNewMark t left
  pub room : HasSpareBlocks o

may_fall : (base spare was now count after : ℕ) → base + (spare - was) ≤ count → count + was ≤ after + now →
    (now ≤ was) ⊎ (now ≤ spare) → base + (spare - now) ≤ after
may_fall base spare was now count after many sum (inl h) = omega (arith, many, sum, h)
may_fall base spare was now count after many sum (inr h) = omega (arith, many, sum, h)

one_of : (a b : Bool) → (a ≡ true → b ≡ true) → cond a 1 0 ≤ cond b 1 0
one_of true b h = let k = one_if_true b (h refl) in omega (arith, k)
one_of false b h = omega arith

-- of the last two tests that one passes of which the first two pass one, and the first two do not both
one_for_one : (a b c d : Bool) → (a ≡ true → b ≡ false) → (b ≡ true → d ≡ true) →
    (a ≡ true → d ≡ false → c ≡ true) → cond a 1 0 + cond b 1 0 ≤ cond c 1 0 + cond d 1 0
one_for_one true b c true apart stays goes =
    let k = ap {B = ℕ} (λ (z : Bool). cond z 1 0) (apart refl) in omega (arith, k)
one_for_one true b c false apart stays goes =
    let k = ap {B = ℕ} (λ (z : Bool). cond z 1 0) (apart refl) in
    let l = one_if_true c (goes refl refl) in
    omega (arith, k, l)
one_for_one false b c d apart stays goes = let k = one_of b d stays in omega (arith, k)

module _ {bad : Spot → Bool} {o t : Translation} {left : Cells} {next : Translation}
    (x : UnmendedStop bad o t left next) where
  pub unfilled : WereUnfilled o
  unfilled = were_unfilled o bad x.opens

  -- a block that was bad at the opening is so
  was_bad : (s : Spot) → is_bad (o.disk.blocks s) ≡ true → is_bad (t.disk.blocks s) ≡ true
  was_bad s h = ap is_bad (x.since.still s (bad_is_not_free (bad_told (o.disk.blocks s) h))) ∙ h

  -- a block that was not bad is not bad at the next opening
  pub good_next : (s : Spot) → t.disk.blocks s ≢ Bad → next.disk.blocks s ≢ Bad
  good_next s good now = ⊎_elim (λ e. bad_is_not_free now e) (λ e. bad_is_not_closed now e)
      (x.start.disk.blocks.were_good s (is_not_bad (t.disk.blocks s) good))

  touched_was_free : (f : Option Flight) (p : Place) (intended : Cell) → t.disk.flights p.die ≡ f →
      Touches f p intended → o.disk.blocks (spot_of p) ≡ Free
  touched_was_free None p intended e touches = absurd touches
  touched_was_free (Some (Reading reader place)) p intended e touches = absurd touches
  touched_was_free (Some (Programming q cell)) p intended e touches =
      filled_was_free o t unfilled x.since (spot_of p) q.page
      (subst (λ (z : Place). t.disk.blocks (spot_of z) ≡ Filling q.page) touches.0
      (x.valid.flights.programs p.die q cell e).next)
  touched_was_free (Some (Erasing s)) p intended e touches =
      free_was_free o t unfilled x.since (spot_of p)
      (subst (λ z. t.disk.blocks z ≡ Free) touches.0 (x.valid.flights.erases p.die s e).free)

  -- what was not free at the opening is left as it was then
  pub closed_left : (p : Place) → o.disk.blocks (spot_of p) ≢ Free → left p ≡ o.disk.cells p
  closed_left p not = ⊎_elim (λ e. e ∙ x.since.unchanged p not)
      (λ e. absurd (not (touched_was_free (t.disk.flights p.die) p e.0 refl e.1))) (x.crash p)

  -- a free block is free again: the mending has not begun, or none is to be erased for what is in it
  pub free_next : (s : Spot) → t.disk.blocks s ≡ Free → next.disk.blocks s ≡ Free
  free_next s free = ⊎_elim (λ e. e)
      (λ closed.
      let k = x.start.disk.blocks.oldest_first s closed in
      let i = inside_spot t.numbers left (within t left x.valid x.crash) k.0 k.2 in
      absurd (closed_is_not_free closed
      (ap next.disk.blocks (sym k.1) ∙ by (spot_of k.0) i.0 i.1 (ap t.disk.blocks k.1 ∙ free) x.free)))
      (x.start.disk.blocks.were_good s (ap is_bad free))
    where
      by : (a : Spot) → a.die < t.numbers.dies → a.block < t.numbers.blocks → t.disk.blocks a ≡ Free → KeepsFree t →
          next.disk.blocks a ≡ Free
      by a die block was (inl none) = none_lost x.valid x.crash x.start none a die block was
      by a die block was (inr (inl one)) = absurd (true≢false (sym (ap is_mended one.mended) ∙ x.un))
      by a die block was (inr (inr first)) = opened_again x.valid x.crash first x.start a was

  -- a block of lost pages that was not free at the opening is free, if a newer mark is left whose fence all of it is in
  pub lost_is_free : (m : Mark) → next.ledger.newest ≡ Some m → number_of o.ledger.newest < m.number →
      ((number : ℕ) → o.ledger.first_lost ≤ number → number ≤ o.ledger.greatest_seen → IsFenced m.fence number) →
      (s : Spot) → o.disk.blocks s ≢ Free → t.disk.blocks s ≢ Bad → HoldsLost o.disk.cells o.ledger.first_lost s →
      next.disk.blocks s ≡ Free
  lost_is_free m newest newer fenced s not good lost = ⊎_elim (λ e. e)
      (λ e. let k = x.start.disk.blocks.oldest_first s e in
      absurd (k.3 (subst (λ z. IsSpare left z (IsItOrFreeBefore left next.disk.blocks s) (left k.0)) (sym newest)
      (by k.0 k.1 (left k.0) refl k.2))))
      (x.start.disk.blocks.were_good s (is_not_bad (t.disk.blocks s) good))
    where
      was : (p : Place) → spot_of p ≡ s → left p ≡ o.disk.cells p
      was p at = closed_left p (λ free. not (sym (ap o.disk.blocks at) ∙ free))

      by : (p : Place) → spot_of p ≡ s → (cell : Cell) → left p ≡ cell → cell ≢ Nothing →
          IsSpare left (Some m) (IsItOrFreeBefore left next.disk.blocks s) cell
      by p at Nothing h some = absurd (some refl)
      by p at (GroupPage tag body) h some =
          inl (fenced tag.number (lost p tag body at (sym (was p at) ∙ h))
          (x.opens.start.ledger.greatest_seen.0.numbers p tag body (sym (was p at) ∙ h)))
      by p at (MarkPage other) h some =
          let low = opened_below o.disk.cells o.ledger.newest x.opens.start.ledger.newest (sym (was p at) ∙ h) in
          omega (arith, low, newer)

  -- Counts

  -- how many blocks may still go bad
  abbrev pub more : ℕ
  more = may_go_bad t.numbers (bad_count t.numbers t.disk.blocks)

  more_next : may_go_bad t.numbers (bad_count t.numbers next.disk.blocks) ≡ more
  more_next = ap (may_go_bad t.numbers) (bad_alike t.numbers t.disk.blocks next.disk.blocks
      (opened_bad (λ s. is_bad (t.disk.blocks s)) next.disk.blocks x.start.disk.blocks))

  -- the spare blocks of the opening that did not go bad
  abbrev pub kept : Spot → Bool
  kept s = if is_bad (t.disk.blocks s) then false else x.room.spare s

  pub kept_is : (s : Spot) → kept s ≡ true → (x.room.spare s ≡ true) × (t.disk.blocks s ≢ Bad)
  kept_is s = by (is_bad (t.disk.blocks s)) refl
    where
      by : (b : Bool) → is_bad (t.disk.blocks s) ≡ b → (if b then false else x.room.spare s) ≡ true →
          (x.room.spare s ≡ true) × (t.disk.blocks s ≢ Bad)
      by true is h = absurd (true≢false (sym h))
      by false is h = (h, λ bad. true≢false (sym (ap is_bad bad) ∙ is))

  kept_good : (s : Spot) → x.room.spare s ≡ true → is_bad (t.disk.blocks s) ≡ false → kept s ≡ true
  kept_good s spare good = ap (λ b. if b then false else x.room.spare s) good ∙ spare

  spare_good : (s : Spot) → x.room.spare s ≡ true → is_bad (o.disk.blocks s) ≡ false
  spare_good s h = is_not_bad (o.disk.blocks s)
      (⊎_elim (λ free bad. bad_is_not_free bad free) (λ k. k.0) (x.room.each s h))

  -- so many blocks of the opening may still go bad
  abbrev first_more : ℕ
  first_more = may_go_bad t.numbers (bad_count t.numbers o.disk.blocks)

  pub first_many : 2 * mending_blocks t.numbers + first_more ≤ count_by x.room.spare (spots t.numbers)
  first_many = subst
      (λ n. 2 * mending_blocks n + may_go_bad n (bad_count n o.disk.blocks) ≤ count_by x.room.spare (spots n))
      (sym x.since.numbers_are) x.room.many

  pub first_free : mending_blocks t.numbers + first_more ≤ free_count t.numbers o.disk.blocks
  first_free = subst
      (λ n. mending_blocks n + may_go_bad n (bad_count n o.disk.blocks) ≤ free_count n o.disk.blocks)
      (sym x.since.numbers_are) x.room.free

  -- what is no less than so many and as many more as may go bad, but for those that went bad, is so still
  pub still_many : (base : ℕ) (test now : Spot → Bool) → base + first_more ≤ count_by test (spots t.numbers) →
      ((s : Spot) → test s ≡ true → is_bad (o.disk.blocks s) ≡ false) →
      ((s : Spot) → test s ≡ true → is_bad (t.disk.blocks s) ≡ false → now s ≡ true) →
      base + more ≤ count_by now (spots t.numbers)
  still_many base test now enough good stays =
      may_fall base t.numbers.spare (bad_count t.numbers o.disk.blocks) (bad_count t.numbers t.disk.blocks)
      (count_by test (spots t.numbers)) (count_by now (spots t.numbers)) enough
      (counts_under test (λ s. is_bad (o.disk.blocks s)) now (λ s. is_bad (t.disk.blocks s)) (spots t.numbers)
      (λ s i. one_for_one (test s) (is_bad (o.disk.blocks s)) (now s) (is_bad (t.disk.blocks s)) (good s) (was_bad s)
      (stays s))) x.within

  many : 2 * mending_blocks t.numbers + more ≤ count_by kept (spots t.numbers)
  many = still_many (2 * mending_blocks t.numbers) x.room.spare kept first_many spare_good kept_good

  -- of the next opening
  pub with_blocks : ((s : Spot) → kept s ≡ true → IsFreeOrLost next s) →
      mending_blocks t.numbers + more ≤ free_count t.numbers next.disk.blocks → HasSpareBlocks next
  with_blocks each free = record {
    free = subst (λ n. mending_blocks n + may_go_bad n (bad_count n next.disk.blocks) ≤ free_count n next.disk.blocks)
        (sym x.start.numbers)
        (subst (λ k. mending_blocks t.numbers + k ≤ free_count t.numbers next.disk.blocks) (sym more_next) free);
    spare = kept;
    each = each;
    many = subst
        (λ n. 2 * mending_blocks n + may_go_bad n (bad_count n next.disk.blocks) ≤ count_by kept (spots n))
        (sym x.start.numbers)
        (subst (λ k. 2 * mending_blocks t.numbers + k ≤ count_by kept (spots t.numbers)) (sym more_next) many);
  }

  -- where all of these are free there is room
  pub all_free : ((s : Spot) → kept s ≡ true → next.disk.blocks s ≡ Free) → HasSpareBlocks next
  all_free each = with_blocks (λ s h. inl (each s h))
      (let l = sum_no_less (λ s. cond (kept s) 1 0) (λ s. cond (is_free (next.disk.blocks s)) 1 0) (spots t.numbers)
      (λ s i. one_of (kept s) (is_free (next.disk.blocks s)) (λ h. ap is_free (each s h))) in
      let m = many in
      omega (arith, l, m))
