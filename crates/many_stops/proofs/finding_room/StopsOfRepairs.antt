-- What a stop leaves while lost keys are repaired: what the mending filled, and did not go bad, holds nothing that is
-- not lost, and what was lost before lies in the fence. Where the last mark is left, though its program failed, the
-- next life is mended at once.
use Rattle.many_stops.proofs.Common.{Bad, Bool, Cells, FindsRoom, Free, HasSpareBlocks, HoldsLost, IsFenced}
use Rattle.many_stops.proofs.Common.{IsNewestMark, Key, List, Mark, MarkPage, MendingOf, None, Option, Repairing, Some}
use Rattle.many_stops.proofs.Common.{Spot, Translation, ap, arith, bad_count, cond, count_by, false, fence_in}
use Rattle.many_stops.proofs.Common.{free_count, free_is, free_or_not, inl, inr, is_bad, is_free, is_marked, least_room}
use Rattle.many_stops.proofs.Common.{lost_from, mending_blocks, newest_or_later, newest_stays, number_of}
use Rattle.many_stops.proofs.Common.{page_not_nothing, page_of_step, refl, spots, subst, sym, true, ℕ, ⊎_elim, ◌*◌, ◌+◌}
use Rattle.many_stops.proofs.Common.{◌-◌, ◌∙◌, ◌≡◌, ◌≢◌, ◌≤◌, ◌⊎◌}
use Rattle.power_loss.proofs.stops.LeftCells.{opened}
use Rattle.power_loss.specs.Mending.{turns_left}
use Rattle.power_loss.specs.MendingRoom.{HasRoom, pages_left}
use Rattle.many_stops.proofs.CountedBlocks.{no_fewer}
use Rattle.many_stops.proofs.finding_room.BlocksOneByOne.{Filled}
use Rattle.many_stops.proofs.finding_room.LateMarks.{late_is_mended}
use Rattle.many_stops.proofs.finding_room.MovesSinceTheOpening.{flies_new, free_was_free}
use Rattle.many_stops.proofs.finding_room.RoomForAMending.{counts_under, fewer_blocks, least_room_twice}
use Rattle.many_stops.proofs.finding_room.StopsOfAMending.{UnmendedStop, first_free, first_many, free_counts, free_next}
use Rattle.many_stops.proofs.finding_room.StopsOfAMending.{good_next, kept, kept_is, lost_is_free, more, unfilled}
use Rattle.many_stops.proofs.finding_room.StopsOfAMending.{with_blocks}
use Rattle.many_stops.specs.RoomOverStops.{IsFreeOrLost}

two_counted : (a : Bool) (x y : ℕ) → 1 ≤ x → 1 ≤ y → cond a 1 0 + 1 ≤ x + y
two_counted true x y h l = omega (arith, h, l)
two_counted false x y h l = omega (arith, h, l)

last_two : (a b c d : ℕ) → a + b + c ≤ d → b + c ≤ d
last_two a b c d l = omega (arith, l)

-- so many free blocks the mending leaves, less those that went bad
abbrev pub LeavesOver : Translation → Translation → ℕ → Type 0
LeavesOver o t over =
    free_count t.numbers o.disk.blocks - mending_blocks t.numbers + bad_count t.numbers o.disk.blocks
    ≤ over + bad_count t.numbers t.disk.blocks

enough : (dies blocks may was now least first spare free after over : ℕ) → 1 ≤ dies → least ≡ dies + 2 * blocks →
    2 * blocks + (may - was) ≤ spare → blocks + (may - was) ≤ first → spare + free ≤ after + first → free ≤ after →
    first - blocks + was ≤ over + now → (now ≤ was) ⊎ (now ≤ may) →
    (least + (may - now) ≤ free + 1) ⊎ (over ≤ free) → blocks + (may - now) ≤ after
enough dies blocks may was now least first spare free after over some is spares room sum more left within (inl h) =
    omega (arith, some, is, more, h)
enough dies blocks may was now least first spare free after over some is spares room sum more left (inl w) (inr h) =
    omega (arith, spares, room, sum, left, w, h)
enough dies blocks may was now least first spare free after over some is spares room sum more left (inr w) (inr h) =
    omega (arith, spares, room, sum, left, w, h)

module _ {bad : Spot → Bool} {o t : Translation} {left : Cells} {next : Translation}
    (x : UnmendedStop bad o t left next) (keys : List Key) (is : t.work.mending ≡ Repairing keys)
    (w : MendingOf t (Repairing keys)) where
  -- Where the mark that the repairs are behind is the newest

  module _ (newest : next.ledger.newest ≡ Some w.mark) where
    lost_is : next.ledger.first_lost ≡ t.ledger.first_lost
    lost_is = x.start.ledger.first_lost ∙ ap (λ m. lost_from (fence_in m) x.start.ledger.kept) newest
        ∙ ap (λ f. lost_from f x.start.ledger.kept) w.more.fence.is ∙ w.more.fence.first

    fenced : (number : ℕ) → o.ledger.first_lost ≤ number → number ≤ o.ledger.greatest_seen →
        IsFenced w.mark.fence number
    fenced number from to =
        let a = w.more.fence.first in
        let b = w.more.fence.last in
        let e = x.since.lost in
        let f = x.since.seen in
        subst (λ z. IsFenced z number) (sym w.more.fence.is) (omega (arith, from, a, e), omega (arith, to, b, f))

    lost_free : (s : Spot) → o.disk.blocks s ≢ Free → o.disk.blocks s ≢ Bad →
        HoldsLost o.disk.cells o.ledger.first_lost s → next.disk.blocks s ≡ Free
    lost_free s not good lost = lost_is_free x w.mark newest (x.since.newer (ap is_marked is) w.mark w.is) fenced s not
        (λ worse. good (sym (x.since.still s not) ∙ worse)) lost

    -- a block that the mending filled, and that did not go bad, holds nothing but what is lost
    filled_is_lost : (s : Spot) → o.disk.blocks s ≡ Free → t.disk.blocks s ≢ Free → t.disk.blocks s ≢ Bad →
        HoldsLost next.disk.cells next.ledger.first_lost s
    filled_is_lost s free not good p tag body at h = ⊎_elim
        (λ e.
        let l = x.since.new p tag body (ap o.disk.blocks at ∙ free) (λ z. not (sym (ap t.disk.blocks at) ∙ z))
        (λ z. good (sym (ap t.disk.blocks at) ∙ z)) e in
        let k = lost_is in
        omega (arith, l, k))
        (λ job.
        let l = flies_new (unfilled x) x.valid x.un x.alone x.since p.die p tag body job in
        let k = lost_is in
        omega (arith, l, k))
        (opened t.disk p x.crash (page_not_nothing _ _ _ refl) (sym (ap (λ (c : Cells). c p) x.start.disk.cells) ∙ h))

    each_left : (s : Spot) → kept x s ≡ true → IsFreeOrLost next s
    each_left s h =
        let k = kept_is x s h in
        ⊎_elim
        (λ free. ⊎_elim (λ e. inl (free_next x s e))
        (λ not. inr (good_next x s k.1, filled_is_lost s free not k.1)) (free_or_not (t.disk.blocks s)))
        (λ not. ⊎_elim (λ free. absurd (not free)) (λ lost. inl (lost_free s not lost.0 lost.1)) (x.room.each s k.0))
        (free_or_not (o.disk.blocks s))

    -- a spare block that is not free now was free at the opening
    counted : (s : Spot) →
        cond (x.room.spare s) 1 0 + cond (is_free (t.disk.blocks s)) 1 0
        ≤ cond (is_free (next.disk.blocks s)) 1 0 + cond (is_free (o.disk.blocks s)) 1 0
    counted s = by (x.room.spare s) (is_free (t.disk.blocks s)) refl refl
      where
        by : (a b : Bool) → x.room.spare s ≡ a → is_free (t.disk.blocks s) ≡ b →
            cond a 1 0 + cond b 1 0
            ≤ cond (is_free (next.disk.blocks s)) 1 0 + cond (is_free (o.disk.blocks s)) 1 0
        by a true h e =
            let f = free_is (t.disk.blocks s) e in
            two_counted a (cond (is_free (next.disk.blocks s)) 1 0) (cond (is_free (o.disk.blocks s)) 1 0)
            (free_counts (next.disk.blocks s) (free_next x s f))
            (free_counts (o.disk.blocks s) (free_was_free o t (unfilled x) x.since s f))
        by false false h e = omega arith
        by true false h e = ⊎_elim
            (λ free. let y = free_counts (o.disk.blocks s) free in omega (arith, y))
            (λ not. ⊎_elim (λ free. absurd (not free))
            (λ lost.
            let y = free_counts (next.disk.blocks s) (lost_free s not lost.0 lost.1) in omega (arith, y))
            (x.room.each s h)) (free_or_not (o.disk.blocks s))

    fewer : count_by x.room.spare (spots t.numbers) + free_count t.numbers t.disk.blocks
        ≤ free_count t.numbers next.disk.blocks + free_count t.numbers o.disk.blocks
    fewer = counts_under x.room.spare (λ s. is_free (t.disk.blocks s)) (λ s. is_free (next.disk.blocks s))
        (λ s. is_free (o.disk.blocks s)) (spots t.numbers) (λ s i. counted s)

    as_many : free_count t.numbers t.disk.blocks ≤ free_count t.numbers next.disk.blocks
    as_many = no_fewer t.numbers t.disk.blocks next.disk.blocks (λ s on free. free_next x s free)

    marked_leaves : (over : ℕ) → 1 ≤ t.numbers.dies → Filled t → HasRoom over t → LeavesOver o t over →
        HasSpareBlocks next
    marked_leaves over dies filled has leaves = with_blocks x each_left
        (enough t.numbers.dies (mending_blocks t.numbers) t.numbers.spare (bad_count t.numbers o.disk.blocks)
        (bad_count t.numbers t.disk.blocks) (least_room t.numbers) (free_count t.numbers o.disk.blocks)
        (count_by x.room.spare (spots t.numbers)) (free_count t.numbers t.disk.blocks)
        (free_count t.numbers next.disk.blocks) over dies (least_room_twice t.numbers) (first_many x) (first_free x)
        fewer as_many leaves x.within (⊎_elim (λ h. inl h) (λ h. inr (left_free h)) filled))
      where
        left_free : pages_left t + 1 ≤ t.numbers.pages * free_count t.numbers t.disk.blocks + t.numbers.pages
            + page_of_step t.work.step → over ≤ free_count t.numbers t.disk.blocks
        left_free h = fewer_blocks t.numbers.pages over (free_count t.numbers t.disk.blocks) (page_of_step t.work.step)
            (pages_left t)
            (last_two (turns_left t) (page_of_step t.work.step) (over * t.numbers.pages) (pages_left t) has) h

  -- Where a later one may be

  pub repairing_leaves : (over : ℕ) → 1 ≤ t.numbers.dies → Filled t → HasRoom over t → LeavesOver o t over →
      FindsRoom next
  repairing_leaves over dies filled has leaves = by next.ledger.newest refl
    where
      stays : left w.right.stands.place ≡ MarkPage w.mark
      stays = newest_stays x.valid x.crash w.right

      by : (m : Option Mark) → next.ledger.newest ≡ m → FindsRoom next
      by None e = absurd (subst (IsNewestMark left) e x.start.ledger.newest w.right.stands.place w.mark stays)
      by (Some m) e =
          let n = subst (IsNewestMark left) e x.start.ledger.newest in
          ⊎_elim (λ same. inr (marked_leaves (e ∙ ap Some same) over dies filled has leaves))
          (λ later.
          let l = x.since.late (ap is_marked is) n.0.0 m (x.none n.0.0 m n.0.1)
          (let k = later.newer in let f = ap number_of w.is in omega (arith, k, f)) in
          inl (late_is_mended x.valid x.crash keys is w l.1 m n later (λ s. is_bad (t.disk.blocks s)) next x.start e))
          (newest_or_later x.valid x.crash n.0.0 w.right n.0.1 (n.1 w.right.stands.place w.mark stays))
