-- What a stop leaves before the first mark of a mending is finished: what the opening found, but for pages of free
-- blocks; or besides a mark whose program failed, and then all that was lost lies in its fence.
use Rattle.many_stops.proofs.Common.{Bad, Bool, Cells, Fence, Free, HasSpareBlocks, HoldsLost, IsFenced, IsKept}
use Rattle.many_stops.proofs.Common.{IsNewestMark, Key, List, Mark, MarkPage, MendingOf, None, Nothing, Option, Place}
use Rattle.many_stops.proofs.Common.{Some, Spot, Translation, Unmarked, ap, arith, at_most, closed_is_not_free, false}
use Rattle.many_stops.proofs.Common.{fence_in, free_is, free_or_not, inl, inr, is_bad, is_free, is_marked, lost_from}
use Rattle.many_stops.proofs.Common.{mark_not_nothing, mending_blocks, number_of, page_not_nothing, refl, spot_of}
use Rattle.many_stops.proofs.Common.{subst, sym, true, ℕ, ⊎_elim, ◌<◌, ◌∙◌, ◌≡◌, ◌≢◌, ◌≤◌, ◌⊎◌}
use Rattle.ufs_laws.proofs.array_cells.StandsForOne.{mark_one}
use Rattle.ufs_spec.specs.Openings.{IsFirstFence}
use Rattle.power_loss.proofs.stops.LeftCells.{blank_there, opened}
use Rattle.power_loss.proofs.stops.LeftIsSound.{sound}
use Rattle.power_loss.proofs.stops.LeftUnmarked.{disk_mark, opened_below, some_or_nothing}
use Rattle.many_stops.proofs.CountedBlocks.{is_not_bad}
use Rattle.many_stops.proofs.finding_room.StopsOfAMending.{UnmendedStop, all_free, blank_is_free, closed_left}
use Rattle.many_stops.proofs.finding_room.StopsOfAMending.{first_free, free_next, good_next, kept, kept_is}
use Rattle.many_stops.proofs.finding_room.StopsOfAMending.{lost_is_free, still_many, unfilled, with_blocks}
use Rattle.many_stops.proofs.finding_room.ThinnerCells.{AreThinner, kept_thinner, newest_thinner, page_was}
use Rattle.many_stops.proofs.room_left.RoomStays.{bad_is_not_free}

-- all that is lost lies in the first fence
all_fenced : (newest : Option Mark) (low top : ℕ) (fence : Option Fence) → IsFirstFence newest low top fence →
    (number : ℕ) → low ≤ number → number ≤ top → IsFenced fence number
all_fenced newest low top None h number from to = let l = h.1 in absurd (omega (arith, l, from, to))
all_fenced newest low top (Some f) h number from to =
    let a = h.0 in
    let b = h.1 in
    (omega (arith, a, from), omega (arith, b, to))

module _ {bad : Spot → Bool} {o t : Translation} {left : Cells} {next : Translation}
    (x : UnmendedStop bad o t left next) (fence : Option Fence) (lost : List Key)
    (is : t.work.mending ≡ Unmarked fence lost) (u : MendingOf t (Unmarked fence lost)) where
  unmarked : is_marked t.work.mending ≡ false
  unmarked = ap is_marked is

  -- a block that was free at the opening, and did not go bad, is free again
  still_free : (s : Spot) → o.disk.blocks s ≡ Free → t.disk.blocks s ≢ Bad → next.disk.blocks s ≡ Free
  still_free s was good = ⊎_elim (λ now. free_next x s now)
      (λ not. blank_is_free t left x.valid x.crash next x.start s good (λ p at. blank_left not p at))
      (free_or_not (t.disk.blocks s))
    where
      blank_left : t.disk.blocks s ≢ Free → (p : Place) → spot_of p ≡ s → left p ≡ Nothing
      blank_left not p at = ⊎_elim (λ e. e)
          (λ some. ⊎_elim
          (λ e. absurd (some (sym e ∙ x.since.blank unmarked p (ap o.disk.blocks at ∙ was)
          (λ free. not (sym (ap t.disk.blocks at) ∙ free)) (λ worse. good (sym (ap t.disk.blocks at) ∙ worse)))))
          (λ job.
          let f = u.flies p.die p (left p) job in
          absurd (mark_not_nothing _ _ (x.none p f.0 f.1) (blank_there p x.valid job)))
          (opened t.disk p x.crash some refl)) (some_or_nothing (left p))

  -- Where no newer mark is left

  module _ (low : (p : Place) (m : Mark) → left p ≡ MarkPage m → m.number ≤ number_of o.ledger.newest) where
    thinner : AreThinner o.disk.cells o.disk.blocks left
    thinner p = ⊎_elim (λ free. free_page free (some_or_nothing (left p)))
        (λ e. inl (closed_left x p (⊎_elim (λ closed. closed_is_not_free closed) (λ worse. bad_is_not_free worse) e)))
        (unfilled x (spot_of p))
      where
        free_page : o.disk.blocks (spot_of p) ≡ Free → (left p ≡ Nothing) ⊎ (left p ≢ Nothing) →
            (left p ≡ o.disk.cells p) ⊎ ((left p ≡ Nothing) × (o.disk.blocks (spot_of p) ≡ Free))
        free_page free (inl e) = inr (e, free)
        free_page free (inr some) = ⊎_elim
            (λ e. ⊎_elim (λ k. inl (sym e ∙ k))
            (λ k. ⊎_elim (λ z. absurd (some (sym e ∙ z)))
            (λ z. let l = low p z.0 (sym e ∙ z.1) in let n = z.2 in absurd (omega (arith, l, n))) k)
            (x.since.fewer unmarked p free))
            (λ job. let f = u.flies p.die p (left p) job in
            absurd (mark_not_nothing _ _ (x.none p f.0 f.1) (blank_there p x.valid job)))
            (opened t.disk p x.crash some refl)

    first_newest : IsNewestMark left o.ledger.newest
    first_newest = newest_thinner t.numbers o.disk.cells left o.disk.blocks thinner o.ledger.newest
        x.opens.start.disk.blocks x.opens.start.ledger.newest

    newest_same : next.ledger.newest ≡ o.ledger.newest
    newest_same = mark_one left next.ledger.newest next.ledger.newest o.ledger.newest
        (sound t left next.ledger.newest x.valid x.crash x.start.ledger.newest) x.start.ledger.newest first_newest

    lost_same : next.ledger.first_lost ≡ o.ledger.first_lost
    lost_same =
        x.start.ledger.first_lost
        ∙ (λ i. lost_from (fence_in (newest_same i)) (sym kept_same i))
        ∙ sym x.opens.start.ledger.first_lost
      where
        kept_same : x.opens.start.ledger.kept ≡ x.start.ledger.kept
        kept_same = kept_thinner t.numbers o.disk.cells left o.disk.blocks thinner o.ledger.newest
            x.opens.start.disk.blocks x.opens.sound x.opens.start.ledger.newest x.opens.start.ledger.kept
            x.start.ledger.kept x.opens.start.ledger.is_kept
            (subst (λ m. IsKept left m x.start.ledger.kept) newest_same x.start.ledger.is_kept)

    still_lost : (s : Spot) → HoldsLost o.disk.cells o.ledger.first_lost s →
        HoldsLost next.disk.cells next.ledger.first_lost s
    still_lost s k p tag body at h =
        let e = lost_same in
        let l = k p tag body at (page_was t.numbers o.disk.cells left o.disk.blocks thinner
        (page_not_nothing _ _ _ refl) (sym (ap (λ (c : Cells). c p) x.start.disk.cells) ∙ h)) in
        omega (arith, e, l)

    thinner_leaves : HasSpareBlocks next
    thinner_leaves = with_blocks x
        (λ s h.
        let k = kept_is x s h in
        ⊎_elim (λ free. inl (still_free s free k.1)) (λ z. inr (good_next x s k.1, still_lost s z.1))
        (x.room.each s k.0))
        (still_many x (mending_blocks t.numbers) (λ s. is_free (o.disk.blocks s)) (λ s. is_free (next.disk.blocks s))
        (first_free x)
        (λ s free. is_not_bad (o.disk.blocks s)
        (λ worse. bad_is_not_free worse (free_is (o.disk.blocks s) free)))
        (λ s free good. ap is_free (still_free s (free_is (o.disk.blocks s) free)
        (λ worse. good_is good (ap is_bad worse)))))
      where
        good_is : {b : Bool} → b ≡ false → b ≢ true
        good_is e h = cc

  -- Where one is left

  failed_leaves : (m : Mark) → next.ledger.newest ≡ Some m → number_of o.ledger.newest < m.number → HasSpareBlocks next
  failed_leaves m newest newer = all_free x (λ s h.
      let k = kept_is x s h in
      ⊎_elim (λ free. still_free s free k.1)
      (λ not. ⊎_elim (λ free. absurd (not free))
      (λ z. lost_is_free x m newest newer fenced s not k.1 z.1) (x.room.each s k.0))
      (free_or_not (o.disk.blocks s)))
    where
      n : IsNewestMark left (Some m)
      n = subst (IsNewestMark left) newest x.start.ledger.newest

      its_fence : m.fence ≡ fence
      its_fence = ⊎_elim
          (λ e.
          let l = opened_below u.opening t.ledger.newest u.opened.is_newest e in
          let f = ap number_of (x.since.same unmarked) in
          absurd (omega (arith, l, f, newer))) (λ own. own.1.fence_is)
          (disk_mark t (lost, u) m (x.none n.0.0 m n.0.1))

      fenced : (number : ℕ) → o.ledger.first_lost ≤ number → number ≤ o.ledger.greatest_seen → IsFenced m.fence number
      fenced number from to =
          let a = x.since.lost in
          let b = x.since.seen in
          subst (λ f. IsFenced f number) (sym its_fence)
          (all_fenced t.ledger.newest t.ledger.first_lost t.ledger.greatest_seen fence u.fence_right number
          (omega (arith, a, from)) (omega (arith, b, to)))

  pub unmarked_leaves : HasSpareBlocks next
  unmarked_leaves = by next.ledger.newest refl
    where
      by : (m : Option Mark) → next.ledger.newest ≡ m → HasSpareBlocks next
      by None e = thinner_leaves (λ p m h. absurd (subst (IsNewestMark left) e x.start.ledger.newest p m h))
      by (Some m) e =
          let n = subst (IsNewestMark left) e x.start.ledger.newest in
          ⊎_elim (λ l. thinner_leaves (λ p other h. let k = n.1 p other h in omega (arith, l, k)))
          (λ l. failed_leaves m e l) (at_most m.number (number_of o.ledger.newest))
