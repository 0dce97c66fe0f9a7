-- Where the program of the last mark of a mending failed, and left it as it was meant, nothing is lost: the next life
-- is mended from its start.
use Rattle.many_stops.proofs.Common.{Bool, Cells, IsKept, IsNewestMark, IsOpenedTranslation, Key, List, Mark, MendingOf}
use Rattle.many_stops.proofs.Common.{Repairing, Some, Spot, StopLeaves, Translation, Valid, ap, arith, book, fence_in}
use Rattle.many_stops.proofs.Common.{inl, is_mended, lost_from, none-some, page_within, subst, suc, sym, true, ⊎_elim}
use Rattle.many_stops.proofs.Common.{◌∙◌, ◌≡◌, ◌≤◌, ◌⊎◌}
use Rattle.ufs_spec.specs.Kept.{recorded_in}
use Rattle.ufs_spec.specs.Openings.{HasNumbers, IsAtMost, MayBeMended}
use Rattle.power_loss.proofs.stops.BookImage.{Image, finished_parts, image}
use Rattle.power_loss.proofs.stops.ImagePages.{kept_covers}
use Rattle.power_loss.proofs.stops.LeftCells.{known}
use Rattle.power_loss.proofs.stops.LeftImage.{all_repairs}
use Rattle.power_loss.specs.Book.{last_number}
use Rattle.power_loss.specs.Invariant.{IsLaterMark}
use Rattle.many_stops.proofs.finding_room.SinceTheOpening.{RepairsNone}
use Rattle.many_stops.proofs.room_left.IdleLives.{mended_at_once}

module _ {t : Translation} {left : Cells} (v : Valid t) (crash : StopLeaves t left) (keys : List Key)
    (is : t.work.mending ≡ Repairing keys) (w : MendingOf t (Repairing keys)) (none : RepairsNone t.work.step)
    (m : Mark) (newest : IsNewestMark left (Some m)) (later : IsLaterMark (book t) t.ledger.frontier w.mark m) where
  -- all groups are at or under the frontier
  all_under : last_number (book t) ≤ t.ledger.frontier
  all_under = ⊎_elim (λ e. omega (arith, e)) (λ k. absurd (none _ k.1.0 k.1.1 k.1.2)) w.more.under_way

  its_image : Image (book t) t.ledger.frontier (recorded_in t.ledger.newest) left m
  its_image = image v crash
      (finished_parts v crash w.right w.is (inl record { fence = w.more.fence; repairs = all_repairs v is })
      newest.0.1 (let l = later.newer in omega (arith, l)))

  under_frontier : IsAtMost left (Some m) t.ledger.frontier
  under_frontier = record {
    numbers = λ p tag body h.
        let l = page_within (book t) tag.number tag.index _ (known v crash p tag body h) in
        let k = all_under in
        omega (arith, l, k);
    frontiers = λ p tag body h. its_image.recorded p tag body h;
    marks = λ p other h. its_image.marks p other h;
    fence = λ f e. absurd (none-some f (sym later.plain.none ∙ e));
  }

  pub late_is_mended : (bad : Spot → Bool) (next : Translation) → IsOpenedTranslation t.numbers left bad next →
      next.ledger.newest ≡ Some m → is_mended next.work.mending ≡ true
  late_is_mended bad next o e =
      mended_at_once t.numbers left next.ledger.newest next.ledger.first_lost next.ledger.greatest_seen
      next.work.mending o.mending may
    where
      lost : next.ledger.first_lost ≡ suc o.ledger.kept
      lost = o.ledger.first_lost ∙ ap (λ z. lost_from (fence_in z) o.ledger.kept) e
          ∙ ap (λ f. lost_from f o.ledger.kept) later.plain.none

      far : t.ledger.frontier ≤ o.ledger.kept
      far = kept_covers its_image (subst (λ z. IsKept left z o.ledger.kept) e o.ledger.is_kept)

      low : next.ledger.greatest_seen ≤ t.ledger.frontier
      low = o.ledger.greatest_seen.1 t.ledger.frontier
          (subst (λ z. IsAtMost left z t.ledger.frontier) (sym e) under_frontier)

      may : MayBeMended t.numbers next.ledger.newest next.ledger.first_lost next.ledger.greatest_seen
      may = (
        subst (HasNumbers t.numbers) (sym e) its_image.numbers,
        ap fence_in e ∙ later.plain.none,
        let a = lost in
            let b = far in
            let c = low in
            omega (arith, a, b, c),
      )
