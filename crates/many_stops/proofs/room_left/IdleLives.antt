-- A mended life that handed out no page of its host shows no number above its frontier. So a stop loses nothing of it,
-- and leaves a mark without a fence: the next life is mended from its start.
use Rattle.many_stops.proofs.Common.{Bool, Cells, GroupPage, HasHandedOut, IsKept, IsNewestMark, IsOpenedTranslation}
use Rattle.many_stops.proofs.Common.{List, Mark, Mended, Mending, MendingOf, None, Numbers, Option, Place, Repairing}
use Rattle.many_stops.proofs.Common.{Some, Spot, StopLeaves, Tag, Translation, Unmarked, Valid, ap, arith, at_most}
use Rattle.many_stops.proofs.Common.{before_accepted, book, false≢true, fence_in, inl, inr, is_mended, lost_from}
use Rattle.many_stops.proofs.Common.{newest_or_later, newest_stays, none-some, refl, subst, suc, sym, true, ℕ, ⊎_elim}
use Rattle.many_stops.proofs.Common.{◌<◌, ◌∙◌, ◌≡◌, ◌≤◌}
use Rattle.ufs_spec.specs.Kept.{recorded_in}
use Rattle.ufs_spec.specs.Openings.{HasNumbers, IsAtMost, IsMendingAt, MayBeMended}
use Rattle.power_loss.specs.Book.{IsPlainMark}
use Rattle.power_loss.specs.FewRepairs.{HasFewRepairs}
use Rattle.power_loss.proofs.books.LayerParts.{MarksOf}
use Rattle.power_loss.proofs.stops.BookImage.{Image, finished_parts, image}
use Rattle.power_loss.proofs.stops.ImagePages.{kept_covers}
use Rattle.power_loss.proofs.stops.LeftCells.{page_from}
use Rattle.many_stops.specs.RoomOfGroups.{HasNothingToMend}

module _ {t : Translation} {c : Cells} (v : Valid t) (none : HasHandedOut t → ⊥) (crash : StopLeaves t c) where
  -- Numbers that are shown

  shown_number : (p : Place) (tag : Tag) (body : List ℕ) → c p ≡ GroupPage tag body →
      tag.number ≤ before_accepted t.ledger
  shown_number p tag body h = ⊎_elim (λ l. l)
      (λ behind. absurd (⊎_elim
      (λ here. none (inr (inr (record { place = p; tag = tag; body = body; behind = behind; there = here }))))
      (λ job. none (inr (inl (record {
        die = p.die;
        place = p;
        tag = tag;
        body = body;
        behind = behind;
        flies = job;
      })))) (page_from t.disk p crash h)))
      (at_most tag.number (before_accepted t.ledger))

  module _ {first m : Mark} (marks : MarksOf t first) (is : t.ledger.newest ≡ Some first)
      (plain : IsPlainMark (book t) first) (n : IsNewestMark c (Some m)) where
    its_image : Image (book t) t.ledger.frontier (recorded_in t.ledger.newest) c m
    its_image = image v crash
        (finished_parts v crash marks is (inr plain) n.0.1 (n.1 marks.stands.place first (newest_stays v crash marks)))

    -- behind a mark without a fence none has one
    none_fenced : m.fence ≡ None
    none_fenced = ⊎_elim (λ e. ap (λ (x : Mark). x.fence) e ∙ plain.none) (λ l. l.plain.none)
        (newest_or_later v crash n.0.0 marks n.0.1 (n.1 marks.stands.place first (newest_stays v crash marks)))

    under_frontier : before_accepted t.ledger ≤ t.ledger.frontier → IsAtMost c (Some m) t.ledger.frontier
    under_frontier durable = record {
      numbers = λ p tag body h. let l = shown_number p tag body h in omega (arith, l, durable);
      frontiers = λ p tag body h. its_image.recorded p tag body h;
      marks = λ p other h. its_image.marks p other h;
      fence = λ f e. absurd (none-some f (sym none_fenced ∙ e));
    }

  -- The newest mark

  none_newest : {first : Mark} → MarksOf t first → IsNewestMark c None → ⊥
  none_newest {first} marks n = n marks.stands.place first (newest_stays v crash marks)

  -- The next life

  nothing_lost : (bad : Spot → Bool) (next : Translation) → IsOpenedTranslation t.numbers c bad next →
      before_accepted t.ledger ≤ t.ledger.frontier → (w : Mending) → is_mended w ≡ true → MendingOf t w →
      (newest : Option Mark) → next.ledger.newest ≡ newest →
      MayBeMended t.numbers next.ledger.newest next.ledger.first_lost next.ledger.greatest_seen
  nothing_lost bad next o durable Mended is marked None e =
      absurd (none_newest marked.right (subst (IsNewestMark c) e o.ledger.newest))
  nothing_lost bad next o durable Mended is marked (Some m) e =
      let newest = subst (IsNewestMark c) e o.ledger.newest in
      let none = none_fenced marked.right marked.is marked.more newest in
      let image = its_image marked.right marked.is marked.more newest in
      let kept = subst (λ z. IsKept c z o.ledger.kept) e o.ledger.is_kept in
      let far = kept_covers image kept in
      let low = o.ledger.greatest_seen.1 t.ledger.frontier
      (subst (λ z. IsAtMost c z t.ledger.frontier) (sym e)
      (under_frontier marked.right marked.is marked.more newest durable)) in
      let lost : next.ledger.first_lost ≡ suc o.ledger.kept =
      o.ledger.first_lost ∙ ap (λ z. lost_from (fence_in z) o.ledger.kept) e
      ∙ ap (λ f. lost_from f o.ledger.kept) none in (
        subst (HasNumbers t.numbers) (sym e) image.numbers,
        ap fence_in e ∙ none,
        above _ _ _ _ far low lost,
      )
    where
      above : (frontier kept top low : ℕ) → frontier ≤ kept → top ≤ frontier → low ≡ suc kept → top < low
      above frontier kept top low far l e = omega (arith, far, l, e)
  nothing_lost bad next o durable (Unmarked fence lost) is marked newest e = absurd (false≢true is)
  nothing_lost bad next o durable (Repairing left) is marked newest e = absurd (false≢true is)

-- a life that may be mended at its opening is
pub mended_at_once : (n : Numbers) (c : Cells) (newest : Option Mark) (low top : ℕ) (w : Mending) →
    IsMendingAt n c newest low top w → MayBeMended n newest low top → is_mended w ≡ true
mended_at_once n c newest low top Mended at may = refl
mended_at_once n c newest low top (Unmarked fence lost) at may = absurd (at.0 may)
mended_at_once n c newest low top (Repairing left) at may = absurd at

pub idle_stop : (t next : Translation) (left : Cells) (bad : Spot → Bool) → Valid t → HasFewRepairs t →
    is_mended t.work.mending ≡ true → (HasHandedOut t → ⊥) → StopLeaves t left →
    IsOpenedTranslation t.numbers left bad next → HasNothingToMend next
idle_stop t next left bad v few mended none crash o =
    let may = nothing_lost v none crash bad next o (few.durable mended) t.work.mending mended v.mending
    next.ledger.newest refl in
    record {
      none_lost = may.2;
      no_fence = may.1;
      mended = mended_at_once t.numbers left next.ledger.newest next.ledger.first_lost next.ledger.greatest_seen
          next.work.mending o.mending may;
    }
