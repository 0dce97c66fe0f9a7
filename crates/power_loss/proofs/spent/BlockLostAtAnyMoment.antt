-- A block of which each page may go loses its pages, at any moment of a life.
use Rattle.power_loss.proofs.Common.{◌≡◌, ℕ, suc, ◌<◌, ◌≤◌, true, List, length, Option, Some, None, refl, sym, ap, ◌∙◌}
use Rattle.power_loss.proofs.Common.{subst, inl, inr, ⊎_elim, arith, Cell, Cells, GroupPage, Mark, MarkPage, Nothing}
use Rattle.power_loss.proofs.Common.{IsNewestFinished, MayErase, SpentBy, Spot, spot_of, with_erasing, Holds, IsFenced}
use Rattle.power_loss.proofs.Common.{IsKept, IsNewestMark, fence_in, recorded_in, number_of, CellsSound, CellsSuit}
use Rattle.power_loss.proofs.Common.{Mended, Mending, Repairing, Translation, Unmarked, Fence, Place, Tag, cases_Bool}
use Rattle.power_loss.proofs.Common.{true≢false, mark_not_nothing, one_mark, page_not_nothing, IsLostNumber, book}
use Rattle.power_loss.proofs.Common.{IsPrefix, Valid, IsSpare, MayBeErased, Overwrites, key_of}
use Rattle.power_loss.proofs.MachineWords.{IsStartRight, LosesIn, StartsRight, is_marked}
use Rattle.power_loss.proofs.books.LayerParts.{StopLeaves, MendingOf}
use Rattle.power_loss.proofs.spent.BlockLost.{ImageLeft, IsGone, Judged, image_left, left_image, marked, newest_was}
use Rattle.power_loss.proofs.spent.BlockLost.{outside, restored_crash, restored_gone, spent, was}
use Rattle.power_loss.proofs.spent.CellsLost.{Loss, MayGo, holds_less, kept_less, less_sound, less_suits}
use Rattle.power_loss.proofs.stops.LeftCells.{stays}
use Rattle.power_loss.proofs.stops.BookImage.{Unchanged}
use Rattle.power_loss.proofs.stops.LeftImage.{outcome}
use Rattle.power_loss.proofs.stops.LeftUnmarked.{disk_mark, disk_page, newest_there, not_erasing, Started}
use Rattle.power_loss.proofs.stops.LeftIsSound.{image_prefix, image_sound, image_suits, prefix, sound, suits}

-- all that is promised of what is left
pub record IsFine (t : Translation) (left : Cells) (m : Option Mark) : Type 0 where
  pub sound : CellsSound left m
  pub suits : CellsSuit t.numbers left m
  pub prefix : (kept : ℕ) → IsKept left m kept → IsPrefix t left m kept

image_fine : {t : Translation} {left : Cells} {m : Option Mark} → Valid t → ImageLeft t left m → IsFine t left m
image_fine {t} {left} v x = subst (IsFine t left) (sym x.is)
    (record { sound = image_sound x.image; suits = image_suits x.image; prefix = λ kept k. image_prefix v x.image k })

stop_fine : {t : Translation} {c : Cells} {m : Option Mark} → Valid t → StopLeaves t c → IsNewestMark c m → IsFine t c m
stop_fine {t} {c} {m} v crash n = record {
  sound = sound t c m v crash n;
  suits = suits t c m v crash n;
  prefix = λ kept k. prefix t c m kept v crash n k;
}

-- Before the first mark is finished

module _ (t : Translation) (s : Spot) (c left : Cells) (v : Valid t) (may : MayErase t.disk s)
    (crash : StopLeaves t c)
    (gone : IsGone t.disk s c left) (fence : Option Fence) (u : Started t fence) (st : StartsRight t) where
  -- a finished mark stood at the opening
  mark_opened : (m : Mark) (n : IsNewestFinished (with_erasing t.disk s) m) → u.1.opening n.stands.place ≡ MarkPage m
  mark_opened m n = ⊎_elim (λ e. e)
      (λ own. absurd (true≢false (sym n.stands.finished ∙ own.0)))
      (disk_mark t u m n.stands.there)

  -- without a mark at the opening nothing may go
  all_stays : t.ledger.newest ≡ None → left ≡ c
  all_stays none = λ i p. same p i
    where
      some : (p : Place) (x : Cell) → t.disk.cells p ≡ x → spot_of p ≡ s → left p ≡ Nothing → c p ≡ t.disk.cells p →
          left p ≡ c p
      some p Nothing e at h was = h ∙ sym (was ∙ e)
      some p (GroupPage tag body) e at h was =
          let r = spent t s c left v may crash gone p (GroupPage tag body) (λ z. page_not_nothing _ _ _ (sym z) refl) at
          e in
          absurd (subst (IsNewestMark u.1.opening) none u.1.opened.is_newest r.1.stands.place r.0 (mark_opened r.0 r.1))
      some p (MarkPage m) e at h was =
          let r = spent t s c left v may crash gone p (MarkPage m) (λ z. mark_not_nothing _ _ (sym z) refl) at e in
          absurd (subst (IsNewestMark u.1.opening) none u.1.opened.is_newest r.1.stands.place r.0 (mark_opened r.0 r.1))

      same : (p : Place) → left p ≡ c p
      same p = ⊎_elim (λ e. e) (λ e. some p (t.disk.cells p) refl e.0 e.1 e.2) (gone p)

  module _ (newest : Mark) (is : t.ledger.newest ≡ Some newest) where
    first : IsNewestMark u.1.opening (Some newest)
    first = subst (IsNewestMark u.1.opening) is u.1.opened.is_newest

    -- where the newest mark is
    at : (p : Place) × (u.1.opening p ≡ MarkPage newest) × (t.disk.cells p ≡ MarkPage newest) ×
        (MayBeErased t.disk.blocks t.disk.erasing (spot_of p) → ⊥)
    at = newest_there t u is

    first_finished : t.disk.finished at.0 ≡ true
    first_finished = ⊎_elim (λ e. e)
        (λ e. ⊎_elim (λ k. absurd (mark_not_nothing _ _ (sym k ∙ at.2) refl))
        (λ k.
        let same = ap (λ z. z.number) (one_mark k.0 newest (sym k.1 ∙ at.2)) in
        let l = k.2 in
        let n = ap number_of is in
        absurd (omega arith)) (st.unfinished at.0 e)) (cases_Bool (t.disk.finished at.0))

    one : (m : Mark) → IsNewestFinished (with_erasing t.disk s) m → m ≡ newest
    one m n =
        let low = first.1 n.stands.place m (mark_opened m n) in
        let up = n.newest at.0 newest at.2 first_finished in
        u.1.opened.sound.marks n.stands.place first.0.0 m newest (mark_opened m n) first.0.1 (omega arith)

    under : newest.records ≤ t.ledger.greatest_seen
    under = u.1.opened.marks first.0.0 newest first.0.1

    ends_at : {f : Fence} → newest.fence ≡ Some f → (t.ledger.first_lost ≡ f.first) × (newest.records ≡ f.last)
    ends_at {f} e = (
      st.fence f (ap fence_in is ∙ e),
      sym (ap recorded_in is) ∙ u.1.opened.sound.fence f (ap fence_in is ∙ e),
    )

    fenced_lost : (o : Option Fence) {n : ℕ} → newest.fence ≡ o → IsFenced o n → IsLostNumber (book t) n
    fenced_lost None e h = absurd h
    fenced_lost (Some f) e h =
        let r = ends_at e in let a = r.0 in let b = r.1 in let x = h.0 in let y = h.1 in let z = under in
        record { from = omega arith; to = omega arith }

    none_else : (o : Option Fence) (n : ℕ) → newest.fence ≡ o → (IsFenced o n → ⊥) → t.ledger.first_lost ≤ n →
        n ≤ newest.records → ⊥
    none_else None n e free l far = let z = st.none (ap fence_in is ∙ e) in let w = ap recorded_in is in omega arith
    none_else (Some f) n e free l far = let r = ends_at e in let a = r.0 in let b = r.1 in
        free (omega arith, omega arith)

    judged : Judged t s newest
    judged = record {
      fenced = λ n f. fenced_lost newest.fence refl f;
      repaired = λ n i e page free lost far. absurd (none_else newest.fence n refl free lost.from far);
      one = one;
      within = let a = under in let b = v.frontier.above in omega arith;
    }

    -- a page that is newer than another is left, or one that is as new or newer is
    abbrev Newer : Tag → Type 0
    Newer tag =
        (q : Place) × (w : Tag) × (other : List ℕ) × (c q ≡ GroupPage w other) × (IsFenced newest.fence w.number → ⊥)
        × (key_of w ≡ key_of tag) × (tag.number < w.number) × (w.number ≤ newest.records)

    newer_left : (r : Place) (tag over : Tag) (body : List ℕ) → t.disk.cells r ≡ GroupPage over body →
        Overwrites newest over tag → Newer tag
    newer_left r tag over body h o = ⊎_elim
        (λ e. here r over body (e.0 ∙ disk_page t u h) e.1 o)
        (λ k. spare (subst (λ (z : Option Mark × Cell). IsSpare t.disk.cells z.0
        (MayBeErased t.disk.blocks t.disk.erasing) z.1) (λ i. (is i, disk_page t u h i)) k))
        (u.1.spare r (page_not_nothing _ _ _ (disk_page t u h)))
      where
        here : (q : Place) (w : Tag) (other : List ℕ) → t.disk.cells q ≡ GroupPage w other →
            (MayBeErased t.disk.blocks t.disk.erasing (spot_of q) → ⊥) → Overwrites newest w tag → Newer tag
        here q w other at out o = (
          q,
          w,
          other,
          stays v crash (λ z. page_not_nothing _ _ _ (sym z) refl) at (not_erasing t out),
          o.counts,
          o.key,
          o.newer,
          o.recorded,
        )

        spare : IsSpare t.disk.cells (Some newest) (MayBeErased t.disk.blocks t.disk.erasing) (GroupPage over body) →
            Newer tag
        spare (inl f) = absurd (o.counts f)
        spare (inr s) = here s.place s.tag s.other s.there s.outside (⊎_elim
            (λ same.
            let n = same.1 in
            let a = o.newer in
            let b = o.recorded in
            record {
              key = sym same.0 ∙ o.key;
              newer = omega arith;
              recorded = omega arith;
              counts = λ f. o.counts (subst (IsFenced newest.fence) (sym same.1) f);
            })
            (λ more.
            let a = o.newer in
            let b = more.newer in
            record { key = more.key ∙ o.key; newer = omega arith; recorded = more.recorded; counts = more.counts })
            s.instead)

    loss : (n : IsNewestMark left (Some newest)) → Loss c left newest
    loss n = record {
      pages = λ p tag body h. was t s c left v may crash gone p (GroupPage tag body) (λ z. page_not_nothing _ _ _
          (sym z) refl) h;
      marks = λ p m h. was t s c left v may crash gone p (MarkPage m) (λ z. mark_not_nothing _ _ (sym z) refl) h;
      may = λ p tag body h. ⊎_elim (λ e. inl (e ∙ h)) (λ e. inr
          (goes tag body (spent t s c left v may crash gone p (GroupPage tag body) (λ z. page_not_nothing _ _ _
          (sym z) refl) e.0 (sym e.2 ∙ h)))) (gone p);
      place = n.0.0;
      there = n.0.1;
    }
      where
        by : (tag : Tag) (body : List ℕ) → SpentBy (with_erasing t.disk s) newest (GroupPage tag body) →
            MayGo c left newest tag body
        by tag body (inl f) = inl f
        by tag body (inr (inl k)) =
            inr (inl (
              k.place,
              k.tag,
              outside t s c left v may crash gone k.place (GroupPage k.tag body)
                  (λ z. page_not_nothing _ _ _ (sym z) refl) k.there k.stays,
              k.same,
            ))
        by tag body (inr (inr r)) = inr (inr (newer_left r.place tag r.tag r.body r.there
            (record { key = r.key; newer = r.newer; recorded = r.recorded; counts = r.counts })))

        goes : (tag : Tag) (body : List ℕ) → (m : Mark) × IsNewestFinished (with_erasing t.disk s) m × SpentBy
            (with_erasing t.disk s) m (GroupPage tag body) → MayGo c left newest tag body
        goes tag body r = by tag body (subst (λ m. SpentBy (with_erasing t.disk s) m (GroupPage tag body))
            (one r.0 r.1) r.2)

    same_fine : Unchanged (book t) (Some newest) c (Some newest) → IsNewestMark left (Some newest) →
        IsFine t left (Some newest)
    same_fine x n = record {
      sound = less_sound c left newest (loss n) x.opened.sound x.opened.is_kept.recorded;
      suits = less_suits c left newest (loss n) x.opened.sound x.opened.suits;
      prefix = λ kept k.
          let e : x.opened.kept ≡ kept = kept_less c left newest (loss n) x.opened.sound x.opened.is_kept k in
          let g = ap length x.none_new in
          let w = v.frontier.within in
          let top = x.opened.is_kept.recorded.marks n.0.0 newest ((loss n).marks n.0.0 newest n.0.1) in
          let far = x.opened.is_kept.above in
          record {
            count = 0;
            held = ⊎_elim (λ z. omega arith) (λ z. omega arith) v.history.durable;
            durable = omega arith;
            within = omega arith;
            holds = λ key has. holds_less c left newest (loss n) x.opened.sound (suc kept) key (t.ledger.base key)
                (λ j free l. omega arith)
                (subst (λ y. Holds c (Some newest) (suc y) key (t.ledger.base key)) e (x.opened.holds key has));
          };
    }

    fine_of : (m : Option Mark) → IsNewestMark left m → IsFine t left m
    fine_of m n = ⊎_elim
        (λ x.
        let e : m ≡ Some newest = x.newest_is ∙ is in
        subst (IsFine t left) (sym e)
        (same_fine (subst (λ (z : Option Mark × Option Mark). Unchanged (book t) z.0 c z.1) (λ i. (is i, e i)) x)
        (subst (IsNewestMark left) e n)))
        (λ x. image_fine v
        (record {
          mark = x.mark;
          is = x.is;
          image = image_left t s c left v may crash gone newest is judged (subst (IsNewestMark left) x.is n) x.image;
        })) (outcome v crash (newest_was t s c left v may crash gone m n))

  started_fine : (newest : Option Mark) → t.ledger.newest ≡ newest → {m : Option Mark} → IsNewestMark left m →
      IsFine t left m
  started_fine None is {m} n =
      let e = all_stays is in
      subst (λ z. IsFine t z m) (sym e) (stop_fine v crash (subst (λ z. IsNewestMark z m) e n))
  started_fine (Some newest) is {m} n = fine_of newest is m n

-- At any moment

fine_by : {t : Translation} (s : Spot) {c : Cells} {left : Cells} {m : Option Mark} (w : Mending) → Valid t →
    IsStartRight t → MayErase t.disk s → StopLeaves t c → IsGone t.disk s c left → IsNewestMark left m →
    t.work.mending ≡ w → MendingOf t w → IsFine t left m
fine_by {t} s {c} {left} {m} (Unmarked fence lost) v st may crash gone n e r =
    started_fine t s c left v may crash gone fence (lost, r) (st (ap is_marked e)) t.ledger.newest refl n
fine_by {t} s {c} {left} {m} (Repairing keys) v st may crash gone n e r =
    image_fine v (left_image s c m v (marked (Repairing keys) v e refl r) may crash gone n)
fine_by {t} s {c} {left} {m} Mended v st may crash gone n e r = image_fine v (left_image s c m v
    (marked Mended v e refl r) may crash gone n)

pub fine : {t : Translation} (s : Spot) (c : Cells) {left : Cells} {m : Option Mark} → Valid t → IsStartRight t →
    MayErase t.disk s → StopLeaves t c → LosesIn s c left → IsNewestMark left m → IsFine t left m
fine {t} s c {left} {m} v st may crash loses n =
    fine_by s t.work.mending v st may (restored_crash t.disk s c left loses crash)
    (restored_gone t.disk s c left loses) n refl v.mending
