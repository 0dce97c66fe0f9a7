-- Where one free block alone has pages that may go, a stop costs none: if one of these pages has to be kept at the next
-- opening, another block is free then that was not.
use Rattle.many_stops.proofs.Common.{Cell, Cells, Free, GroupPage, HasStandIn, IsFree, IsItOrFreeBefore, IsNewestMark}
use Rattle.many_stops.proofs.Common.{IsSpare, IsSpot, List, Mark, MarkPage, Mended, MendingOf, None, Nothing, Option}
use Rattle.many_stops.proofs.Common.{Place, Some, Spot, StopLeaves, Tag, Translation, Valid, ap, arith, free_count}
use Rattle.many_stops.proofs.Common.{free_or_not, inl, inr, inside_spot, is_bad, newest_or_later, newest_stays}
use Rattle.many_stops.proofs.Common.{page_not_nothing, spot_cases, spot_of, subst, sym, within, ℕ, ⊎_elim, ◌∙◌, ◌≡◌}
use Rattle.many_stops.proofs.Common.{◌≢◌, ◌≤◌, ◌⊎◌}
use Rattle.power_loss.proofs.spent.ErasedIsSpent.{fenced_none}
use Rattle.power_loss.proofs.spent.FreeIsSpare.{free_is_spare}
use Rattle.power_loss.proofs.stops.LeftCells.{blank_there}
use Rattle.many_stops.proofs.CountedBlocks.{no_fewer, one_for_another}
use Rattle.many_stops.proofs.free_at_stops.FreeAtStops.{NextOpens, found_again, left_at, left_in_free}
use Rattle.many_stops.specs.FreeOverStops.{IsOneStale}

-- one free block alone is to be erased for what is in it
abbrev pub OneStale : Translation → Type 0
OneStale t = IsOneStale t.numbers t.disk.blocks t.disk.vacancies t.work.mending t.work.step

-- a mark that is no older than the newest finished one says no less than that
record SaysMore (m n : Mark) : Type 0 where
  up : m.number ≤ n.number
  more : m.records ≤ n.records
  none : m.fence ≡ None
  still_none : n.fence ≡ None

module _ (t : Translation) (left : Cells) (next : Translation) (v : Valid t) (crash : StopLeaves t left)
    (o : NextOpens t left next) (one : OneStale t) where
  -- The newest mark

  marked : MendingOf t Mended
  marked = subst (MendingOf t) one.mended v.mending

  says_more : (m : Mark) → IsNewestMark left (Some m) → SaysMore marked.mark m
  says_more m n =
      let up = n.1 marked.right.stands.place marked.mark (newest_stays v crash marked.right) in
      ⊎_elim
      (λ e. record {
        up = up;
        more = (let k = ap (λ (x : Mark). x.records) e in omega (arith, k));
        none = marked.more.none;
        still_none = ap (λ (x : Mark). x.fence) e ∙ marked.more.none;
      })
      (λ l. record { up = up; more = l.above; none = marked.more.none; still_none = l.plain.none })
      (newest_or_later v crash n.0.0 marked.right n.0.1 up)

  -- What stands in for a page of the block

  -- another block is free then that was not, and is none of those that were
  record IsWon : Type 0 where
    spot : Spot
    on : IsSpot t.numbers spot
    was : t.disk.blocks spot ≢ Free
    now : next.disk.blocks spot ≡ Free

  abbrev Before : Spot → Type 0
  Before = IsItOrFreeBefore left next.disk.blocks one.spot

  -- what stands in is there still, and lies in such a block or stands in still
  stands : t.disk.blocks one.spot ≡ Free → (m : Mark) (tag : Tag) (body : List ℕ)
      (k : HasStandIn t.disk.cells m (IsFree t.disk.blocks) tag body) →
      IsWon ⊎ ((left k.place ≡ t.disk.cells k.place) × (Before (spot_of k.place) → ⊥))
  stands free m tag body k = ⊎_elim
      (λ now. inl record { spot = spot_of k.place; on = on_dies; was = taken; now = now })
      (λ out. inr (there ∙ sym k.there, by out)) (free_or_not (next.disk.blocks (spot_of k.place)))
    where
      there : left k.place ≡ GroupPage k.tag k.other
      there = ⊎_elim (λ e. e ∙ k.there)
          (λ h. ⊎_elim (λ z. absurd (page_not_nothing _ _ _ k.there (blank_there k.place v z.1)))
          (λ z. absurd (k.outside (v.flights.erases k.place.die (spot_of k.place) z.0).free)) h)
          (left_at t left crash k.place)

      taken : t.disk.blocks (spot_of k.place) ≢ Free
      taken = k.outside

      on_dies : IsSpot t.numbers (spot_of k.place)
      on_dies =
          let i = inside_spot t.numbers left (within t left v crash) k.place (page_not_nothing _ _ _ there) in
          record { die = i.0; block = i.1 }

      by : next.disk.blocks (spot_of k.place) ≢ Free → Before (spot_of k.place) → ⊥
      by out (inl e) = taken (ap t.disk.blocks e ∙ free)
      by out (inr z) = out z.0

  -- so a page of the block is spare by the newest mark that is left, unless such a block is free
  won : (m : Mark) (cell : Cell) → t.disk.blocks one.spot ≡ Free → SaysMore marked.mark m →
      IsSpare t.disk.cells (Some marked.mark) (IsFree t.disk.blocks) cell →
      (IsSpare left (Some m) Before cell → ⊥) → IsWon
  won m Nothing free says h out = absurd h
  won m (MarkPage other) free says h out = absurd (out (let l = says.up in omega (arith, h, l)))
  won m (GroupPage tag body) free says (inl f) out = absurd (fenced_none marked.mark.fence tag.number says.none f)
  won m (GroupPage tag body) free says (inr k) out = ⊎_elim (λ w. w)
      (λ s. absurd (out (inr record {
        place = k.place;
        tag = k.tag;
        other = k.other;
        there = s.0 ∙ k.there;
        outside = s.1;
        instead = ⊎_elim (λ same. inl same)
            (λ over. inr record {
              key = over.key;
              newer = over.newer;
              recorded = (let a = over.recorded in let b = says.more in omega (arith, a, b));
              counts = λ f. fenced_none m.fence k.tag.number says.still_none f;
            }) k.instead;
      })))
      (stands free marked.mark tag body k)

  -- The block is free again, or another is in its place

  kept_page : (p : Place) → spot_of p ≡ one.spot → t.disk.blocks one.spot ≡ Free → left p ≢ Nothing →
      left p ≡ t.disk.cells p
  kept_page p at free some = ⊎_elim (λ e. e) (λ e. absurd (some e))
      (left_in_free v crash p (ap t.disk.blocks at ∙ free))

  by_newest : (newest : Option Mark) → IsNewestMark left newest → t.disk.blocks one.spot ≡ Free → (p : Place) →
      spot_of p ≡ one.spot → left p ≢ Nothing → (IsSpare left newest Before (left p) → ⊥) → IsWon
  by_newest None n free p at some out =
      absurd (n marked.right.stands.place marked.mark (newest_stays v crash marked.right))
  by_newest (Some m) n free p at some out =
      let same = kept_page p at free some in
      won m (t.disk.cells p) free (says_more m n)
      (subst (λ z. IsSpare t.disk.cells z (IsFree t.disk.blocks) (t.disk.cells p)) marked.is
      (free_is_spare t p v (ap t.disk.blocks at ∙ free) (λ none. some (same ∙ none))))
      (λ h. out (subst (IsSpare left (Some m) Before) (sym same) h))

  again_or_won : t.disk.blocks one.spot ≡ Free → (next.disk.blocks one.spot ≡ Free) ⊎ IsWon
  again_or_won free = ⊎_elim (λ e. inl e)
      (λ closed.
      let k = o.disk.blocks.oldest_first one.spot closed in
      inr (by_newest next.ledger.newest o.ledger.newest free k.0 k.1 k.2 k.3))
      (o.disk.blocks.were_good one.spot (ap is_bad free))

  others : (s : Spot) → IsSpot t.numbers s → s ≢ one.spot → t.disk.blocks s ≡ Free → next.disk.blocks s ≡ Free
  others s on other free = found_again v crash o s free (λ stale. other (one.alone s on.die on.block free stale))

  each : (t.disk.blocks one.spot ≡ Free → next.disk.blocks one.spot ≡ Free) → (s : Spot) → IsSpot t.numbers s →
      t.disk.blocks s ≡ Free → next.disk.blocks s ≡ Free
  each it s on free = ⊎_elim
      (λ h. ap next.disk.blocks h.1 ∙ it (ap t.disk.blocks (sym h.1) ∙ free)) (λ h. others s on h.1 free)
      (spot_cases s one.spot)

  -- as many blocks are free
  pub one_costs_none : free_count t.numbers t.disk.blocks ≤ free_count t.numbers next.disk.blocks
  one_costs_none = ⊎_elim
      (λ free. ⊎_elim (λ now. no_fewer t.numbers t.disk.blocks next.disk.blocks (each (λ was. now)))
      (λ w. one_for_another t.numbers t.disk.blocks next.disk.blocks one.spot w.spot w.on others w.was w.now
      (λ e. w.was (ap t.disk.blocks e ∙ free))) (again_or_won free))
      (λ taken. no_fewer t.numbers t.disk.blocks next.disk.blocks (each (λ was. absurd (taken was))))
      (free_or_not (t.disk.blocks one.spot))
