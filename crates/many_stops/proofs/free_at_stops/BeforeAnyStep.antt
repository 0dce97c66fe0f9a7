-- Before the first step of a life a stop leaves each block as it was found: the free ones are free again, and those
-- that were closed are closed.
use Rattle.many_stops.proofs.Common.{AreFirstBlocks, AreWithin, Bad, BlockState, Cell, Cells, Closed, Filling, Free}
use Rattle.many_stops.proofs.Common.{GroupPage, HasStandIn, IsAsOpened, IsFree, IsItOrFreeBefore, IsNewPage}
use Rattle.many_stops.proofs.Common.{IsNewestMark, IsSpare, List, Mark, MarkPage, None, Nothing, Option, Place, Some}
use Rattle.many_stops.proofs.Common.{Spot, StopLeaves, Tag, Translation, Valid, ap, arith, closed_is_not_free}
use Rattle.many_stops.proofs.Common.{free_is_not_filling, free_or_not, inl, inr, inside_spot, is_bad, mark_not_nothing}
use Rattle.many_stops.proofs.Common.{page_not_nothing, refl, spot_of, subst, suc, sym, within, zero, ℕ, ⊎_elim, ◌<◌}
use Rattle.many_stops.proofs.Common.{◌∙◌, ◌≡◌, ◌≢◌, ◌≤◌, ◌⊎◌}
use Rattle.ufs_spec.specs.Openings.{IsLatestIn, IsLowerSpot, IsOlder, recorded_by}
use Rattle.power_loss.proofs.jobs.StandsSecurely.{free_is_not_bad}
use Rattle.power_loss.proofs.openings.BlocksByAge.{IsInside, older_rank, rank, rank_else}
use Rattle.power_loss.proofs.openings.FirstBlocks.{never_filling}
use Rattle.power_loss.proofs.stops.LeftIsSound.{sound}
use Rattle.power_loss.proofs.stops.LeftUnmarked.{newest_one}
use Rattle.many_stops.proofs.free_at_stops.FreeAtStops.{NextOpens, left_at, spare_still}
use Rattle.many_stops.specs.FreeOverStops.{IsThinned}

-- of this life no step was ordered yet
abbrev pub AsOpened : Translation → Type 0
AsOpened t = IsAsOpened t.ledger.newest t.ledger.greatest_seen t.disk.cells t.disk.blocks t.disk.flights t.work.step

-- Blocks as they were found

bad_is_not_free : {x : BlockState} → x ≡ Bad → x ≡ Free → ⊥
bad_is_not_free e h = free_is_not_bad h e

pub new_is_no_mark : (top : ℕ) {x : Cell} (m : Mark) → x ≡ MarkPage m → IsNewPage top x → ⊥
new_is_no_mark top m e h = subst (IsNewPage top) e h

pub new_number : (top : ℕ) {x : Cell} (t : Tag) (body : List ℕ) → x ≡ GroupPage t body → IsNewPage top x →
    top < t.number
new_number top t body e h = subst (IsNewPage top) e h

-- Ages of blocks

latest_within : {c : Cells} {s : Spot} {x : ℕ} (y : ℕ) → ((p : Place) → spot_of p ≡ s → recorded_by (c p) ≤ y) →
    IsLatestIn c s x → x ≤ y
latest_within y each h = ⊎_elim (λ e. omega (arith, e))
    (λ r. (let l = each r.0 r.1 in let e = r.2 in omega (arith, l, e))) h.reached

not_lower : {a b : Spot} → IsLowerSpot a b → IsLowerSpot b a → ⊥
not_lower (inl l) (inl k) = omega (arith, l, k)
not_lower (inl l) (inr k) = let e = k.0 in omega (arith, l, e)
not_lower (inr l) (inl k) = let e = l.0 in omega (arith, k, e)
not_lower (inr l) (inr k) = let f = l.1 in let g = k.1 in omega (arith, f, g)

-- of two blocks of which one was older the other is not older where that one records no more
no_turn : {z s : Spot} {x y l low : ℕ} → (x < y) ⊎ ((x ≡ y) × IsLowerSpot z s) →
    (l < low) ⊎ ((l ≡ low) × IsLowerSpot s z) → l ≡ y → low ≤ x → ⊥
no_turn (inl a) (inl b) e f = omega (arith, a, b, e, f)
no_turn (inl a) (inr b) e f = let k = b.0 in omega (arith, a, k, e, f)
no_turn (inr a) (inl b) e f = let k = a.0 in omega (arith, k, b, e, f)
no_turn (inr a) (inr b) e f = not_lower a.1 b.1

module _ (t : Translation) (a : AsOpened t) where
  -- a block that is free, or is being filled, was free
  pub was_free : {s : Spot} → t.disk.blocks s ≡ Free → a.first s ≡ Free
  was_free {s} free = ⊎_elim (λ e. e) (λ out. sym (a.stays s out) ∙ free) (free_or_not (a.first s))

  pub was_unfilled : {s : Spot} {page : ℕ} → t.disk.blocks s ≡ Filling page → a.first s ≡ Free
  was_unfilled {s} filling = ⊎_elim (λ e. e)
      (λ out. absurd (never_filling a.found (sym (a.stays s out) ∙ filling))) (free_or_not (a.first s))

  -- What a mark that stood then says

  numbered_low : (m : Mark) → t.ledger.newest ≡ Some m → m.records ≤ t.ledger.greatest_seen
  numbered_low m is =
      let n = subst (IsNewestMark a.opening) is a.is_newest in
      a.seen.marks n.0.0 m n.0.1

module _ {t : Translation} {left : Cells} (v : Valid t) (crash : StopLeaves t left) (a : AsOpened t) where
  -- Pages

  -- a page in a block that was not free is as it was then
  kept_page : (p : Place) → a.first (spot_of p) ≢ Free → left p ≡ a.opening p
  kept_page p out = ⊎_elim (λ e. e ∙ a.same p out)
      (λ h. ⊎_elim
      (λ k. absurd (out (was_unfilled t a (v.flights.programs p.die p k.0 k.1).next)))
      (λ k. absurd (out (was_free t a (v.flights.erases p.die (spot_of p) k.0).free))) h)
      (left_at t left crash p)

  thinned_page : (p : Place) → a.first (spot_of p) ≡ Free →
      IsThinned t.ledger.greatest_seen (a.opening p) (left p) (t.disk.blocks (spot_of p))
  thinned_page p free = ⊎_elim
      (λ e. subst (λ x. IsThinned t.ledger.greatest_seen (a.opening p) x (t.disk.blocks (spot_of p))) (sym e)
      (a.thinned p free))
      (λ h. ⊎_elim
      (λ k. ⊎_elim
      (λ e. inr (inr (
        subst (IsNewPage t.ledger.greatest_seen) (sym e) (a.flies p.die p k.0 k.1),
        λ z. free_is_not_filling z (v.flights.programs p.die p k.0 k.1).next,
      )))
      (λ e. inl e) k.2)
      (λ k. inl k.1) h) (left_at t left crash p)

  -- a page that is no page of this life is as it was
  old_page : (p : Place) → left p ≢ Nothing → (IsNewPage t.ledger.greatest_seen (left p) → ⊥) → left p ≡ a.opening p
  old_page p some old = ⊎_elim
      (λ free. ⊎_elim (λ e. absurd (some e))
      (λ h. ⊎_elim (λ k. k.0) (λ k. absurd (old k.0)) h) (thinned_page p free))
      (λ out. kept_page p out) (free_or_not (a.first (spot_of p)))

  -- and it lies in a block that is free, if that was so
  old_in_free : (p : Place) → left p ≢ Nothing → (IsNewPage t.ledger.greatest_seen (left p) → ⊥) →
      a.first (spot_of p) ≡ Free → t.disk.blocks (spot_of p) ≡ Free
  old_in_free p some old free = ⊎_elim (λ e. absurd (some e))
      (λ h. ⊎_elim (λ k. k.1) (λ k. absurd (old k.0)) h) (thinned_page p free)

  -- in a free block each page is as it was, or gone
  page_of_free : (p : Place) → t.disk.blocks (spot_of p) ≡ Free → (left p ≡ Nothing) ⊎ (left p ≡ a.opening p)
  page_of_free p free = ⊎_elim (λ e. inl e)
      (λ h. ⊎_elim (λ k. inr k.0) (λ k. absurd (k.1 free)) h) (thinned_page p (was_free t a free))

  -- Marks

  mark_was : (p : Place) (m : Mark) → left p ≡ MarkPage m → a.opening p ≡ MarkPage m
  mark_was p m e = sym (old_page p (mark_not_nothing _ _ e) (new_is_no_mark t.ledger.greatest_seen m e)) ∙ e

  newest_left : (newest : Option Mark) → t.ledger.newest ≡ newest → IsNewestMark left newest
  newest_left None is = λ p m e. subst (IsNewestMark a.opening) is a.is_newest p m (mark_was p m e)
  newest_left (Some m) is =
      let n = subst (IsNewestMark a.opening) is a.is_newest in
      ((n.0.0, kept_page n.0.0 (λ free. lone n.0.0 n.0.1 free) ∙ n.0.1), λ p other e. n.1 p other (mark_was p other e))
    where
      own : (m.number < m.number) → ⊥
      own l = omega (arith, l)

      lone : (p : Place) → a.opening p ≡ MarkPage m → a.first (spot_of p) ≡ Free → ⊥
      lone p e free = own (subst (λ (z : Option Mark × Cell). IsSpare a.opening z.0 (IsFree a.first) z.1)
          (λ i. (is i, e i)) (a.found.spare p free (mark_not_nothing _ _ e)))

  module _ {next : Translation} (o : NextOpens t left next) where
    same_newest : next.ledger.newest ≡ t.ledger.newest
    same_newest = newest_one next.ledger.newest t.ledger.newest
        (sound t left next.ledger.newest v crash o.ledger.newest).marks o.ledger.newest
        (newest_left t.ledger.newest refl)

    now_found : AreFirstBlocks left t.ledger.newest (λ (s : Spot). is_bad (t.disk.blocks s)) next.disk.blocks
    now_found = subst (λ m. AreFirstBlocks left m (λ (s : Spot). is_bad (t.disk.blocks s)) next.disk.blocks)
        same_newest o.disk.blocks

    on_dies : AreWithin t.numbers left
    on_dies = within t left v crash

    abbrev IsOn : Spot → Type 0
    IsOn s = IsInside t.numbers left on_dies s

    -- it holds of the blocks that are gone through before this one
    abbrev IsDone : Spot → (Spot → Type 0) → Type 0
    IsDone s P = (z : Spot) → rank t.numbers left on_dies z < rank t.numbers left on_dies s → P z

    -- A free block

    -- what is free then, among the older blocks, was free
    only_free : (s : Spot) → t.disk.blocks s ≡ Free →
        IsDone s (λ z. a.first z ≡ Closed → next.disk.blocks z ≡ Closed) →
        (z : Spot) → IsOn z → IsItOrFreeBefore left next.disk.blocks s z → a.first z ≡ Free
    only_free s free closed z on (inl e) = ap a.first e ∙ was_free t a free
    only_free s free closed z on (inr (now, older)) = by (a.first z) refl
      where
        by : (x : BlockState) → a.first z ≡ x → a.first z ≡ Free
        by Free e = e
        by Closed e = absurd
            (closed_is_not_free (closed z (older_rank t.numbers left on_dies z s older on) e) now)
        by (Filling page) e = absurd (never_filling a.found e)
        by Bad e = absurd (bad_is_not_free (now_found.were_bad z (ap is_bad (a.stays z (bad_is_not_free e) ∙ e))) now)

    goes_free : (s : Spot) → t.disk.blocks s ≡ Free →
        IsDone s (λ z. a.first z ≡ Closed → next.disk.blocks z ≡ Closed) →
        next.disk.blocks s ≡ Free
    goes_free s free closed = ⊎_elim (λ e. e) (λ h. absurd (clash h)) (now_found.were_good s (ap is_bad free))
      where
        spare_now : (p : Place) → spot_of p ≡ s → left p ≢ Nothing →
            IsSpare left t.ledger.newest (IsItOrFreeBefore left next.disk.blocks s) (left p)
        spare_now p at some =
            let here : t.disk.blocks (spot_of p) ≡ Free = ap t.disk.blocks at ∙ free in
            let same : left p ≡ a.opening p = ⊎_elim (λ e. absurd (some e)) (λ e. e) (page_of_free p here) in
            subst (IsSpare left t.ledger.newest (IsItOrFreeBefore left next.disk.blocks s)) (sym same)
            (spare_still a.opening left t.ledger.newest (IsFree a.first) (IsItOrFreeBefore left next.disk.blocks s)
            (a.opening p)
            (λ m tag body k is e.
            let there = kept_page k.place k.outside in (
              there,
              λ z. k.outside (only_free s free closed (spot_of k.place)
                  (inside_spot t.numbers left on_dies k.place (page_not_nothing _ _ _ (there ∙ k.there))) z),
            ))
            (a.found.spare p (was_free t a here) (λ none. some (same ∙ none))))

        clash : next.disk.blocks s ≡ Closed → ⊥
        clash h = let k = now_found.oldest_first s h in k.3 (spare_now k.0 k.1 k.2)

    -- A block that was closed

    -- what was older is gone through before it still, since its pages are as they were, or gone
    still_before : (z s : Spot) → IsOn z → t.disk.blocks z ≡ Free → a.first s ≡ Closed → IsOlder a.opening z s →
        rank t.numbers left on_dies z < rank t.numbers left on_dies s
    still_before z s on free closed (x, y, of_z, of_s, order) =
        rank_else t.numbers left on_dies s z
        (λ e. closed_is_not_free closed (ap a.first e ∙ was_free t a free)) later on
      where
        here : (p : Place) → spot_of p ≡ s → left p ≡ a.opening p
        here p at = kept_page p (λ e. closed_is_not_free closed (ap a.first (sym at) ∙ e))

        page_low : (p : Place) → spot_of p ≡ z → recorded_by (left p) ≤ x
        page_low p at = ⊎_elim (λ e. (let k = ap recorded_by e in omega (arith, k)))
            (λ e. (let k = ap recorded_by e in let l = of_z.within p at in omega (arith, k, l)))
            (page_of_free p (ap t.disk.blocks at ∙ free))

        later : IsOlder left s z → ⊥
        later (l, low, of_left, of_low, turned) =
            let up = latest_within y
            (λ p at. (let r = of_s.within p at in let e = ap recorded_by (here p at) in omega (arith, r, e)))
            of_left in
            let down = latest_within l
            (λ p at. (let r = of_left.within p at in let e = ap recorded_by (here p at) in omega (arith, r, e)))
            of_s in
            let fell = latest_within x page_low of_low in
            no_turn order turned (omega (arith, up, down)) fell

    -- what stands in for a page that was there is no page of this life
    stood : (p : Place) {tag : Tag} {body : List ℕ} (m : Mark) {A : Spot → Type 0} (k : HasStandIn left m A tag body) →
        t.ledger.newest ≡ Some m → a.opening p ≡ GroupPage tag body → IsNewPage t.ledger.greatest_seen (left k.place) →
        ⊥
    stood p {tag} {body} m k is there fresh =
        let low = a.seen.numbers p tag body there in
        let new = new_number t.ledger.greatest_seen k.tag k.other k.there fresh in
        ⊎_elim (λ same. (let e = same.1 in absurd (omega (arith, low, new, e))))
        (λ over. (let l = over.recorded in let r = numbered_low t a m is in absurd (omega (arith, l, r, new))))
        k.instead

    stays_closed : (s : Spot) → a.first s ≡ Closed →
        IsDone s (λ z. t.disk.blocks z ≡ Free → next.disk.blocks z ≡ Free) →
        next.disk.blocks s ≡ Closed
    stays_closed s closed frees =
        ⊎_elim (λ h. absurd (clash h)) (λ e. e)
        (now_found.were_good s (ap is_bad (a.stays s (closed_is_not_free closed) ∙ closed)))
      where
        clash : next.disk.blocks s ≡ Free → ⊥
        clash free =
            let k = a.found.oldest_first s closed in
            let same : left k.0 ≡ a.opening k.0 =
            kept_page k.0 (λ e. closed_is_not_free closed (ap a.first (sym k.1) ∙ e)) in
            k.3 (spare_still left a.opening t.ledger.newest (IsFree next.disk.blocks)
            (IsItOrFreeBefore a.opening a.first s) (a.opening k.0)
            (λ m tag body w is e. (
              sym (old_page w.place (page_not_nothing _ _ _ w.there) (stood k.0 m w is e)),
              λ z. w.outside (by w.place (page_not_nothing _ _ _ w.there) (stood k.0 m w is e) z),
            ))
            (subst (IsSpare left t.ledger.newest (IsFree next.disk.blocks)) same
            (now_found.spare k.0 (ap next.disk.blocks k.1 ∙ free) (λ none. k.2 (sym same ∙ none)))))
          where
            by : (q : Place) → left q ≢ Nothing → (IsNewPage t.ledger.greatest_seen (left q) → ⊥) →
                IsItOrFreeBefore a.opening a.first s (spot_of q) → next.disk.blocks (spot_of q) ≡ Free
            by q some old (inl e) = ap next.disk.blocks e ∙ free
            by q some old (inr (was, older)) =
                let now = old_in_free q some old was in
                frees (spot_of q)
                (still_before (spot_of q) s (inside_spot t.numbers left on_dies q some) now closed older) now

    -- Both, the older blocks first

    both_below : (fuel : ℕ) (s : Spot) → rank t.numbers left on_dies s < fuel →
        (t.disk.blocks s ≡ Free → next.disk.blocks s ≡ Free) × (a.first s ≡ Closed → next.disk.blocks s ≡ Closed)
    both_below zero s l = absurd (omega (arith, l))
    both_below (suc fuel) s l = (
      λ free. goes_free s free (λ z before. (both_below fuel z (omega (arith, before, l))).1),
      λ closed. stays_closed s closed (λ z before. (both_below fuel z (omega (arith, before, l))).0),
    )

    -- each block that is free is so again
    pub opened_again : (s : Spot) → t.disk.blocks s ≡ Free → next.disk.blocks s ≡ Free
    opened_again s free = (both_below (suc (rank t.numbers left on_dies s)) s (omega arith)).0 free
