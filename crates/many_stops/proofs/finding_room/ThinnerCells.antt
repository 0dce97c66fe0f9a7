-- Cells of an opening that lost pages of free blocks, and no others: the same blocks are free over them, and the same
-- numbers are lost.
use Rattle.many_stops.proofs.Common.{AreFirstBlocks, AreWithin, BlockState, Bool, Cell, Cells, CellsSound, Closed, Free}
use Rattle.many_stops.proofs.Common.{GroupPage, HasStandIn, IsFree, IsItOrFreeBefore, IsKept, IsNewestMark, IsSpare}
use Rattle.many_stops.proofs.Common.{List, Mark, MarkPage, None, Nothing, Numbers, Option, Place, Some, Spot, Tag, ap}
use Rattle.many_stops.proofs.Common.{arith, closed_is_not_free, false, if◌then◌else◌, inl, inr, mark_not_nothing}
use Rattle.many_stops.proofs.Common.{page_not_nothing, refl, spot_cases, spot_of, subst, sym, true, ℕ, ⊎_elim, ◌<◌, ◌∙◌}
use Rattle.many_stops.proofs.Common.{◌≡◌, ◌≢◌, ◌≤◌, ◌⊎◌}
use Rattle.ufs_laws.proofs.array_cells.StandsForOne.{kept_one}
use Rattle.ufs_laws.proofs.deciding.SearchOverPlaces.{Greatest, greatest}
use Rattle.ufs_spec.specs.Disk.{same_spot}
use Rattle.ufs_spec.specs.Openings.{IsLatestIn, IsOlder, recorded_by}
use Rattle.power_loss.proofs.spent.CellsLost.{MayGo, kept_less}
use Rattle.power_loss.proofs.stops.LeftUnmarked.{some_or_nothing}

-- each page is what it was, or is gone from a free block
abbrev pub AreThinner : Cells → (Spot → BlockState) → Cells → Type 0
AreThinner c blocks left = (p : Place) → (left p ≡ c p) ⊎ ((left p ≡ Nothing) × (blocks (spot_of p) ≡ Free))

-- The last record of a block

module _ (n : Numbers) (c : Cells) (within : AreWithin n c) (s : Spot) where
  abbrev only_in : Cells
  only_in p = if same_spot (spot_of p) s then c p else Nothing

  only_within : AreWithin n only_in
  only_within p out = by (same_spot (spot_of p) s)
    where
      by : (b : Bool) → (if b then c p else Nothing) ≡ Nothing
      by true = within p out
      by false = refl

  last_in : Greatest only_in recorded_by
  last_in = greatest n only_in only_within recorded_by refl

  latest_there : (x : ℕ) × IsLatestIn c s x
  latest_there = (
    last_in.weight,
    record { within = low; reached = ⊎_elim (λ e. inl e) (λ r. found r.0 r.1) last_in.reached },
  )
    where
      low : (p : Place) → spot_of p ≡ s → recorded_by (c p) ≤ last_in.weight
      low p at = ⊎_elim
          (λ h. subst (λ b. recorded_by (if b then c p else Nothing) ≤ last_in.weight) h.0 (last_in.above p))
          (λ h. absurd (h.1 at)) (spot_cases (spot_of p) s)

      found : (p : Place) → recorded_by (only_in p) ≡ last_in.weight → (last_in.weight ≡ 0) ⊎
          ((q : Place) × (spot_of q ≡ s) × (recorded_by (c q) ≡ last_in.weight))
      found p e = ⊎_elim
          (λ h. inr (p, h.1, subst (λ b. recorded_by (if b then c p else Nothing) ≡ last_in.weight) h.0 e))
          (λ h. inl (sym (subst (λ b. recorded_by (if b then c p else Nothing) ≡ last_in.weight) h.0 e)))
          (spot_cases (spot_of p) s)

module _ (n : Numbers) (c left : Cells) (blocks : Spot → BlockState) (thin : AreThinner c blocks left) where
  -- Pages

  -- what is left was there
  pub page_was : {p : Place} {x : Cell} → x ≢ Nothing → left p ≡ x → c p ≡ x
  page_was {p} some h = ⊎_elim (λ e. sym e ∙ h) (λ k. absurd (some (sym h ∙ k.0))) (thin p)

  -- outside of free blocks all is left
  pub stays_out : (p : Place) → blocks (spot_of p) ≢ Free → left p ≡ c p
  stays_out p not = ⊎_elim (λ e. e) (λ k. absurd (not k.1)) (thin p)

  -- The newest mark

  pub newest_thinner : (m : Option Mark) {bad : Spot → Bool} → AreFirstBlocks c m bad blocks → IsNewestMark c m →
      IsNewestMark left m
  newest_thinner None first h = λ p m k. h p m (page_was (mark_not_nothing _ _ refl) k)
  newest_thinner (Some m) first h = (
    (h.0.0, stays_out h.0.0 kept ∙ h.0.1),
    λ p other k. h.1 p other (page_was (mark_not_nothing _ _ refl) k),
  )
    where
      not_spare : m.number < m.number → ⊥
      not_spare l = omega (arith, l)

      kept : blocks (spot_of h.0.0) ≢ Free
      kept free = not_spare (subst (IsSpare c (Some m) (IsFree blocks)) h.0.1
          (first.spare h.0.0 free (mark_not_nothing _ _ h.0.1)))

  -- Spare pages

  spare_thinner : (m : Option Mark) (cell : Cell) → IsSpare c m (IsFree blocks) cell →
      IsSpare left m (IsFree blocks) cell
  spare_thinner None cell h = absurd h
  spare_thinner (Some m) Nothing h = absurd h
  spare_thinner (Some m) (MarkPage other) h = h
  spare_thinner (Some m) (GroupPage t body) (inl f) = inl f
  spare_thinner (Some m) (GroupPage t body) (inr k) = inr record {
    place = k.place;
    tag = k.tag;
    other = k.other;
    there = stays_out k.place k.outside ∙ k.there;
    outside = k.outside;
    instead = k.instead;
  }

  -- a free block that was older is older still: what it records last is no later
  older_thinner : AreWithin n left → (a s : Spot) → blocks s ≢ Free → IsOlder c a s → IsOlder left a s
  older_thinner within a s not (x, y, la, ls, h) = (
    now.0,
    y,
    now.1,
    same,
    ⊎_elim (λ l. inl (let u = under in omega (arith, l, u))) (λ k. level k.0 k.1) h,
  )
    where
      now : (z : ℕ) × IsLatestIn left a z
      now = latest_there n left within a

      recorded_less : (p : Place) → recorded_by (left p) ≤ recorded_by (c p)
      recorded_less p = ⊎_elim (λ e. let r = ap recorded_by e in omega (arith, r))
          (λ k. let r = ap recorded_by k.0 in omega (arith, r)) (thin p)

      under : now.0 ≤ x
      under = ⊎_elim (λ e. omega (arith, e))
          (λ r. let l = la.within r.0 r.1 in let k = recorded_less r.0 in let e = r.2 in omega (arith, l, k, e))
          now.1.reached

      kept : (p : Place) → spot_of p ≡ s → recorded_by (left p) ≡ recorded_by (c p)
      kept p at = ap recorded_by (stays_out p (λ free. not (sym (ap blocks at) ∙ free)))

      same : IsLatestIn left s y
      same = record {
        within = λ p at. let e = kept p at in let l = ls.within p at in omega (arith, e, l);
        reached = ⊎_elim (λ e. inl e) (λ r. inr (r.0, r.1, kept r.0 r.1 ∙ r.2)) ls.reached;
      }

      level : x ≡ y → {P : Type 0} → P → (now.0 < y) ⊎ ((now.0 ≡ y) × P)
      level e low = ⊎_elim (λ l. inl (omega (arith, l, e))) (λ k. inr (k ∙ e, low)) (less_or_level now.0 x under)
        where
          less_or_level : (i j : ℕ) → i ≤ j → (i < j) ⊎ (i ≡ j)
          less_or_level i j l = grind (arith, l)

  -- what is spare beside a closed block and the older free ones was so
  was_spare : AreWithin n left → (m : Option Mark) (s : Spot) (cell : Cell) → blocks s ≢ Free →
      IsSpare left m (IsItOrFreeBefore left blocks s) cell → IsSpare c m (IsItOrFreeBefore c blocks s) cell
  was_spare within None s cell not h = absurd h
  was_spare within (Some m) s Nothing not h = absurd h
  was_spare within (Some m) s (MarkPage other) not h = h
  was_spare within (Some m) s (GroupPage t body) not (inl f) = inl f
  was_spare within (Some m) s (GroupPage t body) not (inr k) = inr record {
    place = k.place;
    tag = k.tag;
    other = k.other;
    there = page_was (page_not_nothing _ _ _ refl) k.there;
    outside = λ z. k.outside (⊎_elim (λ it. inl it)
        (λ w. inr (w.0, older_thinner within (spot_of k.place) s not w.1)) z);
    instead = k.instead;
  }

  -- The blocks of the next opening

  pub first_thinner : AreWithin n left → (m : Option Mark) (bad now : Spot → Bool) → ((s : Spot) → now s ≡ bad s) →
      AreFirstBlocks c m bad blocks → AreFirstBlocks left m now blocks
  first_thinner within m bad now same first = record {
    were_bad = λ s e. first.were_bad s (sym (same s) ∙ e);
    were_good = λ s e. first.were_good s (sym (same s) ∙ e);
    spare = λ p free some.
        let was : c p ≡ left p = page_was some refl in
        spare_thinner m (left p)
        (subst (IsSpare c m (IsFree blocks)) was (first.spare p free (λ none. some (sym was ∙ none))));
    oldest_first = λ s closed. (
      (first.oldest_first s closed).0,
      (first.oldest_first s closed).1,
      λ none. (first.oldest_first s closed).2 (sym (there s closed) ∙ none),
      λ h. (first.oldest_first s closed).3
          (subst (IsSpare c m (IsItOrFreeBefore c blocks s)) (there s closed)
          (was_spare within m s (left (first.oldest_first s closed).0) (closed_is_not_free closed) h)),
    );
  }
    where
      there : (s : Spot) (closed : blocks s ≡ Closed) →
          left (first.oldest_first s closed).0 ≡ c (first.oldest_first s closed).0
      there s closed = stays_out (first.oldest_first s closed).0
          (λ free. closed_is_not_free closed (sym (ap blocks (first.oldest_first s closed).1) ∙ free))

  -- Lost numbers

  all_left : {bad : Spot → Bool} → AreFirstBlocks c None bad blocks → left ≡ c
  all_left first = λ i p. by p i
    where
      by : (p : Place) → left p ≡ c p
      by p = ⊎_elim (λ e. e)
          (λ k. ⊎_elim (λ e. k.0 ∙ sym e) (λ some. absurd (first.spare p k.1 some)) (some_or_nothing (c p))) (thin p)

  may_go : {bad : Spot → Bool} (m : Mark) → AreFirstBlocks c (Some m) bad blocks → (p : Place) (t : Tag)
      (body : List ℕ) → blocks (spot_of p) ≡ Free → c p ≡ GroupPage t body → MayGo c left m t body
  may_go m first p t body free h =
      by (subst (IsSpare c (Some m) (IsFree blocks)) h (first.spare p free (page_not_nothing _ _ _ h)))
    where
      stand_in : HasStandIn c m (IsFree blocks) t body → MayGo c left m t body
      stand_in k = ⊎_elim
          (λ same. inr (inl (
            k.place,
            k.tag,
            stays_out k.place k.outside ∙ k.there ∙ ap (GroupPage k.tag) (sym same.4),
            (same.0, same.1, same.2, same.3, refl),
          )))
          (λ over. inr (inr (k.place, k.tag, k.other, k.there, over.counts, over.key, over.newer, over.recorded)))
          k.instead

      by : IsSpare c (Some m) (IsFree blocks) (GroupPage t body) → MayGo c left m t body
      by (inl f) = inl f
      by (inr k) = stand_in k

  pub kept_thinner : (m : Option Mark) {bad : Spot → Bool} → AreFirstBlocks c m bad blocks → CellsSound c m →
      IsNewestMark c m → (k l : ℕ) → IsKept c m k → IsKept left m l → k ≡ l
  kept_thinner None first sound newest k l a b =
      kept_one c None k l a (subst (λ z. IsKept z None l) (all_left first) b)
  kept_thinner (Some m) first sound newest k l a b = kept_less c left m (record {
    pages = λ p t body h. page_was (page_not_nothing _ _ _ refl) h;
    marks = λ p other h. page_was (mark_not_nothing _ _ refl) h;
    may = λ p t body h. ⊎_elim (λ e. inl (e ∙ h)) (λ z. inr (may_go m first p t body z.1 h)) (thin p);
    place = (newest_thinner (Some m) first newest).0.0;
    there = (newest_thinner (Some m) first newest).0.1;
  }) sound a b
