-- What a stop leaves of a free block, and which blocks are free at the next opening whatever the others are: those in
-- which nothing opens.
use Rattle.many_stops.proofs.Common.{AreNoneStale, Cell, Cells, Erasing, Flight, Free, GroupPage, HasStandIn}
use Rattle.many_stops.proofs.Common.{IsOpenedTranslation, IsSpare, List, Mark, MarkPage, None, Nothing, Option, Place}
use Rattle.many_stops.proofs.Common.{Programming, Reading, Some, Spot, StopLeaves, Tag, Touches, Translation, Valid, ap}
use Rattle.many_stops.proofs.Common.{count_blocks, free_count, free_is_not_filling, inl, inr, is_bad, is_free, refl}
use Rattle.many_stops.proofs.Common.{spot_of, subst, sym, ℕ, ⊎_elim, ◌<◌, ◌∙◌, ◌≡◌, ◌≢◌, ◌≤◌, ◌⊎◌}
use Rattle.ufs_spec.specs.Disk.{Ready, Stale, Untouched, Vacancy}

-- the next life begins over these cells, with the bad blocks of this one
abbrev pub NextOpens : Translation → Cells → Translation → Type 0
NextOpens t left next = IsOpenedTranslation t.numbers left (λ (s : Spot). is_bad (t.disk.blocks s)) next

pub stale_or_not : (x : Vacancy) → (x ≡ Stale) ⊎ (x ≢ Stale)
stale_or_not Stale = inl refl
stale_or_not Untouched = inr (λ e. cc)
stale_or_not Ready = inr (λ e. cc)

-- A page that a stop leaves

-- it is as it was; or a program of it was in flight, or an erase of its block
abbrev pub IsLeftAt : Translation → Cells → Place → Type 0
IsLeftAt t left p =
    (left p ≡ t.disk.cells p)
    ⊎ (((cell : Cell) × (t.disk.flights p.die ≡ Some (Programming p cell)) × ((left p ≡ cell) ⊎ (left p ≡ Nothing)))
    ⊎ ((t.disk.flights p.die ≡ Some (Erasing (spot_of p))) × (left p ≡ Nothing)))

pub left_at : (t : Translation) (left : Cells) → StopLeaves t left → (p : Place) → IsLeftAt t left p
left_at t left crash p = ⊎_elim (λ e. inl e) (λ h. by (t.disk.flights p.die) refl h.0 h.1 h.2) (crash p)
  where
    by : (f : Option Flight) → t.disk.flights p.die ≡ f → (x : Cell) → Touches f p x → (left p ≡ x)
        ⊎ (left p ≡ Nothing) → IsLeftAt t left p
    by None e x h k = absurd h
    by (Some (Reading reader q)) e x h k = absurd h
    by (Some (Programming q cell)) e x h k =
        inr (inl (cell, e ∙ (λ i. Some (Programming (h.0 i) cell)), ⊎_elim (λ z. inl (z ∙ h.1)) (λ z. inr z) k))
    by (Some (Erasing s)) e x h k =
        inr (inr (e ∙ (λ i. Some (Erasing (h.0 i))), ⊎_elim (λ z. z ∙ h.1) (λ z. z) k))

module _ {t : Translation} {left : Cells} (v : Valid t) (crash : StopLeaves t left) where
  -- in a free block it is as it was, or gone
  pub left_in_free : (p : Place) → t.disk.blocks (spot_of p) ≡ Free →
      (left p ≡ t.disk.cells p) ⊎ (left p ≡ Nothing)
  left_in_free p free = ⊎_elim (λ e. inl e)
      (λ h. ⊎_elim
      (λ k. absurd (free_is_not_filling free (v.flights.programs p.die p k.0 k.1).next))
      (λ k. inr k.1) h) (left_at t left crash p)

  -- so nothing is left in one that is not to be erased for what is in it
  pub left_blank : (s : Spot) → t.disk.blocks s ≡ Free → t.disk.vacancies s ≢ Stale → (p : Place) → spot_of p ≡ s →
      left p ≡ Nothing
  left_blank s free full p at = ⊎_elim
      (λ e. e ∙ v.vacancies.empty p (ap t.disk.blocks at ∙ free) (λ h. full (ap t.disk.vacancies (sym at) ∙ h)))
      (λ e. e) (left_in_free p (ap t.disk.blocks at ∙ free))

-- The next opening

pub found_blank : (t : Translation) (left : Cells) (next : Translation) (s : Spot) → NextOpens t left next →
    t.disk.blocks s ≡ Free → ((p : Place) → spot_of p ≡ s → left p ≡ Nothing) → next.disk.blocks s ≡ Free
found_blank t left next s o free none = ⊎_elim (λ e. e)
    (λ closed. (let k = o.disk.blocks.oldest_first s closed in absurd (k.2 (none k.0 k.1))))
    (o.disk.blocks.were_good s (ap is_bad free))

module _ {t : Translation} {left : Cells} {next : Translation} (v : Valid t) (crash : StopLeaves t left)
    (o : NextOpens t left next) where
  pub found_again : (s : Spot) → t.disk.blocks s ≡ Free → t.disk.vacancies s ≢ Stale → next.disk.blocks s ≡ Free
  found_again s free full = found_blank t left next s o free (left_blank v crash s free full)

  pub none_lost : AreNoneStale t.numbers t.disk.blocks t.disk.vacancies → (s : Spot) → s.die < t.numbers.dies →
      s.block < t.numbers.blocks → t.disk.blocks s ≡ Free → next.disk.blocks s ≡ Free
  none_lost none s die block free = found_again s free (none s die block free)

-- the blocks of both are counted over the same dies
pub counted_alike : (t next : Translation) {left : Cells} → NextOpens t left next →
    free_count t.numbers t.disk.blocks ≤ free_count t.numbers next.disk.blocks →
    count_blocks t is_free ≤ count_blocks next is_free
counted_alike t next o l =
    subst (λ n. free_count t.numbers t.disk.blocks ≤ free_count n next.disk.blocks) (sym o.numbers) l

-- What is spare

-- a page is spare still whose stand-in is there still, outside of the other blocks too
pub spare_still : (before after : Cells) (newest : Option Mark) (A B : Spot → Type 0) (cell : Cell) →
    ((m : Mark) (t : Tag) (body : List ℕ) (h : HasStandIn before m A t body) → newest ≡ Some m →
    cell ≡ GroupPage t body → (after h.place ≡ before h.place) × (B (spot_of h.place) → ⊥)) →
    IsSpare before newest A cell → IsSpare after newest B cell
spare_still before after None A B cell still h = absurd h
spare_still before after (Some m) A B Nothing still h = absurd h
spare_still before after (Some m) A B (MarkPage other) still h = h
spare_still before after (Some m) A B (GroupPage t body) still (inl f) = inl f
spare_still before after (Some m) A B (GroupPage t body) still (inr k) =
    let s = still m t body k refl refl in
    inr record {
      place = k.place;
      tag = k.tag;
      other = k.other;
      there = s.0 ∙ k.there;
      outside = s.1;
      instead = k.instead;
    }
