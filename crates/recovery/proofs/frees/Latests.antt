-- The age of a block, by what the lists of pages and marks record of it, is its age by the cells.
use Rattle.recovery.proofs.Common.{AreGreatest, AreListed, AreMarksListed, AreRising, AreWithin, Cell, Cells, FoundMark}
use Rattle.recovery.proofs.Common.{FoundPage, GroupPage, IsBefore, IsNotHigher, List, MarkPage, Nothing, Numbers, Place}
use Rattle.recovery.proofs.Common.{RecordsUpTo, Some, Spot, ap, arith, block_of, cases_lt, get_there, inl, inr, length}
use Rattle.recovery.proofs.Common.{mark_not_nothing, page_not_nothing, refl, same_Some, slice_get, slice_get_within}
use Rattle.recovery.proofs.Common.{spot_number, spot_of, spots, sym, ℕ, ⊎_elim, ◌*◌, ◌<◌, ◌∙◌, ◌≡◌, ◌≢◌, ◌≤◌}
use Rattle.recovery.specs.Frees.{IsLatestIn, IsLowerSpot, IsOlder, recorded_by}
use Rattle.recovery.proofs.frees.Spots.{IsInside, first_lower, lower_first, one_spot, spot_there}

-- a list of all blocks has an entry for each
pub entry_there : {X : Type 0} (n : Numbers) (xs : List X) (s : Spot) → length xs ≡ length (spots n) → IsInside n s →
    (x : X) × (slice_get xs (spot_number n.blocks s) ≡ Some x)
entry_there n xs s long is =
    let w = slice_get_within (spots n) (spot_number n.blocks s) s (spot_there n s is) in
    get_there xs (spot_number n.blocks s) (omega (arith, w, long))

latest_up : (c : Cells) (s : Spot) (x y : ℕ) → IsLatestIn c s x → IsLatestIn c s y → x ≤ y
latest_up c s x y h k =
    ⊎_elim (λ (z : x ≡ 0). omega (arith, z))
    (λ (r : (p : Place) × (spot_of p ≡ s) × (recorded_by (c p) ≡ x)).
    let l = k.within r.0 r.1 in let e = r.2 in omega (arith, l, e))
    h.reached

module _ (n : Numbers) (c : Cells) (within : AreWithin n c) where
  -- what is something lies on the dies
  pub inside : (p : Place) → c p ≢ Nothing → IsInside n (spot_of p)
  inside p some = record {
    die =
        ⊎_elim (λ (l : p.die < n.dies). l)
        (λ (h : n.dies ≤ p.die). absurd (some (within p (λ is. let d = is.die in omega (arith, d, h)))))
        (cases_lt p.die n.dies);
    block =
        ⊎_elim (λ (l : p.block < n.blocks). l)
        (λ (h : n.blocks ≤ p.block). absurd (some (within p (λ is. let d = is.block in omega (arith, d, h)))))
        (cases_lt p.block n.blocks);
  }

  module _ (pages : List FoundPage) (listed : AreListed c pages) where
    pub page_some : (i : ℕ) (e : FoundPage) → slice_get pages i ≡ Some e → c e.place ≢ Nothing
    page_some i e h =
        let r = listed.there i e h in page_not_nothing (c e.place) e.tag r.0 r.1

    pub page_inside : (i : ℕ) (e : FoundPage) → slice_get pages i ≡ Some e → IsInside n (spot_of e.place)
    page_inside i e h = inside e.place (page_some i e h)

    -- the pages stand by their blocks
    pub pages_rise : AreRising (block_of n.blocks) pages
    pages_rise i j a b x y l =
        ⊎_elim
        (λ (m : i < j). by (listed.rising i j a b x y m))
        (λ (m : j ≤ i).
        let e : i ≡ j = omega (arith, l, m) in
        let f = ap (block_of n.blocks) (same_Some a b (sym x ∙ (ap (slice_get pages) e ∙ y))) in
        omega (arith, f))
        (cases_lt i j)
      where
        by : IsNotHigher a.place b.place → block_of n.blocks a ≤ block_of n.blocks b
        by (inl die) =
            let h = lower_first n.blocks (spot_of a.place) (spot_of b.place) (page_inside i a x).block (inl die) in
            omega (arith, h)
        by (inr (inl (die, block))) =
            let h = lower_first n.blocks (spot_of a.place) (spot_of b.place) (page_inside i a x).block
            (inr (die, block)) in
            omega (arith, h)
        by (inr (inr (die, block, page))) =
            let e = ap (λ (d : ℕ). d * n.blocks) die in omega (arith, e, block)

    module _ (marks : List FoundMark) (marked : AreMarksListed c marks) (latests : List ℕ)
        (long : length latests ≡ length (spots n))
        (greatest : AreGreatest (RecordsUpTo n.blocks pages marks (length marks)) latests) where
      mark_some : (i : ℕ) (e : FoundMark) → slice_get marks i ≡ Some e → c e.place ≢ Nothing
      mark_some i e h = let r = marked.there i e h in mark_not_nothing (c e.place) r.0 r.1

      pub is_latest : (s : Spot) (x : ℕ) → IsInside n s → slice_get latests (spot_number n.blocks s) ≡ Some x →
          IsLatestIn c s x
      is_latest s x is h = record {
        within = λ p here. low p here (c p) refl;
        reached = ⊎_elim (λ z. inl z) (λ r. inr (high r)) (greatest.reached (spot_number n.blocks s) x h);
      }
        where
          low : (p : Place) → spot_of p ≡ s → (y : Cell) → c p ≡ y → recorded_by (c p) ≤ x
          low p here Nothing e = let z = ap recorded_by e in omega (arith, z)
          low p here (GroupPage t body) e =
              let r = listed.all p t body e in
              let l = greatest.within (spot_number n.blocks s) x h t.frontier
              (inl (
                r.0,
                record { place = p; tag = t },
                slice_get_within pages r.0 (record { place = p; tag = t }) r.1,
                r.1,
                ap (spot_number n.blocks) here,
                refl,
              )) in
              let z = ap recorded_by e in
              omega (arith, l, z)
          low p here (MarkPage m) e =
              let r = marked.all p m e in
              let found : FoundMark = record { place = p; number = m.number; records = m.records } in
              let l = greatest.within (spot_number n.blocks s) x h m.records
              (inr (r.0, found, slice_get_within marks r.0 found r.1, r.1, ap (spot_number n.blocks) here, refl)) in
              let z = ap recorded_by e in
              omega (arith, l, z)

          high : RecordsUpTo n.blocks pages marks (length marks) (spot_number n.blocks s) x →
              (p : Place) × (spot_of p ≡ s) × (recorded_by (c p) ≡ x)
          high (inl (i, e, l, there, at, records)) =
              let r = listed.there i e there in (
                e.place,
                one_spot n (spot_of e.place) s (page_inside i e there) is at,
                ap recorded_by r.1 ∙ records,
              )
          high (inr (i, e, l, there, at, records)) =
              let r = marked.there i e there in (
                e.place,
                one_spot n (spot_of e.place) s (inside e.place (mark_some i e there)) is at,
                ap recorded_by r.1 ∙ (r.3 ∙ records),
              )

      -- older by the lists is older by the cells, and the other way round
      pub older_told : (a b : Spot) → IsInside n a → IsInside n b →
          IsBefore latests (spot_number n.blocks a) (spot_number n.blocks b) → IsOlder c a b
      older_told a b is it before = (
        before.0,
        before.1,
        is_latest a before.0 is before.2,
        is_latest b before.1 it before.3,
        ⊎_elim (λ l. inl l)
            (λ (r : (before.0 ≡ before.1) × (spot_number n.blocks a < spot_number n.blocks b)).
            inr (r.0, first_lower n.blocks a b is.block it.block r.1))
            before.4,
      )

      pub older_listed : (a b : Spot) → IsInside n a → IsInside n b → IsOlder c a b →
          IsBefore latests (spot_number n.blocks a) (spot_number n.blocks b)
      older_listed a b is it older =
          let one = entry_there n latests a long is in
          let other = entry_there n latests b long it in
          let x = is_latest a one.0 is one.1 in
          let y = is_latest b other.0 it other.1 in
          let up = latest_up c a one.0 older.0 x older.2 in
          let down = latest_up c a older.0 one.0 older.2 x in
          let high = latest_up c b other.0 older.1 y older.3 in
          let low = latest_up c b older.1 other.0 older.3 y in (
            one.0,
            other.0,
            one.1,
            other.1,
            ⊎_elim (λ (l : older.0 < older.1). inl (omega (arith, l, up, down, high, low)))
                (λ (r : (older.0 ≡ older.1) × IsLowerSpot a b).
                let e = r.0 in
                inr (omega (arith, e, up, down, high, low), lower_first n.blocks a b is.block r.1))
                older.4,
          )
