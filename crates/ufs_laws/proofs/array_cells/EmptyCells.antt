-- Where nothing stands: what the cells record, keep and hold, and that a life that begins there knows nothing else.
use Rattle.ufs_laws.proofs.Common.{Bad, BlockState, Bool, Cells, CellsSound, Closed, Free, GroupPage, HasNone, IsKept}
use Rattle.ufs_laws.proofs.Common.{IsNewestMark, IsRecorded, IsWhole, Key, List, Mark, MarkPage, Mended, Mending, Name}
use Rattle.ufs_laws.proofs.Common.{None, Nothing, Numbers, Option, Place, Ready, Some, Spot, Stale, Tag, Unmarked}
use Rattle.ufs_laws.proofs.Common.{Untouched, Vacancy, [], ap, arith, false, inl, none-some, refl, true, ℕ, ⊎_elim, ◌∷◌}
use Rattle.ufs_laws.proofs.Common.{◌≡◌}
use Rattle.ufs_spec.proofs.CellKinds.{mark_not_nothing, page_not_nothing}
use Rattle.ufs_spec.specs.Ledger.{Entry}
use Rattle.ufs_spec.specs.Openings.{AreFirstBlocks, AreLost, IsAtMost, IsEntry, IsGreatestSeen, IsMendingAt}
use Rattle.ufs_spec.specs.Openings.{IsVacancyAt, StandsAt}
use Rattle.ufs_spec.specs.Sound.{CellsSuit}
use Rattle.ufs_spec.specs.Translation.{Repairing}
use Rattle.ufs_laws.proofs.array_cells.StandsForOne.{kept_under, recorded_under}

-- the state of a block of which nothing stands
abbrev pub fresh_block : Bool → BlockState
fresh_block true = Bad
fresh_block false = Free

module _ (c : Cells) (empty : (p : Place) → c p ≡ Nothing) where
  -- No page, no mark

  pub no_mark : (p : Place) (m : Mark) → c p ≡ MarkPage m → ⊥
  no_mark p m e = mark_not_nothing (c p) m e (empty p)

  pub no_page : (p : Place) (t : Tag) (body : List ℕ) → c p ≡ GroupPage t body → ⊥
  no_page p t body e = page_not_nothing (c p) t body e (empty p)

  pub no_newest : (m : Option Mark) → IsNewestMark c m → m ≡ None
  no_newest None h = refl
  no_newest (Some m) h = absurd (no_mark h.0.0 m h.0.1)

  pub none_has : (m : Option Mark) (bound : ℕ) (k : Key) → HasNone c m bound k
  none_has m bound k p t body h key = absurd (no_page p t body h.there)

  -- What is recorded and kept is 0

  pub none_recorded : (m : Option Mark) → IsRecorded c m 0
  none_recorded m = record {
    pages = λ p t body h. absurd (no_page p t body h.there);
    marks = λ p m e. absurd (no_mark p m e);
    reached = inl refl;
  }

  pub recorded_none : (m : Option Mark) (r : ℕ) → IsRecorded c m r → r ≡ 0
  recorded_none m r h = let l = recorded_under c m r 0 h (none_recorded m) in omega arith

  pub none_whole : (n : ℕ) → IsWhole c n → ⊥
  none_whole n w = let h = w.each 0 w.some in no_page h.0 h.1 h.2 h.3

  pub none_kept : (m : Option Mark) → IsKept c m 0
  none_kept m = record {
    from = 0;
    recorded = none_recorded m;
    above = omega arith;
    whole = λ n low high. absurd (omega arith);
    stops = none_whole 1;
  }

  pub kept_none : (m : Option Mark) (k : ℕ) → IsKept c m k → k ≡ 0
  kept_none m k h = let l = kept_under c m k 0 h (none_kept m) in omega arith

  none_above : (top : ℕ) → IsAtMost c None top
  none_above top = record {
    numbers = λ p t body e. absurd (no_page p t body e);
    frontiers = λ p t body e. absurd (no_page p t body e);
    marks = λ p m e. absurd (no_mark p m e);
    fence = λ f e. absurd (none-some f e);
  }

  pub top_is : IsGreatestSeen c None 0
  top_is = (none_above 0, λ other h. omega arith)

  pub is_top : (top : ℕ) → IsGreatestSeen c None top → top ≡ 0
  is_top top h = let l = h.1 0 (none_above 0) in omega arith

  -- Sound, and of every configuration

  pub sound : CellsSound c None
  sound = record {
    pages = λ p q t u body other e f. absurd (no_page p t body e);
    marks = λ p q a b e f. absurd (no_mark p a e);
    whole = λ r n h low high. absurd (let e = recorded_none None r h in omega arith);
    fence = λ f e. absurd (none-some f e);
    repairs = λ f e. absurd (none-some f e);
  }

  pub suit : (n : Numbers) → CellsSuit n c None
  suit n = record { config = λ m e. absurd (none-some m e); keys = λ p t body e. absurd (no_page p t body e) }

  -- What a life that begins there knows

  pub no_entry : (name : Name) (e : Option Entry) → IsEntry c name e → e ≡ None
  no_entry name None h = refl
  no_entry name (Some e) h = absurd (no_page h.0 h.1 e.item.body h.2)

  pub none_stands : (blocks : Spot → BlockState) (name : Name) (p : Option Place) → StandsAt c blocks name p → p ≡ None
  none_stands blocks name None h = refl
  none_stands blocks name (Some p) h = absurd (no_page p h.0.0 h.0.1 h.0.2)

  fresh_open : (b : Bool) → fresh_block b ≡ Closed → ⊥
  fresh_open true e = cc
  fresh_open false e = cc

  pub blocks_are : (m : Option Mark) (bad : Spot → Bool) → AreFirstBlocks c m bad (λ s. fresh_block (bad s))
  blocks_are m bad = record {
    were_bad = λ s e. ap fresh_block e;
    were_good = λ s e. inl (ap fresh_block e);
    spare = λ p free some. absurd (some (empty p));
    oldest_first = λ s closed. absurd (fresh_open (bad s) closed);
  }

  pub blocks_one : (m : Option Mark) (bad : Spot → Bool) (blocks : Spot → BlockState) → AreFirstBlocks c m bad blocks →
      (s : Spot) → blocks s ≡ fresh_block (bad s)
  blocks_one m bad blocks h s = by (bad s) refl
    where
      by : (b : Bool) → bad s ≡ b → blocks s ≡ fresh_block b
      by true e = h.were_bad s e
      by false e = ⊎_elim (λ free. free) (λ closed. let x = h.oldest_first s closed in absurd (x.2 (empty x.0)))
          (h.were_good s e)

  pub is_untouched : (s : Spot) (v : Vacancy) → IsVacancyAt c s v → v ≡ Untouched
  is_untouched s Untouched h = refl
  is_untouched s Stale h = absurd (h.2 (empty h.0))
  is_untouched s Ready h = absurd h

  none_lost : (low top : ℕ) → AreLost c low top []
  none_lost low top = record {
    ordered = λ i j a b e. absurd (none-some a e);
    lost = λ i k e. absurd (none-some k e);
    all = λ k h. absurd (no_page h.0 h.1 h.2 h.3);
  }

  pub unmarked_is : (n : Numbers) → IsMendingAt n c None 1 0 (Unmarked None [])
  unmarked_is n = ((λ h. h.0), (refl, omega arith), none_lost 1 0)

  pub is_unmarked : (n : Numbers) (m : Mending) → IsMendingAt n c None 1 0 m → m ≡ Unmarked None []
  is_unmarked n Mended h = absurd h.0
  is_unmarked n (Repairing keys) h = absurd h
  is_unmarked n (Unmarked (Some f) keys) h = absurd (let l = h.1.2 in omega arith)
  is_unmarked n (Unmarked None []) h = refl
  is_unmarked n (Unmarked None (k ∷ ks)) h = absurd (let l = h.2.lost 0 k refl in no_page l.0 l.1 l.2 l.3)
