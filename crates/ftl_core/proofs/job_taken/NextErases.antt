-- The blocks of a die that are erased or filled next.
use Rattle.ftl_core.proofs.Common.{BlockState, Bool, Core, Describes, Kept, None, Numbers, Option, Some, Spot}
use Rattle.ftl_core.proofs.Common.{Translation, and_parts, ap, arith, block_kept, false, false≢true, found_or, is_so}
use Rattle.ftl_core.proofs.Common.{lowest, may_be_used, refl, spot_at, state_of, suc, sym, true, unwrap_or, zero, ℕ}
use Rattle.ftl_core.proofs.Common.{◌*◌, ◌+◌, ◌<◌, ◌∙◌, ◌≡◌}
use Rattle.std.proofs.Common.{not, option_map, slice_get, ◌&&◌}
use Rattle.ufs_spec.specs.Disk as disk
use Rattle.ufs_spec.specs.Translation as layer
use Rattle.ufs_spec.specs.Translation.{next_erase}
use Rattle.block_table.specs.declared.BlockState.TheVariants as state
use Rattle.ftl_core.specs.Takes.{lowest_below}
use Rattle.ftl_core.proofs.pins.PinsAlike.{pinned_as}
use Rattle.ftl_core.proofs.opened.Spots.{found_lowest, state_there}

-- The lowest that passes

lowest_alike : (p q : ℕ → Bool) (n : ℕ) → ((k : ℕ) → k < n → p k ≡ q k) → lowest_below p n ≡ lowest_below q n
unfolding lowest_below
lowest_alike p q zero same = refl
lowest_alike p q (suc n) same =
    let r = lowest_alike p q n (λ k l. same k (omega arith)) in
    let e = same n (omega arith) in
    λ i. found_or (r i) (e i) n

-- what is found passes, and is below the bound
lowest_passes : (p : ℕ → Bool) (n b : ℕ) → lowest_below p n ≡ Some b → (b < n) × (p b ≡ true)
unfolding lowest_below
lowest_passes p zero b h = cc
lowest_passes p (suc n) b h = by (lowest_below p n) (p n) refl refl h (λ e. lowest_passes p n b e)
  where
    by : (o : Option ℕ) (t : Bool) → lowest_below p n ≡ o → p n ≡ t → found_or o t n ≡ Some b →
        (lowest_below p n ≡ Some b → (b < n) × (p b ≡ true)) → (b < suc n) × (p b ≡ true)
    by (Some k) t e f h deep = let r = deep (e ∙ h) in (omega (arith, r.0), r.1)
    by None true e f h deep = let s : n ≡ b = cc in (omega arith, ap p (sym s) ∙ f)
    by None false e f h deep = cc

-- Blocks

-- what is kept of a block of the dies is what it is
pub state_kept : (c : Core) (t : Translation) (die block : ℕ) → Kept c t → die < t.numbers.dies →
    block < t.numbers.blocks →
    state_of c die block ≡ block_kept (t.disk.blocks (spot_at die block)) (t.disk.vacancies (spot_at die block))
state_kept c t die block k there within =
    ap (λ (z : Numbers). unwrap_or (slice_get c.states (die * z.blocks + block)) state.Bad) k.numbers
    ∙ ap (λ z. unwrap_or (slice_get z (die * t.numbers.blocks + block)) state.Bad) k.blocks
    ∙ ap (λ z. unwrap_or z state.Bad)
    (state_there t.numbers (λ (s : Spot). block_kept (t.disk.blocks s) (t.disk.vacancies s)) die block there within)

pub state_is : (c : Core) (t : Translation) (die block : ℕ) → Describes c t → die < t.numbers.dies →
    block < t.numbers.blocks →
    state_of c die block ≡ block_kept (t.disk.blocks (spot_at die block)) (t.disk.vacancies (spot_at die block))
state_is c t die block h there within = state_kept c t die block h.kept there within

-- What is in a free block

-- a block is kept as one that is so where it is free, and what is in it passes
abbrev pub Means : BlockState → (disk.Vacancy → Bool) → Type 0
Means s is = (b : disk.BlockState) (v : disk.Vacancy) → is_so (block_kept b v) s ≡ (layer.is_free b && is v)

pub free_means : Means state.Free layer.is_untouched
free_means disk.Free disk.Untouched = refl
free_means disk.Free disk.Stale = refl
free_means disk.Free disk.Ready = refl
free_means (disk.Filling next) v = refl
free_means disk.Closed v = refl
free_means disk.Bad v = refl

pub stale_means : Means state.Stale layer.is_stale
stale_means disk.Free disk.Untouched = refl
stale_means disk.Free disk.Stale = refl
stale_means disk.Free disk.Ready = refl
stale_means (disk.Filling next) v = refl
stale_means disk.Closed v = refl
stale_means disk.Bad v = refl

pub ready_means : Means state.Ready layer.is_ready
ready_means disk.Free disk.Untouched = refl
ready_means disk.Free disk.Stale = refl
ready_means disk.Free disk.Ready = refl
ready_means (disk.Filling next) v = refl
ready_means disk.Closed v = refl
ready_means disk.Bad v = refl

-- The lowest block of a die that may be used

module _ (c : Core) (t : Translation) (die : ℕ) (s : BlockState) (is : disk.Vacancy → Bool) (means : Means s is)
    (h : Describes c t) (there : die < t.numbers.dies) where
  usable_is : (block : ℕ) → block < t.numbers.blocks →
      may_be_used c die s block ≡ layer.may_be_used t is (spot_at die block)
  usable_is block within =
      let so = ap (λ (z : BlockState). is_so z s) (state_is c t die block h there within)
      ∙ means (t.disk.blocks (spot_at die block)) (t.disk.vacancies (spot_at die block)) in
      let pinned = pinned_as c t (spot_at die block) h in
      λ i. so i && not (pinned i)

  lowest_same : lowest c die s ≡ lowest_below (λ b. layer.may_be_used t is (spot_at die b)) t.numbers.blocks
  lowest_same =
      ap (λ (z : Numbers). lowest_below (may_be_used c die s) z.blocks) h.kept.numbers
      ∙ lowest_alike (may_be_used c die s) (λ b. layer.may_be_used t is (spot_at die b)) t.numbers.blocks usable_is

  -- it is the one that the layer would use
  pub lowest_is : layer.lowest_vacant t is die ≡ option_map (spot_at die) (lowest c die s)
  lowest_is =
      found_lowest t.numbers die (layer.may_be_used t is) ∙ ap (option_map (spot_at die)) (sym lowest_same)

  -- and its erase is the same
  pub erased_next : next_erase t is die ≡ option_map (λ block. disk.Erasing (spot_at die block)) (lowest c die s)
  erased_next = ap (option_map disk.Erasing) lowest_is ∙ twice (lowest c die s)
    where
      twice : (o : Option ℕ) → option_map disk.Erasing (option_map (spot_at die) o) ≡ option_map
          (λ block. disk.Erasing (spot_at die block)) o
      twice None = refl
      twice (Some b) = refl

  -- it is one of the die's
  pub block_right : (block : ℕ) → lowest c die s ≡ Some block → block < t.numbers.blocks
  block_right block found =
      (lowest_passes (λ b. layer.may_be_used t is (spot_at die b)) t.numbers.blocks block (sym lowest_same ∙ found)).0

  -- and it is free
  pub block_free : (block : ℕ) → lowest c die s ≡ Some block → t.disk.blocks (spot_at die block) ≡ disk.Free
  block_free block found =
      free_is (t.disk.blocks (spot_at die block))
      (and_parts (layer.is_free (t.disk.blocks (spot_at die block))) (is (t.disk.vacancies (spot_at die block)))
      (and_parts (layer.is_vacant t is (spot_at die block)) (not (layer.is_pinned t (spot_at die block)))
      (lowest_passes (λ b. layer.may_be_used t is (spot_at die b)) t.numbers.blocks block
      (sym lowest_same ∙ found)).1).0).0
    where
      free_is : (b : disk.BlockState) → layer.is_free b ≡ true → b ≡ disk.Free
      free_is disk.Free e = refl
      free_is (disk.Filling next) e = absurd (false≢true e)
      free_is disk.Closed e = absurd (false≢true e)
      free_is disk.Bad e = absurd (false≢true e)
