-- What is found of the blocks in what is kept is what the specified layer has of them: the live pages of each, the
-- block to be collected, and whether something is to be collected at all.
use Rattle.ftl_core.proofs.Common.{Bool, Core, Describes, List, None, Sizes, Spot, Translation, [], and_parts, ap}
use Rattle.ftl_core.proofs.Common.{bad_blocks, below, block_kept, false, has_block, has_few_free, is_bad}
use Rattle.ftl_core.proofs.Common.{is_bad_with_live, is_live, length, list_any, ltb-true, map, nat_lt, refl, sizes_of}
use Rattle.ftl_core.proofs.Common.{spots, spots_in, state_of, sym, true, victim, ◌∙◌, ◌∷◌, ◌≡◌}
use Rattle.std.proofs.Common.{count_by, filter, not, ◌&&◌, ◌||◌}
use Rattle.ufs_spec.specs.Disk as disk
use Rattle.ufs_spec.specs.Disk.{place_in}
use Rattle.ufs_spec.specs.Translation as layer
use Rattle.ufs_spec.specs.Translation.{count_blocks, least_of, wanted_room}
use Rattle.block_table.specs.Lives.{gains, live_count}
use Rattle.block_table.proofs.Relations.{any_same, victim_same}
use Rattle.ftl_core.specs.Collects.{is_pinned, may_be_victim, wants_collection}
use Rattle.ftl_core.proofs.job_taken.NextErases.{state_is}
use Rattle.ftl_core.proofs.live_pages.NamesLive.{live_named}
use Rattle.ftl_core.proofs.opened.FoundBlocks.{some_one}
use Rattle.ftl_core.proofs.job_taken.OpenBlocks.{bad_alike, free_alike}
use Rattle.ftl_core.proofs.opened.Spots.{same_bad}
use Rattle.ftl_core.proofs.pins.PinsAlike.{pinned_as}

-- the live pages of a block are the same, in the same order
pub lives_agree : (c : Core) (t : Translation) → Describes c t → (s : Spot) →
    filter (is_live c.live) (map (place_in s) (below t.numbers.pages)) ≡ layer.live_places t s
lives_agree c t h s = λ i. filter (λ p. live_named c t h p i) (map (place_in s) (below t.numbers.pages))

module _ (c : Core) (t : Translation) (h : Describes c t) where
  -- the live pages are known for the blocks of the layer
  sizes_are : c.live.sizes ≡ sizes_of t.numbers
  sizes_are = h.live.sizes ∙ ap sizes_of h.kept.numbers

  -- each block has as many live pages
  counts_agree : (s : Spot) → live_count c.live s ≡ layer.live_count t s
  counts_agree s =
      ap (λ (n : Sizes). length (filter (is_live c.live) (map (place_in s) (below n.pages)))) sizes_are
      ∙ ap length (lives_agree c t h s)

  -- a reader keeps a page of a block where a task does
  pinned_agree : (s : Spot) → is_pinned c s ≡ layer.is_pinned t s
  pinned_agree s = pinned_as c t s h

  -- the state that is kept of a block of the dies is its state
  state_agrees : (s : Spot) → has_block (sizes_of t.numbers) s ≡ true →
      state_of c s.die s.block ≡ block_kept (t.disk.blocks s) (t.disk.vacancies s)
  state_agrees s there =
      let u : (nat_lt s.die t.numbers.dies ≡ true) × (nat_lt s.block t.numbers.blocks ≡ true) = and_parts _ _ there in
      state_is c t s.die s.block h (ltb-true s.die t.numbers.dies u.0) (ltb-true s.block t.numbers.blocks u.1)

  -- few blocks are free on both sides or on none
  few_agree : has_few_free c ≡ layer.has_few_free t
  few_agree = λ i. nat_lt (free_alike c t h.kept i) (wanted_room (h.kept.numbers i) (bad_alike c t h.kept i))

  -- as much is gained by collecting a block
  gains_agree : (s : Spot) (b : disk.BlockState) (v : disk.Vacancy) →
      gains c.live (has_few_free c) s (block_kept b v) ≡ layer.gains t s b
  gains_agree s disk.Free disk.Untouched = refl
  gains_agree s disk.Free disk.Stale = refl
  gains_agree s disk.Free disk.Ready = refl
  gains_agree s (disk.Filling next) v = refl
  gains_agree s disk.Closed v = λ i. few_agree i && nat_lt (counts_agree s i) (sizes_are i).pages
  gains_agree s disk.Bad v = λ i. not (few_agree i) && nat_lt 0 (counts_agree s i)

  -- the same blocks of the dies may be collected
  may_agree : (s : Spot) → has_block (sizes_of t.numbers) s ≡ true → may_be_victim c s ≡ layer.may_be_victim t s
  may_agree s there =
      let gained = ap (gains c.live (has_few_free c) s) (state_agrees s there) ∙ gains_agree s (t.disk.blocks s)
      (t.disk.vacancies s) in
      λ i. not (pinned_agree s i) && gained i

  -- and the same bad ones hold live pages
  bad_agree : (s : Spot) → has_block (sizes_of t.numbers) s ≡ true →
      is_bad_with_live c s ≡ layer.is_bad_with_live t s
  bad_agree s there =
      let bad = ap is_bad (state_agrees s there) ∙ same_bad (t.disk.blocks s) (t.disk.vacancies s) in
      λ i. bad i && not (pinned_agree s i) && nat_lt 0 (counts_agree s i)

-- the block that is found to be collected is the one that the layer is to collect
pub victims_agree : (c : Core) (t : Translation) → Describes c t → victim c ≡ layer.victim t
victims_agree c t h =
    ap (λ (n : Sizes). least_of (live_count c.live) None (filter (may_be_victim c) (spots_in n))) (sizes_are c t h)
    ∙ victim_same (sizes_of t.numbers) (live_count c.live) (layer.live_count t) (may_be_victim c)
    (layer.may_be_victim t) (λ s there. counts_agree c t h s) (may_agree c t h)

-- if no block is bad, none of them passes what only bad ones pass
none_bad : (bad test : Spot → Bool) → ((s : Spot) → bad s ≡ false → test s ≡ false) → (xs : List Spot) →
    list_any bad xs ≡ false → list_any test xs ≡ false
none_bad bad test only [] e = refl
none_bad bad test only (s ∷ ss) e = by (bad s) refl e (none_bad bad test only ss)
  where
    by : (b : Bool) → bad s ≡ b → (b || list_any bad ss) ≡ false →
        (list_any bad ss ≡ false → list_any test ss ≡ false) →
        (test s || list_any test ss) ≡ false
    by true is f rest = cc
    by false is f rest = ap (λ (x : Bool). x || list_any test ss) (only s is) ∙ rest f

-- something is to be collected exactly where the layer has few free blocks or a bad one with live pages
pub wants_agree : (c : Core) (t : Translation) → Describes c t → wants_collection c ≡ layer.wants_collection t
wants_agree c t h = by (nat_lt 0 (bad_blocks c)) (ap (nat_lt 0) (bad_alike c t h.kept))
  where
    bad : list_any (is_bad_with_live c) (spots_in c.live.sizes)
        ≡ list_any (layer.is_bad_with_live t) (spots t.numbers)
    bad = ap (λ (n : Sizes). list_any (is_bad_with_live c) (spots_in n)) (sizes_are c t h)
        ∙ any_same (sizes_of t.numbers) (is_bad_with_live c) (layer.is_bad_with_live t) (bad_agree c t h)

    by : (b : Bool) → b ≡ nat_lt 0 (count_by (λ (s : Spot). layer.is_bad (t.disk.blocks s)) (spots t.numbers)) →
        (has_few_free c || b && list_any (is_bad_with_live c) (spots_in c.live.sizes)) ≡ layer.wants_collection t
    by true e = λ i. few_agree c t h i || bad i
    by false e =
        let none = none_bad (λ (s : Spot). layer.is_bad (t.disk.blocks s))
        (layer.is_bad_with_live t)
        (λ s is. ap (λ (x : Bool). x && not (layer.is_pinned t s) && nat_lt 0 (layer.live_count t s)) is)
        (spots t.numbers)
        (some_one (λ (s : Spot). layer.is_bad (t.disk.blocks s)) (spots t.numbers) ∙ sym e) in
        (λ i. few_agree c t h i || sym none i)
