-- The lowest block of a die that may be used is the one that the table of live pages finds.
use Rattle.ftl_core.proofs.Common.{BlockState, Bool, Inside, IsRoomy, None, Option, Some, and_from, and_parts, ap}
use Rattle.ftl_core.proofs.Common.{arith, core_of, has_block, is_so, length, ltb-true, may_be_used, refl, state_of, sym}
use Rattle.ftl_core.proofs.Common.{true, ℕ, ◌*◌, ◌+◌, ◌<◌, ◌∙◌, ◌≡◌}
use Rattle.std.proofs.Common.{nat_lt, not, slice_get, unwrap_or, ◌&&◌}
use Rattle.ufs_spec.proofs.Facts.{lt-ltb}
use Rattle.block_table.specs.Blocks.{state_of as table_state}
use Rattle.block_table.specs.Lives.{is_pinned, spot}
use Rattle.block_table.specs.Lowest.{IsLowestBlock, may_be_used as may_be_used_there}
use Rattle.block_table.specs.Sorted.{same_state}
use Rattle.block_table.specs.declared.BlockState.TheVariants as state
use Rattle.ftl_core.specs.Takes.{lowest_below}
use Rattle.ftl_core.proofs.job_taken.Lowest.{lowest, none_below}
use Rattle.ftl_core.proofs.live_pages.PinsCounted.{pinned_is}

-- states are compared in the same way
same_is : (a b : BlockState) → same_state a b ≡ is_so a b
same_is state.Free state.Free = refl
same_is state.Free state.Stale = refl
same_is state.Free state.Ready = refl
same_is state.Free state.Open = refl
same_is state.Free state.Closed = refl
same_is state.Free state.Bad = refl
same_is state.Stale state.Free = refl
same_is state.Stale state.Stale = refl
same_is state.Stale state.Ready = refl
same_is state.Stale state.Open = refl
same_is state.Stale state.Closed = refl
same_is state.Stale state.Bad = refl
same_is state.Ready state.Free = refl
same_is state.Ready state.Stale = refl
same_is state.Ready state.Ready = refl
same_is state.Ready state.Open = refl
same_is state.Ready state.Closed = refl
same_is state.Ready state.Bad = refl
same_is state.Open state.Free = refl
same_is state.Open state.Stale = refl
same_is state.Open state.Ready = refl
same_is state.Open state.Open = refl
same_is state.Open state.Closed = refl
same_is state.Open state.Bad = refl
same_is state.Closed state.Free = refl
same_is state.Closed state.Stale = refl
same_is state.Closed state.Ready = refl
same_is state.Closed state.Open = refl
same_is state.Closed state.Closed = refl
same_is state.Closed state.Bad = refl
same_is state.Bad state.Free = refl
same_is state.Bad state.Stale = refl
same_is state.Bad state.Ready = refl
same_is state.Bad state.Open = refl
same_is state.Bad state.Closed = refl
same_is state.Bad state.Bad = refl

-- a block of the die may be used where the table says so
used_there : (f : Inside) → IsRoomy f → (die block : ℕ) (s : BlockState) → die < length f.blocks.rows →
    block < f.config.blocks →
    may_be_used_there f.live f.blocks die s block ≡ may_be_used (core_of f) die s block
used_there f room die block s die_there block_there =
    let in_dies : die < f.live.sizes.dies = omega (arith, room.live_dies, die_there) in
    let in_blocks : block < f.live.sizes.blocks = omega (arith, room.live_blocks, block_there) in
    let there : has_block f.live.sizes (spot die block) ≡ true =
    and_from _ _ (lt-ltb die f.live.sizes.dies in_dies) (lt-ltb block f.live.sizes.blocks in_blocks) in
    ap (λ (b : Bool). b && (same_state (table_state f.blocks die block) s && not (is_pinned f.live (spot die block)))) there
    ∙ ap (λ (b : Bool). b && not (is_pinned f.live (spot die block))) (same_is (table_state f.blocks die block) s)
    ∙ ap (λ (n : ℕ).
    is_so (unwrap_or (slice_get f.blocks.states (die * n + block)) state.Bad) s && not (is_pinned f.live (spot die block)))
    room.blocks
    ∙ ap (λ (b : Bool). is_so (state_of (core_of f) die block) s && not b)
    (pinned_is f.live f.pins f.cache.pages die block room.pinned in_dies in_blocks)

-- the block that the table finds is the lowest of the die that may be used
pub found_lowest : (f : Inside) → IsRoomy f → (die : ℕ) (s : BlockState) → die < length f.blocks.rows →
    (found : Option ℕ) → IsLowestBlock f.live f.blocks die s found →
    found ≡ lowest_below (may_be_used (core_of f) die s) f.config.blocks
found_lowest f room die s die_there None none =
    sym (none_below (may_be_used (core_of f) die s) f.config.blocks
    (λ block less. sym (used_there f room die block s die_there less) ∙ none block))
found_lowest f room die s die_there (Some block) is =
    let parts = and_parts (has_block f.live.sizes (spot die block)) _ is.passes in
    let in_blocks = ltb-true block f.live.sizes.blocks
    (and_parts (nat_lt die f.live.sizes.dies) (nat_lt block f.live.sizes.blocks) parts.0).1 in
    let less : block < f.config.blocks = omega (arith, in_blocks, room.live_blocks) in
    sym (lowest (may_be_used (core_of f) die s) f.config.blocks block less
    (sym (used_there f room die block s die_there less) ∙ is.passes)
    (λ other low. sym (used_there f room die other s die_there (omega (arith, low, less))) ∙ is.below other low))
