-- A number of which a test holds, and of none below it, is the lowest; and no block is the lowest stale one where none
-- is stale.
use Rattle.ftl_core.proofs.Common.{BlockState, Bool, Core, None, Option, Some, ap, arith, false, found_or, has_stale}
use Rattle.ftl_core.proofs.Common.{inl, inr, is_so, may_be_used, refl, suc, sym, true, zero, ℕ, ◌&&◌, ◌<◌, ◌∙◌, ◌≡◌}
use Rattle.ftl_core.proofs.Common.{◌≤◌}
use Rattle.std.proofs.Math.Nat.{eq-or-lt_of_le}
use Rattle.std.proofs.Common.{not, option_map, slice_get, true≢false, unwrap_or}
use Rattle.std.proofs.lemmas.Map.Keys.{any_passes_from_place}
use Rattle.block_table.specs.Blocks.{is_stale}
use Rattle.block_table.specs.declared.BlockState.TheVariants as state
use Rattle.block_table.specs.declared.rows.Flight.TheVariants as flight
use Rattle.ftl_core.specs.Moves.{has_pin, state_index}
use Rattle.ftl_core.specs.Takes.{erase_of, lowest_below}

pub none_below : (test : ℕ → Bool) (n : ℕ) → ((k : ℕ) → k < n → test k ≡ false) → lowest_below test n ≡ None
unfolding lowest_below
none_below test zero none = refl
none_below test (suc n) none =
    ap (λ r. found_or r (test n) n) (none_below test n (λ k less. none k (omega arith)))
    ∙ ap (λ t. found_or None t n) (none n (omega arith))

pub lowest : (test : ℕ → Bool) (n b : ℕ) → b < n → test b ≡ true → ((k : ℕ) → k < b → test k ≡ false) →
    lowest_below test n ≡ Some b
unfolding lowest_below
lowest test zero b less right none = absurd (omega arith)
lowest test (suc n) b less right none =
    let below_next : b ≤ n = omega arith in
    elim (eq-or-lt_of_le below_next) [
      | inl is ↦
          ap (λ r. found_or r (test n) n) (none_below test n (λ k l. none k (omega arith)))
          ∙ ap (λ t. found_or None t n) (ap test (sym is) ∙ right)
          ∙ ap (λ m. Some m) (sym is)
      | inr below ↦ ap (λ r. found_or r (test n) n) (lowest test n b below right none)
    ]

-- where no block is stale, the one of this die and number is not
not_stale : (c : Core) (die block : ℕ) (o : Option BlockState) → slice_get c.states (state_index c die block) ≡ o →
    has_stale c ≡ false → is_so (unwrap_or o state.Bad) state.Stale ≡ false
not_stale c die block None e none = refl
not_stale c die block (Some state.Free) e none = refl
not_stale c die block (Some state.Stale) e none =
    absurd (true≢false
    (sym (any_passes_from_place is_stale c.states (state_index c die block) state.Stale e refl) ∙ none))
not_stale c die block (Some state.Ready) e none = refl
not_stale c die block (Some state.Open) e none = refl
not_stale c die block (Some state.Closed) e none = refl
not_stale c die block (Some state.Bad) e none = refl

pub none_stale : (c : Core) (die : ℕ) → has_stale c ≡ false → erase_of c die state.Stale ≡ None
none_stale c die none =
    ap (option_map flight.Erase)
    (none_below (may_be_used c die state.Stale) c.numbers.blocks (λ block less.
    ap (λ b. b && not (has_pin c die block))
    (not_stale c die block (slice_get c.states (state_index c die block)) refl none)))
