-- What most of these proofs use: words and lemmas of std and of the crates below, and the words of this one.
pub use Rattle.block_table.specs.Blocks.{Blocks, state_of}
pub use Rattle.block_table.specs.Buckets.{Buckets, IsLowest, IsWord, Stands, bit, has, has_in, moved, with_bit}
pub use Rattle.block_table.specs.Buckets.{with_block, words_for}
pub use Rattle.block_table.specs.LiveRooms.{AreCounted, has_no_pin, lives_of}
pub use Rattle.block_table.specs.Lives.{Lives, block_place, gains, has_block, is_live, is_pinned, live_count}
pub use Rattle.block_table.specs.Lives.{may_be_victim, spot}
pub use Rattle.block_table.specs.Lowest.{is_used_from}
pub use Rattle.block_table.specs.Places.{is_bad_at, is_victim_at, spot_there}
pub use Rattle.block_table.specs.Sorted.{IsWordOf, blocks_in, same_state, state_there}
pub use Rattle.block_table.specs.Victims.{CanBeVictim, IsVictim}
pub use Rattle.block_table.specs.declared.BlockState.{BlockState}
pub use Rattle.block_table.specs.declared.Sizes.{Sizes}
pub use Rattle.std.proofs.Common.{Bool, List, None, Option, Some, [], ap, arith, cond, false, get_or, if◌then◌else◌}
pub use Rattle.std.proofs.Common.{inl, inr, length, not, refl, replicate, rules, subst, suc, sym, true, zero, ℕ, ◌%◌}
pub use Rattle.std.proofs.Common.{◌&&◌, ◌*◌, ◌++◌, ◌+◌, ◌-◌, ◌/◌, ◌<◌, ◌^◌, ◌||◌, ◌∙◌, ◌∷◌, ◌≡◌, ◌≤◌, ◌⊎◌}
pub use Rattle.std.proofs.Math.Nat.{mul_comm}
pub use Rattle.std.proofs.lemmas.Bool.{and_right, ne_eqb}
pub use Rattle.std.proofs.lemmas.Grind.{flat_map-append}
pub use Rattle.std.proofs.lemmas.List.{length-replicate, map-append}
pub use Rattle.std.proofs.lemmas.Nat.{mul-add-lt}
pub use Rattle.std.proofs.lemmas.Option.{slice_get_past, slice_get_read}
pub use Rattle.std.specs.Bool.{beq}
pub use Rattle.std.specs.Int.{bit_not, trailing_zeros, w64}
pub use Rattle.std.specs.List.{flat_map, list_any}
pub use Rattle.std.specs.Prelude.{bit_and, bit_or, count_by, filter, map, nat_le, nat_lt, slice_get, slice_set}
pub use Rattle.std.specs.Prelude.{unwrap_or, ◌==◌}
pub use Rattle.ufs_spec.proofs.Facts.{and_from, and_parts, cases_Bool, cases_eq, cases_lt, eq-eqb, eqb-self, eqb-true}
pub use Rattle.ufs_spec.proofs.Facts.{false_from_ne_true, false≢true, le-leb, le-ltb, lt-ltb, ltb-true}
pub use Rattle.ufs_spec.proofs.Lists.{get_replicate, set_length, set_other, set_there}
pub use Rattle.ufs_spec.specs.Disk.{Spot, place_in, spot_of}
pub use Rattle.ufs_spec.specs.Keys.{below}
pub use Rattle.ufs_spec.specs.declared.flash.Place.{Place}
