-- What most of these proofs use: words and lemmas of std and of the crates below, and the words of this one.
pub use Rattle.geometry.proofs.Indexes.{index_known}
pub use Rattle.geometry.specs.Keys.{IsIndex, key_total}
pub use Rattle.page_tag.specs.Contents.{mark_of}
pub use Rattle.power_loss.specs.FreeBlocks.{block_by, blocks_by}
pub use Rattle.recovery.specs.Buckets.{AreTags, HasIndex, IsAmong, IsBucket}
pub use Rattle.recovery.specs.Found.{IsFound, bad_in, newest_found}
pub use Rattle.recovery.specs.Frees.{AreByAge, AreGreatest, AreHeld, AreNeeded, AreRising, AreSamePages, HasOther}
pub use Rattle.recovery.specs.Frees.{IsBefore, IsDecided, IsNeededIn, PagesRecord, RecordsUpTo, block_of, is_free_in}
pub use Rattle.recovery.specs.Frees.{is_outside, spot_number}
pub use Rattle.recovery.specs.KeysInOrder.{AreMarked, IsNewestOf, found_block, is_fenced}
pub use Rattle.recovery.specs.Listed.{AreListed, AreMarksListed, IsContentPage, IsMarksRecord, outside}
pub use Rattle.recovery.specs.Reading.{IsJoined, IsTable, IsTableOf, IsTableTo, NoLower, ShowsDie, ShowsDies, newest_in}
pub use Rattle.recovery.specs.Reading.{place_at}
pub use Rattle.recovery.specs.declared.found.Found.{Found}
pub use Rattle.recovery.specs.declared.free.Aged.{Aged}
pub use Rattle.recovery.specs.declared.kept.Bucket.{Bucket}
pub use Rattle.recovery.specs.declared.pages.FoundMark.{FoundMark}
pub use Rattle.recovery.specs.declared.pages.FoundPage.{FoundPage}
pub use Rattle.recovery.specs.declared.reading.Table.{Table}
pub use Rattle.std.proofs.Common.{Bool, List, None, Option, Some, [], add-one, ap, arith, false, get_or, if◌then◌else◌}
pub use Rattle.std.proofs.Common.{inl, inr, length, length-append, map, max, nat_le, nat_lt, not, refl, replicate}
pub use Rattle.std.proofs.Common.{rules, subst, suc, sym, take, true, zero, ℕ, ⊎_elim, ◌&&◌, ◌*◌, ◌++◌, ◌+◌, ◌/◌, ◌<◌}
pub use Rattle.std.proofs.Common.{◌∙◌, ◌∷◌, ◌≡◌, ◌≢◌, ◌≤◌, ◌⊎◌}
pub use Rattle.std.proofs.lemmas.Bool.{cases_eq}
pub use Rattle.std.proofs.lemmas.List.{length-map, length-replicate}
pub use Rattle.std.proofs.lemmas.List.Sorted.{IsPartitionPoint-from_clause}
pub use Rattle.std.proofs.lemmas.Option.{get_or_from_slice_get, slice_get-get_or, slice_get-map, slice_get_within}
pub use Rattle.std.proofs.lemmas.Result.{IfErr-weaker, IfOk-weaker, on_ok_weaker}
pub use Rattle.std.specs.List.{filter, flat_map}
pub use Rattle.std.specs.Prelude.{IfOk, option_map, slice_get, slice_index_or, slice_set}
pub use Rattle.ufs_laws.proofs.pages.PageIsOneCell.{one_cell}
pub use Rattle.ufs_spec.proofs.CellKinds.{mark_not_nothing, page_not_nothing}
pub use Rattle.ufs_spec.proofs.Facts.{and_from, and_parts, cases_Bool, cases_lt, cond-false, cond-true, false≢true}
pub use Rattle.ufs_spec.proofs.Facts.{lt-ltb, ltb-false, ltb-true, none-some, not-true, same_Some, true≢false}
pub use Rattle.ufs_spec.proofs.Lists.{get_front, get_grows, get_last, get_there}
pub use Rattle.ufs_spec.specs.Cells.{AreWithin, Array, Cell, Cells, GroupPage, IsCell, Mark, MarkPage, Nothing, Shows}
pub use Rattle.ufs_spec.specs.Cells.{key_of}
pub use Rattle.ufs_spec.specs.Dies.{DieState, IsOfSize, LiesOnDie, new_die, page_at}
pub use Rattle.ufs_spec.specs.Disk.{Spot, at_place, spot_of}
pub use Rattle.ufs_spec.specs.Kept.{Counts, HasNone, Holds, IsFenced, IsKept, IsNewest, IsNewestMark, fence_in}
pub use Rattle.ufs_spec.specs.Keys.{IsKey, below, same_key}
pub use Rattle.ufs_spec.specs.Lives.{Fit, array_of, bad_of}
pub use Rattle.ufs_spec.specs.Openings.{AreLost, IsNotHigher}
pub use Rattle.ufs_spec.specs.Pages.{greatest_number, group_bound}
pub use Rattle.ufs_spec.specs.Plain.{Shape, shape_of_numbers, shape_of_numbers as shape}
pub use Rattle.ufs_spec.specs.Sound.{CellsSound}
pub use Rattle.ufs_spec.specs.Translation.{spots}
pub use Rattle.ufs_spec.specs.declared.configs.Numbers.{Numbers}
pub use Rattle.ufs_spec.specs.declared.faults.OpenFault.{OpenFault}
pub use Rattle.ufs_spec.specs.declared.flash.Fence.{Fence}
pub use Rattle.ufs_spec.specs.declared.flash.Key.{Key}
pub use Rattle.ufs_spec.specs.declared.flash.Page.{Page}
pub use Rattle.ufs_spec.specs.declared.flash.Place.{Place}
pub use Rattle.ufs_spec.specs.declared.flash.Tag.{Tag}
