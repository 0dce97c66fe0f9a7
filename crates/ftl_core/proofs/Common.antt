-- What most of these proofs use: words and lemmas of std and of the crates below, and the words of this one.
pub use Rattle.block_table.proofs.Relations.{live_beside, live_here}
pub use Rattle.block_table.specs.Blocks.{is_bad}
pub use Rattle.block_table.specs.Lives.{Lives, has_block, has_page, is_live, spots_in, with_live}
pub use Rattle.block_table.specs.Rows.{filling_but}
pub use Rattle.block_table.specs.declared.BlockState.{BlockState}
pub use Rattle.block_table.specs.declared.Sizes.{Sizes}
pub use Rattle.block_table.specs.declared.rows.DieRow.{DieRow}
pub use Rattle.block_table.specs.declared.rows.Flight.{Flight}
pub use Rattle.block_table.specs.declared.rows.OpenBlock.{OpenBlock}
pub use Rattle.collector.specs.Plans.{Collection, layer_plan, place_of}
pub use Rattle.collector.specs.declared.PlannedCopy.{PlannedCopy}
pub use Rattle.ftl_core.specs.Collects.{has_few_free, is_bad_with_live, victim}
pub use Rattle.ftl_core.specs.Core.{Core}
pub use Rattle.ftl_core.specs.Describes.{AreToRepair, BlocksKept, CopiesKnown, CopyKept, Describes, DiesKept, IsFilling}
pub use Rattle.ftl_core.specs.Describes.{IsFlight, IsInNoSlot, IsLookOf, IsOf, IsStepCell, IsTaken, IsWanted, Kept}
pub use Rattle.ftl_core.specs.Describes.{LedgerKept, PageKept, PagesFly, PagesKept, PinKept, PinsKept, ReadsKept}
pub use Rattle.ftl_core.specs.Describes.{RepairKept, RowKept, Standing, StepKept, StepReadsKept, WorkKept, WritesGroup}
pub use Rattle.ftl_core.specs.Describes.{block_kept, keys_to_repair, mending_kept, name_at, names_pending, spot_at}
pub use Rattle.ftl_core.specs.Done.{IsFlightAfter, IsRowAfter}
pub use Rattle.ftl_core.specs.Ends.{copy_durable, copy_over, copy_pending, front_written, group_durable, mark_over}
pub use Rattle.ftl_core.specs.Ends.{noted, page_at, page_durable, page_durable_at, pending_written, plan_freed}
pub use Rattle.ftl_core.specs.Ends.{plan_over, repair_over, risen, settled, step_again, step_over, with_content}
pub use Rattle.ftl_core.specs.Gives.{IsBodyOf, IsReadAfter, IsReadOver, change_after, change_ended, ending, group_ended}
pub use Rattle.ftl_core.specs.Gives.{is_read}
pub use Rattle.ftl_core.specs.KnownLive.{IsWrittenAt, KnowsLive, StandsAt, none_live, sizes_of, with_stored}
pub use Rattle.ftl_core.specs.Moves.{bad_blocks, claimed_all, claims_for, first_page, has_mark_number, has_stale, is_so}
pub use Rattle.ftl_core.specs.Moves.{keeps_page, look_of_source, mark_ordered, may_be_used, next_number, page_written}
pub use Rattle.ftl_core.specs.Moves.{reads_for, repairs_in, rest_look, state_of, stored_of, went_bad, with_row}
pub use Rattle.ftl_core.specs.PinCounts.{ArePinsCounted}
pub use Rattle.ftl_core.specs.Public.{AreClaimed, AreClaimedBy, Claims}
pub use Rattle.ftl_core.specs.Rests.{IsPartBrought, awaits, new_page, own_name, part_of, rest_pinned, rest_unpinned}
pub use Rattle.ftl_core.specs.Rests.{rests_filled, waits, with_part_of, with_rest}
pub use Rattle.ftl_core.specs.RestsKept.{IsNumbered, RestKept, RestsKept, rest_kept, rest_of_name, source_kept, waiting}
pub use Rattle.ftl_core.specs.Rooms.{IsRoomy, core_of}
pub use Rattle.ftl_core.specs.Stops.{StopsRightGiven}
pub use Rattle.ftl_core.specs.Takes.{core_taken, first_owed, found_or, is_sealable, job_of, job_taken, lowest}
pub use Rattle.ftl_core.specs.Takes.{next_place, owed_read, owes_rest, page_waits, rest_read, rest_read_of, step_job}
pub use Rattle.ftl_core.specs.Takes.{step_read, step_wants, writes_page}
pub use Rattle.ftl_core.specs.Tells.{claim_at, claims_behind, claims_of_blocks, key_behind}
pub use Rattle.ftl_core.specs.Turns.{plan_next}
pub use Rattle.ftl_core.specs.declared.books.Brought.{Brought}
pub use Rattle.ftl_core.specs.declared.books.Step.{Step}
pub use Rattle.ftl_core.specs.declared.ftl.Ftl.TheInside.{Inside}
pub use Rattle.geometry.specs.Keys.{key_total}
pub use Rattle.power_loss.proofs.books.FrontierClimbs.{get_drop}
pub use Rattle.power_loss.proofs.books.LastOfEachKey.{IsLastOf, NoneOf, latest_cases}
pub use Rattle.power_loss.proofs.books.PagesByName.{added_page, entry_for, grown, none_some, page_grows, page_new}
pub use Rattle.power_loss.proofs.books.PagesByName.{page_one, page_within, some_is}
pub use Rattle.power_loss.proofs.books.SmallFacts.{and_true, at_die_cases, at_spot_cases, eq_self, if_false, if_true}
pub use Rattle.power_loss.proofs.books.SmallFacts.{name_cases, name_is, name_self, two_ways}
pub use Rattle.power_loss.proofs.laid_rests.AllMoves.{laid_move}
pub use Rattle.power_loss.proofs.moves.MovesKeepValid.{all_keep}
pub use Rattle.power_loss.proofs.ordered_lists.ElementsAndOrders.{IsIn, at_has, contained_in, filter_in, found_in}
pub use Rattle.power_loss.proofs.ordered_lists.ElementsAndOrders.{has_at, in_contained, in_mapped, kept_in, mapped_at}
pub use Rattle.power_loss.proofs.ordered_lists.ElementsAndOrders.{mapped_in}
pub use Rattle.power_loss.specs.Book.{Book, FirstRight, HasKey, IsPageAt, book, last_number}
pub use Rattle.power_loss.specs.Invariant.{IsLastRepair, IsNeededPage, MendingRight, Valid}
pub use Rattle.readers.specs.Pins.{is_of_reader, is_owed_by, is_pin_of, looks_on, most_pins, moved_pin, wanted_now}
pub use Rattle.readers.specs.Pins.{without_pins}
pub use Rattle.readers.specs.declared.pin.Pin.{Pin}
pub use Rattle.recovery.specs.declared.found.Found.{Found}
pub use Rattle.std.proofs.Common.{Bool, Contains, List, None, Option, Some, [], ap, arith, cond, drop, false, get_or}
pub use Rattle.std.proofs.Common.{inl, inr, le-ltb, length, length-append, lt-ltb, map, min, refl, rules, subst, suc}
pub use Rattle.std.proofs.Common.{sym, take, true, zero, ℕ, ⊎_elim, ◌*◌, ◌++◌, ◌+◌, ◌<◌, ◌∙◌, ◌∷◌, ◌≡◌, ◌≢◌, ◌≤◌, ◌⊎◌}
pub use Rattle.std.proofs.lemmas.Bool.{cases_lt}
pub use Rattle.std.proofs.lemmas.Bool.Decides.{eqb_tells, nat_tests}
pub use Rattle.std.proofs.lemmas.List.{append-nil, append_assoc, length-drop, length-map, length-replicate, map-append}
pub use Rattle.std.proofs.lemmas.List.Elements.{All-cons, All-head, All-map, All-nil, All-tail, filter-append}
pub use Rattle.std.proofs.lemmas.List.Elements.{filter_map-append}
pub use Rattle.std.proofs.lemmas.List.Folds.{list_any-append}
pub use Rattle.std.proofs.lemmas.List.Sums.{sum_by-cons}
pub use Rattle.std.proofs.lemmas.Option.{get_or_from_slice_get, slice_get-map, slice_get_within}
pub use Rattle.std.specs.List.{cons_option, list_any}
pub use Rattle.std.specs.Prelude.{All, filter, filter_map, find, fold, if◌then◌else◌, is_none, is_some, nat_le, nat_lt}
pub use Rattle.std.specs.Prelude.{not, option_and_then, option_map, position, replicate, slice_get, slice_set}
pub use Rattle.std.specs.Prelude.{unwrap_or, ◌&&◌, ◌-◌, ◌==◌, ◌||◌}
pub use Rattle.ufs_spec.proofs.CellKinds.{page_not_nothing}
pub use Rattle.ufs_spec.proofs.Equalities.{place_cases}
pub use Rattle.ufs_spec.proofs.Facts.{and_from, and_parts, cases_Bool, eq-eqb, eqb-true, false≢true, ltb-true}
pub use Rattle.ufs_spec.proofs.Facts.{none-some, none_is, or_parts, same_Some, true≢false}
pub use Rattle.ufs_spec.proofs.Lists.{any_here, find_behind, find_some, get_below, get_there, length-below}
pub use Rattle.ufs_spec.proofs.Lists.{position_told, set_length}
pub use Rattle.ufs_spec.specs.Cells.{Cell, Cells, GroupPage, IsCell, Mark, MarkPage, Nothing, key_of}
pub use Rattle.ufs_spec.specs.Configs.{InRange}
pub use Rattle.ufs_spec.specs.Disk.{Spot, at_die, at_place, at_spot, job_of as told_by, state_after}
pub use Rattle.ufs_spec.specs.Keys.{Group, IsKey, Item, below}
pub use Rattle.ufs_spec.specs.Ledger.{Entry, Ledger, all_stand, before_accepted, climbed, entry_of, index_in}
pub use Rattle.ufs_spec.specs.Ledger.{latest_durable, latest_in, look, looked_on, name_or, pending, same_name}
pub use Rattle.ufs_spec.specs.Moves.{Accept, EndJob, Ending, IsAllowedMove, IsAnother, IsEndingOf, MayEnd, ReadRight}
pub use Rattle.ufs_spec.specs.Moves.{ReadWrong, Release, WentWell, WentWrong, end_flight, look_now, mark_again, moved}
pub use Rattle.ufs_spec.specs.Moves.{settled_pin, step_after, step_there}
pub use Rattle.ufs_spec.specs.Pages.{greatest_number}
pub use Rattle.ufs_spec.specs.Plain.{Shape, regions, shape_of_numbers}
pub use Rattle.ufs_spec.specs.Translation.{CopyStep, FromPage, MayTake, Mended, Mending, Order, OrderMark}
pub use Rattle.ufs_spec.specs.Translation.{OrderPlanMark, OrderRepair, RepairStep, Repairing, StepKind, Translation}
pub use Rattle.ufs_spec.specs.Translation.{Unmarked, Want, awaited_read, flies_name, is_mended, is_rest_of, name_of}
pub use Rattle.ufs_spec.specs.Translation.{names_after, names_of, read_from, some_flight, spots, stepped, want_at}
pub use Rattle.ufs_spec.specs.Translation.{wants_of_step, wants_on}
pub use Rattle.ufs_spec.specs.declared.configs.Numbers.{Numbers}
pub use Rattle.ufs_spec.specs.declared.flash.Fence.{Fence}
pub use Rattle.ufs_spec.specs.declared.flash.Job.{Job}
pub use Rattle.ufs_spec.specs.declared.flash.Key.{Key}
pub use Rattle.ufs_spec.specs.declared.flash.Outcome.{Outcome}
pub use Rattle.ufs_spec.specs.declared.flash.Page.{Page}
pub use Rattle.ufs_spec.specs.declared.flash.Place.{Place}
pub use Rattle.ufs_spec.specs.declared.flash.Tag.{Tag}
pub use Rattle.ufs_spec.specs.declared.layer.Looked.{Looked}
pub use Rattle.ufs_spec.specs.declared.layer.Looked.TheVariants.{InSlot, OnPage, Unwritten}
pub use Rattle.ufs_spec.specs.declared.layer.Name.{Name}
pub use Rattle.ufs_spec.specs.declared.layer.Reader.{Reader}
pub use Rattle.ufs_spec.specs.declared.layer.Reader.TheVariants.{ForNobody, ForRest, ForStep, ForTask}
pub use Rattle.unit_map.specs.Places.{UnitMap, flat, places_noted, position_of, stored_in}
pub use Rattle.unit_map.specs.declared.Stored.{Stored}
pub use Rattle.write_cache.specs.Kept.{WriteCache}
pub use Rattle.write_cache.specs.Ready.{first_waiting_from}
pub use Rattle.write_cache.specs.Rests.{awaited_by, completed, completed_by, content_by, content_of, page_brought}
pub use Rattle.write_cache.specs.Rests.{read_by}
pub use Rattle.write_cache.specs.Slots.{claim_filled, empty_claim, is_claim_of, is_named, is_of_group, is_unwritten}
pub use Rattle.write_cache.specs.Slots.{key_at, last_page, page_claimed, written_at, written_if}
pub use Rattle.write_cache.specs.declared.rests.OwedSource.{OwedSource}
pub use Rattle.write_cache.specs.declared.rests.Rest.{Rest}
pub use Rattle.write_cache.specs.declared.slots.Claimed.{Claimed}
pub use Rattle.write_cache.specs.declared.slots.Pending.{Pending}
