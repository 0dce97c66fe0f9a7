-- What most of these proofs use: words and lemmas of std, the words of the translation layer and of its invariant, and
-- the small lemmas of the specification.
pub use Rattle.power_loss.specs.Book.{AreWholeAbove, BaseAt, BaseNone, Book, BookRight, CellsRight, FirstRight, HasKey}
pub use Rattle.power_loss.specs.Book.{IsFenceMark, IsKnown, IsLostNumber, IsOverwritten, IsPageAt, IsPlainMark}
pub use Rattle.power_loss.specs.Book.{IsWholeOld, IsWritten, book, last_number, page_at}
pub use Rattle.power_loss.specs.Invariant.{AreNumbered, BlocksRight, EraseRight, FenceRight, Flights}
pub use Rattle.power_loss.specs.Invariant.{FlightsRight, FrontierRight, HistoryRight, IsGroupPage, IsLastRepair}
pub use Rattle.power_loss.specs.Invariant.{IsLaterMark, IsNeededPage, IsOpenedOrOwn, IsOwnMark, IsPrefix, IsSafe}
pub use Rattle.power_loss.specs.Invariant.{IsSecure, IsToCopy, LookedRight, MarkFlightRight, MarkStands, MarkStepRight}
pub use Rattle.power_loss.specs.Invariant.{MarksRight, MendingRight, OnePlanRight, PagesRight, PinsRight, PlanRight}
pub use Rattle.power_loss.specs.Invariant.{ProgramRight, ReadsRight, RepairingRight, RestsRight, SafeRight, SlotsRight}
pub use Rattle.power_loss.specs.Invariant.{SourceRight, Standing, StandsIn, StepKindRight, StepRight, ToReadRight}
pub use Rattle.power_loss.specs.Invariant.{AreNoneStale, IsThereOrSpare, MayBeErased, StaleRight, VacanciesRight, Valid}
pub use Rattle.std.proofs.Common.{All, Bool, List, None, Option, Some, [], ap, arith, cond, drop, false, fold, get_or}
pub use Rattle.std.proofs.Common.{if◌then◌else◌, inl, inr, is_none, is_some, length, lt-ltb, map, min, not, refl}
pub use Rattle.std.proofs.Common.{replicate, slice_get, subst, suc, sym, take, true, zero, ℕ, ⊎_elim, ◌&&◌, ◌*◌, ◌++◌}
pub use Rattle.std.proofs.Common.{◌+◌, ◌-◌, ◌<◌, ◌==◌, ◌^◌, ◌||◌, ◌∙◌, ◌∷◌, ◌≡◌, ◌≢◌, ◌≤◌, ◌⊎◌}
pub use Rattle.std.proofs.lemmas.Bool.{cases_order, leb-true}
pub use Rattle.std.proofs.lemmas.Bool.Decides.{eqb_tells, nat_tests}
pub use Rattle.std.proofs.lemmas.List.{append-nil, append_assoc, drop-append-le, drop_all, get_or-map, length-append}
pub use Rattle.std.proofs.lemmas.List.{length-drop, length-map, length-take-le, take-append-drop}
pub use Rattle.std.proofs.lemmas.List.Elements.{All-append, All-cons, All-contains, All-filter, All-head, All-map}
pub use Rattle.std.proofs.lemmas.List.Elements.{All-nil, All-push, All-tail, All-weaker}
pub use Rattle.std.proofs.lemmas.List.Folds.{list_any-append}
pub use Rattle.std.proofs.lemmas.List.Sums.{sum_by-cons}
pub use Rattle.std.proofs.lemmas.Option.{get_or_from_slice_get, slice_get-get_or, slice_get_within}
pub use Rattle.std.specs.Global.{Vec}
pub use Rattle.std.specs.List.{AllByRecursion, cons_option, flat_map, list_any}
pub use Rattle.std.specs.Prelude.{Contains, Ok, filter, filter_map, find, nat_le, nat_lt, option_and_then, option_map}
pub use Rattle.std.specs.Prelude.{slice_index_or}
pub use Rattle.ufs_spec.proofs.CellKinds.{erase_unread, mark_not_nothing, one_mark, one_page, page_not_mark}
pub use Rattle.ufs_spec.proofs.CellKinds.{page_not_nothing, program_unread}
pub use Rattle.ufs_spec.proofs.ConfigFacts.{config_tests, ranges}
pub use Rattle.ufs_spec.proofs.Equalities.{name_cases, name_is, name_self, place_cases, spot_cases}
pub use Rattle.ufs_spec.proofs.Facts.{and_from, and_parts, at_most, cases_Bool, cond-false, cond-true, eqb-self}
pub use Rattle.ufs_spec.proofs.Facts.{eqb-true, false≢true, if_both, ltb-false, ltb-true, none-some, none_is, not-false}
pub use Rattle.ufs_spec.proofs.Facts.{not-true, or_cases, or_left, or_parts, or_right, same_Some, true≢false}
pub use Rattle.ufs_spec.proofs.Lists.{any_none, get_splits, grown_length, none_in_empty}
pub use Rattle.ufs_spec.proofs.PlainFacts.{kept_shape, new_shape, shape_after}
pub use Rattle.ufs_spec.proofs.SealedPages.{opened_check, torn_is_nothing}
pub use Rattle.ufs_spec.proofs.Updates.{at_die_is, at_name_cases, at_place_cases, at_place_is, at_spot_cases}
pub use Rattle.ufs_spec.proofs.Updates.{at_spot_is}
pub use Rattle.ufs_spec.specs.Cells.{AreWithin, Array, Cell, Cells, DataHold, GroupPage, IsCell, IsFence, IsPlace, Mark}
pub use Rattle.ufs_spec.specs.Cells.{MarkPage, Nothing, Opens, Shows, key_of, mark_tag, same_place}
pub use Rattle.ufs_spec.specs.Disk.{Bad, BlockState, CellCrash, Closed, Crash, Disk, Erasing, Filling, Flight}
pub use Rattle.ufs_spec.specs.Disk.{Free, HasCopy, IsNewestFinished, IsReplaced}
pub use Rattle.ufs_spec.specs.Disk.{MayErase, Programming, Reading, Ready, Spent, SpentBy, Spot, Stale, Touches}
pub use Rattle.ufs_spec.specs.Disk.{Untouched, Vacancy, at_die, at_place, at_spot, blocks_begun, erase_failed, erased}
pub use Rattle.ufs_spec.specs.Disk.{flight_alone, job_begun, page_of, place_in, program_failed, programmed, same_spot}
pub use Rattle.ufs_spec.specs.Disk.{spot_of, state_after, with_erasing}
pub use Rattle.ufs_spec.specs.Kept.{CellsStandFor, Counts, HasPage, HoldAll, Holds, IsFenced, IsKept, IsNewestMark}
pub use Rattle.ufs_spec.specs.Kept.{IsRecorded, IsWhole, StandsFor, fence_in, recorded_in}
pub use Rattle.ufs_spec.specs.Keys.{CanApplyAll, Contents, Group, IsArea, IsBlock, IsCommand, IsData, IsKey, IsPlain}
pub use Rattle.ufs_spec.specs.Keys.{IsSettings, IsSettingsBody, Item, below, content, data_key, group_of, groups_of}
pub use Rattle.ufs_spec.specs.Keys.{put_group, put_groups, same_key}
pub use Rattle.ufs_spec.specs.Ledger.{Entry, Ledger, accepted_groups}
pub use Rattle.ufs_spec.specs.Ledger.{all_stand, at_name, before_accepted, climbed, durable_contents, entry_in}
pub use Rattle.ufs_spec.specs.Ledger.{index_in, is_name, is_standing, latest, latest_durable, latest_in, look}
pub use Rattle.ufs_spec.specs.Ledger.{looked_at, looked_on, name_or, next_number, page_stands, same_name, settled_look}
pub use Rattle.ufs_spec.specs.Moves.{Accept, Acknowledge, Claim, EndJob, Ending, GiveJob, IsAllowedMove, IsGroup, Keep}
pub use Rattle.ufs_spec.specs.Moves.{KeysDiffer, LetGo, LetGoAll, MayEnd, Move, ReadRight, ReadWrong, Release, TakeStep}
pub use Rattle.ufs_spec.specs.Moves.{WantPage, WentWell, WentWrong, die_idle, end_flight, ending_fits, freed, is_for}
pub use Rattle.ufs_spec.specs.Moves.{is_for_task, is_kind_of, is_pin_of, job_ended, mark_again, mending_after, moved}
pub use Rattle.ufs_spec.specs.Moves.{read_right, read_wrong, settled_pin, step_after, step_there, with_wanted}
pub use Rattle.ufs_spec.specs.Moves.{without_reader}
pub use Rattle.ufs_spec.specs.Openings.{AreFirstBlocks, AreLost, HasName, HasStandIn, IsAtMost, IsBefore, IsEntry}
pub use Rattle.ufs_spec.specs.Openings.{IsFirst}
pub use Rattle.ufs_spec.specs.Openings.{IsFirstFence, IsMendingAt, IsOpenedTranslation, IsSpare, IsTakenBefore}
pub use Rattle.ufs_spec.specs.Openings.{IsGreatestSeen, Overwrites, StandsAt}
pub use Rattle.ufs_spec.specs.Openings.{lost_from}
pub use Rattle.ufs_spec.specs.Openings.{number_of}
pub use Rattle.ufs_spec.specs.Pages.{IsCheckRight, MayBeLeft}
pub use Rattle.ufs_spec.specs.Plain.{CanApply, Plain, Shape, after, apply, block_at, shape_of, shape_of_numbers}
pub use Rattle.ufs_spec.specs.Plain.{zero_block}
pub use Rattle.ufs_spec.specs.Sound.{CellsSound, CellsSuit, SamePage, Sound, Suits}
pub use Rattle.ufs_spec.specs.Translation.{CopyStep, FromPage, FromSlot, MarkStep, MayTake, Mended, Mending, Order}
pub use Rattle.ufs_spec.specs.Translation.{OrderCopy, OrderMark, OrderPlanMark, OrderRepair, Pin, Plan, RepairStep}
pub use Rattle.ufs_spec.specs.Translation.{Repairing, Rest, Source, Step, StepKind, Translation, Unmarked, Want}
pub use Rattle.ufs_spec.specs.Translation.{cell_now, cell_of_entry, copy_begun, due_order, flies_mark, flies_name}
pub use Rattle.ufs_spec.specs.Translation.{flight_at, flight_for, free_slots, has_mark_number, has_number}
pub use Rattle.ufs_spec.specs.Translation.{has_open_block, has_room_for_groups, is_free}
pub use Rattle.ufs_spec.specs.Translation.{is_live, is_live_cell, is_locked, is_mended, is_needed, is_pinned}
pub use Rattle.ufs_spec.specs.Translation.{is_rest_of, is_step_due, live_places, looks_into, mark_ordered}
pub use Rattle.ufs_spec.specs.Translation.{may_open_for_group, may_open_for_step}
pub use Rattle.ufs_spec.specs.Translation.{name_of, names_after, next_order, next_place, ordered, pending_pages}
pub use Rattle.ufs_spec.specs.Translation.{plan_order, reads_from, records_now, repair_ordered, rests_of, some_flight}
pub use Rattle.ufs_spec.specs.Translation.{source_of, spots, standing_of, stands_there, step_cell, step_flies, stepped}
pub use Rattle.ufs_spec.specs.Translation.{tag_of, taken, turned, victim, victim_order, waiting_name, waiting_step}
pub use Rattle.ufs_spec.specs.Translation.{want_at, wants_collection, wants_of_step, with_plan}
pub use Rattle.ufs_spec.specs.declared.configs.Numbers.{Numbers}
pub use Rattle.ufs_spec.specs.declared.flash.Fence.{Fence}
pub use Rattle.ufs_spec.specs.declared.flash.Key.{Key}
pub use Rattle.ufs_spec.specs.declared.flash.Page.{Page}
pub use Rattle.ufs_spec.specs.declared.flash.Place.{Place}
pub use Rattle.ufs_spec.specs.declared.flash.Tag.{Tag}
pub use Rattle.ufs_spec.specs.declared.layer.Looked.{Looked}
pub use Rattle.ufs_spec.specs.declared.layer.Looked.TheVariants.{InSlot, OnPage, Unwritten}
pub use Rattle.ufs_spec.specs.declared.layer.Name.{Name}
pub use Rattle.ufs_spec.specs.declared.layer.Reader.{Reader}
pub use Rattle.ufs_spec.specs.declared.layer.Reader.TheVariants.{ForNobody, ForRest, ForStep, ForTask}
