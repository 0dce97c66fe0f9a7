-- What most of these proofs use: words and lemmas of std and of the crates below, and the words of this one.
pub use Rattle.byteorder.specs.Endian.{big_bytes, big_number}
pub use Rattle.byteorder.specs.Numbers.{big_number-reads_back}
pub use Rattle.std.proofs.Common.{All, Bool, Contains, List, None, Ok, Option, Result, Some, [], ap, arith, cond, drop}
pub use Rattle.std.proofs.Common.{eq-eqb, false, filter, find, get_or, if◌then◌else◌, inl, inr, is_none, length, map}
pub use Rattle.std.proofs.Common.{nat_le, nat_lt, ne_eqb, not, option_map, refl, replicate, slice_index, slice_index_or}
pub use Rattle.std.proofs.Common.{slice_set, subst, suc, sym, take, true, zero, ℕ, ⊎_elim, ◌%◌, ◌&&◌, ◌*◌, ◌++◌, ◌+◌}
pub use Rattle.std.proofs.Common.{◌-◌, ◌/◌, ◌<◌, ◌==◌, ◌^◌, ◌||◌, ◌∙◌, ◌∷◌, ◌≡◌, ◌≢◌, ◌≤◌, ◌⊎◌}
pub use Rattle.std.proofs.Math.Decide.{dec_le, dec_lt, map_dec, ℕ_discrete}
pub use Rattle.std.proofs.lemmas.Bool.{cases_lt, le-ltb, lt-ltb}
pub use Rattle.std.proofs.lemmas.List.{append-nil, append_assoc, drop-drop, drop_at, get_or-append_right, get_or-map}
pub use Rattle.std.proofs.lemmas.List.{get_or-replicate, get_or-set_same, get_or-take, get_or_append_left}
pub use Rattle.std.proofs.lemmas.List.{length-append, length-drop, length-map, length-replicate, length-take}
pub use Rattle.std.proofs.lemmas.List.{length-take-le, take-append-drop, take_all}
pub use Rattle.std.proofs.lemmas.List.Elements.{All-map, All-replicate}
pub use Rattle.std.proofs.lemmas.Option.{slice_get-map}
pub use Rattle.std.specs.List.{flat_map, list_all, list_any}
pub use Rattle.std.specs.Prelude.{fold, slice_get}
pub use Rattle.ufs_bytes.specs.Fields.{field_at}
pub use Rattle.ufs_laws.specs.Exchange.{Every, IsRequest, IsSpoken}
pub use Rattle.ufs_laws.specs.Flights.{die_of_flight}
pub use Rattle.ufs_laws.specs.FrameLaws.{outcome_in}
pub use Rattle.ufs_laws.specs.FreeBlocks.{IsVacantOn}
pub use Rattle.ufs_laws.specs.GapRows.{first_mark}
pub use Rattle.ufs_laws.specs.Runs.{Gets, IsIdle, IsNew, data_program, data_read, heard, row, the_data, the_read}
pub use Rattle.ufs_laws.specs.Runs.{the_write}
pub use Rattle.ufs_laws.specs.Table.{asks, flush, read_at, write_at}
pub use Rattle.ufs_spec.proofs.Facts.{and_parts, at_most, cond-false, cond-true, eqb-true, false_from_ne_true}
pub use Rattle.ufs_spec.proofs.Facts.{false≢true, if_both, if_cases, leb-true, none-some, not-false, or_from, or_left}
pub use Rattle.ufs_spec.proofs.Facts.{or_parts, or_right, same_Some, true≢false}
pub use Rattle.ufs_spec.proofs.Lists.{any_here, below_at, none_passes}
pub use Rattle.ufs_spec.specs.CdbFields.{kind_of}
pub use Rattle.ufs_spec.specs.Cells.{AreWithin, Array, Cell, Cells, DataHold, GroupPage, IsCell, IsMarkBody, Mark}
pub use Rattle.ufs_spec.specs.Cells.{MarkPage, Nothing, Opens, Shows, mark_tag}
pub use Rattle.ufs_spec.specs.Changes.{given_back}
pub use Rattle.ufs_spec.specs.Commands.{Command, RpmbWrite, SetKey, Write, Zero}
pub use Rattle.ufs_spec.specs.Configs.{command_blocks}
pub use Rattle.ufs_spec.specs.DataOuts.{is_past_unit, is_wrong_descriptor, unmap_complete}
pub use Rattle.ufs_spec.specs.Disk.{Bad, BlockState, Closed, Disk, Erasing, Filling, Flight, Free, Programming, Reading}
pub use Rattle.ufs_spec.specs.Disk.{Ready, Spot, Stale, Untouched, Vacancy, at_die, erased, job_of, page_of, programmed}
pub use Rattle.ufs_spec.specs.Disk.{spot_of}
pub use Rattle.ufs_spec.specs.Exchanges.{Answering, Awaiting, Comparing, Deed, Gathering, ReadBlock, ReadingArea, Registers}
pub use Rattle.ufs_spec.specs.Exchanges.{RpmbRequest, Sending, SendingBytes, Short, Task, count_at, filled}
pub use Rattle.ufs_spec.specs.Exchanges.{invalid_field, invalid_list_field, invalid_operation, is_asked_of, is_short_of}
pub use Rattle.ufs_spec.specs.Exchanges.{is_task_of, is_unfilled, no_unit, not_ready, out_of_range, response}
pub use Rattle.ufs_spec.specs.Exchanges.{sequence_error, short_reply, task_of, with_deed, write_error, write_protected}
pub use Rattle.ufs_spec.specs.FrameRequests.{frames_complete, reads_area, request_decided, requested, result_now}
pub use Rattle.ufs_spec.specs.FrameRequests.{with_request}
pub use Rattle.ufs_spec.specs.Frames.{Frame}
pub use Rattle.ufs_spec.specs.Kept.{HasNone, Holds, IsKept, IsNewestMark, IsRecorded, IsWhole, fence_in}
pub use Rattle.ufs_spec.specs.Keys.{AreSettings, Contents, Group, IsArea, IsBlock, IsData, IsKey, IsKeyAndCounter}
pub use Rattle.ufs_spec.specs.Keys.{IsPlain, IsRegion, IsSettings, IsSettingsBody, Item, area_key, area_page, below}
pub use Rattle.ufs_spec.specs.Keys.{content, data_key, group_of, said_by, said_in, said_of, settings_key}
pub use Rattle.ufs_spec.specs.Ledger.{Ledger}
pub use Rattle.ufs_spec.specs.Lives.{IsCall, IsFinish, IsOpened, Leads, Life, held}
pub use Rattle.ufs_spec.specs.Machine.{Allowed, Answer, Call, Done, Due, Faulty, Heard, Host, IsHeard, OfDone, OfHost}
pub use Rattle.ufs_spec.specs.Machine.{OfReply, OfTake, OfTurn, Reply, Spelled, Take, Turn, abort_moves, accepts, begun}
pub use Rattle.ufs_spec.specs.Machine.{behind, block_reply, blocks_expected, blocks_in, claimed_by, complete}
pub use Rattle.ufs_spec.specs.Machine.{data_begun, deed_after, deed_locked, deed_reply, durable, fills, in_use}
pub use Rattle.ufs_spec.specs.Machine.{is_aborted, is_at_hand, is_durable, is_good_due, is_to_fill, lock_applied}
pub use Rattle.ufs_spec.specs.Machine.{message_fault, moves_after, next_block_reply, observe, pin_of, read_begun}
pub use Rattle.ufs_spec.specs.Machine.{read_blocks, refused_or_begun, replied, replied_by, result_of, sending, service}
pub use Rattle.ufs_spec.specs.Machine.{set_deed, short_locked, short_replied, tag_in, task_filled, task_goes_on}
pub use Rattle.ufs_spec.specs.Machine.{task_locked, task_read, unit_or_first, with_block, with_moves, with_short}
pub use Rattle.ufs_spec.specs.Machine.{with_task, without_tasks}
pub use Rattle.ufs_spec.specs.Messages.{AreBytes, IsAmong, code_of, is_among, spelling, zeros}
pub use Rattle.ufs_spec.specs.Moves.{Claim, EndJob, Ending, GiveJob, Move, ReadWrong, TakeStep, WentWrong, ending_fits}
pub use Rattle.ufs_spec.specs.Moves.{moved}
pub use Rattle.ufs_spec.specs.Pages.{IsFrontOf}
pub use Rattle.ufs_spec.specs.Plain.{Plain, Region, after, apply, block_at, changed_by, counter_end, empty_region}
pub use Rattle.ufs_spec.specs.Plain.{region_of, regions, shape_of, shape_of_numbers, with_part, with_region}
pub use Rattle.ufs_spec.specs.Queries.{Query, setting_of}
pub use Rattle.ufs_spec.specs.QueryAnswers.{query_passed}
pub use Rattle.ufs_spec.specs.Refusals.{Lun, Request, State, accepts_nothing, first_line, has_wrong_list, is_too_long}
pub use Rattle.ufs_spec.specs.Refusals.{lacks_unit, lines_after, locked, lun_of, mended, not_taken, numbers_of}
pub use Rattle.ufs_spec.specs.Refusals.{plain_now, refusal, refused_state, unit_numbers_at, unit_numbers_of}
pub use Rattle.ufs_spec.specs.Refusals.{unit_of_request}
pub use Rattle.ufs_spec.specs.Rpmb.{Refused, Results, RpmbOutcome, checks, command_in, first_failed, has_key}
pub use Rattle.ufs_spec.specs.Rpmb.{is_well_formed, lacks_result, outcome_after, rpmb_outcome}
pub use Rattle.ufs_spec.specs.Sound.{CellsSound}
pub use Rattle.ufs_spec.specs.Translation.{MayTake, Mended, Mending, Pin, Translation, Unmarked, Want, Work, cell_now}
pub use Rattle.ufs_spec.specs.Translation.{flight_at, flight_for, flight_into, flight_or, free_slots}
pub use Rattle.ufs_spec.specs.Translation.{has_room_for_groups, has_stale, is_idle, is_ready, is_stale, is_step_due}
pub use Rattle.ufs_spec.specs.Translation.{is_untouched, is_vacant, lowest_vacant, may_be_used, may_open_for_group}
pub use Rattle.ufs_spec.specs.Translation.{next_erase, next_flight, next_place, spots, waiting_name, waiting_step}
pub use Rattle.ufs_spec.specs.Translation.{want_at, wants_on}
pub use Rattle.ufs_spec.specs.declared.configs.Numbers.{Numbers}
pub use Rattle.ufs_spec.specs.declared.configs.UnitSpec.{UnitSpec}
pub use Rattle.ufs_spec.specs.declared.events.Event.{Event}
pub use Rattle.ufs_spec.specs.declared.events.Output.{Output}
pub use Rattle.ufs_spec.specs.declared.exchanges.Purpose.{Purpose}
pub use Rattle.ufs_spec.specs.declared.exchanges.Purpose.TheVariants.{ForFrames, ForUnmap, ForWrite}
pub use Rattle.ufs_spec.specs.declared.exchanges.ReadState.{ReadState}
pub use Rattle.ufs_spec.specs.declared.exchanges.ReadState.TheVariants.{NotRead, Unread, WasRead}
pub use Rattle.ufs_spec.specs.declared.exchanges.Status.{Status}
pub use Rattle.ufs_spec.specs.declared.exchanges.Status.TheVariants.{Busy, Good}
pub use Rattle.ufs_spec.specs.declared.faults.HostFault.{HostFault}
pub use Rattle.ufs_spec.specs.declared.flash.Fence.{Fence}
pub use Rattle.ufs_spec.specs.declared.flash.Key.{Key}
pub use Rattle.ufs_spec.specs.declared.flash.KeyAndCounter.{KeyAndCounter}
pub use Rattle.ufs_spec.specs.declared.flash.Page.{Page}
pub use Rattle.ufs_spec.specs.declared.flash.Place.{Place}
pub use Rattle.ufs_spec.specs.declared.flash.Tag.{Tag}
pub use Rattle.ufs_spec.specs.declared.layer.Name.{Name}
pub use Rattle.ufs_spec.specs.declared.layer.Reader.{Reader}
pub use Rattle.ufs_spec.specs.declared.layer.Reader.TheVariants.{ForTask}
pub use Rattle.ufs_spec.specs.declared.messages.Message.{Message}
pub use Rattle.ufs_spec.specs.declared.scsi.Cdb.{Cdb}
