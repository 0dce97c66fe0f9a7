-- What most of these proofs use: words and lemmas of std and of the crates below, and the words of this one.
pub use Rattle.arrayvec.specs.ArrayVec.{ArrayVec}
pub use Rattle.device.specs.Bare.{IsBare}
pub use Rattle.device.specs.Calls.{HasTaken, has_room, lock_told}
pub use Rattle.device.specs.Describes.{AreFramesKept, ComesSo, Describes, FramesFit, HaveAnswered, IsAnswered, IsAsked}
pub use Rattle.device.specs.Describes.{IsBehind, IsDoing, IsFor, IsGathered, IsHeardAs, IsReadingArea, IsSending}
pub use Rattle.device.specs.Describes.{IsShortTold, IsTold, IsToldIn, Keeps, OneSends, PartsStand, ReadsAsked, ReadsFor}
pub use Rattle.device.specs.Describes.{ShortKept, ShortsKept, TaskKept, TasksKept, blocks_gathered, claimed_by}
pub use Rattle.device.specs.Describes.{claimed_in, claims_of, gathers_for, is_lost, is_unread, read_by, read_in}
pub use Rattle.device.specs.Describes.{read_of, wanted_by, wanted_in, wanted_kept, wanted_of}
pub use Rattle.device.specs.Frames.{HasAccepted, HasFilled, HasRequested, HasResponded, frames_for, is_due_in}
pub use Rattle.device.specs.Frames.{is_page_there, part_held, part_of_page, to_answer, with_held, with_zeros}
pub use Rattle.device.specs.Groups.{HasPut, key_group, write_group}
pub use Rattle.device.specs.Hears.{short_answer, with_event, with_short, with_task}
pub use Rattle.device.specs.Kept.{DeviceCore, IsLayerWith, WorldState, idle_device, regions_kept}
pub use Rattle.device.specs.Leftovers.{IsInside, IsOfDie, MayDieLeave}
pub use Rattle.device.specs.Lists.{IsOfList, frame_slots, list_slots}
pub use Rattle.device.specs.Manages.{HasLetGo, means}
pub use Rattle.device.specs.Opened.{HasScanned}
pub use Rattle.device.specs.Plans.{IsPlanned, Passes}
pub use Rattle.device.specs.Queries.{HasPutSetting, at_once}
pub use Rattle.device.specs.Replies.{HasMoved, block_at, block_for, block_of, owed_by, owed_in, query_with, short_said}
pub use Rattle.device.specs.Rooms.{core_of, world_of}
pub use Rattle.device.specs.Targets.{IsNamed, target_of}
pub use Rattle.device.specs.Worlds.{BlocksFit, FitState, Fits, IsOpeningFault, Went, die_at, dies_failed, dies_left}
pub use Rattle.device.specs.Worlds.{dies_left_by, job_at, next_of}
pub use Rattle.device.specs.declared.plans.Plan.{Plan}
pub use Rattle.ftl_core.specs.Public.{AreClaimed, AreClaimedBy, Claims, Core, PinsDiffer, group_of_blocks, keeps_for}
pub use Rattle.ftl_core.specs.Public.{key_behind, with_block, with_claimed}
pub use Rattle.power_loss.proofs.books.PagesByName.{none_some, some_is}
pub use Rattle.power_loss.proofs.books.SmallFacts.{eq_self, if_false, if_true, spot_is}
pub use Rattle.power_loss.proofs.die_pages.BlankOutsideDies.{fit_inside}
pub use Rattle.power_loss.proofs.host_commands.AcceptedCommands.{IsComing, command_allowed}
pub use Rattle.power_loss.proofs.jobs.StandsSecurely.{at_spot_here, at_spot_other}
pub use Rattle.power_loss.proofs.open_tasks.FoundInLists.{found_is}
pub use Rattle.power_loss.proofs.open_tasks.TaggedLists.{other_way}
pub use Rattle.power_loss.proofs.open_tasks.TaskLists.{found_fits, found_task}
pub use Rattle.power_loss.proofs.ordered_lists.ElementsAndOrders.{all_in, found_in}
pub use Rattle.power_loss.proofs.stops.SealedCells.{ranges_of}
pub use Rattle.power_loss.specs.AreaReads.{AreaReads}
pub use Rattle.power_loss.specs.Book.{book}
pub use Rattle.power_loss.specs.Exchange.{DeedFits, DeedsFit, IsArrayOf, IsTied, TasksDiffer, claim_of}
pub use Rattle.power_loss.specs.Shown.{ShowsReads, ShowsRight}
pub use Rattle.power_loss.specs.WaitingFrames.{FramesWait}
pub use Rattle.rpmb.specs.Answers.{IsRead}
pub use Rattle.rpmb.specs.Kept.{IsKept, Machine, machine_at, with_machine}
pub use Rattle.rpmb.specs.Requests.{frames_of}
pub use Rattle.rpmb.specs.declared.outcomes.Accepted.{Accepted}
pub use Rattle.rpmb.specs.declared.regions.RegionState.{RegionState}
pub use Rattle.settings.specs.Told.{bytes_of}
pub use Rattle.std.proofs.Common.{All, Bool, List, None, Option, Some, [], ap, arith, cond, drop, false, get_or, inl}
pub use Rattle.std.proofs.Common.{inr, length, map, refl, replicate, rules, subst, suc, sym, true, zero, ℕ, ⊎_elim}
pub use Rattle.std.proofs.Common.{◌&&◌, ◌*◌, ◌++◌, ◌+◌, ◌-◌, ◌/◌, ◌<◌, ◌==◌, ◌∙◌, ◌∷◌, ◌≡◌, ◌≢◌, ◌≤◌, ◌⊎◌}
pub use Rattle.std.proofs.lemmas.Bool.{le-leb, le-ltb}
pub use Rattle.std.proofs.lemmas.Bool.Decides.{nat_tests}
pub use Rattle.std.proofs.lemmas.List.{append-nil, get_or-set_same, get_or_default, get_or_past, length-append}
pub use Rattle.std.proofs.lemmas.List.{length-drop, length-map, length-replicate, length-set, length-take}
pub use Rattle.std.proofs.lemmas.List.{length-take-le, map-id, take-append-le, take-take, take_all}
pub use Rattle.std.proofs.lemmas.List.Elements.{All-cons, All-contains, All-filter, All-head, All-nil, All-tail}
pub use Rattle.std.proofs.lemmas.List.Elements.{All-weaker}
pub use Rattle.std.proofs.lemmas.List.Filters.{length-filter_both}
pub use Rattle.std.proofs.lemmas.List.Sums.{fold-append}
pub use Rattle.std.proofs.lemmas.Option.{get_or_from_slice_get, slice_get-get_or, slice_get_within}
pub use Rattle.std.specs.Int.{div_ceil}
pub use Rattle.std.specs.List.{flat_map, list_any}
pub use Rattle.std.specs.Option.{option_or}
pub use Rattle.std.specs.Prelude.{Err, IfOk, Ok, OnErr, OnOk, Result, filter, find, fold, if◌then◌else◌, is_some, min}
pub use Rattle.std.specs.Prelude.{nat_le, nat_lt, not, option_map, position, remove, slice_get, slice_index_or}
pub use Rattle.std.specs.Prelude.{slice_set, take, ◌%◌, ◌||◌}
pub use Rattle.task_set.specs.Frames.{area_part, frames_after, second_read}
pub use Rattle.task_set.specs.Kept.{OpenTask, newly_open, task_in}
pub use Rattle.task_set.specs.Lists.{held_at, read_at, task_at, task_happened}
pub use Rattle.task_set.specs.Shorts.{is_short_due}
pub use Rattle.task_set.specs.Tasks.{block_after, brings_frames, count_for, is_decided, is_sender, is_task_meant}
pub use Rattle.task_set.specs.Tasks.{is_unanswered, phase_after, read_for, task_after, wanted_block, write_error}
pub use Rattle.task_set.specs.declared.frames.AreaReading.{AreaReading}
pub use Rattle.task_set.specs.declared.frames.Frames.{Frames}
pub use Rattle.task_set.specs.declared.tasks.AskedFor.{AskedFor}
pub use Rattle.task_set.specs.declared.tasks.Meant.{Meant}
pub use Rattle.task_set.specs.declared.tasks.Phase.{Phase}
pub use Rattle.task_set.specs.declared.tasks.Queried.{Queried}
pub use Rattle.task_set.specs.declared.tasks.Sending.{Sending as Sends}
pub use Rattle.task_set.specs.declared.tasks.ShortReply.{ShortReply}
pub use Rattle.task_set.specs.declared.tasks.Task.{Task}
pub use Rattle.task_set.specs.declared.tasks.TaskEvent.{TaskEvent}
pub use Rattle.task_set.specs.declared.tasks.Wanted.{Wanted}
pub use Rattle.ufs_laws.proofs.pages.SettingsBodies.{settings_block}
pub use Rattle.ufs_laws.proofs.plain_contents.CommandsKeepPlain.{settings_ranges}
pub use Rattle.ufs_laws.proofs.plain_contents.ListParts.{length-made}
pub use Rattle.ufs_laws.proofs.rpmb_frames.Regions.{named_changed}
pub use Rattle.ufs_laws.specs.RpmbWrites.{region_named}
pub use Rattle.ufs_spec.proofs.Facts.{and_parts, eqb-false, eqb-true, false≢true, leb-true, ltb-false, ltb-true}
pub use Rattle.ufs_spec.proofs.Facts.{none-some, or_parts, same_Some, true≢false}
pub use Rattle.ufs_spec.proofs.Lists.{position_told, set_other, set_there}
pub use Rattle.ufs_spec.proofs.RegionPages.{area_there}
pub use Rattle.ufs_spec.specs.CdbFields.{spelled_cdb}
pub use Rattle.ufs_spec.specs.Cells.{Array, Cell, Cells, GroupPage, IsPlace, MarkPage, Nothing, Shows}
pub use Rattle.ufs_spec.specs.Changes.{accepts, ends_with_status}
pub use Rattle.ufs_spec.specs.Commands.{Command, RpmbWrite, SetKey}
pub use Rattle.ufs_spec.specs.Configs.{IsConfig, command_blocks}
pub use Rattle.ufs_spec.specs.DieLaws.{has_page, pages_in}
pub use Rattle.ufs_spec.specs.Dies.{CanDo, DieState, IsOfSize, after_job, blank_page, new_die, outcome_of, page_at}
pub use Rattle.ufs_spec.specs.Dies.{pages_of, power_cycle_ended}
pub use Rattle.ufs_spec.specs.Disk.{Bad, BlockState, Closed, Erasing, Filling, Flight, Free, Programming, Reading}
pub use Rattle.ufs_spec.specs.Disk.{Ready, Spot, Vacancy, at_die, at_spot, job_of, page_of, spot_of, state_after}
pub use Rattle.ufs_spec.specs.Exchanges.{Answering, Awaiting, Deed, Gathering, ReadBlock, ReadingArea, Registers}
pub use Rattle.ufs_spec.specs.Exchanges.{RpmbRequest, Sending, SendingBytes, Short, at_region, filled}
pub use Rattle.ufs_spec.specs.Exchanges.{invalid_operation, is_short_of, is_task_of, is_unfilled, most_tasks, no_unit}
pub use Rattle.ufs_spec.specs.Exchanges.{out_of_range, sequence_error, short_reply, task_of, with_deed}
pub use Rattle.ufs_spec.specs.FrameRequests.{reads_area, request_decided, requested}
pub use Rattle.ufs_spec.specs.Frames.{Frame, frame_in}
pub use Rattle.ufs_spec.specs.Keys.{Group, IsKey, IsPlain, IsSettings, Item, area_key, area_page, below, content}
pub use Rattle.ufs_spec.specs.Keys.{data_key, group_of, said_by, settings_key, settings_of}
pub use Rattle.ufs_spec.specs.Ledger.{Entry, all_contents, before_accepted, entry_of, next_number}
pub use Rattle.ufs_spec.specs.Lives.{AreLeftovers, Fit, IsLawfulLeftover, IsLeft, IsLeftoverOf, IsOpened, array_of}
pub use Rattle.ufs_spec.specs.Lives.{bad_of, die_of, ended_well}
pub use Rattle.ufs_spec.specs.Machine.{Call, Done, Faulty, Heard, Host, IsHeard, MayLeave, OfDone, OfHost, OfReply}
pub use Rattle.ufs_spec.specs.Machine.{OfTake, OfTurn, Reply, Spelled, Take, Turn, array_after, cdb_of, data_begun}
pub use Rattle.ufs_spec.specs.Machine.{data_heard, deed_read, durable, fills, heard, is_at_hand, is_good_due}
pub use Rattle.ufs_spec.specs.Machine.{is_to_fill, lock_applied, message_fault, observe, opening_fault, replied}
pub use Rattle.ufs_spec.specs.Machine.{result_of, set_deed, set_state, short_locked, task_filled, with_moves}
pub use Rattle.ufs_spec.specs.Messages.{AreBytes, Spells, host_fault_of, spelling}
pub use Rattle.ufs_spec.specs.Moves.{Accept, Acknowledge, Claim, Ending, IsAllowedMove, IsEndingOf, LetGo, LetGoAll}
pub use Rattle.ufs_spec.specs.Moves.{Move, ReadRight, ReadWrong, Release, TakeStep, WantPage, WentWell, WentWrong}
pub use Rattle.ufs_spec.specs.Moves.{ending_fits, is_pin_of, job_ended, moved, with_wanted}
pub use Rattle.ufs_spec.specs.Pages.{MayBeLeft}
pub use Rattle.ufs_spec.specs.Plain.{CanApply, Plain, Shape, after, apply, changed_by, greatest_command, region_of}
pub use Rattle.ufs_spec.specs.Plain.{regions, shape_of_numbers, with_part}
pub use Rattle.ufs_spec.specs.Queries.{Query}
pub use Rattle.ufs_spec.specs.Refusals.{Request, State, accepts_nothing, first_line, has_other_response, has_wrong_list}
pub use Rattle.ufs_spec.specs.Refusals.{lacks_unit, lines_after, lines_for, locked, lun_of, numbers_of, plain_now}
pub use Rattle.ufs_spec.specs.Refusals.{refusal, sends_frames, sends_frames_to, unit_numbers_at, unit_numbers_of}
pub use Rattle.ufs_spec.specs.Refusals.{units_listed}
pub use Rattle.ufs_spec.specs.Replies.{is_area_read, is_read}
pub use Rattle.ufs_spec.specs.Rpmb.{Region, Results, read_data, rpmb_outcome}
pub use Rattle.ufs_spec.specs.RpmbResponses.{filled_with, is_success, with_reads}
pub use Rattle.ufs_spec.specs.Sound.{Sound, Suits}
pub use Rattle.ufs_spec.specs.Translation.{Pin, Translation, free_slots, is_bad, is_mended, is_rest_of}
pub use Rattle.ufs_spec.specs.declared.configs.Numbers.{Numbers}
pub use Rattle.ufs_spec.specs.declared.configs.UnitSpec.{UnitSpec}
pub use Rattle.ufs_spec.specs.declared.events.Event.{Event}
pub use Rattle.ufs_spec.specs.declared.events.Leftover.{Leftover}
pub use Rattle.ufs_spec.specs.declared.events.Output.{Output}
pub use Rattle.ufs_spec.specs.declared.events.RunFaultKind.{RunFaultKind}
pub use Rattle.ufs_spec.specs.declared.exchanges.Purpose.{Purpose}
pub use Rattle.ufs_spec.specs.declared.exchanges.Purpose.TheVariants.{ForFrames, ForUnmap, ForWrite}
pub use Rattle.ufs_spec.specs.declared.exchanges.ReadState.{ReadState}
pub use Rattle.ufs_spec.specs.declared.exchanges.ReadState.TheVariants.{NotRead, Unread, WasRead}
pub use Rattle.ufs_spec.specs.declared.exchanges.Status.{Status}
pub use Rattle.ufs_spec.specs.declared.exchanges.Status.TheVariants.{Good}
pub use Rattle.ufs_spec.specs.declared.faults.HostFault.{HostFault}
pub use Rattle.ufs_spec.specs.declared.flash.Job.{Job}
pub use Rattle.ufs_spec.specs.declared.flash.Key.{Key}
pub use Rattle.ufs_spec.specs.declared.flash.Outcome.{Outcome}
pub use Rattle.ufs_spec.specs.declared.flash.Page.{Page}
pub use Rattle.ufs_spec.specs.declared.flash.Place.{Place}
pub use Rattle.ufs_spec.specs.declared.layer.Looked.{Looked}
pub use Rattle.ufs_spec.specs.declared.layer.Looked.TheVariants.{InSlot, OnPage, Unwritten}
pub use Rattle.ufs_spec.specs.declared.layer.Name.{Name}
pub use Rattle.ufs_spec.specs.declared.layer.Reader.{Reader}
pub use Rattle.ufs_spec.specs.declared.layer.Reader.TheVariants.{ForNobody, ForRest, ForStep, ForTask}
pub use Rattle.ufs_spec.specs.declared.messages.Message.{Message}
pub use Rattle.ufs_spec.specs.declared.scsi.Cdb.{Cdb}
pub use Rattle.ufs_spec.specs.declared.scsi.Sense.{Sense}
pub use Rattle.ufs_spec.specs.declared.volatile.Volatile.{Volatile}
