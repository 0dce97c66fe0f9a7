-- The words of the machine around the translation layer, of runs, and of what is promised.
pub use Rattle.power_loss.specs.Collection.{IsBefore}
pub use Rattle.power_loss.specs.Exchange.{AreApart, BookFits, DeedFits, EntryFits, IsArrayOf, IsSpot, IsTied, MayCome}
pub use Rattle.power_loss.specs.Exchange.{ShortAwaits, ShortFits, TasksAreRight, TasksDiffer, TasksRight, ValidState}
pub use Rattle.power_loss.specs.Exchange.{WriteFits, claim_of, claims_of}
pub use Rattle.power_loss.specs.Losing.{IsStartRight, LosesIn, StartsRight, is_marked}
pub use Rattle.power_loss.specs.Mending.{AreAllowedMoves, is_marking, mending_turns, turns_left, turns_of}
pub use Rattle.power_loss.specs.Pending.{FrontierStops, PendingStays, accepted_by, brings_page}
pub use Rattle.power_loss.specs.Promises.{IsReplied, has_task}
pub use Rattle.power_loss.specs.Rests.{IsRestOf}
pub use Rattle.power_loss.specs.Runs.{LivesRight, MayBeOpened, last_state}
pub use Rattle.power_loss.specs.Shown.{IsShown, ShowsBlock, ShowsReads, ShowsRight}
pub use Rattle.ufs_laws.specs.Exchange.{Every, IsSpoken}
pub use Rattle.ufs_laws.specs.GapRows.{first_mark, write_page}
pub use Rattle.ufs_laws.specs.Replies.{TaskSpeaks}
pub use Rattle.ufs_laws.specs.Runs.{Gets, IsNew, data_program, place_of, row, state_15, the_data, the_write}
pub use Rattle.ufs_laws.specs.Runs.{write_events, write_outputs}
pub use Rattle.ufs_spec.specs.Cdbs.{address_of, blocks_of}
pub use Rattle.ufs_spec.specs.Commands.{Command, Write}
pub use Rattle.ufs_spec.specs.Configs.{IsConfig}
pub use Rattle.ufs_spec.specs.Dies.{DieState, blank_page}
pub use Rattle.ufs_spec.specs.Exchanges.{Answering, Awaiting, Deed, Gathering}
pub use Rattle.ufs_spec.specs.declared.exchanges.Status.TheVariants.{Good}
pub use Rattle.ufs_spec.specs.declared.exchanges.Purpose.TheVariants.{ForFrames, ForUnmap, ForWrite}
pub use Rattle.ufs_spec.specs.Exchanges.{ReadBlock, Sending, SendingBytes, Short}
pub use Rattle.ufs_spec.specs.declared.exchanges.ReadState.{ReadState}
pub use Rattle.ufs_spec.specs.declared.exchanges.ReadState.TheVariants.{NotRead}
pub use Rattle.ufs_spec.specs.declared.exchanges.Status.{Status}
pub use Rattle.ufs_spec.specs.declared.exchanges.Purpose.{Purpose}
pub use Rattle.ufs_spec.specs.Exchanges.{Task, count_at, invalid_operation, is_asked_in}
pub use Rattle.ufs_spec.specs.declared.exchanges.ReadState.TheVariants.{Unread, WasRead}
pub use Rattle.ufs_spec.specs.declared.exchanges.Status.TheVariants.{TaskSetFull}
pub use Rattle.ufs_spec.specs.Exchanges.{is_asked_of, is_short_of, is_task_of, no_unit, response, short_reply, task_of}
pub use Rattle.ufs_spec.specs.Exchanges.{ReadingArea, Registers, RpmbRequest, with_deed, without_short, without_task}
pub use Rattle.ufs_spec.specs.Exchanges.{write_error}
pub use Rattle.ufs_spec.specs.FrameRequests.{with_request}
pub use Rattle.ufs_spec.specs.Lives.{AreLeftovers, Fit, GoesOn, IsCall, IsFailure, IsFinish, IsLawfulLeftover, IsLeft}
pub use Rattle.ufs_spec.specs.Lives.{IsLeftoverOf, IsLived, IsOpened, Leads, Life, Lived, Lives, Runs, Stops, array_of}
pub use Rattle.ufs_spec.specs.Lives.{bad_in, die_of, ended_well, held, page_left}
pub use Rattle.ufs_spec.specs.Machine.{Allowed, Answer, Call, Done, Due, Faulty, Heard, Host, IsCdbIn, IsHeard}
pub use Rattle.ufs_spec.specs.Machine.{MayLeave, OfDone, OfHost, OfReply, OfTake, OfTurn, Reply, Spelled, Take, Turn}
pub use Rattle.ufs_spec.specs.Machine.{abort_moves, accepts, array_after, asked_fault, begun, begun_if_any, behind}
pub use Rattle.ufs_spec.specs.Machine.{blocks_expected, blocks_in, claimed_by, command_taken, complete, data_for}
pub use Rattle.ufs_spec.specs.Machine.{data_heard, deed_after, deed_after_block, deed_locked, deed_read, deed_reply}
pub use Rattle.ufs_spec.specs.Machine.{durable, ends_with, fill_moves, fills, given, heard, hears, in_block, is_aborted}
pub use Rattle.ufs_spec.specs.Machine.{is_durable, is_to_fill, keeps, kept_at, lock_applied, managed, message_fault}
pub use Rattle.ufs_spec.specs.Machine.{moves_after, observe, refused_or_begun, opens_short}
pub use Rattle.ufs_spec.specs.Machine.{read_begun, read_blocks, read_noted, replied_by, sending, service, set_deed}
pub use Rattle.ufs_spec.specs.Machine.{short_locked, short_replied, tag_in, task_goes_on, task_filled, task_locked}
pub use Rattle.ufs_spec.specs.Machine.{task_read, task_replied, unit_or_first, with_moves, with_short, with_task}
pub use Rattle.ufs_spec.specs.Machine.{without_tasks, write_complete, write_deed}
pub use Rattle.ufs_spec.specs.Messages.{AreBytes}
pub use Rattle.ufs_spec.specs.Refusals.{BootUnit, DeviceUnit, Line, Lun, ReportLunsUnit, Request, RpmbUnit, State}
pub use Rattle.ufs_spec.specs.Refusals.{UnitOf, first_line, is_past, lacks_unit, line, lines_after, locked, lun_of}
pub use Rattle.ufs_spec.specs.Refusals.{mended, needs_mended, not_taken, numbers_of, plain_now, refusal}
pub use Rattle.ufs_spec.specs.Refusals.{unit_numbers_at, unit_in, unit_of_request}
pub use Rattle.ufs_spec.specs.Exchanges.{most_tasks}
pub use Rattle.ufs_spec.specs.declared.configs.UnitSpec.{UnitSpec}
pub use Rattle.ufs_spec.specs.declared.events.Event.{Event}
pub use Rattle.ufs_spec.specs.declared.events.Leftover.{Leftover}
pub use Rattle.ufs_spec.specs.declared.events.Output.{Output}
pub use Rattle.ufs_spec.specs.declared.messages.Message.{Message}
pub use Rattle.ufs_spec.specs.declared.scsi.Cdb.{Cdb}
