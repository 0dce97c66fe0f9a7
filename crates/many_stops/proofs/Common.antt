-- What most of these proofs use: words and lemmas of std and of the crates below, and the words of this one.
pub use Rattle.many_stops.specs.FreeOverStops.{FailsStale, IsAsOpened, IsNewPage, KeepsFree}
pub use Rattle.many_stops.specs.RoomOfGroups.{HasHandedOut, HasOwnRoom, IsHandedOut, IsOneShort, IsWithinSpare}
pub use Rattle.many_stops.specs.RoomOfGroups.{LeavesOwnRoom, LeavesRoom, bad_count, filling_room, free_count, kept_room}
pub use Rattle.many_stops.specs.RoomOfGroups.{mending_blocks, page_of_group, pages_of_plan, programs_name, room_on_dies}
pub use Rattle.many_stops.specs.RoomOverStops.{FindsRoom, HasSpareBlocks, HoldsLost}
pub use Rattle.power_loss.proofs.books.LayerParts.{MendingOf, StopLeaves}
pub use Rattle.power_loss.proofs.books.PagesByName.{page_within}
pub use Rattle.power_loss.proofs.collected_blocks.FewestLivePages.{bad_told}
pub use Rattle.power_loss.proofs.jobs.StandsSecurely.{closed_is_not_free, filling_is_not_bad, free_is_not_filling}
pub use Rattle.power_loss.proofs.jobs_owed.ProgramsAndErases.{OpensReady, free_is, program_owed}
pub use Rattle.power_loss.proofs.moves.MovesKeepValid.{all_keep}
pub use Rattle.power_loss.proofs.openings.BlocksByAge.{inside_spot}
pub use Rattle.power_loss.proofs.openings.OpenedByName.{Opened}
pub use Rattle.power_loss.proofs.openings.OpenedPages.{free_or_not}
pub use Rattle.power_loss.proofs.ordered_lists.ElementsAndOrders.{IsIn, in_spots}
pub use Rattle.power_loss.proofs.room_to_mend.AloneKept.{ended_fewer}
pub use Rattle.power_loss.proofs.room_to_mend.RoomInBlocks.{room_in, sum_no_less}
pub use Rattle.power_loss.proofs.stops.BookImage.{newest_or_later, newest_stays}
pub use Rattle.power_loss.proofs.stops.LeftCells.{within}
pub use Rattle.power_loss.specs.Book.{book}
pub use Rattle.power_loss.specs.Exchange.{IsSpot}
pub use Rattle.power_loss.specs.Invariant.{AreNoneStale, Flights, Standing, StepKindRight, Valid}
pub use Rattle.power_loss.specs.Losing.{is_marked}
pub use Rattle.power_loss.specs.Mending.{AreAllowedMoves, moved_by}
pub use Rattle.power_loss.specs.MendingRoom.{MendsAlone, fails_job, page_of_step}
pub use Rattle.std.proofs.Common.{Bool, List, None, Option, Some, [], ap, arith, cond, false, if◌then◌else◌, inl, inr}
pub use Rattle.std.proofs.Common.{length, refl, subst, suc, sym, true, zero, ℕ, ⊎_elim, ◌*◌, ◌+◌, ◌-◌, ◌<◌, ◌==◌, ◌∙◌}
pub use Rattle.std.proofs.Common.{◌∷◌, ◌≡◌, ◌≢◌, ◌≤◌, ◌⊎◌}
pub use Rattle.std.proofs.Math.Nat.{mul-le-mul_left}
pub use Rattle.std.proofs.lemmas.List.Sums.{sum_by-cons}
pub use Rattle.std.specs.Int.{div_ceil}
pub use Rattle.std.specs.List.{count_by}
pub use Rattle.ufs_laws.proofs.walk.LayerEffects.{IsDue, order_due, turn_only, turned_if}
pub use Rattle.ufs_spec.proofs.CellKinds.{mark_not_nothing, page_not_nothing}
pub use Rattle.ufs_spec.proofs.Equalities.{name_told, spot_cases}
pub use Rattle.ufs_spec.proofs.Facts.{at_most, cases_Bool, false≢true, none-some, same_Some, true≢false}
pub use Rattle.ufs_spec.proofs.Updates.{at_die_cases, at_die_is, at_place_cases, at_spot_cases, at_spot_is}
pub use Rattle.ufs_spec.specs.Cells.{AreWithin, Cell, Cells, GroupPage, Mark, MarkPage, Nothing}
pub use Rattle.ufs_spec.specs.Disk.{Bad, BlockState, CellCrash, Closed, Erasing, Filling, Flight, Free, Programming}
pub use Rattle.ufs_spec.specs.Disk.{Reading, Spot, Touches, at_die, at_place, at_spot, erase_failed, flight_alone}
pub use Rattle.ufs_spec.specs.Disk.{program_failed, programmed, spot_of, state_after}
pub use Rattle.ufs_spec.specs.Kept.{IsFenced, IsKept, IsNewestMark, fence_in}
pub use Rattle.ufs_spec.specs.Keys.{below}
pub use Rattle.ufs_spec.specs.Ledger.{Entry, before_accepted}
pub use Rattle.ufs_spec.specs.Moves.{EndJob, Ending, GiveJob, IsAllowedMove, LetGo, LetGoAll, MayEnd, Move, ReadRight}
pub use Rattle.ufs_spec.specs.Moves.{ReadWrong, TakeStep, WentWell, WentWrong, end_flight, ending_fits, freed}
pub use Rattle.ufs_spec.specs.Moves.{freed_state, is_for, is_for_task, is_kind_of, mark_again, mark_written}
pub use Rattle.ufs_spec.specs.Moves.{mending_after, moved, page_written, step_after, step_there}
pub use Rattle.ufs_spec.specs.Openings.{AreFirstBlocks, HasStandIn, IsFree, IsItOrFreeBefore, IsOpenedTranslation}
pub use Rattle.ufs_spec.specs.Openings.{IsSpare, lost_from, number_of}
pub use Rattle.ufs_spec.specs.Sound.{CellsSound}
pub use Rattle.ufs_spec.specs.Translation.{CopyStep, MarkStep, MayTake, Mended, Mending, Order, OrderCopy, OrderMark}
pub use Rattle.ufs_spec.specs.Translation.{OrderPlanMark, OrderRepair, Plan, RepairStep, Repairing, Step, StepKind}
pub use Rattle.ufs_spec.specs.Translation.{Translation, Unmarked, count_blocks, has_mark_number, is_bad, is_free}
pub use Rattle.ufs_spec.specs.Translation.{is_mended, is_plan_of_bad, least_room, left_by_groups, mark_ordered}
pub use Rattle.ufs_spec.specs.Translation.{may_go_bad, name_of, ordered, own_room, repair_ordered, spots, taken, turned}
pub use Rattle.ufs_spec.specs.declared.configs.Numbers.{Numbers}
pub use Rattle.ufs_spec.specs.declared.flash.Fence.{Fence}
pub use Rattle.ufs_spec.specs.declared.flash.Key.{Key}
pub use Rattle.ufs_spec.specs.declared.flash.Place.{Place}
pub use Rattle.ufs_spec.specs.declared.flash.Tag.{Tag}
pub use Rattle.ufs_spec.specs.declared.layer.Name.{Name}
pub use Rattle.ufs_spec.specs.declared.layer.Reader.{Reader}
pub use Rattle.ufs_spec.specs.declared.layer.Reader.TheVariants.{ForNobody, ForRest, ForStep, ForTask}
