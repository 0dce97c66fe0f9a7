-- What most of these proofs use: words and lemmas of std and of the crates below, and the words of this one.
pub use Rattle.std.proofs.Common.{Bool, List, None, Option, Some, [], ap, arith, cond, drop, false, filter, find}
pub use Rattle.std.proofs.Common.{if◌then◌else◌, inl, inr, length, map, nat_lt, not, option_map, refl, subst, suc, sym}
pub use Rattle.std.proofs.Common.{take, true, zero, ℕ, ⊎_elim, ◌&&◌, ◌*◌, ◌++◌, ◌+◌, ◌<◌, ◌==◌, ◌∙◌, ◌∷◌, ◌≡◌, ◌≤◌, ◌⊎◌}
pub use Rattle.std.proofs.lemmas.List.{length-append}
pub use Rattle.std.specs.List.{list_any}
pub use Rattle.std.specs.Prelude.{is_none, max, slice_get}
pub use Rattle.arrayvec.specs.ArrayVec.{ArrayVec}
pub use Rattle.ufs_spec.proofs.Facts.{and_parts, cond-false, cond-true, eqb-true, false≢true, if_both, if_cases, le-ltb}
pub use Rattle.ufs_spec.proofs.Facts.{none-some, same_Some, true≢false}
pub use Rattle.ufs_spec.specs.CdbFields.{spelled_cdb}
pub use Rattle.ufs_spec.specs.Cells.{Array}
pub use Rattle.ufs_spec.specs.Commands.{Write}
pub use Rattle.ufs_spec.specs.Configs.{IsConfig}
pub use Rattle.ufs_spec.specs.DataOuts.{blocks_in}
pub use Rattle.ufs_spec.specs.Disk.{Flight, Spot}
pub use Rattle.ufs_spec.specs.Exchanges.{Answering, Awaiting, Deed, Gathering, ReadingArea, Sending, SendingBytes, Task}
pub use Rattle.ufs_spec.specs.Exchanges.{is_good, is_short_of, is_task_of, response, short_reply, task_of}
pub use Rattle.ufs_spec.specs.Frames.{Frame}
pub use Rattle.ufs_spec.specs.Keys.{CanApplyAll}
pub use Rattle.ufs_spec.specs.Machine.{Answer, Call, Done, OfDone, OfReply, OfTake, OfTurn, Take, Turn, behind, observe}
pub use Rattle.ufs_spec.specs.Machine.{short_replied, tag_in, with_moves, with_short}
pub use Rattle.ufs_spec.specs.Messages.{is_short, padding, spelling}
pub use Rattle.ufs_spec.specs.Plain.{Plain, after, region_of}
pub use Rattle.ufs_spec.specs.Refusals.{Request, State, locked, lun_of, mended, numbers_of, plain_now, refusal}
pub use Rattle.ufs_spec.specs.declared.configs.Numbers.{Numbers}
pub use Rattle.ufs_spec.specs.declared.events.Event.{Event}
pub use Rattle.ufs_spec.specs.declared.events.Output.{Output}
pub use Rattle.ufs_spec.specs.declared.exchanges.Purpose.TheVariants.{ForFrames, ForUnmap, ForWrite}
pub use Rattle.ufs_spec.specs.declared.exchanges.Status.{Status}
pub use Rattle.ufs_spec.specs.declared.exchanges.Status.TheVariants.{Good}
pub use Rattle.ufs_spec.specs.declared.messages.Message.{Message}
pub use Rattle.ufs_spec.specs.declared.messages.Message.TheVariants.{DataOut}
pub use Rattle.ufs_spec.specs.declared.scsi.Cdb.{Cdb}
pub use Rattle.ufs_laws.proofs.walk.SmallChanges.{same_task}
pub use Rattle.power_loss.proofs.host_commands.OpenedByCommands.{IsFree}
pub use Rattle.power_loss.proofs.open_tasks.FoundInLists.{none_found}
pub use Rattle.power_loss.proofs.open_tasks.TaskLists.{at_tag}
pub use Rattle.power_loss.specs.Exchange.{IsTied, TagsDiffer}
pub use Rattle.rpmb.specs.Kept.{IsKept}
pub use Rattle.rpmb.specs.declared.regions.RegionState.{RegionState}
pub use Rattle.journal.specs.Entries.{Doubted, Noted, setting_command}
pub use Rattle.journal.specs.Heard.{answered, received, told}
pub use Rattle.journal.specs.Requests.{accepted_by, accepted_in, state_at}
pub use Rattle.journal.specs.Tasks.{has_tag, is_command, without}
pub use Rattle.journal.specs.Writes.{WriteBegun}
pub use Rattle.journal.specs.declared.tasks.Awaited.{Awaited}
pub use Rattle.journal.specs.declared.tasks.Awaited.TheVariants.{Blocks, Frames, UnmapList, Verdict}
pub use Rattle.journal.specs.declared.tasks.OpenTask.{OpenTask}
pub use Rattle.heard_laws.specs.Listening.{AreRegionsOf}
