-- What most of these proofs use: words and lemmas of std and of the crates below, and the words of this one.
pub use Rattle.atomic_table.proofs.Lists.{set_else, set_here}
pub use Rattle.atomic_table.specs.Table.{Allows, Me, Splits}
pub use Rattle.device.specs.Kept.{DeviceCore, WorldState}
pub use Rattle.device.specs.Worlds.{Fits, die_at, job_at}
pub use Rattle.lanes.specs.Callers.{IsNewLane, IsNewPort, Undealt, job_of}
pub use Rattle.lanes.specs.Legal.{Follows, Legal, mine, shown, step_by}
pub use Rattle.lanes.specs.Rule.{Apart, AtHome, Did, IsDealer, IsLegal, IsOpening, IsOut, IsStart, Kept, Knows, Meets}
pub use Rattle.lanes.specs.Rule.{Stepped, lane_ended, lane_given}
pub use Rattle.lanes.specs.declared.view.Entry.{Entry}
pub use Rattle.lanes.specs.declared.view.LaneView.{LaneView}
pub use Rattle.lanes.specs.declared.view.Made.{Made}
pub use Rattle.lanes.specs.declared.view.Opening.{Opening}
pub use Rattle.lanes.specs.declared.view.View.{View}
pub use Rattle.std.proofs.Common.{Bool, List, None, Option, Some, [], ap, append-nil, append_assoc, arith, cond, false}
pub use Rattle.std.proofs.Common.{inl, inr, length, map, refl, rules, set, subst, suc, sym, true, zero, ℕ, ⊎_elim, ◌++◌}
pub use Rattle.std.proofs.Common.{◌+◌, ◌<◌, ◌∙◌, ◌∷◌, ◌≡◌, ◌≢◌, ◌≤◌}
pub use Rattle.std.proofs.lemmas.List.{length-replicate}
pub use Rattle.std.specs.Arc.{arc_value}
pub use Rattle.std.specs.Global.{Vec}
pub use Rattle.std.specs.List.{All}
pub use Rattle.std.specs.Prelude.{Ok, slice_index_or}
pub use Rattle.ufs_spec.specs.Dies.{DieState, new_die}
pub use Rattle.ufs_spec.specs.Lives.{array_of}
pub use Rattle.ufs_spec.specs.Machine.{Done, OfReply, Reply, Turn}
pub use Rattle.ufs_spec.specs.Messages.{spelling}
pub use Rattle.ufs_spec.specs.Refusals.{State, numbers_of}
pub use Rattle.ufs_spec.specs.declared.configs.Numbers.{Numbers}
pub use Rattle.ufs_spec.specs.declared.events.Event.{Event}
pub use Rattle.ufs_spec.specs.declared.events.Output.{Output}
pub use Rattle.ufs_spec.specs.declared.flash.Job.{Job}
pub use Rattle.ufs_spec.specs.declared.messages.Message.{Message}
