-- Each call that is answered rightly keeps the state tied to its dies and commands, whatever a failed job leaves.
use Rattle.power_loss.proofs.Common.{Array, Ending, Erasing, Flight, GiveJob, List, None, Ok, Option, Programming}
use Rattle.power_loss.proofs.Common.{ReadRight, ReadWrong, Reading, Some, WentWell, WentWrong, ending_fits, false≢true}
use Rattle.power_loss.proofs.Common.{false, refl, sym, true, ℕ, ◌∙◌, ◌≡◌}
use Rattle.power_loss.proofs.MachineWords.{Allowed, Answer, Reply, Call, Faulty, Done, OfDone, Take}
use Rattle.power_loss.proofs.MachineWords.{OfTake, Heard, OfHost, Host, IsCdbIn, IsHeard, MayLeave, OfReply, Spelled}
use Rattle.power_loss.proofs.MachineWords.{Turn, OfTurn, behind, heard, message_fault, observe, opens_short}
use Rattle.power_loss.proofs.MachineWords.{service, State, Message, Cdb, IsTied, MayCome}
use Rattle.std.specs.Prelude.{Err, Result}
use Rattle.ufs_spec.specs.CdbFields.{spelled_cdb}
use Rattle.ufs_spec.specs.Exchanges.{number_of}
use Rattle.ufs_spec.specs.Machine.{MayHear, NoEvent, cdb_of, result_of}
use Rattle.ufs_spec.specs.Messages.{Spells}
use Rattle.ufs_spec.specs.declared.faults.HostFault.{HostFault}
use Rattle.power_loss.proofs.host_commands.AbortedTasks.{managed_free, managed_right, reset_right}
use Rattle.power_loss.proofs.jobs.EndsOfJobs.{ends_right, erased_shown, failed_keeps, left_shown, over_keeps}
use Rattle.power_loss.proofs.jobs.EndsOfJobs.{right_shown, written_shown, wrong_shown}
use Rattle.power_loss.proofs.calls.TiesToDies.{one_move, step_keeps}
use Rattle.power_loss.proofs.host_commands.OpenedByCommands.{command_right, is_free, reply_right}
use Rattle.power_loss.proofs.host_commands.GatheredData.{data_right}
use Rattle.power_loss.proofs.host_commands.QueriesHeard.{query_right}
use Rattle.power_loss.proofs.host_commands.HandedOutReplies.{replies_right}
use Rattle.power_loss.proofs.calls.RightChanges.{Right, right_keeps, settled_right}
use Rattle.ufs_laws.proofs.walk.Happenings.{may_open}
use Rattle.ufs_laws.proofs.walk.SmallChanges.{Both, Still, first, job_over}
use Rattle.ufs_spec.specs.declared.messages.Message.TheVariants as message

-- What a call does first

-- an ending that fits the job keeps the state tied: one that went well whatever array comes with it, one that failed
-- with what an interruption of the job may leave
ending_keeps : (s : State) (die : ℕ) (flight : Option Flight) (ending : Ending) (left : Array) → IsTied s →
    s.translation.disk.flights die ≡ flight →
    ending_fits flight ending ≡ true → MayLeave s die ending left → IsTied (job_over s die flight ending left)
ending_keeps s die None ending left v e fit may = v
ending_keeps s die (Some (Reading reader place)) ReadRight left v e fit may =
    over_keeps s die (Reading reader place) ReadRight left v e
    (record { may = (refl, tt); shown = right_shown s die reader v.shown })
ending_keeps s die (Some (Reading reader place)) ReadWrong left v e fit may =
    over_keeps s die (Reading reader place) ReadWrong left v e
    (record { may = (refl, tt); shown = wrong_shown s die reader v.shown })
ending_keeps s die (Some (Programming p cell)) WentWell left v e fit may =
    over_keeps s die (Programming p cell) WentWell left v e
    (record { may = (refl, tt); shown = written_shown die p cell left v e })
ending_keeps s die (Some (Programming p cell)) (WentWrong cells) left v e fit may = failed_keeps cells v e may.0 may.1
    (λ crash. record { may = (refl, crash); shown = left_shown s die p cell left cells may.1 })
ending_keeps s die (Some (Erasing spot)) WentWell left v e fit may =
    over_keeps s die (Erasing spot) WentWell left v e (record { may = (refl, tt); shown = erased_shown s spot v })
ending_keeps s die (Some (Erasing spot)) (WentWrong cells) left v e fit may = failed_keeps cells v e may.0 may.1
    (λ crash. record { may = (refl, crash); shown = may.1 })
ending_keeps s die (Some flight) ending left v e fit may = absurd (false≢true fit)

pub first_keeps : {s : State} (call : Call) (answer : Answer) → IsTied s → MayCome s call → Allowed s call answer →
    IsTied (first s call answer)
first_keeps {s} (Take die) (OfTake (Some flight)) v may right =
    one_move (GiveJob die flight) v right (record { groups = refl; claims = refl }) refl
first_keeps {s} (Done die ending left) (OfDone true) v may right =
    ending_keeps s die (s.translation.disk.flights die) ending left v refl (sym right) may
first_keeps {s} Turn (OfTurn due) v may right = step_keeps v
first_keeps call answer v may right = v

-- Messages

-- the command of a CDB is spelled by it
pub spelled_is : (c : Option Cdb) (command : Cdb) (taken : List ℕ) → IsCdbIn (Some taken) c → c ≡ Some command →
    spelled_cdb taken ≡ Some command
spelled_is c command taken h e = sym h ∙ e

heard_right : {s : State} (m : Message) (c : Option Cdb) (bytes : List ℕ) → IsTied s → Spells m bytes →
    IsCdbIn (cdb_of m) c → message_fault s m ≡ None → Right s (heard s m c)
heard_right {s} (message.NopOut tag) c bytes v spells spelled h =
    reply_right (message.NopIn tag) v (is_free s false tag true h) refl
heard_right {s} (message.Command flags lun tag expected taken) c bytes v spells spelled h =
    command_right (record { flags = flags; lun = lun; tag = tag; expected = expected; bytes = taken; cdb = c }) v
    (is_free s false tag (opens_short s (message.Command flags lun tag expected taken)) (may_open s flags _ h))
    (λ command e. spelled_is c command taken spelled e)
heard_right {s} (message.DataOut lun tag offset «data») c bytes v spells spelled h =
    data_right lun tag offset «data».items v h spells.0.3.2
heard_right {s} (message.TaskRequest lun tag function meant) c bytes v spells spelled h =
    let m = managed_right lun function meant v in
    Both m
    (reply_right (message.TaskResponse lun tag (service s lun function meant))
    (right_keeps m v) (managed_free s lun function meant (number_of true tag) (is_free s true tag true h)) refl)
heard_right {s} (message.QueryRequest tag function asked size value «data») c bytes v spells spelled h =
    query_right tag (record { function = function; asked = asked; length = size; value = value }) v
    (is_free s false tag true h)
heard_right (message.LinkEvent kind) c bytes v spells spelled h = reset_right kind v
heard_right m c bytes v spells spelled h = Still

pub no_fault : (x : Option HostFault) {done : Unit {0}} → Ok done ≡ result_of x → x ≡ None
no_fault None h = refl
no_fault (Some fault) {done} h = absurd (other h)
  where
    other : Ok done ≡ Err fault → ⊥
    other e = cc

host_right : {s : State} (h : Heard) (result : Result (Unit {0}) HostFault) (bytes : List ℕ) → IsTied s →
    IsHeard bytes h → MayHear s h result → Right s (behind s (Host h) (OfHost result))
host_right h (Err fault) bytes v is may = Still
host_right (Faulty fault) (Ok done) bytes v is may = Still
host_right NoEvent (Ok done) bytes v is may = Still
host_right {s} (Spelled m c) (Ok done) bytes v is may =
    heard_right m c bytes v is.0 is.2 (no_fault (message_fault s m) may)

-- Calls

behind_right : {s : State} (call : Call) (answer : Answer) → IsTied s → MayCome s call → Allowed s call answer →
    Right (first s call answer) (behind s call answer)
behind_right {s} (Host h) (OfHost result) v may right = host_right h result may.0 v may.1 right
behind_right (Take die) (OfTake (Some flight)) v may right = Still
behind_right {s} (Done die ending left) (OfDone true) v may right =
    ends_right s die (s.translation.disk.flights die) ending left
    (first_keeps (Done die ending left) (OfDone true) v may right)
behind_right Turn (OfTurn due) v may right = Still
behind_right {s} Reply (OfReply (Some m)) v may right = replies_right m v right
behind_right call answer v may right = Still

-- also before registers and lock
pub behind_keeps : {s : State} (call : Call) (answer : Answer) → IsTied s → MayCome s call → Allowed s call answer →
    IsTied (behind s call answer)
behind_keeps call answer v may right =
    right_keeps (behind_right call answer v may right) (first_keeps call answer v may right)

-- behind what it does first, each call makes changes that may come
pub call_right : {s : State} (call : Call) (answer : Answer) → IsTied s → MayCome s call → Allowed s call answer →
    Right (first s call answer) (observe s call answer)
call_right {s} call answer v may right =
    let h = behind_right call answer v may right in
    Both h (settled_right (right_keeps h (first_keeps call answer v may right)))

pub call_keeps : (s : State) (call : Call) (answer : Answer) → IsTied s → MayCome s call → Allowed s call answer →
    IsTied (observe s call answer)
call_keeps s call answer v may right =
    right_keeps (call_right call answer v may right) (first_keeps call answer v may right)
