-- A COMMAND is answered as the definitions say.
use Rattle.device.proofs.Common.{Bool, Cdb, Describes, DeviceCore, Err, Faulty, Heard, HostFault, IsHeard, IsHeardAs}
use Rattle.device.proofs.Common.{IsPlanned, List, Message, None, Ok, OnErr, OnOk, Option, Request, Result, Short}
use Rattle.device.proofs.Common.{ShortReply, Some, Spelled, Spells, State, ap, at_once, cdb_of, false, host_fault_of}
use Rattle.device.proofs.Common.{if◌then◌else◌, inl, inr, is_short_of, is_task_of, length, list_any, message_fault}
use Rattle.device.proofs.Common.{most_tasks, nat_le, none-some, numbers_of, opening_fault, or_parts, refl, refusal}
use Rattle.device.proofs.Common.{result_of, short_answer, short_reply, short_said, subst, sym, task_of, true}
use Rattle.device.proofs.Common.{with_short, ℕ, ◌<◌, ◌∙◌, ◌≡◌}
use Rattle.std.proofs.lemmas.Bool.{leb-false}
use Rattle.ufs_spec.proofs.ReadBack.{one_message}
use Rattle.ufs_spec.specs.Machine.{IsCdbIn, command_taken, has_attribute, opens_short, refused_or_begun}
use Rattle.ufs_spec.specs.Machine as machine
use Rattle.ufs_spec.specs.declared.faults.HostFault.TheVariants.{Reserved, TagInUse}
use Rattle.ufs_spec.specs.declared.messages.Message.TheVariants as message
use Rattle.ufs_laws.proofs.exchanges.BytesHeard.{is_heard}
use Rattle.power_loss.proofs.open_tasks.FoundInLists.{none_found}
use Rattle.task_set.specs.declared.tasks.ShortReply.TheVariants as reply
use Rattle.device.specs.Hears.{IsTaskOpened, uses}
use Rattle.device.proofs.described.Answered.{IsBehind, stays}
use Rattle.device.proofs.host_messages.CommandBegins.{planned_begins}
use Rattle.device.proofs.host_messages.CommandTags.{others_send, tag_used, task_fault, tasks_count}
use Rattle.device.proofs.host_messages.ShortsOpened.{short_heard, spelled_heard}
use Rattle.device.proofs.host_messages.TasksBegin.{HasBegunFor, left_for, opened_as}

-- a message is heard, whatever its CDB spells
is_read : (m : Message) (bytes : List ℕ) → Spells m bytes → host_fault_of bytes ≡ None → (c : Option Cdb)
    × IsCdbIn (cdb_of m) c
is_read m bytes spells none = by (is_heard bytes)
  where
    by : (h : Heard) × IsHeard bytes h → (c : Option Cdb) × IsCdbIn (cdb_of m) c
    by (Spelled n c, h) = (
      c,
      subst (λ (x : Message). IsCdbIn (cdb_of x) c)
          (one_message n m h.0.0 spells.0 (sym h.0.1 ∙ spells.1)) h.2,
    )
    by (Faulty fault, inl h) = absurd (none-some fault (sym none ∙ h))
    by (Faulty fault, inr h) = absurd (h.0.1 m spells)
    by (machine.NoEvent, h) = absurd (h.0.1 m spells)

module _ (d : DeviceCore) (s : State) (flags lun tag expected : ℕ) (cdb_bytes whole : List ℕ) (h : Describes d s)
    (spells : Spells (message.Command flags lun tag expected cdb_bytes) whole) (none : host_fault_of whole ≡ None) where
  abbrev request : Option Cdb → Request
  request c = record { flags = flags; lun = lun; tag = tag; expected = expected; bytes = cdb_bytes; cdb = c }

  abbrev said : Message
  said = message.Command flags lun tag expected cdb_bytes

  abbrev full_reply : ShortReply
  full_reply = reply.TaskSetFull lun expected

  -- the exchange that refuses it
  abbrev refusing : Short
  refusing = short_reply tag (short_said (numbers_of s) tag full_reply)

  -- what it is, as its CDB spells it
  command : (c : Option Cdb) × IsCdbIn (Some cdb_bytes) c
  command = is_read said whole spells none

  -- as many tasks are open as may be, for both sides or for none
  many_is : (b : Bool) → nat_le most_tasks (length d.tasks) ≡ b → nat_le most_tasks (length s.tasks) ≡ b
  many_is b e = ap (nat_le most_tasks) (tasks_count d s h) ∙ e

  -- the command is refused as a short exchange, or opens a task
  command_is : (c : Option Cdb) (b : Bool) → nat_le most_tasks (length s.tasks) ≡ b →
      command_taken s (request c) ≡ (if b then machine.with_short s refusing
      else refused_or_begun s (request c) (refusal s (request c)))
  command_is c b e = ap (λ (x : Bool). if x then machine.with_short s refusing
      else refused_or_begun s (request c) (refusal s (request c))) e

  -- it has a priority or a task attribute, in profile 0
  pub reserved_right : has_attribute (numbers_of s) flags ≡ true → IsHeardAs s whole (Err Reserved) d
  reserved_right has =
      spelled_heard d d s s whole said command.0 (Err Reserved) h spells none command.1
      (sym (ap (λ (x : Bool). result_of (if x then Some Reserved else opening_fault s false tag (opens_short s said))) has))
      refl (stays d s h)

  fault_is : (b : Bool) → has_attribute (numbers_of s) flags ≡ false → nat_le most_tasks (length s.tasks) ≡ b →
      message_fault s said ≡ opening_fault s false tag b
  fault_is b has e =
      ap (λ (x : Bool). if x then Some Reserved else opening_fault s false tag (opens_short s said)) has
      ∙ ap (opening_fault s false tag) e

  -- as many tasks are open as may be: the command opens a short exchange
  pub full_right : (e : DeviceCore) (answer : Result Unit HostFault) → has_attribute (numbers_of s) flags ≡ false →
      nat_le most_tasks (length d.tasks) ≡ true →
      answer ≡ short_answer d (numbers_of s) false tag → OnErr answer (e ≡ d) → OnOk answer (e ≡ with_short d (at_once tag full_reply)) →
      IsHeardAs s whole answer e
  full_right e answer has many told refused taken =
      short_heard d e s whole said command.0 tag full_reply answer h spells none command.1
      (fault_is true has (many_is true many)) (command_is command.0 true (many_is true many)) told refused taken

  -- the tag is in use
  pub used_right : has_attribute (numbers_of s) flags ≡ false → nat_le most_tasks (length d.tasks) ≡ false →
      uses d (numbers_of s) false tag ≡ true → IsHeardAs s whole (Err TagInUse) d
  used_right has many used =
      spelled_heard d d s s whole said command.0 (Err TagInUse) h spells none command.1
      (sym (ap result_of (fault_is false has (many_is false many) ∙ (task_fault d s tag h
      ∙ ap (λ (b : Bool). if b then Some TagInUse else None) used)))) refl (stays d s h)

  -- it opens a task
  pub opened_right : (e : DeviceCore) → has_attribute (numbers_of s) flags ≡ false →
      nat_le most_tasks (length d.tasks) ≡ false → uses d (numbers_of s) false tag ≡ false →
      IsTaskOpened d e flags lun tag expected cdb_bytes → IsHeardAs s whole (Ok tt) e
  opened_right e has many used k =
      spelled_heard d e s (refused_or_begun s (request command.0) (refusal s (request command.0))) whole said command.0
      (Ok tt) h spells none command.1
      (sym (ap result_of (fault_is false has (many_is false many) ∙ (task_fault d s tag h
      ∙ ap (λ (b : Bool). if b then Some TagInUse else None) used))))
      (command_is command.0 false (many_is false many))
      (subst (λ (x : DeviceCore). IsBehind x (refused_or_begun s (request command.0) (refusal s (request command.0))))
      (sym (opened_as d s (request command.0) h e k.layer k.todo k.phase _ begun behind.keeps.layer_kept k.more)) behind)
    where
      free : task_of tag s.tasks ≡ None
      free = none_found (is_task_of tag) s.tasks
          (or_parts (list_any (is_task_of tag) s.tasks) (list_any (is_short_of tag) s.shorts)
          (or_parts (machine.is_open s tag) _ (tag_used d s false tag h ∙ used)).0).0

      few : length s.tasks < most_tasks
      few = leb-false most_tasks (length s.tasks) (many_is false many)

      begun : HasBegunFor s (request command.0) k.layer k.todo k.phase
      begun = k.begun s.translation _ (h.kept.layer_kept, h.kept.claims)

      planned : IsPlanned s (request command.0) k.todo
      planned =
          k.plan s (request command.0) h.kept.layer_kept
          (record {
            boot_is = h.kept.boot;
            permanent_is = h.kept.permanent;
            volatile_is = h.kept.volatile;
            registers_are = h.kept.registers;
            senders_are = others_send d s h;
          })
          (record { flags_are = refl; lun_is = refl; expected_is = refl; bytes_are = refl; spelled = command.1 })

      behind : IsBehind (left_for d (request command.0) k.layer k.todo k.phase)
          (refused_or_begun s (request command.0) (refusal s (request command.0)))
      behind = planned_begins d s (request command.0) h free few k.layer k.todo k.phase planned begun
