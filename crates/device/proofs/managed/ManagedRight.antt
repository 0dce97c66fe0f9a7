-- A task management request is answered as the definitions say.
use Rattle.device.proofs.Common.{Describes, DeviceCore, Err, HostFault, IsBehind, IsHeardAs, List, Message, None, Ok}
use Rattle.device.proofs.Common.{OnErr, OnOk, Option, Result, Short, Some, Spells, State, Volatile, ap, at_once}
use Rattle.device.proofs.Common.{before_accepted, heard, if◌then◌else◌, lun_of, true}
use Rattle.device.proofs.Common.{host_fault_of, message_fault, numbers_of, refl, result_of, short_answer, short_reply}
use Rattle.device.proofs.Common.{subst, sym, with_short, ℕ, ◌==◌, ◌∙◌, ◌≡◌}
use Rattle.ufs_spec.specs.Exchanges.{number_of}
use Rattle.ufs_spec.specs.Machine as machine
use Rattle.ufs_spec.specs.Machine.{managed, service}
use Rattle.ufs_spec.specs.Management.{reset_at, volatile_managed}
use Rattle.ufs_spec.specs.Refusals.{Lun}
use Rattle.ufs_spec.specs.declared.messages.Message.TheVariants as message
use Rattle.task_set.specs.declared.tasks.ShortReply.TheVariants as reply
use Rattle.lun_route.specs.Luns.{place_of}
use Rattle.device.specs.Attentions.{with_attention_at}
use Rattle.device.specs.Manages.{carried, function_on, reset_left, service_by}
use Rattle.device.specs.declared.management.Managing.{Managing}
use Rattle.device.proofs.described.Answered.{stays}
use Rattle.device.proofs.described.ShortExchanges.{kept_at_once}
use Rattle.device.proofs.described.VolatileChanges.{volatile_described}
use Rattle.device.proofs.host_messages.CommandTags.{short_fault}
use Rattle.device.proofs.host_messages.ShortsOpened.{short_behind, spelled_heard}
use Rattle.device.proofs.managed.Services.{managed_same, service_same}

module _ (d : DeviceCore) (s : State) (lun tag function meant : ℕ) (h : Describes d s) where
  abbrev said : Message
  said = message.TaskRequest lun tag function meant

  abbrev told : ℕ → Short
  told code = short_reply (number_of true tag) (message.TaskResponse lun tag code)

  -- the state once the LUN has an attention, if it is a reset
  abbrev reset : State
  reset = record s { volatile = volatile_managed s lun function }

  reset_same : (o : Option Lun) (v : Volatile) → with_attention_at (place_of o) true v ≡ reset_at o v
  reset_same None v = refl
  reset_same (Some unit) v = refl

  reset_is : reset_left (numbers_of s) lun function d.volatile ≡ volatile_managed s lun function
  reset_is =
      ap (reset_left (numbers_of s) lun function) h.kept.volatile
      ∙ ap (λ (v : Volatile). if function == 0x08 then v else s.volatile)
      (reset_same (lun_of (numbers_of s) lun) s.volatile)

  -- it was carried out, and its answer is due at once
  pub managing_taken : (b c e : DeviceCore) (m : Managing) (code : ℕ) →
      m ≡ function_on (numbers_of s) lun function meant → code ≡ service_by d m →
      b ≡ record d { volatile = reset_left (numbers_of s) lun function d.volatile } →
      ((t : State) → Describes b t → IsBehind c (carried t m)) →
      e ≡ with_short c (at_once tag (reply.Managed lun code)) → IsBehind e (heard s said None)
  managing_taken b c e m code decided answered noted carries after =
      subst (λ (x : DeviceCore). IsBehind x (heard s said None)) (sym after)
      (subst (IsBehind (with_short c (at_once tag (reply.Managed lun code)))) (sym is)
      (short_behind c (carried reset m) (at_once tag (reply.Managed lun code)) (told code) behind
      (kept_at_once (numbers_of (carried reset m)) (before_accepted (carried reset m).translation.ledger) tag
      (reply.Managed lun code)) tt))
    where
      behind : IsBehind c (carried reset m)
      behind =
          carries reset
          (subst (λ (x : DeviceCore). Describes x reset) (sym noted)
          (volatile_described d s (reset_left (numbers_of s) lun function d.volatile)
          (volatile_managed s lun function) reset_is h))

      made : managed s lun function meant ≡ carried reset m
      made = managed_same d s lun function meant h.kept.tasks ∙ ap (carried reset) (sym decided)

      responds : service s lun function meant ≡ code
      responds =
          service_same d s lun function meant h.kept.tasks ∙ sym (answered ∙ ap (service_by d) decided)

      is : heard s said None ≡ machine.with_short (carried reset m) (told code)
      is i = machine.with_short (made i) (told (responds i))

  -- so it is heard; if its tag is in use, or too many short exchanges are open, it is told so
  pub managing_right : (e : DeviceCore) (bytes : List ℕ) (answer : Result Unit HostFault) → Spells said bytes →
      host_fault_of bytes ≡ None → answer ≡ short_answer d (numbers_of s) true tag → OnErr answer (e ≡ d) →
      OnOk answer (IsBehind e (heard s said None)) → IsHeardAs s bytes answer e
  managing_right e bytes answer spells none is refused taken =
      by answer (is ∙ sym (short_fault d s true tag h)) refused taken
    where
      by : (x : Result Unit HostFault) → x ≡ result_of (message_fault s said) → OnErr x (e ≡ d) →
          OnOk x (IsBehind e (heard s said None)) → IsHeardAs s bytes x e
      by (Ok done) right stayed behind =
          spelled_heard d e s (heard s said None) bytes said None (Ok done) h spells none refl right refl behind
      by (Err fault) right stayed behind =
          spelled_heard d e s s bytes said None (Err fault) h spells none refl right refl
          (subst (λ (x : DeviceCore). IsBehind x s) (sym stayed) (stays d s h))
