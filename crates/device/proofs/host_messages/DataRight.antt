-- A DATA OUT is answered as the definitions say.
use Rattle.device.proofs.Common.{AreBytes, ArrayVec, AskedFor, Bool, Call, ComesSo, Describes, DeviceCore, Err}
use Rattle.device.proofs.Common.{ForFrames, ForUnmap, ForWrite, Host, HostFault, IsAnswered, IsDoing, IsHeard}
use Rattle.device.proofs.Common.{IsHeardAs, Keeps, List, None, OfHost, Ok, Option, Purpose, Result, Spelled, Spells}
use Rattle.device.proofs.Common.{State, Wanted, ap, before_accepted, count_for, data_heard, host_fault_of, inl, inr}
use Rattle.device.proofs.Common.{length, refl, result_of, subst, sym, task_of, ℕ, ◌∙◌, ◌≡◌}
use Rattle.ufs_spec.specs.Exchanges.{is_asked_of}
use Rattle.ufs_spec.specs.Machine.{asked_fault}
use Rattle.ufs_spec.specs.declared.faults.HostFault.TheVariants.{NotAskedFor}
use Rattle.ufs_spec.specs.declared.messages.Message.TheVariants as message
use Rattle.power_loss.proofs.calls.RightChanges.{right_keeps}
use Rattle.power_loss.proofs.host_commands.GatheredData.{data_right}
use Rattle.task_set.specs.declared.tasks.ComparedWith.{ComparedWith}
use Rattle.task_set.specs.declared.tasks.Phase.TheVariants as phase
use Rattle.device.specs.Hears.{HasCome, HasComeFor, IsBlockHeard, IsDataHeard, asked_for, compared_with}
use Rattle.task_set.specs.Tasks.{wanted_count}
use Rattle.device.proofs.described.Answered.{answered, answered_told, stays}
use Rattle.device.proofs.host_messages.AskedData.{AreAsked, data_asked}
use Rattle.device.proofs.host_messages.BlocksCome.{block_keeps}
use Rattle.device.proofs.host_messages.BlocksGathered.{gathers_blocks}
use Rattle.device.proofs.host_messages.ComparesRight.{block_compares}
use Rattle.device.proofs.open_tasks.WantedData.{Gathers, gathers}
use Rattle.device.proofs.host_messages.FramesCome.{frames_keep}
use Rattle.device.proofs.host_messages.ListsCome.{list_keeps}
use Rattle.device.proofs.open_tasks.OpenTasks.{Stands}

abbrev call_of : ℕ → ℕ → ℕ → ArrayVec ℕ → Call
call_of lun tag offset «data» = Host (Spelled (message.DataOut lun tag offset «data») None)

-- what was asked for came, and is kept of the state behind it
come_keeps : (d come : DeviceCore) (s : State) (tag : ℕ) (bytes : List ℕ)
    (r : Stands (before_accepted s.translation.ledger) tag d.tasks s.tasks) (w : Wanted) → Describes d s →
    r.a.phase ≡ phase.Await w → length bytes ≡ wanted_count w → AreBytes bytes →
    HasCome d come tag r.k w bytes → Keeps come (data_heard s (task_of tag s.tasks) bytes)
come_keeps d come s tag bytes r w h at long are did = by w.purpose refl did
  where
    came : Gathers w r.b.length r.b.deed
    came =
        gathers (before_accepted s.translation.ledger) r.a.expected r.b.length w r.b.deed
        (subst (λ p. IsDoing (before_accepted s.translation.ledger) r.a.expected r.b.length p r.b.deed) at
        r.opened.kept.doing)

    by : (purpose : Purpose) → w.purpose ≡ purpose → HasComeFor d come tag r.k w bytes purpose →
        Keeps come (data_heard s (task_of tag s.tasks) bytes)
    by (ForWrite unit address blocks forced) is did =
        subst (λ (y : DeviceCore). Keeps y (data_heard s (task_of tag s.tasks) bytes)) (sym did.after_is)
        (block_keeps d s tag bytes w h r at
        (gathers_blocks unit address blocks forced w r.b.length r.b.deed is came
        (subst (λ (p : Purpose). ComesSo p w.came w.length) is came.so))
        (long ∙ ap (λ (p : Purpose). count_for p w.length) is) are did.layer did.event
        (did.taken s.translation _ (h.kept.layer_kept, h.kept.claims)))
    by (ForFrames region) is did =
        frames_keep d come s tag bytes region w h r at is came
        (long ∙ ap (λ (p : Purpose). count_for p w.length) is) are did
    by (ForUnmap unit) is did =
        list_keeps d come s tag bytes unit w h r at is came
        (long ∙ ap (λ (p : Purpose). count_for p w.length) is) are did

-- what a DATA OUT is answered, whether it was asked for or not
each_right : (d e : DeviceCore) (s : State) (lun tag offset : ℕ) («data» : ArrayVec ℕ) (whole : List ℕ)
    (asked : Option AskedFor) (compared : Option ComparedWith) (is : Bool) (result : Result Unit HostFault) →
    Describes d s →
    IsHeard whole (Spelled (message.DataOut lun tag offset «data») None) →
    is_asked_of (task_of tag s.tasks) lun offset (length «data».items) ≡ is →
    AreAsked (before_accepted s.translation.ledger) tag (length «data».items) d.tasks s.tasks asked compared is →
    IsDataHeard d e tag «data».items asked compared result →
    IsAnswered s (call_of lun tag offset «data») (OfHost result) e
each_right d e s lun tag offset «data» whole asked compared is result h heard is_is (inl none) did =
    let its = subst (λ (x : Option ComparedWith). IsBlockHeard d e tag «data».items x result) none.1
    (subst (λ (x : Option AskedFor). IsDataHeard d e tag «data».items x compared result) none.0 did) in
    subst (λ (x : Result Unit HostFault). IsAnswered s (call_of lun tag offset «data») (OfHost x) e) (sym its.0)
    (subst (IsAnswered s (call_of lun tag offset «data») (OfHost (Err NotAskedFor))) (sym its.1)
    (answered d d s (call_of lun tag offset «data») (OfHost (Err NotAskedFor)) h (whole, heard)
    (ap (λ (b : Bool). result_of (asked_fault b)) (sym (is_is ∙ none.2))) (stays d s h)))
each_right d e s lun tag offset «data» whole asked compared is result h heard is_is (inr (inl (x, told))) did =
    let its = subst (λ (y : Option AskedFor). IsDataHeard d e tag «data».items y compared result) x.asked_is did in
    let new = its.1 in
    subst (λ (y : Result Unit HostFault). IsAnswered s (call_of lun tag offset «data») (OfHost y) e) (sym its.0)
    (answered_told d new.come new.filled e s (call_of lun tag offset «data»)
    (OfHost (Ok tt)) h (whole, heard) (ap (λ (b : Bool). result_of (asked_fault b)) (sym (is_is ∙ told)))
    (right_keeps (data_right lun tag offset «data».items h.tied
    (ap asked_fault (is_is ∙ told)) heard.0.0.3.2) h.tied)
    (come_keeps d new.come s tag «data».items x.stands x.wanted h x.awaits x.count_is heard.0.0.3.2 new.has_come)
    new.has_filled new.told)
each_right d e s lun tag offset «data» whole asked compared is result h heard is_is (inr (inr x)) did =
    let its = subst (λ (y : Option ComparedWith). IsBlockHeard d e tag «data».items y result) x.1.compared_is
    (subst (λ (y : Option AskedFor). IsDataHeard d e tag «data».items y compared result) x.0 did) in
    subst (λ (y : Result Unit HostFault). IsAnswered s (call_of lun tag offset «data») (OfHost y) e) (sym its.0)
    (answered d e s (call_of lun tag offset «data») (OfHost (Ok tt)) h (whole, heard)
    (ap (λ (b : Bool). result_of (asked_fault b)) (sym (is_is ∙ x.2)))
    (block_compares d s tag h x.1.stands x.1.comparing x.1.awaits e «data».items its.1))

-- bytes that spell a DATA OUT are heard as it, and answered so
pub data_heard_as : (d e : DeviceCore) (s : State) (lun tag offset : ℕ) («data» : ArrayVec ℕ) (items whole : List ℕ)
    (result : Result Unit HostFault) → Describes d s →
    Spells (message.DataOut lun tag offset «data») whole → host_fault_of whole ≡ None → items ≡ «data».items →
    IsDataHeard d e tag items (asked_for d lun tag offset (length items)) (compared_with d lun tag offset (length items))
    result → IsHeardAs s whole result e
data_heard_as d e s lun tag offset «data» items whole result h spells none same did = record {
  heard = Spelled (message.DataOut lun tag offset «data») None;
  is_heard = (spells, none, refl);
  answered =
      each_right d e s lun tag offset «data» whole (asked_for d lun tag offset (length «data».items))
      (compared_with d lun tag offset (length «data».items))
      (is_asked_of (task_of tag s.tasks) lun offset (length «data».items)) result h (spells, none, refl) refl
      (data_asked d (before_accepted s.translation.ledger) lun tag offset (length «data».items) s.tasks h.kept.tasks)
      (subst (λ (xs : List ℕ). IsDataHeard d e tag xs (asked_for d lun tag offset (length xs))
      (compared_with d lun tag offset (length xs)) result) same did);
}
