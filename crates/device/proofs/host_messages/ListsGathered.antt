-- The list of an UNMAP came: what its task has claimed, and what is kept once the task is answered.
use Rattle.device.specs.Describes.{BringsFor}
use Rattle.device.proofs.Common.{Answering, AreBytes, AreFramesKept, Bool, ComesSo, Command, Core, Deed, Describes}
use Rattle.device.proofs.Common.{DeviceCore, ForUnmap, Frames, FramesFit, Gathering, IsDoing, IsKept, IsLayerWith}
use Rattle.device.proofs.Common.{IsOfList, Keeps, List, None, OpenTask, Phase, Pin, Purpose, ReadsAsked, Release, Some}
use Rattle.device.proofs.Common.{State, Status, TaskEvent, TaskKept, Translation, Wanted, [], after, ap}
use Rattle.device.proofs.Common.{before_accepted, block_after, brings_frames, claim_of, claimed_by, claimed_in}
use Rattle.device.proofs.Common.{claims_of, command_blocks, cond, ends_with_status, eq_self, frames_after, frames_for}
use Rattle.device.proofs.Common.{inl, inr, length, length-replicate, list_slots, machine_at, moved, numbers_of}
use Rattle.device.proofs.Common.{phase_after, plain_now, read_in, refl, region_of, replicate, subst, sym, task_after}
use Rattle.device.proofs.Common.{task_happened, task_of, true, wanted_by, wanted_in, wanted_kept, with_claimed}
use Rattle.device.proofs.Common.{with_deed, ℕ, ◌∙◌, ◌≡◌, ◌⊎◌}
use Rattle.ufs_spec.specs.Exchanges as exchange
use Rattle.ufs_spec.specs.Plain.{zero_block}
use Rattle.power_loss.proofs.host_commands.GatheringTasks.{GathersIn, gathers_in}
use Rattle.task_set.specs.declared.frames.Frames.TheVariants as frames
use Rattle.task_set.specs.declared.tasks.Phase.TheVariants as phase
use Rattle.device.proofs.open_tasks.WantedData.{Gathers, none_came}
use Rattle.device.specs.Unmaps.{HasGivenBack}
use Rattle.device.proofs.host_messages.BlocksGathered.{core_then}
use Rattle.device.proofs.host_messages.TaskBecomes.{becomes_kept, device_then, state_then}
use Rattle.device.proofs.open_tasks.OpenTasks.{Stands}
use Rattle.device.proofs.open_tasks.ReadProgress.{deed_changes}

-- What the task gathered

pub record GathersList (unit size total : ℕ) (deed : Deed) : Type 0 where
  pub deed_is : deed ≡ Gathering (ForUnmap unit) [] true
  pub total_is : total ≡ size
  pub of_list : IsOfList size

pub gathers_list : (unit : ℕ) (w : Wanted) (total : ℕ) (deed : Deed) → w.purpose ≡ ForUnmap unit →
    Gathers w total deed → GathersList unit w.length total deed
gathers_list unit w total deed is g = record {
  deed_is = g.deed_is ∙ (λ i. Gathering (is i) (none_came g.gathered (g.came ∙ so.0) i) true);
  total_is = g.total_is;
  of_list = so.1;
}
  where
    so : ComesSo (ForUnmap unit) w.came w.length
    so = subst (λ (p : Purpose). ComesSo p w.came w.length) is g.so

-- the list came that the task of this tag asked for
pub record ListCame (d : DeviceCore) (s : State) (tag : ℕ) (list : List ℕ) : Type 0 where
  pub described : Describes d s
  pub stands : Stands (before_accepted s.translation.ledger) tag d.tasks s.tasks
  pub unit : ℕ
  pub wanted : Wanted
  pub awaits : stands.a.phase ≡ phase.Await wanted
  pub purpose_is : wanted.purpose ≡ ForUnmap unit
  pub gathers : GathersList unit wanted.length stands.b.length stands.b.deed
  pub long : length list ≡ wanted.length
  pub are_bytes : AreBytes list

module _ {d : DeviceCore} {s : State} {tag : ℕ} {list : List ℕ} (c : ListCame d s tag list) where
  pub gathers_its : GathersIn s c.stands.b (ForUnmap c.unit) [] true
  gathers_its = gathers_in tag c.described.tied c.stands.found c.gathers.deed_is

  found : task_of c.stands.b.tag s.tasks ≡ Some c.stands.b
  found = gathers_its.there

  none_brought : c.stands.a.frames ≡ frames.NotBrought
  none_brought =
      subst (λ (p : Phase). FramesFit p c.stands.a.frames c.stands.a.held c.stands.b.deed) c.awaits
      c.stands.opened.kept.fits
      ∙ ap frames_for c.purpose_is

  -- zeros lie in its slots
  pub its_slots : claims_of (numbers_of s) s.tasks tag ≡ replicate (claim_of (numbers_of s) c.stands.b) zero_block
  its_slots =
      ap (claimed_by (numbers_of s)) c.stands.found
      ∙ (ap (claimed_in (numbers_of s) c.stands.b.length) c.gathers.deed_is
      ∙ ap (λ (n : ℕ). replicate n zero_block) (sym (gathers_its.claim ∙ slots gathers_its.fits.list)))
    where
      slots : {claimed : ℕ} →
          ((c.stands.b.length ≡ 8) × (claimed ≡ 0)) ⊎ ((c.stands.b.length ≡ 24) × (claimed ≡ command_blocks (numbers_of s))) →
          claimed ≡ list_slots (numbers_of s) c.stands.b.length
      slots (inl header) = header.1 ∙ sym (ap (list_slots (numbers_of s)) header.0)
      slots (inr whole) = whole.1 ∙ sym (ap (list_slots (numbers_of s)) whole.0)

  pub slots_are : length (claims_of (numbers_of s) s.tasks tag) ≡ claim_of (numbers_of s) c.stands.b
  slots_are = ap length its_slots ∙ length-replicate (claim_of (numbers_of s) c.stands.b) zero_block

  -- nothing is wanted for it
  not_wanted : (index : ℕ) → wanted_kept s.translation.pins c.stands.b.tag index ≡ None
  not_wanted index =
      c.described.kept.wanted c.stands.b.tag index
      ∙ (ap (wanted_by index) found ∙ ap (wanted_in index c.stands.b.request) c.gathers.deed_is)

  -- Its task is answered

  -- what tells it so
  pub record Tells (e : TaskEvent) (told : Status) : Type 0 where
    pub phase_is : phase_after (phase.Await c.wanted) e ≡ phase.Answer told c.wanted.length
    pub frames_stay : frames_after c.stands.a.frames e ≡ c.stands.a.frames
    pub block_stays : block_after e (phase.Await c.wanted) c.stands.a.block ≡ c.stands.a.block

  -- what becomes of the layer and of the accepted commands
  pub record Leads (layer : Core) (u : Translation) (cs : List Command) : Type 0 where
    pub boot : (after s.base cs).boot ≡ (plain_now s).boot
    pub permanent : (after s.base cs).permanent ≡ (plain_now s).permanent
    pub region : (number : ℕ) → region_of (after s.base cs) number ≡ region_of (plain_now s) number
    pub layer_is : IsLayerWith layer u (with_claimed (claims_of (numbers_of s) s.tasks) tag [])
    pub numbers : u.numbers ≡ s.translation.numbers
    pub before : before_accepted u.ledger ≡ before_accepted s.translation.ledger
    pub pins : u.pins ≡ s.translation.pins

  module _ (e : TaskEvent) (told : Status) (tells : Tells e told) where
    abbrev new : OpenTask
    new = task_after e c.stands.a

    abbrev answering : Deed
    answering = Answering told c.stands.b.length

    phase_is : phase_after c.stands.a.phase e ≡ phase.Answer told c.wanted.length
    phase_is = ap (λ (p : Phase). phase_after p e) c.awaits ∙ tells.phase_is

    still_brings : brings_frames c.stands.a.frames ≡ brings_frames (frames_after c.stands.a.frames e)
    still_brings = sym (ap brings_frames tells.frames_stay)

    told_task : TaskKept (before_accepted s.translation.ledger) new (record c.stands.b { deed = answering })
    told_task = record {
      lun = c.stands.opened.kept.lun;
      tag = c.stands.opened.kept.tag;
      expected = c.stands.opened.kept.expected;
      brings =
          subst (λ (x : Bool). BringsFor c.stands.a.region x c.stands.b.command) still_brings
          c.stands.opened.kept.brings;
      gathers = tt;
      asked_of = c.stands.opened.kept.asked_of;
      request =
          subst (λ (f : Frames). AreFramesKept f c.stands.a.held c.stands.b.request) (sym tells.frames_stay)
          c.stands.opened.kept.request;
      asks =
          subst (λ (f : Frames). ReadsAsked (phase_after c.stands.a.phase e) f c.stands.a.held)
          (sym (tells.frames_stay ∙ none_brought)) tt;
      fits =
          subst (λ (p : Phase). FramesFit p (frames_after c.stands.a.frames e) c.stands.a.held answering)
          (sym phase_is) tt;
      doing =
          subst (λ (p : Phase). IsDoing (before_accepted s.translation.ledger) c.stands.a.expected c.stands.b.length p
          answering) (sym phase_is) (refl, c.gathers.total_is);
      read =
          ap (λ (p : Phase). block_after e p c.stands.a.block) c.awaits
          ∙ (tells.block_stays ∙ (c.stands.opened.kept.read ∙ ap read_in c.gathers.deed_is));
    }

    changed : with_deed c.stands.b.tag answering c.stands.b ≡ record c.stands.b { deed = answering }
    changed =
        ap (λ (b : Bool). cond b (record c.stands.b { deed = answering }) c.stands.b) (eq_self c.stands.b.tag)

    core_is : (layer : Core) → core_then d c.stands.k layer e ≡ device_then d c.stands.k new layer d.rpmb
    core_is layer = λ i. record d {
      ftl = layer;
      tasks = task_happened d.tasks c.stands.k e (c.stands.opened.ours i);
    }

    pub told_keeps : (layer : Core) (u : Translation) (cs : List Command) → Leads layer u cs →
        Keeps (core_then d c.stands.k layer e)
        (state_then s (with_deed c.stands.b.tag answering) u cs s.registers)
    told_keeps layer u cs leads =
        subst
        (λ (y : DeviceCore). Keeps y (state_then s (with_deed c.stands.b.tag answering) u cs s.registers))
        (sym (core_is layer))
        (becomes_kept d s c.stands.k c.stands.a new c.stands.b (with_deed c.stands.b.tag answering) layer d.rpmb u cs
        s.registers c.described c.stands.opened
        (record {
          changes = deed_changes c.stands.b.tag answering;
          boot = leads.boot;
          permanent = leads.permanent;
          each = c.described.kept.each;
          region =
              λ number. subst (IsKept (machine_at d.rpmb number).region) (sym (leads.region number))
              (c.described.kept.region number);
          registers_are = c.described.kept.registers;
          layer_is =
              subst (λ (y : exchange.Task). IsLayerWith layer u
              (with_claimed (claims_of (numbers_of s) s.tasks) c.stands.b.tag (claimed_in (numbers_of s) y.length y.deed))) (sym changed)
              (subst (λ (n : ℕ). IsLayerWith layer u (with_claimed (claims_of (numbers_of s) s.tasks) n [])) (sym c.stands.tag_is)
              leads.layer_is);
          numbers = leads.numbers;
          before = leads.before;
          task = subst (TaskKept (before_accepted s.translation.ledger) new) (sym changed) told_task;
          sends = ap brings_frames tells.frames_stay;
          wanted =
              λ index. ap (λ (pins : List Pin). wanted_kept pins c.stands.b.tag index) leads.pins
              ∙ (not_wanted index ∙ sym (ap (λ (y : exchange.Task). wanted_by index (Some y)) changed));
          others_wanted =
              λ n other index. ap (λ (pins : List Pin). wanted_kept pins n index) leads.pins;
        }))

    -- where it gives back all that it claimed
    pub ended_keeps : (layer : Core) → HasGivenBack layer s.translation (claims_of (numbers_of s) s.tasks) tag →
        Keeps (core_then d c.stands.k layer e) (ends_with_status s c.stands.b told)
    ended_keeps layer given =
        told_keeps layer (moved s.translation (Release (claim_of (numbers_of s) c.stands.b))) s.accepted (record {
          boot = refl;
          permanent = refl;
          region = λ number. refl;
          layer_is =
              subst (λ (n : ℕ). IsLayerWith layer (moved s.translation (Release n))
              (with_claimed (claims_of (numbers_of s) s.tasks) tag [])) slots_are given;
          numbers = refl;
          before = refl;
          pins = refl;
        })
