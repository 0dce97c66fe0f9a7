-- All frames of a SECURITY PROTOCOL OUT came: what was decided of them is kept of the state behind them.
use Rattle.device.proofs.Common.{Answering, AreBytes, Bool, Deed, Describes, DeviceCore, ForFrames, Frame, Frames}
use Rattle.device.proofs.Common.{FramesFit, IsDoing, IsKept, IsLayerWith, Keeps, List, OpenTask, Phase, ReadsAsked}
use Rattle.device.proofs.Common.{Registers, Release, Results, RpmbWrite, Sense, SetKey, State, TaskKept, Wanted, []}
use Rattle.device.proofs.Common.{accepts_nothing, ap, arith, before_accepted, claim_of, claimed_in, claims_of, cond}
use Rattle.device.proofs.Common.{data_heard, ends_with_status, eq_self, false, flat_map, frames_of, if_false, le-ltb}
use Rattle.device.proofs.Common.{length, machine_at, moved, nat_lt, numbers_of, phase_after, plain_now, read_in, refl}
use Rattle.device.proofs.Common.{region_of, regions, request_decided, rpmb_outcome, same_Some, subst, sym, task_after}
use Rattle.device.proofs.Common.{task_happened, task_of, wanted_by, with_claimed, with_deed, ℕ, ◌<◌, ◌∙◌, ◌≡◌}
use Rattle.std.specs.Prelude.{None, Some}
use Rattle.ufs_spec.specs.Exchanges as exchange
use Rattle.ufs_spec.specs.declared.exchanges.Status.TheVariants.{CheckCondition}
use Rattle.ufs_spec.specs.Machine.{data_for}
use Rattle.rpmb.specs.Outcomes.{outcome_of, status_of}
use Rattle.rpmb.specs.declared.outcomes.Accepted.TheVariants as accepted
use Rattle.rpmb.specs.declared.outcomes.Outcome.{Outcome}
use Rattle.rpmb.specs.declared.outcomes.Outcome.TheVariants as outcome
use Rattle.rpmb.specs.declared.outcomes.Refusal.{Refusal}
use Rattle.task_set.specs.declared.tasks.TaskEvent.TheVariants as event
use Rattle.task_set.specs.declared.tasks.Phase.TheVariants as phase
use Rattle.device.specs.Frames.{HasDecided, HasDone, HasRefused}
use Rattle.device.proofs.open_tasks.WantedData.{Gathers}
use Rattle.device.proofs.host_messages.FramesGathered.{AllCame, for_region, frames_are, gathers_frames}
use Rattle.device.proofs.host_messages.FramesGathered.{not_wanted, released, to, to_there, undecided}
use Rattle.device.proofs.host_messages.RequestsAccepted.{command_keeps}
use Rattle.device.proofs.host_messages.RequestsAnswered.{answered_keeps}
use Rattle.device.proofs.host_messages.TaskBecomes.{becomes_kept, device_then}
use Rattle.device.proofs.open_tasks.OpenTasks.{Stands}
use Rattle.device.proofs.open_tasks.ReadProgress.{deed_changes}

module _ {d : DeviceCore} {s : State} {tag : ℕ} {bytes : List ℕ} (c : AllCame d s tag bytes) where
  -- The frames are refused

  module _ (come : DeviceCore) (why : Refusal) (sense : Sense) (is : CheckCondition sense ≡ status_of why)
      (did : HasRefused d come tag c.stands.k sense) where
    abbrev new : OpenTask
    new = task_after (event.DataRefused sense) c.stands.a

    abbrev answering : Deed
    answering = Answering (status_of why) c.stands.b.length

    refused_task : TaskKept (before_accepted s.translation.ledger) new (record c.stands.b { deed = answering })
    refused_task = record {
      lun = c.stands.opened.kept.lun;
      tag = c.stands.opened.kept.tag;
      expected = c.stands.opened.kept.expected;
      brings = c.stands.opened.kept.brings;
      gathers = tt;
      asked_of = c.stands.opened.kept.asked_of;
      request = c.stands.opened.kept.request;
      asks =
          subst
          (λ (f : Frames). ReadsAsked (phase_after c.stands.a.phase (event.DataRefused sense)) f c.stands.a.held)
          (sym (undecided c)) tt;
      fits =
          subst (λ (p : Phase). FramesFit (phase_after p (event.DataRefused sense)) c.stands.a.frames c.stands.a.held
          answering) (sym c.awaits) tt;
      doing =
          subst (λ (p : Phase). IsDoing (before_accepted s.translation.ledger) c.stands.a.expected c.stands.b.length
          (phase_after p (event.DataRefused sense)) answering) (sym c.awaits) (sym is, c.gathers.total_is);
      read = c.stands.opened.kept.read ∙ ap read_in c.gathers.deed_is;
    }

    core_is : come ≡ device_then d c.stands.k new did.layer d.rpmb
    core_is =
        did.after_is
        ∙ (λ i. record d {
          ftl = did.layer;
          tasks = task_happened d.tasks c.stands.k (event.DataRefused sense) (c.stands.opened.ours i);
        })

    refused_keeps : Keeps come (ends_with_status s c.stands.b (status_of why))
    refused_keeps =
        subst (λ (y : DeviceCore). Keeps y (ends_with_status s c.stands.b (status_of why))) (sym core_is)
        (becomes_kept d s c.stands.k c.stands.a new c.stands.b (with_deed c.stands.b.tag answering) did.layer d.rpmb
        (moved s.translation (Release (claim_of (numbers_of s) c.stands.b))) s.accepted s.registers c.described
        c.stands.opened
        (record {
          changes = deed_changes c.stands.b.tag answering;
          boot = refl;
          permanent = refl;
          each = c.described.kept.each;
          region = c.described.kept.region;
          registers_are = c.described.kept.registers;
          layer_is =
              subst (λ (y : exchange.Task). IsLayerWith did.layer
              (moved s.translation (Release (claim_of (numbers_of s) c.stands.b)))
              (with_claimed (claims_of (numbers_of s) s.tasks) c.stands.b.tag (claimed_in (numbers_of s) y.length y.deed))) (sym changed)
              (released c did.layer (λ n. [])
              (did.released s.translation (claims_of (numbers_of s) s.tasks) (c.described.kept.layer_kept, c.described.kept.claims)));
          numbers = refl;
          before = refl;
          task = subst (TaskKept (before_accepted s.translation.ledger) new) (sym changed) refused_task;
          sends = refl;
          wanted = λ index. not_wanted c index ∙ sym (ap (λ (y : exchange.Task). wanted_by index (Some y)) changed);
          others_wanted = λ n other index. refl;
        }))
      where
        changed : with_deed c.stands.b.tag answering c.stands.b ≡ record c.stands.b { deed = answering }
        changed =
            ap (λ (b : Bool). cond b (record c.stands.b { deed = answering }) c.stands.b) (eq_self c.stands.b.tag)

  -- What was decided

  decided_keeps : AreBytes bytes → (come : DeviceCore) (o : Outcome) →
      rpmb_outcome (to c) (region_of (plain_now s) (to c)) (s.registers (to c)) (accepts_nothing s) (frames_of bytes)
      ≡ outcome_of (to c) (frames_of bytes) o →
      HasDone d come tag c.stands.k (to c) bytes o →
      Keeps come (request_decided s c.stands.b (to c) (frames_of bytes) (outcome_of (to c) (frames_of bytes) o))
  decided_keeps are come (outcome.Refused why) passed did = refused_keeps come why did.0 did.1 did.2
  decided_keeps are come (outcome.Results code accepted.Nothing) passed did =
      subst (λ (fs : List Frame). Keeps come (request_decided s c.stands.b (to c) fs (Results code None)))
      (sym (frames_are c)) (answered_keeps c come code did
      (sym (ap (rpmb_outcome (to c) (region_of (plain_now s) (to c)) (s.registers (to c)) (accepts_nothing s)) (frames_are c))
      ∙ passed))
  decided_keeps are come (outcome.Results code (accepted.Key key)) passed did =
      command_keeps c are code (accepted.Key key) (SetKey (to c) key) refl refl passed come did did.decided
  decided_keeps are come (outcome.Results code (accepted.Write address)) passed did =
      command_keeps c are code (accepted.Write address)
      (RpmbWrite (to c) address (flat_map (λ (f : Frame). f.payload) (frames_of bytes))) refl refl passed come did
      did.decided

  -- the frames are all there
  complete_is : data_heard s (task_of tag s.tasks) bytes
      ≡ request_decided s c.stands.b (to c) (frames_of bytes)
      (rpmb_outcome (to c) (region_of (plain_now s) (to c)) (s.registers (to c)) (accepts_nothing s) (frames_of bytes))
  complete_is =
      ap (λ o. data_heard s o bytes) c.stands.found
      ∙ (ap (λ (deed : Deed). data_for s c.stands.b deed bytes) c.gathers.deed_is
      ∙ if_false (nat_lt (length bytes) c.stands.b.length) _ _ all_came)
    where
      all_came : nat_lt (length bytes) c.stands.b.length ≡ false
      all_came =
          le-ltb (length bytes) c.stands.b.length (let total = c.gathers.total_is in let long = c.long in omega arith)

  come_keeps : AreBytes bytes → (come : DeviceCore) → HasDecided d come tag c.stands.k bytes →
      Keeps come (data_heard s (task_of tag s.tasks) bytes)
  come_keeps are come did =
      subst (Keeps come) (sym (complete_is ∙ ap (request_decided s c.stands.b (to c) (frames_of bytes)) passed))
      (decided_keeps are come did.outcome passed
      (subst (λ (x : OpenTask). HasDone d come tag c.stands.k x.region bytes did.outcome) same did.done))
    where
      same : did.task ≡ c.stands.a
      same = same_Some did.task c.stands.a (sym did.there ∙ c.stands.opened.ours)

      passed : rpmb_outcome (to c) (region_of (plain_now s) (to c)) (s.registers (to c)) (accepts_nothing s) (frames_of bytes)
          ≡ outcome_of (to c) (frames_of bytes) did.outcome
      passed =
          ap (λ (x : Registers). rpmb_outcome (to c) (region_of (plain_now s) (to c)) x (accepts_nothing s) (frames_of bytes))
          (c.described.kept.registers (to c))
          ∙ subst
          (λ (x : OpenTask). x.region < regions →
          IsKept (machine_at d.rpmb x.region).region (region_of (plain_now s) (to c)) →
          rpmb_outcome x.region (region_of (plain_now s) (to c)) (machine_at d.rpmb x.region).registers (accepts_nothing s)
          (frames_of bytes) ≡ outcome_of x.region (frames_of bytes) did.outcome) same
          (did.outcome_is s.translation (region_of (plain_now s) (to c)) c.described.kept.layer_kept) (to_there c)
          (c.described.kept.region (to c))

pub frames_keep : (d come : DeviceCore) (s : State) (tag : ℕ) (bytes : List ℕ) (region : ℕ) (w : Wanted) →
    Describes d s → (r : Stands (before_accepted s.translation.ledger) tag d.tasks s.tasks) →
    r.a.phase ≡ phase.Await w → w.purpose ≡ ForFrames region → Gathers w r.b.length r.b.deed →
    length bytes ≡ w.length → AreBytes bytes → HasDecided d come tag r.k bytes →
    Keeps come (data_heard s (task_of tag s.tasks) bytes)
frames_keep d come s tag bytes region w h r at is g long are did =
    let its = for_region r.a.region region w r.b.length r.b.deed is g r.opened.kept.gathers in
    come_keeps
    (record {
      described = h;
      stands = r;
      wanted = w;
      awaits = at;
      purpose_is = its;
      gathers = gathers_frames r.a.region w r.b.length r.b.deed its g;
      long = long;
    }) are come did
