-- The frames are a key or a write: its group is accepted, and its task waits until that is durable.
use Rattle.device.proofs.Common.{Accept, Accepted, AreBytes, Awaiting, Bool, Command, Deed, DeviceCore, Frame}
use Rattle.device.proofs.Common.{HasAccepted, HasRequested, IsAllowedMove, IsComing, IsKept, IsLayerWith, Keeps, List}
use Rattle.device.proofs.Common.{Machine, Move, Plain, Region, Results, Some, State, [], accepts, accepts_nothing}
use Rattle.device.proofs.Common.{after, ap, apply, arith, changed_by, claim_of, claims_of, command_allowed, eqb-false}
use Rattle.device.proofs.Common.{eqb-true, false, fold-append, found_fits, frame_slots, frames_of, group_of, is_mended}
use Rattle.device.proofs.Common.{length, machine_at, moved, next_number, numbers_of, plain_now, reads_area, refl}
use Rattle.device.proofs.Common.{region_named, region_of, replicate, request_decided, requested, rpmb_outcome, subst}
use Rattle.device.proofs.Common.{sym, true, with_claimed, with_held, with_zeros, ℕ, ◌++◌, ◌+◌, ◌/◌, ◌==◌, ◌∙◌, ◌∷◌, ◌≡◌}
use Rattle.device.proofs.Common.{◌≤◌}
use Rattle.ufs_spec.specs.Changes.{claimed_by as claimed_by_deed}
use Rattle.ufs_spec.specs.Plain.{zero_block}
use Rattle.ufs_spec.specs.Rpmb.{applied}
use Rattle.ufs_laws.proofs.rpmb_frames.FramesRead.{first_frames, length-frames_in}
use Rattle.power_loss.proofs.host_commands.AcceptedCommands.{plain_tied}
use Rattle.power_loss.proofs.host_commands.ListsAndFrames.{FramesCame, frames_coming}
use Rattle.rpmb.specs.Outcomes.{command_of}
use Rattle.task_set.specs.declared.tasks.Phase.TheVariants as phase
use Rattle.task_set.specs.declared.tasks.TaskEvent.TheVariants as event
use Rattle.device.specs.Frames.{IsPlainOf}
use Rattle.device.proofs.host_messages.FramesAccepted.{area_stays, boot_stays, contents_now, permanent_stays}
use Rattle.device.proofs.host_messages.FramesAccepted.{other_region, reads_none, region_changed}
use Rattle.device.proofs.host_messages.FramesGathered.{AllCame, all_frames, first_frame, fits, frames_are, frames_long}
use Rattle.device.proofs.host_messages.FramesGathered.{given_up, its_slots, not_wanted, requested_keeps, to, to_there}
use Rattle.device.proofs.host_messages.NumbersAwaited.{number_awaited}

module _ {d : DeviceCore} {s : State} {tag : ℕ} {bytes : List ℕ} (c : AllCame d s tag bytes)
    (are : AreBytes bytes) (code : ℕ) (what : Accepted) (command : Command)
    (is_command : command_of (to c) (frames_of bytes) what ≡ Some command)
    (named : region_named command ≡ Some (to c))
    (passed : rpmb_outcome (to c) (region_of (plain_now s) (to c)) (s.registers (to c)) (accepts_nothing s) (frames_of bytes)
    ≡ Results code (Some command)) where
  came : FramesCame s c.stands.b (to c) (frames_of bytes)
  came = record {
    region_in = (fits c).region_in;
    each = first_frames (length bytes / 512) bytes (omega arith) are;
    few =
        let n = length-frames_in (length bytes / 512) bytes in
        let most = (frames_long c).2 in
        omega arith;
    claim = (fits c).claimed_is;
  }

  coming : IsComing s command (claim_of (numbers_of s) c.stands.b)
  coming = frames_coming c.described.tied came passed

  few_claimed : claim_of (numbers_of s) c.stands.b ≤ s.translation.claims
  few_claimed =
      let its = (found_fits (numbers_of s) (length s.accepted) (is_mended s.translation.work.mending) tag s.tasks
      c.stands.b c.described.tied.tasks.deeds c.stands.found).2 in
      let claimed = c.described.tied.tasks.claimed in
      omega arith

  -- the group is put in the place of so many slots
  abbrev taking : ℕ → Move
  taking n = Accept n (group_of (plain_now s) command)

  allowed : IsAllowedMove s.translation (taking 3)
  allowed =
      subst (λ (n : ℕ). IsAllowedMove s.translation (taking n)) (fits c).claimed_is
      (command_allowed c.described.tied coming few_claimed)

  plain_is : IsPlainOf (with_held d c.stands.k (with_zeros bytes)) s.translation (plain_now s)
  plain_is = record {
    plain = plain_tied c.described.tied;
    contents = λ k is. contents_now s k c.described.tied is;
    boot = c.described.kept.boot;
    permanent = c.described.kept.permanent;
    each = c.described.kept.each;
    region = c.described.kept.region;
  }

  -- no page of the area is read
  asks_none : reads_area (first_frame bytes) code ≡ false
  asks_none =
      reads_none (to c) (region_of (plain_now s) (to c)) (s.registers (to c)) (accepts_nothing s) (first_frame bytes) _ code command
      (sym (ap (rpmb_outcome (to c) (region_of (plain_now s) (to c)) (s.registers (to c)) (accepts_nothing s)) (frames_are c))
      ∙ passed)

  abbrev number : ℕ
  number = next_number s.translation.ledger

  abbrev awaits : Deed
  awaits = Awaiting (length s.accepted + 1)

  accepted_keeps : (come : DeviceCore) (did : HasRequested d come tag c.stands.k (to c) bytes code what) →
      HasAccepted (with_held d c.stands.k (with_zeros bytes))
      (record (with_held d c.stands.k (with_zeros bytes)) { ftl = did.layer; rpmb = did.rpmb }) tag (to c)
      (frames_of bytes) code what did.event →
      Keeps come
      (requested (accepts s command (claimed_by_deed (numbers_of s) c.stands.b.deed c.stands.b.command)) c.stands.b (to c)
      (all_frames bytes) code awaits)
  accepted_keeps come did took =
      requested_keeps c come code what did (event.RequestAccepted code number) (phase.AwaitFrontier number c.wanted.length)
      awaits (moved s.translation (taking (claim_of (numbers_of s) c.stands.b))) (s.accepted ++ command ∷ [])
      (took.event_is s.translation c.described.kept.layer_kept)
      (record {
        phase_is = refl;
        frames_are_kept = refl;
        no_block = refl;
        asks = asks_none;
        fits_in = tt;
        doing = (number_awaited s c.described.tied, c.gathers.total_is);
        none_sent = refl;
        none_gathered = refl;
      })
      (record {
        boot =
            ap (λ (q : Plain). q.boot) (fold-append apply s.base s.accepted (command ∷ []))
            ∙ boot_stays (plain_now s) command (to c) named;
        permanent =
            ap (λ (q : Plain). q.permanent) (fold-append apply s.base s.accepted (command ∷ []))
            ∙ permanent_stays (plain_now s) command (to c) named;
        each = took.each ∙ c.described.kept.each;
        region = λ other. region_then other (other == to c) refl;
        registers = took.registers;
        layer_is = layer;
        none_claimed = refl;
        numbers = refl;
        before = refl;
        wanted = not_wanted c;
        others_wanted = λ n other index. refl;
      })
    where
      region_is : applied (region_of (plain_now s) (to c)) (command_of (to c) (frames_of bytes) what)
          ≡ changed_by (region_of (plain_now s) (to c)) command
      region_is = ap (applied (region_of (plain_now s) (to c))) is_command

      -- the region that the command names
      its_region : IsKept (machine_at did.rpmb (to c)).region (region_of (after s.base (s.accepted ++ command ∷ [])) (to c))
      its_region =
          subst (IsKept (machine_at did.rpmb (to c)).region)
          (region_is ∙ sym (region_changed s.base s.accepted command (plain_tied c.described.tied) (to c) (to_there c) named))
          (took.region (region_of (plain_now s) (to c)) (to_there c) (c.described.kept.region (to c))
          (ap (λ (x : Region). length x.area) region_is
          ∙ area_stays (plain_now s) command (plain_tied c.described.tied) coming.is coming.can (to c) (to_there c) named))

      -- and any other one
      region_then : (other : ℕ) (b : Bool) → (other == to c) ≡ b →
          IsKept (machine_at did.rpmb other).region (region_of (after s.base (s.accepted ++ command ∷ [])) other)
      region_then other true e =
          subst (λ (n : ℕ). IsKept (machine_at did.rpmb n).region
          (region_of (after s.base (s.accepted ++ command ∷ [])) n)) (sym (eqb-true other (to c) e)) its_region
      region_then other false e =
          let differ = eqb-false other (to c) e in
          subst (λ (m : Machine). IsKept m.region (region_of (after s.base (s.accepted ++ command ∷ [])) other))
          (sym (took.others other differ))
          (subst (IsKept (machine_at d.rpmb other).region)
          (sym (other_region s.base s.accepted command (to c) other differ named)) (c.described.kept.region other))

      layer : IsLayerWith did.layer (moved s.translation (taking (claim_of (numbers_of s) c.stands.b))) (given_up c)
      layer =
          subst (λ (n : ℕ). IsLayerWith did.layer (moved s.translation (taking n)) (given_up c))
          (sym (fits c).claimed_is)
          (subst (λ (n : ℕ). IsLayerWith did.layer (moved s.translation (taking 3))
          (with_claimed (claims_of (numbers_of s) s.tasks) n [])) (sym c.stands.tag_is)
          (took.layer s.translation (claims_of (numbers_of s) s.tasks) (plain_now s) command
          (c.described.kept.layer_kept, c.described.kept.claims)
          (subst (λ (n : ℕ). claims_of (numbers_of s) s.tasks n ≡ replicate frame_slots zero_block) c.stands.tag_is (its_slots c))
          (to_there c)
          (record { command = is_command; is = coming.is; plain = plain_is; can = coming.can; allowed = allowed })))

  -- the same of the frames as they came
  pub command_keeps : (come : DeviceCore) (did : HasRequested d come tag c.stands.k (to c) bytes code what) →
      HasAccepted (with_held d c.stands.k (with_zeros bytes))
      (record (with_held d c.stands.k (with_zeros bytes)) { ftl = did.layer; rpmb = did.rpmb }) tag (to c)
      (frames_of bytes) code what did.event → Keeps come (request_decided s c.stands.b (to c) (frames_of bytes) (Results code (Some command)))
  command_keeps come did took =
      subst (λ (fs : List Frame). Keeps come (request_decided s c.stands.b (to c) fs (Results code (Some command))))
      (sym (frames_are c)) (accepted_keeps come did took)
