-- A key or a write whose group was put behind all that are pending is accepted.
use Rattle.device.proofs.Common.{Accept, Accepted, Bool, Command, Core, DeviceCore, Frame, Group, HasAccepted, HasPut}
use Rattle.device.proofs.Common.{IsAllowedMove, IsKept, IsLayerWith, IsPlain, IsSettings, List, Machine, Plain, Region}
use Rattle.device.proofs.Common.{RpmbWrite, SetKey, Some, Translation, [], ap, apply, arith, bytes_of, changed_by}
use Rattle.device.proofs.Common.{eqb-false, eqb-true, false, frame_slots, group_of, key_group, length, machine_at, map}
use Rattle.device.proofs.Common.{moved, named_changed, none-some, refl, region_named, region_of, regions, said_by}
use Rattle.device.proofs.Common.{settings_block, settings_key, settings_of, settings_ranges, subst, sym, true}
use Rattle.device.proofs.Common.{with_claimed, write_group, ℕ, ◌<◌, ◌==◌, ◌∙◌, ◌≡◌, ◌≢◌}
use Rattle.std.proofs.Common.{IsTrue}
use Rattle.std.proofs.lemmas.Option.{same_Some}
use Rattle.ufs_spec.specs.Keys.{settings_bytes}
use Rattle.ufs_spec.specs.Rpmb.{applied}
use Rattle.ufs_laws.proofs.plain_contents.CommandsKeepPlain.{kept_plain}
use Rattle.ufs_laws.proofs.rpmb_frames.Regions.{others_stay}
use Rattle.ftl_core.specs.Public.{has_number}
use Rattle.rpmb.specs.Outcomes.{AcceptsUnlocked, command_of}
use Rattle.rpmb.specs.Requests.{payloads}
use Rattle.rpmb.specs.declared.outcomes.Accepted.TheVariants as accepted
use Rattle.rpmb.specs.declared.outcomes.Outcome.TheVariants as outcome
use Rattle.task_set.specs.declared.tasks.TaskEvent.TheVariants as event
use Rattle.device.specs.Frames.{MayComeNow}
use Rattle.device.specs.Groups.{HasNumberFor, settings_kept}
use Rattle.device.proofs.described.Machines.{all_said}
use Rattle.device.proofs.host_messages.FramesAccepted.{area_stays, boot_stays, permanent_stays}
use Rattle.device.proofs.host_messages.GroupsOfFrames.{key_grouped, write_grouped}

-- What a locked device does not accept

-- a layer that is not locked has a number left for what is accepted
pub number_left : (locked : Bool) (code : ℕ) (what : Accepted) (c : Core) →
    (locked ≡ false → IsTrue (has_number c)) → AcceptsUnlocked locked (outcome.Results code what) →
    HasNumberFor what c
number_left locked code accepted.Nothing c left free = tt
number_left locked code (accepted.Key bytes) c left free = left free
number_left locked code (accepted.Write address) c left free = left free

-- What is put

module _ (before : DeviceCore) (ms : List Machine) (after : Core) (tag region : ℕ) (frames : List Frame)
    (code number : ℕ) (what : Accepted) (page : List ℕ)
    (registers : (other : ℕ) → (machine_at ms other).registers ≡ (machine_at before.rpmb other).registers)
    (each : length ms ≡ length before.rpmb)
    (its : (r : Region) → region < regions → IsKept (machine_at before.rpmb region).region r →
    length (applied r (command_of region frames what)).area ≡ length r.area →
    IsKept (machine_at ms region).region (applied r (command_of region frames what)))
    (others : (other : ℕ) → other ≢ region → machine_at ms other ≡ machine_at before.rpmb other)
    (page_is : page ≡ bytes_of (settings_kept (record before { rpmb = ms }))) where
  -- what is kept of the regions then is that of the plain state behind the command
  module _ (t : Translation) (p : Plain) (c : Command) (known : region < regions)
      (named : region_named c ≡ Some region) (may : MayComeNow before t p region frames what c) where
    changed : applied (region_of p region) (command_of region frames what) ≡ changed_by (region_of p region) c
    changed = ap (applied (region_of p region)) may.command

    its_then : IsKept (machine_at ms region).region (region_of (apply p c) region)
    its_then =
        subst (IsKept (machine_at ms region).region)
        (changed ∙ sym (named_changed p c region (let many = may.plain.plain.regions_count in omega arith) named))
        (its (region_of p region) known (may.plain.region region)
        (ap (λ (r : Region). length r.area) changed
        ∙ area_stays p c may.plain.plain may.is may.can region known named))

    each_then : (other : ℕ) (b : Bool) → (other == region) ≡ b →
        IsKept (machine_at ms other).region (region_of (apply p c) other)
    each_then other true e =
        subst (λ (n : ℕ). IsKept (machine_at ms n).region (region_of (apply p c) n))
        (sym (eqb-true other region e)) its_then
    each_then other false e =
        let differ = eqb-false other region e in
        subst (λ (m : Machine). IsKept m.region (region_of (apply p c) other)) (sym (others other differ))
        (subst (IsKept (machine_at before.rpmb other).region)
        (sym (others_stay p c other (λ e2. differ (same_Some other region (sym e2 ∙ named)))))
        (may.plain.region other))

    then_plain : IsPlain (apply p c)
    then_plain = kept_plain p c may.plain.plain may.is may.can

    -- the settings page is the one that the command leaves
    page_then : page ≡ settings_of (apply p c)
    page_then =
        page_is
        ∙ (λ i. settings_bytes ((may.plain.boot ∙ sym (boot_stays p c region named)) i)
        ((may.plain.permanent ∙ sym (permanent_stays p c region named)) i)
        (all_said ms (apply p c) (each ∙ may.plain.each) then_plain.regions_count
        (λ other. each_then other (other == region) refl) i))

    -- which has 4096 bytes
    page_long : length page ≡ 4096
    page_long =
        let q = apply p c in
        ap length page_then
        ∙ (settings_block q.boot q.permanent (map said_by q.regions) (settings_ranges q then_plain)).0

  -- it is accepted where the group that was put is that of the command
  put_accepted : (group : Translation → Group) →
      ((t : Translation) (p : Plain) (c : Command) → region < regions → MayComeNow before t p region frames what c →
      group t ≡ group_of p c) → HasPut before.ftl after tag group number →
      HasAccepted before (record before { ftl = after; rpmb = ms }) tag region frames code what
      (event.RequestAccepted code number)
  put_accepted group grouped put = record {
    event_is = λ t is. ap (event.RequestAccepted code) (put.number_is t is);
    layer =
        λ t claims p c its slots known may.
        (let same = grouped t p c known may in
        subst (λ (g : Group). IsLayerWith after (moved t (Accept frame_slots g)) (with_claimed claims tag [])) same
        (put.layer t claims frame_slots its slots
        (subst (λ (g : Group). IsAllowedMove t (Accept frame_slots g)) (sym same) may.allowed)));
    registers = registers;
    each = each;
    region = its;
    others = others;
  }

  pub write_accepted : (address : ℕ) → what ≡ accepted.Write address →
      HasPut before.ftl after tag (write_group region address (payloads frames) page) number →
      HasAccepted before (record before { ftl = after; rpmb = ms }) tag region frames code what
      (event.RequestAccepted code number)
  write_accepted address is = put_accepted (write_group region address (payloads frames) page) grouped
    where
      written : Command
      written = RpmbWrite region address (payloads frames)

      command_is : (c : Command) → command_of region frames what ≡ Some c → written ≡ c
      command_is c told = same_Some written c (sym (ap (command_of region frames) is) ∙ told)

      of_write : (t : Translation) (p : Plain) → region < regions → MayComeNow before t p region frames what written →
          write_group region address (payloads frames) page t ≡ group_of p written
      of_write t p known may =
          write_grouped t p region known address (payloads frames) page may.plain.plain may.can may.plain.contents
          may.allowed.4.items (page_long t p written known refl may) (page_then t p written known refl may)

      grouped : (t : Translation) (p : Plain) (c : Command) → region < regions →
          MayComeNow before t p region frames what c →
          write_group region address (payloads frames) page t ≡ group_of p c
      grouped t p c known may =
          let same = command_is c may.command in
          of_write t p known (subst (λ (x : Command). MayComeNow before t p region frames what x) (sym same) may)
          ∙ ap (group_of p) same

  -- what is no write is a key, where something is accepted
  pub no_write_accepted : ((address : ℕ) → what ≡ accepted.Write address → ⊥) →
      HasPut before.ftl after tag (key_group page) number →
      HasAccepted before (record before { ftl = after; rpmb = ms }) tag region frames code what
      (event.RequestAccepted code number)
  no_write_accepted other put = put_accepted (key_group page) (grouped what refl) put
    where
      grouped : (x : Accepted) → what ≡ x → (t : Translation) (p : Plain) (c : Command) → region < regions →
          MayComeNow before t p region frames what c → key_group page t ≡ group_of p c
      grouped accepted.Nothing is t p c known may =
          absurd (none-some c (sym (ap (command_of region frames) is) ∙ may.command))
      grouped (accepted.Key bytes) is t p c known may =
          let same = same_Some (SetKey region bytes) c (sym (ap (command_of region frames) is) ∙ may.command) in
          let named = ap region_named (sym same) in
          key_grouped t p region bytes page may.plain.plain (page_long t p c known named may)
          (may.plain.contents settings_key IsSettings)
          (page_then t p c known named may ∙ ap (λ (x : Command). settings_of (apply p x)) (sym same))
          ∙ ap (group_of p) same
      grouped (accepted.Write address) is t p c known may = absurd (other address is)
