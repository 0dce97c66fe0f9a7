-- The last block of a WRITE comes: its command is accepted, or is told that it was not written where the device is
-- locked.
use Rattle.device.proofs.Common.{Accept, Answering, AreBytes, AreClaimed, Bool, Claims, Command, Core, Deed, Describes}
use Rattle.device.proofs.Common.{DeviceCore, FramesFit, HasTaken, IsAllowedMove, IsDoing, IsFor, IsKept, IsLayerWith}
use Rattle.device.proofs.Common.{Keeps, List, Move, Numbers, Release, State, TaskEvent, UnitSpec, Wanted, [], ap, arith}
use Rattle.device.proofs.Common.{before_accepted, blocks_gathered, claimed_in, claims_of, cond, data_key, false}
use Rattle.device.proofs.Common.{gathers_for, group_of, group_of_blocks, length, length-map, locked, machine_at, moved}
use Rattle.device.proofs.Common.{next_number, numbers_of, plain_now, ranges_of, read_in, refl, set_deed, subst, sym}
use Rattle.device.proofs.Common.{true, with_claimed, with_moves, write_error, ℕ, ◌*◌, ◌+◌, ◌∙◌, ◌∷◌, ◌≡◌}
use Rattle.ufs_spec.specs.Commands as command
use Rattle.ufs_spec.specs.Exchanges as exchange
use Rattle.ufs_spec.specs.Machine.{accepts, blocks_in, write_complete, write_deed}
use Rattle.power_loss.proofs.host_commands.WriteData.{MayAccept as MayWrite, accept_allowed, can_write}
use Rattle.power_loss.proofs.host_commands.WriteData.{length-blocks_in}
use Rattle.ftl_core.specs.Public as layer_kept
use Rattle.task_set.specs.Tasks.{group_done, is_forced}
use Rattle.task_set.specs.declared.tasks.Phase.TheVariants as phase
use Rattle.task_set.specs.declared.tasks.TaskEvent.TheVariants as event
use Rattle.device.specs.Calls.{MayAccept, taken_move}
use Rattle.device.proofs.due_replies.ReplyMoves.{few_set}
use Rattle.device.proofs.host_messages.BlocksGathered.{GathersBlocks, SendsNone, core_then, does, fits, found}
use Rattle.device.proofs.host_messages.BlocksGathered.{its_claims, sends_once, slots_few, still_wanted}
use Rattle.device.proofs.host_messages.GroupOfBlocks.{boot_still, group_written, permanent_still, region_still}
use Rattle.device.proofs.host_messages.NumbersAwaited.{number_awaited}
use Rattle.device.proofs.host_messages.SlotsFilled.{all_came}
use Rattle.device.proofs.open_tasks.KeptByTag.{claimed_last, claimed_own}
use Rattle.device.proofs.open_tasks.OpenTasks.{Stands}

-- once its command was accepted a WRITE sends none, and has no slot
write_sends : (forced : Bool) (position n : ℕ) → SendsNone (write_deed forced position n)
write_sends true position n = record { wanted = λ index request. refl; read = refl }
write_sends false position n = record { wanted = λ index request. refl; read = refl }

write_claims : (forced : Bool) (m : Numbers) (position n : ℕ) → claimed_in m n (write_deed forced position n) ≡ []
write_claims true m position n = refl
write_claims false m position n = refl

-- all its data came
module _ (d : DeviceCore) (s : State) (tag : ℕ) (w : Wanted) (h : Describes d s)
    (r : Stands (before_accepted s.translation.ledger) tag d.tasks s.tasks) (at : r.a.phase ≡ phase.Await w)
    (g : GathersBlocks w r.b.length r.b.deed) (all : List ℕ) (are : AreBytes all) (long : length all ≡ 4096 * g.blocks) where
  -- the claims where its tag has claimed these blocks
  abbrev claiming : List (List ℕ) → Claims
  claiming = with_claimed (claims_of (numbers_of s) s.tasks) r.b.tag

  -- the blocks that are written
  abbrev bodies : List (List ℕ)
  bodies = blocks_in g.blocks all

  abbrev written : Command
  written = command.Write g.unit g.address bodies

  -- they may be accepted
  may : MayWrite s r.b g.unit g.address g.blocks all
  may =
      let its = fits d s tag w h r at g in
      record {
        there = found d s tag w h r at g;
        claim = its.claimed_is;
        few = slots_few d s tag w h r at g;
        unit_in = its.unit_in;
        some = its.some;
        not_long = its.not_long;
        within = its.within;
        long = long;
        are_bytes = are;
        mended = its.is_mended;
      }

  group_is : group_of (plain_now s) written ≡ group_of_blocks (data_key g.unit g.address) bodies
  group_is = group_written (plain_now s) g.unit g.address bodies
      (can_write s r.b g.unit g.address g.blocks all h.tied may)

  count : length bodies ≡ g.blocks
  count = length-blocks_in g.blocks all

  move_is : Accept g.blocks (group_of (plain_now s) written)
      ≡ Accept (length bodies) (group_of_blocks (data_key g.unit g.address) bodies)
  move_is = λ i. Accept (sym count i) (group_is i)

  may_accept : locked s ≡ false → MayAccept s.translation (data_key g.unit g.address) bodies
  may_accept free = record {
    of_data = refl;
    of_unit =
        let most = (ranges_of (numbers_of s) h.tied.config).units_bound in
        let units = length-map (numbers_of s).units.items (λ (u : UnitSpec). u.blocks) in
        let there = (fits d s tag w h r at g).unit_in in
        omega arith;
    allowed = subst (IsAllowedMove s.translation) move_is
        (accept_allowed s r.b g.unit g.address g.blocks all h.tied may free);
  }

  -- a locked device gives the slots back
  refused_keeps : (after : Core) → layer_kept.Describes after (moved s.translation (Release (length bodies))) →
      AreClaimed after (claiming []) →
      Keeps (core_then d r.k after (event.DataRefused write_error))
      (set_deed (with_moves s (Release g.blocks ∷ [])) r.b.tag (Answering exchange.write_error r.b.length))
  refused_keeps after layer claims =
      record {
        boot = h.kept.boot;
        permanent = h.kept.permanent;
        each = h.kept.each;
        region = h.kept.region;
        registers = h.kept.registers;
        one_sends = sends_once d s tag w h r at g (event.DataRefused write_error) refl;
        layer_kept = subst (λ n. layer_kept.Describes after (moved s.translation (Release n))) count layer;
        few = few_set d s r.k r.a r.b h r.opened (Answering exchange.write_error r.b.length);
        tasks =
            does d s tag w h r at g (event.DataRefused write_error) (Answering exchange.write_error r.b.length) (refl, g.size_is)
            refl tt tt refl (ap read_in g.deed_is);
        wanted =
            still_wanted d s tag w h r at g (Answering exchange.write_error r.b.length)
            (record { wanted = λ index request. refl; read = refl });
        claims = its_claims d s tag w h r at g after (Answering exchange.write_error r.b.length) [] refl claims;
        shorts = h.kept.shorts;
        volatile = h.kept.volatile;
      }

  -- any other accepts the blocks: with FUA the task waits for them, else it was done
  taken_does : (fua : Bool) → IsDoing (before_accepted s.translation.ledger) r.a.expected r.b.length
      (group_done fua (next_number s.translation.ledger) w.length)
      (write_deed fua (length s.accepted + 1) r.b.length)
  taken_does true = (number_awaited s h.tied, g.size_is)
  taken_does false = (refl, g.size_is)

  taken_fits : (fua : Bool) →
      FramesFit (group_done fua (next_number s.translation.ledger) w.length) r.a.frames r.a.held
      (write_deed g.forced (length s.accepted + 1) r.b.length)
  taken_fits true = tt
  taken_fits false = tt

  for_none : (fua : Bool) → IsFor r.a.region (gathers_for (write_deed fua (length s.accepted + 1) r.b.length))
  for_none true = tt
  for_none false = tt

  abbrev deed_now : Deed
  deed_now = write_deed g.forced (length s.accepted + 1) r.b.length

  accepted_keeps : (after : Core) →
      layer_kept.Describes after
      (moved s.translation (Accept (length bodies) (group_of_blocks (data_key g.unit g.address) bodies))) →
      AreClaimed after (claiming []) →
      Keeps (core_then d r.k after (event.GroupAccepted (next_number s.translation.ledger)))
      (set_deed (accepts s written g.blocks) r.b.tag deed_now)
  accepted_keeps after layer claims =
      record {
        boot = h.kept.boot ∙ sym (boot_still s.base s.accepted g.unit g.address bodies);
        permanent = h.kept.permanent ∙ sym (permanent_still s.base s.accepted g.unit g.address bodies);
        each = h.kept.each;
        region =
            λ number. subst (IsKept (machine_at d.rpmb number).region)
            (sym (region_still s.base s.accepted g.unit g.address bodies number)) (h.kept.region number);
        registers = h.kept.registers;
        one_sends = sends_once d s tag w h r at g (event.GroupAccepted (next_number s.translation.ledger)) refl;
        layer_kept = subst (λ (m : Move). layer_kept.Describes after (moved s.translation m)) (sym move_is) layer;
        few = few_set d s r.k r.a r.b h r.opened deed_now;
        tasks =
            does d s tag w h r at g (event.GroupAccepted (next_number s.translation.ledger)) deed_now
            (subst (λ (b : Bool). IsDoing (before_accepted s.translation.ledger) r.a.expected r.b.length
            (group_done b (next_number s.translation.ledger) w.length) deed_now) (sym forced_is)
            (taken_does g.forced)) refl (taken_fits (is_forced w.purpose)) (for_none g.forced) refl
            (ap read_in g.deed_is ∙ sym sends.read);
        wanted = still_wanted d s tag w h r at g deed_now sends;
        claims =
            its_claims d s tag w h r at g after deed_now [] (write_claims g.forced (numbers_of s) (length s.accepted + 1) r.b.length)
            claims;
        shorts = h.kept.shorts;
        volatile = h.kept.volatile;
      }
    where
      forced_is : is_forced w.purpose ≡ g.forced
      forced_is = ap is_forced g.purpose_is

      sends : SendsNone deed_now
      sends = write_sends g.forced (length s.accepted + 1) r.b.length

  -- the data complete the WRITE
  pub completes : (after : Core) (e : TaskEvent) →
      HasTaken after s.translation (claiming (blocks_gathered g.blocks all)) r.b.tag (data_key g.unit g.address) e →
      Keeps (core_then d r.k after e) (write_complete s r.b g.unit g.address g.blocks g.forced all)
  completes after e took = by (locked s) refl
    where
      -- all its blocks lie in its slots
      taken : HasTaken after s.translation (claiming bodies) r.b.tag (data_key g.unit g.address) e
      taken =
          subst (λ claims. HasTaken after s.translation claims r.b.tag (data_key g.unit g.address) e)
          (ap claiming (all_came g.blocks all long)) took

      own : claiming bodies r.b.tag ≡ bodies
      own = claimed_own (claims_of (numbers_of s) s.tasks) r.b.tag bodies

      its : IsLayerWith after (moved s.translation (taken_move s.translation (data_key g.unit g.address) bodies))
          (claiming [])
      its =
          subst
          (λ claims. IsLayerWith after
          (moved s.translation (taken_move s.translation (data_key g.unit g.address) bodies)) claims)
          (claimed_last (claims_of (numbers_of s) s.tasks) r.b.tag bodies [])
          (subst
          (λ blocks. IsLayerWith after
          (moved s.translation (taken_move s.translation (data_key g.unit g.address) blocks))
          (with_claimed (claiming bodies) r.b.tag [])) own
          (taken.layer (λ free. subst (MayAccept s.translation (data_key g.unit g.address)) (sym own)
          (may_accept free))))

      event_at : (b : Bool) → locked s ≡ b →
          e ≡ cond b (event.DataRefused write_error) (event.GroupAccepted (next_number s.translation.ledger))
      event_at b is = taken.event_is
          ∙ ap (λ c. cond c (event.DataRefused write_error) (event.GroupAccepted (next_number s.translation.ledger))) is

      layer_at : (b : Bool) → locked s ≡ b → layer_kept.Describes after (moved s.translation (cond b
          (Release (length bodies)) (Accept (length bodies) (group_of_blocks (data_key g.unit g.address) bodies))))
      layer_at b is =
          subst
          (λ c. layer_kept.Describes after (moved s.translation (cond c (Release (length bodies))
          (Accept (length bodies) (group_of_blocks (data_key g.unit g.address) bodies)))))
          is its.0

      by : (b : Bool) → locked s ≡ b → Keeps (core_then d r.k after e)
          (cond b
          (set_deed (with_moves s (Release g.blocks ∷ [])) r.b.tag (Answering exchange.write_error r.b.length))
          (set_deed (accepts s written g.blocks) r.b.tag deed_now))
      by true is =
          subst
          (λ (y : TaskEvent). Keeps (core_then d r.k after y)
          (set_deed (with_moves s (Release g.blocks ∷ [])) r.b.tag (Answering exchange.write_error r.b.length)))
          (sym (event_at true is)) (refused_keeps after (layer_at true is) its.1)
      by false is =
          subst
          (λ (y : TaskEvent). Keeps (core_then d r.k after y)
          (set_deed (accepts s written g.blocks) r.b.tag deed_now))
          (sym (event_at false is)) (accepted_keeps after (layer_at false is) its.1)
