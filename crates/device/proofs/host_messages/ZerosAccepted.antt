-- The blocks that the list of an UNMAP names become zeros: its group is that of as many zero blocks, and takes the
-- place of all slots that its task claimed.
use Rattle.device.proofs.Common.{Accept, Answering, CanApply, Command, Core, DeviceCore, Good, IsAllowedMove, IsComing}
use Rattle.device.proofs.Common.{IsLayerWith, Item, Keeps, Key, List, Move, Plain, State, [], accepts, ap, apply, arith}
use Rattle.device.proofs.Common.{below, claim_of, claims_of, command_allowed, content, data_key, false, fold-append}
use Rattle.device.proofs.Common.{group_of, group_of_blocks, length-map, length-replicate, locked, map, moved}
use Rattle.device.proofs.Common.{numbers_of, plain_now, ranges_of, refl, region_of, replicate, subst, sym, with_claimed}
use Rattle.device.proofs.Common.{ℕ, ◌++◌, ◌+◌, ◌∙◌, ◌∷◌, ◌≡◌, ◌≤◌}
use Rattle.std.proofs.Common.{take}
use Rattle.std.proofs.lemmas.List.{take-replicate}
use Rattle.ufs_bytes.specs.Fields.{field_at}
use Rattle.ufs_spec.specs.Changes.{set_deed}
use Rattle.ufs_spec.specs.Commands as command
use Rattle.ufs_spec.specs.Keys.{data_keys}
use Rattle.ufs_spec.specs.Plain.{IsBlocksOf, shape_of, with_blocks, zero_block}
use Rattle.ufs_laws.proofs.plain_contents.ListParts.{length-below}
use Rattle.ufs_laws.proofs.walk.WaysOfData.{IsRightList}
use Rattle.power_loss.proofs.host_commands.ListsAndFrames.{unmap_coming}
use Rattle.ufs_spec.specs.declared.exchanges.Status.TheVariants as status
use Rattle.task_set.specs.declared.tasks.TaskEvent.TheVariants as event
use Rattle.device.specs.Unmaps.{HasPutZeros, MayPutZeros, first_accepted}
use Rattle.device.proofs.host_messages.BlocksGathered.{core_then}
use Rattle.device.proofs.host_messages.GroupOfBlocks.{group_written}
use Rattle.device.proofs.host_messages.ListsGathered.{ListCame, gathers_its, its_slots, slots_are, told_keeps}

-- The group of zeros

-- zeros are written as other blocks are
zeros_written : (p : Plain) (unit address count : ℕ) →
    group_of p (command.Zero unit address count)
    ≡ group_of p (command.Write unit address (replicate count zero_block))
zeros_written p unit address count =
    ap (λ (n : ℕ). map item_of (data_keys unit address n)) (sym (length-replicate count zero_block))
  where
    item_of : Key → Item
    item_of k = record { key = k; body = content (with_blocks unit address (replicate count zero_block) p) k }

-- the group of an UNMAP that may come
pub group_zeroed : (p : Plain) (unit address count : ℕ) → CanApply p (command.Zero unit address count) →
    group_of p (command.Zero unit address count)
    ≡ group_of_blocks (data_key unit address) (replicate count zero_block)
group_zeroed p unit address count can =
    zeros_written p unit address count
    ∙ group_written p unit address (replicate count zero_block) (
      subst (IsBlocksOf (shape_of p) unit address) (sym (length-replicate count zero_block)) can.0,
      tt,
    )

-- The list names blocks that may become zeros

module _ {d : DeviceCore} {s : State} {tag : ℕ} {list : List ℕ} (c : ListCame d s tag list)
    (right : IsRightList s c.unit list) (free : locked s ≡ false) where
  abbrev address : ℕ
  address = field_at 8 8 list

  abbrev count : ℕ
  count = field_at 4 16 list

  abbrev zeros : Command
  zeros = command.Zero c.unit address count

  -- how many slots its task has claimed
  abbrev slots : ℕ
  slots = claim_of (numbers_of s) c.stands.b

  coming : IsComing s zeros slots
  coming =
      unmap_coming list c.described.tied (gathers_its c)
      (record { long = λ short. c.long ∙ sym c.gathers.total_is; are_bytes = λ none. c.are_bytes }) right free

  -- enough for its blocks
  enough : count ≤ slots
  enough =
      let keys = length-map (below count) (λ i. data_key c.unit (address + i)) in
      let numbers = length-below count in
      let few = coming.few in
      omega arith

  move_is : first_accepted (data_key c.unit address) count (claims_of (numbers_of s) s.tasks tag)
      ≡ Accept slots (group_of (plain_now s) zeros)
  move_is = λ i. Accept (slots_are c i) (group i)
    where
      group : group_of_blocks (data_key c.unit address) (take count (claims_of (numbers_of s) s.tasks tag))
          ≡ group_of (plain_now s) zeros
      group =
          ap (λ (blocks : List (List ℕ)). group_of_blocks (data_key c.unit address) (take count blocks)) (its_slots c)
          ∙ (ap (group_of_blocks (data_key c.unit address)) (take-replicate count slots zero_block enough)
          ∙ sym (group_zeroed (plain_now s) c.unit address count coming.can))

  may_put : MayPutZeros s.translation (data_key c.unit address) count (claims_of (numbers_of s) s.tasks tag)
  may_put = record {
    of_data = refl;
    of_unit =
        let most = (ranges_of (numbers_of s) c.described.tied.config).units_bound in
        let there = (gathers_its c).fits.unit_in in
        omega arith;
    allowed =
        subst (IsAllowedMove s.translation) (sym move_is)
        (command_allowed c.described.tied coming (gathers_its c).few);
  }

  -- they are accepted
  pub zeroed_keeps : (layer : Core) →
      HasPutZeros layer s.translation (claims_of (numbers_of s) s.tasks) tag (data_key c.unit address) count →
      Keeps (core_then d c.stands.k layer event.DataTaken)
      (set_deed (accepts s zeros slots) c.stands.b.tag (Answering Good c.stands.b.length))
  zeroed_keeps layer put =
      told_keeps c event.DataTaken status.Good (record { phase_is = refl; frames_stay = refl; block_stays = refl })
      layer (moved s.translation (Accept slots (group_of (plain_now s) zeros))) (s.accepted ++ zeros ∷ []) (record {
        boot = ap (λ (q : Plain). q.boot) (fold-append apply s.base s.accepted (zeros ∷ []));
        permanent = ap (λ (q : Plain). q.permanent) (fold-append apply s.base s.accepted (zeros ∷ []));
        region = λ number. ap (λ (q : Plain). region_of q number) (fold-append apply s.base s.accepted (zeros ∷ []));
        layer_is =
            subst (λ (m : Move). IsLayerWith layer (moved s.translation m) (with_claimed (claims_of (numbers_of s) s.tasks) tag []))
            move_is (put may_put);
        numbers = refl;
        before = refl;
        pins = refl;
      })
