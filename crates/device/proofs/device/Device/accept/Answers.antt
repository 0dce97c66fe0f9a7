use Rattle.device.proofs.Common.{Accept, AreClaimed, Claims, Core, DeviceCore, HasTaken, IsAllowedMove, IsLayerWith}
use Rattle.device.proofs.Common.{Key, Move, Release, Translation, [], ap, cond, false, group_of_blocks, length, moved}
use Rattle.device.proofs.Common.{next_number, subst, sym, true, with_claimed, write_error, ℕ, ◌∙◌, ◌≡◌, ◌≤◌}
use Rattle.ufs_spec.specs.Translation.{is_locked}
use Rattle.ftl_core.specs.Public.{Describes}
use Rattle.task_set.specs.declared.tasks.TaskEvent.TheVariants as event
use Rattle.device.proofs.device.Device.accept.Goals as goal

-- a locked layer gives the slots back
given_back : (after : Core) (t : Translation) (claims : Claims) (tag : ℕ) (key : Key) → true ≡ is_locked t →
    Describes after (moved t (Release (length (claims tag)))) → AreClaimed after (with_claimed claims tag []) →
    HasTaken after t claims tag key (event.DataRefused write_error)
given_back after t claims tag key is layer none = record {
  event_is = ap (λ b. cond b (event.DataRefused write_error) (event.GroupAccepted (next_number t.ledger))) is;
  layer =
      λ may. (
        subst (λ (m : Move). Describes after (moved t m))
            (ap (λ b. cond b (Release (length (claims tag)))
            (Accept (length (claims tag)) (group_of_blocks key (claims tag)))) is) layer,
        none,
      );
}

pub returns-then-is_locked-clause-taken : goal.returns-then-is_locked-clause-taken
returns-then-is_locked-clause-taken c = λ t claims h.
    let its = subst (λ (d : DeviceCore). IsLayerWith d.ftl t claims) (sym c.self.view_is) h in
    given_back c.release.new.self t claims c.args.tag c.args.key
    (sym c.if-is_locked.true ∙ c.is_locked.ensures.described t its.0)
    (c.release.ensures.described_blocks t (claims c.args.tag) its.0 (its.1 c.args.tag))
    (c.release.ensures.claims claims its.1)

-- any other accepts them; by hand, so that a group of another tag does not fit at once
taken_over : (after : Core) (t : Translation) (claims : Claims) (tag number : ℕ) (key : Key) → is_locked t ≡ false →
    number ≡ next_number t.ledger →
    (key.kind ≡ 1 → key.unit ≤ 7 →
    IsAllowedMove t (Accept (length (claims tag)) (group_of_blocks key (claims tag))) →
    Describes after (moved t (Accept (length (claims tag)) (group_of_blocks key (claims tag))))) →
    AreClaimed after (with_claimed claims tag []) → HasTaken after t claims tag key (event.GroupAccepted number)
taken_over after t claims tag number key free is accepts none = record {
  event_is = ap event.GroupAccepted is
      ∙ ap (λ b. cond b (event.DataRefused write_error) (event.GroupAccepted (next_number t.ledger))) (sym free);
  layer =
      λ may.
      let its = may free in (
        subst (λ (m : Move). Describes after (moved t m))
            (ap (λ b. cond b (Release (length (claims tag)))
            (Accept (length (claims tag)) (group_of_blocks key (claims tag)))) (sym free))
            (accepts its.of_data its.of_unit its.allowed),
        none,
      );
}

pub returns-clause-taken : goal.returns-clause-taken
returns-clause-taken c = λ t claims h.
    let its = subst (λ (d : DeviceCore). IsLayerWith d.ftl t claims) (sym c.self.view_is) h in
    taken_over c.accept-number.new.self t claims c.args.tag c.accept-number.result c.args.key
    (sym (c.is_locked.ensures.described t its.0) ∙ c.if-is_locked.false)
    (c.accept-number.ensures.described_number t its.0)
    (λ kind unit. c.accept-number.ensures.described t (claims c.args.tag) its.0 kind unit (its.1 c.args.tag))
    (c.accept-number.ensures.claims claims its.1)
