use Rattle.device.proofs.Common.{DeviceCore, Translation, ap, core_of, if_false, if_true, lock_told, map, subst, sym}
use Rattle.device.proofs.Common.{task_after, true, ℕ, ◌∙◌, ◌≡◌}
use Rattle.ufs_spec.specs.Translation.{is_locked}
use Rattle.task_set.specs.Kept.{Tasks}
use Rattle.task_set.specs.Shorts.{short_locked}
use Rattle.task_set.specs.declared.tasks.TaskEvent.TheVariants as event
use Rattle.device.proofs.described.SameDevice.{same_layer}
use Rattle.device.proofs.device.Device.end_waiting.Goals as goal

-- by hand, so that a lock that is told otherwise does not fit at once

abbrev told_at : DeviceCore → ℕ → DeviceCore
told_at d n = record d {
  tasks = map (task_after (event.Locked n)) d.tasks;
  shorts = map (short_locked n) d.shorts;
}

told : (t : Translation) (d : DeviceCore) (set : Tasks) (n : ℕ) → is_locked t ≡ true → n ≡ t.ledger.frontier →
    set ≡ record { tasks = map (task_after (event.Locked n)) d.tasks; shorts = map (short_locked n) d.shorts } →
    record d { tasks = set.tasks; shorts = set.shorts } ≡ lock_told t d
told t d set n locked is new =
    ap (λ (s : Tasks). record d { tasks = s.tasks; shorts = s.shorts }) new
    ∙ (ap (told_at d) is ∙ sym (if_true (is_locked t) (told_at d t.ledger.frontier) d locked))

pub returns-then-is_locked : goal.returns-then-is_locked
returns-then-is_locked c =
    λ t h.
    let layer = same_layer _ _ t c.self.view_is h in
    subst
    (λ (d : DeviceCore). core_of (record {
      ftl = c.self.inside.ftl;
      boot = c.self.inside.boot;
      is_permanent = c.self.inside.is_permanent;
      volatile = c.self.inside.volatile;
      rpmb = c.self.inside.rpmb;
      set = c.lock.new.self;
    }) ≡ lock_told t d)
    c.self.view_is
    (told t (core_of c.self.inside) c.lock.new.self c.frontier-frontier.result
    (sym (c.is_locked.ensures.described t layer) ∙ c.if-is_locked.true) (c.frontier-frontier.ensures.described t layer)
    c.lock.ensures)

pub returns-else-is_locked : goal.returns-else-is_locked
returns-else-is_locked c =
    λ t h.
    let now = c.args.self.now in
    let layer = same_layer _ _ t c.self.view_is h in
    sym (if_false (is_locked t) (told_at now t.ledger.frontier) now
    (sym (c.is_locked.ensures.described t layer) ∙ c.if-is_locked.false))
