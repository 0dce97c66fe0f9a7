use Rattle.device.proofs.Common.{Bool, DeviceCore, List, Message, None, Option, Some, ap, arith, false, length, refl}
use Rattle.device.proofs.Common.{rules, slice_get_within, sym, task_at, true, true≢false, ℕ, ◌<◌, ◌∙◌, ◌≡◌}
use Rattle.device.specs.Replies.{IsWritten}
use Rattle.device.proofs.due_replies.NoneOwed.{none_owed}
use Rattle.device.proofs.device.Device.due.Goals as goal

-- a task for which nothing is written owes nothing
unowed : (x : Bool) (bytes : List ℕ) (o : Option Message) → x ≡ false → IsWritten x bytes o → o ≡ None
unowed true bytes o is w = absurd (true≢false is)
unowed false bytes None _ w = refl
unowed false bytes (Some m) _ w = absurd w

pub loop-index-init : goal.loop-index-init
loop-index-init c = (refl, search rules)

pub loop-index-preserved : goal.loop-index-preserved
loop-index-preserved c =
    let was = c.loop-index.invariant in (
      c.write_reply.ensures.nothing c.if-write_reply.false ∙ was.0,
      λ t k task h less at.
          none_owed t c.args.self.now.tasks c.loop-index.index c.task-task.result
          (sym (ap (λ (d : DeviceCore). task_at d.tasks c.loop-index.index) c.self.view_is) ∙ c.task-task.ensures)
          (unowed c.write_reply.result c.write_reply.new.into.items _ c.if-write_reply.false
          (c.write_reply.ensures.owed t h))
          (λ j other before found. was.1 t j other h before found) k task less at,
    )

pub returns-clause-nothing : goal.returns-clause-nothing
returns-clause-nothing c = c.loop-index.invariant.0

pub returns-clause-none : goal.returns-clause-none
returns-clause-none c =
    λ t k task h at.
    let within : k < length c.args.self.now.tasks = slice_get_within c.args.self.now.tasks k task at in
    let all : c.count-index-end.result ≡ length c.args.self.now.tasks = search rules in
    let over = c.loop-index-test.false in
    c.loop-index.invariant.1 t k task h (omega arith) at
