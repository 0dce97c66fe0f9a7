use Rattle.device.proofs.Common.{DeviceCore, IsAnswered, List, Message, None, OfReply, Option, Reply, Some, refl}
use Rattle.device.proofs.Common.{spelling, subst, sym, true, ℕ, ◌≡◌}
use Rattle.device.specs.Replies.{IsWritten}
use Rattle.device.proofs.due_replies.RepliesRight.{replies_right, shorts_right, silence_right}
use Rattle.device.proofs.device.Device.reply.Goals as goal

-- the reply that is owed to a task for which it is written
written : (bytes : List ℕ) (o : Option Message) → IsWritten true bytes o →
    (m : Message) × (o ≡ Some m) × (bytes ≡ spelling m)
written bytes (Some m) w = (m, refl, w)
written bytes None w = absurd w

pub returns-in-Some-clause-replied : goal.returns-in-Some-clause-replied
returns-in-Some-clause-replied c =
    λ s h yes.
    let due = c.in-Some.due in
    let said = written _ _ (c.in-Some.ensures.owed s.translation h.kept.layer_kept) in
    record {
      reply = said.0;
      shown = said.2;
      answered =
          replies_right c.args.self.now c.move_on.new.self s due.index due.task said.0 h c.in-Some.ensures.there
          said.1 (c.move_on.ensures.left s.translation h.kept.layer_kept)
          (c.move_on.ensures.moved s.translation _ (h.kept.layer_kept, h.kept.claims));
    }

pub returns-clause-replied : goal.returns-clause-replied
returns-clause-replied c =
    λ s h yes. shorts_right c.args.self.now c.reply_short.new.self s _ h (c.reply_short.ensures.replied yes)

pub returns-clause-silent : goal.returns-clause-silent
returns-clause-silent c =
    λ s h no.
    subst (λ (x : DeviceCore). IsAnswered s Reply (OfReply None) x) (sym (c.reply_short.ensures.nothing no).0)
    (silence_right c.args.self.now s h (λ k task. c.in_default.ensures.none s.translation k task h.kept.layer_kept)
    (c.reply_short.ensures.none no s.translation h.kept.layer_kept))
